-- Destructors of types that have an earlier one.
use Rattle.std.proofs.Common.{◌≡◌, ℕ, zero, suc, Bool, true, false, cond, ◌&&◌, List, [], ◌∷◌, map, Option, Some, None, slice_get, refl, sym, ap, ◌∙◌, arith}
use Rattle.std.specs.Option.{option_map}
use Rattle.mir_syntax.specs.declared.types.FnId.{FnId}
use Rattle.mir_syntax.specs.declared.types.TyId.{TyId}
use Rattle.mir_syntax.specs.declared.body.Function.{Function}
use Rattle.mir_syntax.specs.Tree.{Tree, empty, ref_mut, named, at_id}
use Rattle.mir_syntax.specs.Crate.{TypedFunction, function_of}
use Rattle.mir_syntax.specs.Shapes.{Shape, pointee, destructor_of}
use Rattle.mir_syntax.specs.Drops.{fn_number}
use Rattle.mir_rules.specs.DefinitionRules.{dropped_by_locals, dropped_by_args, dropped_by, is_before, has_earlier, breaks_v04}
use Rattle.drop_tables.specs.Marks.{drop_of}

of_two : (d : ℕ) (t u : Tree) (others : List Tree) → dropped_by_locals (t ∷ u ∷ others) ≡ Some d → pointee u ≡ Some (named d)
of_two d empty (ref_mut (named k)) others h = let same : k ≡ d = cc in ap (λ n. Some (named n)) same
of_two d t u others h = absurd (grind arith)

of_locals : (d : ℕ) (trees : List Tree) (ids : List TyId) (a : TyId) → dropped_by_locals (map (at_id trees) ids) ≡ Some d → slice_get ids 1 ≡ Some a → pointee (at_id trees a) ≡ Some (named d)
of_locals d trees [] a h e = absurd cc
of_locals d trees (x ∷ []) a h e = absurd cc
of_locals d trees (x ∷ (y ∷ ids)) a h e =
    let same : y ≡ a = cc in
    rw (sym same) (of_two d (at_id trees x) (at_id trees y) (map (at_id trees) ids) h)

of_args : (d n : ℕ) (locals : List Tree) → dropped_by_args n locals ≡ Some d → dropped_by_locals locals ≡ Some d
of_args d zero locals h = absurd cc
of_args d (suc zero) locals h = h
of_args d (suc (suc n)) locals h = absurd cc

of_drop : (d : ℕ) (b : Bool) (o : Option ℕ) → cond b o None ≡ Some d → o ≡ Some d
of_drop d true o h = h
of_drop d false o h = absurd cc

-- the second local of a destructor refers to what it drops
pub dropped_is : (trees : List Tree) (f : Function) (d : ℕ) (a : TyId) → drop_of (function_of trees f) ≡ Some d → slice_get f.body.locals 1 ≡ Some a → pointee (at_id trees a) ≡ Some (named d)
dropped_is trees f d a h e =
    of_locals d trees f.body.locals a (of_args d f.body.args (map (at_id trees) f.body.locals) (of_drop d f.is_drop (dropped_by (function_of trees f)) h)) e

by_drop : (D : List Shape) (i : ℕ) (g : TypedFunction) → breaks_v04 D i g ≡ has_earlier D i (drop_of g)
by_drop D i g = go g.is_drop
  where
    go : (b : Bool) → (b && has_earlier D i (dropped_by g)) ≡ has_earlier D i (cond b (dropped_by g) None)
    go true = refl
    go false = refl

pub v04_none : (D : List Shape) (i : ℕ) (g : TypedFunction) → None ≡ option_map named (drop_of g) → breaks_v04 D i g ≡ false
v04_none D i g h = by_drop D i g ∙ go (drop_of g) h
  where
    go : (o : Option ℕ) → None ≡ option_map named o → has_earlier D i o ≡ false
    go None h = refl
    go (Some d) h = absurd cc

pub v04_some : (D : List Shape) (i : ℕ) (g : TypedFunction) (t : Tree) (first : Option FnId) → Some t ≡ option_map named (drop_of g) → option_map fn_number first ≡ destructor_of D t → breaks_v04 D i g ≡ is_before (option_map fn_number first) i
v04_some D i g t first h e = by_drop D i g ∙ go (drop_of g) h
  where
    go : (o : Option ℕ) → Some t ≡ option_map named o → has_earlier D i o ≡ is_before (option_map fn_number first) i
    go None h = absurd cc
    go (Some d) h =
        let same : t ≡ named d = cc in
        ap (λ x. is_before x i) (sym (e ∙ ap (destructor_of D) same))
