-- The first function with the header of a destructor, definition by definition.
use Rattle.std.proofs.Common.{◌≡◌, ℕ, zero, suc, ◌+◌, ◌<◌, ◌≤◌, Bool, true, false, cond, ◌&&◌, nat_eq, List, [], ◌∷◌, map, length, drop, set, get_or, slice_get, Option, Some, None, is_some, refl, sym, ap, ap₂, ◌∙◌, arith, eqb-true}
use Rattle.std.specs.Option.{option_map}
use Rattle.std.proofs.Math.Seq.{drop-cons}
use Rattle.std.proofs.lemmas.Bool.{eqb-false, false_from_ne_true}
use Rattle.std.proofs.lemmas.List.{get_or-set_same, get_or-set_other, length-map, length-set}
use Rattle.mir_syntax.specs.declared.types.FnId.{FnId}
use Rattle.mir_syntax.specs.declared.program.Program.{Program}
use Rattle.mir_syntax.specs.Tree.{Tree, scalar, empty, more, ref, ref_mut, named, trees_of}
use Rattle.mir_syntax.specs.Crate.{TypedDef, TypedFunction, Crate, crate_of, def_of}
use Rattle.mir_syntax.specs.Shapes.{Shape, drops_locals, is_destructor_of, destructor_from, shapes_from, shapes_of}
use Rattle.mir_syntax.specs.Drops.{fn_number, own_destructor}
use Rattle.mir_syntax.proofs.Places.{shapes_from-length}
use Rattle.mir_rules.specs.DefinitionRules.{dropped_by_locals, dropped_by_args, dropped_by}
use Rattle.drop_tables.specs.Marks.{own_of, is_marked, noted, has_one, drop_of}

abbrev is_of : Option ℕ → ℕ → Bool
is_of None d = false
is_of (Some k) d = nat_eq k d

of_locals : (d : ℕ) (locals : List Tree) → drops_locals d locals ≡ is_of (dropped_by_locals locals) d
of_locals d [] = refl
of_locals d (scalar s ∷ others) = refl
of_locals d (more t ts ∷ others) = refl
of_locals d (ref t ∷ others) = refl
of_locals d (ref_mut t ∷ others) = refl
of_locals d (named k ∷ others) = refl
of_locals d (empty ∷ []) = refl
of_locals d (empty ∷ (scalar s ∷ others)) = refl
of_locals d (empty ∷ (empty ∷ others)) = refl
of_locals d (empty ∷ (more t ts ∷ others)) = refl
of_locals d (empty ∷ (ref t ∷ others)) = refl
of_locals d (empty ∷ (named k ∷ others)) = refl
of_locals d (empty ∷ (ref_mut (scalar s) ∷ others)) = refl
of_locals d (empty ∷ (ref_mut empty ∷ others)) = refl
of_locals d (empty ∷ (ref_mut (more t ts) ∷ others)) = refl
of_locals d (empty ∷ (ref_mut (ref t) ∷ others)) = refl
of_locals d (empty ∷ (ref_mut (ref_mut t) ∷ others)) = refl
of_locals d (empty ∷ (ref_mut (named k) ∷ others)) = refl

of_args : (d n : ℕ) (locals : List Tree) → (nat_eq n 1 && drops_locals d locals) ≡ is_of (dropped_by_args n locals) d
of_args d zero locals = refl
of_args d (suc zero) locals = of_locals d locals
of_args d (suc (suc n)) locals = ap (λ b. b && drops_locals d locals) (false_from_ne_true (nat_eq (suc (suc n)) 1) (λ e. let one = eqb-true (suc (suc n)) 1 e in absurd (omega (arith, one))))

-- a function is a destructor of a definition where its header names it
pub destructor_of_is : (d : ℕ) (f : TypedFunction) → is_destructor_of d f ≡ is_of (drop_of f) d
destructor_of_is d f = go f.is_drop
  where
    go : (b : Bool) → (b && (nat_eq f.body.args 1 && drops_locals d f.body.locals)) ≡ is_of (cond b (dropped_by f) None) d
    go true = of_args d f.body.args f.body.locals
    go false = refl

noted_read : (found : List (Option FnId)) (o : Option ℕ) (f : FnId) (d : ℕ) → d < length found → option_map fn_number (get_or (noted found o f) d None) ≡ cond (is_of o d) (Some f.0) (option_map fn_number (get_or found d None))
noted_read found None f d below = refl
noted_read found (Some k) f d below = go (nat_eq k d) refl
  where
    go : (b : Bool) → nat_eq k d ≡ b → option_map fn_number (get_or (set found k (Some f)) d None) ≡ cond b (Some f.0) (option_map fn_number (get_or found d None))
    go true e =
        let same : k ≡ d = eqb-true k d e in
        ap (option_map fn_number) (ap (λ i. get_or (set found i (Some f)) d None) same ∙ get_or-set_same found d (Some f) None below)
    go false e = ap (option_map fn_number) (get_or-set_other found k d (Some f) None (λ same. eqb-false k d e (sym same)))

noted_long : (found : List (Option FnId)) (o : Option ℕ) (f : FnId) → length (noted found o f) ≡ length found
noted_long found None f = refl
noted_long found (Some k) f = simp length-set

abbrev Noted : List TypedFunction → List (Option FnId) → ℕ → ℕ → Type 0
Noted functions found count left = (length found ≡ count) × (left ≤ length functions) × ((d : ℕ) → d < count → option_map fn_number (get_or found d None) ≡ destructor_from d left (drop left functions))

-- one function before those that were looked at
pub one_before : (functions : List TypedFunction) (found new : List (Option FnId)) (count left before : ℕ) (f : FnId) (g : TypedFunction) (o : Option ℕ) → Noted functions found count left → suc before ≡ left
    → f.0 ≡ before → get_or functions before g ≡ g → o ≡ drop_of g → new ≡ noted found o f → Noted functions new count before
one_before functions found new count left before f g o (long, within, all) next number at of is = (
  ap length is ∙ (noted_long found o f ∙ long),
  omega (arith, next, within),
  λ d below.
      let rest : destructor_from d before (drop before functions) ≡ destructor_from d before (g ∷ drop left functions) =
      ap (destructor_from d before) (drop-cons functions before g (omega (arith, next, within)) ∙ ap₂ (λ x n. x ∷ drop n functions) at next) in
      let step : destructor_from d before (g ∷ drop left functions) ≡ cond (is_of o d) (Some before) (destructor_from d left (drop left functions)) =
      ap₂ (λ b n. cond b (Some before) (destructor_from d n (drop left functions))) (destructor_of_is d g ∙ ap (λ x. is_of x d) (sym of)) next in
      ap (λ l. option_map fn_number (get_or l d None)) is ∙ (noted_read found o f d (omega (arith, long, below)) ∙ (ap₂ (λ n x. cond (is_of o d) (Some n) x) number (all d below) ∙ sym (rest ∙ step))),
)

-- ---- all functions were looked at

all_from : (functions : List TypedFunction) (n : ℕ) (defs : List TypedDef) (found : List (Option FnId)) → length found ≡ length defs
    → ((d : ℕ) → d < length defs → option_map fn_number (get_or found d None) ≡ destructor_from (d + n) 0 functions) → map (option_map fn_number) found ≡ map own_destructor (shapes_from functions n defs)
all_from functions n [] [] long all = refl
all_from functions n [] (o ∷ found) long all = absurd (omega arith)
all_from functions n (def ∷ defs) [] long all = absurd (omega arith)
all_from functions n (def ∷ defs) (o ∷ found) long all =
    let zeroth : 0 + n ≡ n = omega arith in
    ap₂ (λ x l. x ∷ l) (all 0 (omega arith) ∙ ap (λ i. destructor_from i 0 functions) zeroth)
    (all_from functions (suc n) defs found (omega (arith, long)) (λ d below. all (suc d) (omega (arith, below)) ∙ ap (λ i. destructor_from i 0 functions) (let k : suc d + n ≡ d + suc n = omega arith in k)))

pub all_found : (C : Crate) (found : List (Option FnId)) (count left : ℕ) → Noted C.functions found count left → count ≡ length C.defs → left ≡ 0 → map (option_map fn_number) found ≡ map own_destructor (shapes_of C)
unfolding shapes_of
all_found C found count left (long, within, all) many none =
    all_from C.functions 0 C.defs found (long ∙ many)
    (λ d below. all d (omega (arith, many, below)) ∙ (ap (λ n. destructor_from d n (drop n C.functions)) none ∙ ap (λ i. destructor_from i 0 C.functions) (let k : d ≡ d + 0 = omega arith in k)))

-- ---- marks of definitions with a destructor

pub own_marks : (D : List Shape) (found : List (Option FnId)) → map (option_map fn_number) found ≡ map own_destructor D → (d : ℕ) → is_marked (map has_one found) d ≡ own_of (slice_get D d)
own_marks [] [] same d = refl
own_marks [] (o ∷ found) same d = absurd cc
own_marks (s ∷ D) [] same d = absurd cc
own_marks (s ∷ D) (o ∷ found) same zero = first o (let e : option_map fn_number o ≡ s.destructor = cc in e)
  where
    first : (o : Option FnId) → option_map fn_number o ≡ s.destructor → is_some o ≡ is_some s.destructor
    first None e = ap is_some e
    first (Some f) e = ap is_some e
own_marks (s ∷ D) (o ∷ found) same (suc d) = own_marks D found (let e : map (option_map fn_number) found ≡ map own_destructor D = cc in e) d

pub shapes_count : (p : Program) → length (shapes_of (crate_of p)) ≡ length p.defs
unfolding shapes_of
shapes_count p = shapes_from-length (crate_of p).functions 0 (crate_of p).defs ∙ length-map p.defs (def_of (trees_of p.types))

pub found_long : (p : Program) (found : List (Option FnId)) → map (option_map fn_number) found ≡ map own_destructor (shapes_of (crate_of p)) → length found ≡ length p.defs
found_long p found same = sym (length-map found (option_map fn_number)) ∙ (ap length same ∙ (length-map (shapes_of (crate_of p)) own_destructor ∙ shapes_count p))
