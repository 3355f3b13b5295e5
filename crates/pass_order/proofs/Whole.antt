-- A program whose bodies went through the passes, seen from the program as it was.
use Rattle.std.proofs.Common.{◌≡◌, refl, sym, ap, ap₂, ◌∙◌, subst, ℕ, suc, List, [], ◌∷◌, map, length, Some, slice_get, arith}
use Rattle.std.specs.List.{list_all}
use Rattle.std.proofs.lemmas.List.{length-map}
use Rattle.std.proofs.lemmas.Option.{slice_get_within}
use Rattle.mir_syntax.specs.declared.body.Function.{Function}
use Rattle.mir_syntax.specs.declared.program.Program.{Program}
use Rattle.mir_syntax.specs.Tree.{Tree, at_id, trees_of}
use Rattle.mir_syntax.specs.Crate.{TypedFunction, Crate, body_of, function_of, crate_of}
use Rattle.mir_syntax.specs.Shapes.{Shape, shapes_of, needs_drop}
use Rattle.mir_syntax.specs.Drops.{own_destructor, KnowsDrops}
use Rattle.mir_syntax.specs.Table.{IsTable}
use Rattle.mir_syntax.specs.Ids.{function_below, IdsInTable}
use Rattle.mir_syntax.proofs.Lists.{map_back}
use Rattle.mir_rules.specs.Valid.{with_body}
use Rattle.mir_rules.proofs.Lists.{list_all_true, list_all_true-at}
use Rattle.mir_rules.proofs.Bodies.{Alike, AllAlike, shapes_alike}
use Rattle.mir_rules.proofs.Terminators.{slice_get_there}
use Rattle.mir_validate.specs.Checked.{IsChecked}
use Rattle.pass_order.specs.Passes.{after_passes, optimised}
use Rattle.pass_order.specs.Fits.{FitsAt}
use Rattle.pass_order.specs.Programs.{CanPass, PassesTo, header_function}
use Rattle.pass_order.proofs.Order.{passes_keep}
use Rattle.pass_order.proofs.Fits.{fits_after}
use Rattle.pass_order.proofs.Alone.{front_of_front, headers_below, shapes_alone, body_fits}

-- lists of functions that are alike one by one
each_alike : (gs2 gs : List TypedFunction) → length gs2 ≡ length gs → ((i : ℕ) (g2 g : TypedFunction) → slice_get gs2 i ≡ Some g2 → slice_get gs i ≡ Some g → Alike g2 g) → AllAlike gs2 gs
each_alike [] [] e h = tt
each_alike (g2 ∷ gs2) (g ∷ gs) e h = (h 0 g2 g refl refl, each_alike gs2 gs (omega (arith, e)) (λ i x2 x e2 e1. h (suc i) x2 x e2 e1))
each_alike [] (g ∷ gs) e h = absurd (omega (arith, e))
each_alike (g2 ∷ gs2) [] e h = absurd (omega (arith, e))

-- a list that is made item by item
each_same : {A B : Type 0} (f : A → B) (h : B → B) (ys xs : List A) → length ys ≡ length xs → ((i : ℕ) (x y : A) → slice_get xs i ≡ Some x → slice_get ys i ≡ Some y → f y ≡ h (f x)) → map f ys ≡ map h (map f xs)
each_same f h [] [] e s = refl
each_same f h (y ∷ ys) (x ∷ xs) e s = ap₂ (λ z zs. z ∷ zs) (s 0 x y refl refl) (each_same f h ys xs (omega (arith, e)) (λ i a b e1 e2. s (suc i) a b e1 e2))
each_same f h [] (x ∷ xs) e s = absurd (omega (arith, e))
each_same f h (y ∷ ys) [] e s = absurd (omega (arith, e))

module _ (p : Program) (checked : IsChecked p) where
  abbrev trees : List Tree
  trees = trees_of p.types

  -- the program with other functions
  abbrev pub with_functions : List Function → IsTable p.types → Program
  with_functions fs t = record { defs = p.defs; outsides = p.outsides; functions = fs; types = p.types; drops = p.drops; table = t }

  abbrev D : List Shape
  D = shapes_of (crate_of p)

  knows_with : (fs : List Function) (t : IsTable p.types) → shapes_of (crate_of (with_functions fs t)) ≡ D → KnowsDrops (with_functions fs t)
  knows_with fs t e = record {
    needs = checked.drops.needs ∙ ap (λ (D : List Shape). map (needs_drop D) (trees_of p.types)) (sym e);
    destructors = checked.drops.destructors ∙ ap (λ (D : List Shape). map own_destructor D) (sym e);
  }

  -- ---- the headers alone

  module _ (headers : List Function) (are : headers ≡ map header_function p.functions) (t : IsTable p.types) where
    abbrev alone : Program
    alone = with_functions headers t

    alone_shapes : shapes_of (crate_of (with_functions headers t)) ≡ D
    alone_shapes = ap (λ (hs : List Function). shapes_of (crate_of (with_functions hs t))) are ∙ shapes_alone (crate_of p) trees p.functions refl checked.valid checked.within

    pub knows_alone : KnowsDrops (with_functions headers t)
    knows_alone = knows_with headers t alone_shapes

    pub ids_alone : IdsInTable (with_functions headers t)
    ids_alone = record { defs = checked.ids.defs; outsides = checked.ids.outsides; functions = ap (list_all (function_below (length p.types))) are ∙ headers_below (length p.types) p.functions checked.ids.functions }

    fits_alone : (i : ℕ) (g : Function) → slice_get p.functions i ≡ Some g → FitsAt (crate_of (with_functions headers t)) i (function_of trees (header_function g)) (body_of trees g.body)
    fits_alone i g e = subst (λ (hs : List Function). FitsAt (crate_of (with_functions hs t)) i (function_of trees (header_function g)) (body_of trees g.body)) (sym are) (body_fits (crate_of p) trees p.functions refl checked.valid checked.within i g e)

    pub can_pass_alone : (i : ℕ) (g : Function) → slice_get p.functions i ≡ Some g → CanPass (with_functions headers t) g.body
    can_pass_alone i g e = record {
      ids = list_all_true-at (function_below (length p.types)) p.functions i g checked.ids.functions e;
      at = i;
      there = function_of trees (header_function g);
      fits = fits_alone i g e;
    }

    -- ---- after the passes

    module _ (fs : List Function) (count : length fs ≡ length p.functions) (each : (i : ℕ) (g g2 : Function) → slice_get p.functions i ≡ Some g → slice_get fs i ≡ Some g2 → PassesTo (with_functions headers t) g g2) (t2 : IsTable p.types) where
      alike_at : (i : ℕ) (g g2 : Function) → slice_get p.functions i ≡ Some g → slice_get fs i ≡ Some g2 → Alike (function_of trees g2) (function_of trees g)
      alike_at i g g2 e e2 =
          let s = each i g g2 e e2 in
          let K = crate_of (with_functions headers t) in
          let there = function_of trees (header_function g) in
          let fits : FitsAt K i there (body_of trees g2.body) = subst (FitsAt K i there) (sym s.passed) (fits_after K i there after_passes passes_keep (body_of trees g.body) (fits_alone i g e)) in
          record {
            is_drop = ap (λ (h : Function). h.is_drop) s.head;
            args = fits.args;
            start = fits.start ∙ front_of_front (at_id trees) (suc g.body.args) g.body.locals;
          }

      all_alike : AllAlike (map (function_of trees) fs) (map (function_of trees) p.functions)
      all_alike = each_alike (map (function_of trees) fs) (map (function_of trees) p.functions) (length-map fs (function_of trees) ∙ count ∙ sym (length-map p.functions (function_of trees)))
          (λ i g2 g e2 e.
          (let (b, at2, is2) = map_back (function_of trees) fs i g2 e2 in
          let (a, at, is) = map_back (function_of trees) p.functions i g e in
          subst (λ (g2 : TypedFunction). Alike g2 g) is2 (subst (Alike (function_of trees b)) is (alike_at i a b at at2))))

      shapes_after : shapes_of (crate_of (with_functions fs t2)) ≡ D
      shapes_after = shapes_alike (crate_of p) (map (function_of trees) fs) all_alike

      pub knows_after : KnowsDrops (with_functions fs t2)
      knows_after = knows_with fs t2 shapes_after

      pub ids_after : IdsInTable (with_functions fs t2)
      ids_after = record {
        defs = checked.ids.defs;
        outsides = checked.ids.outsides;
        functions = list_all_true (function_below (length p.types)) fs (λ i g2 e2.
            (let below = slice_get_within fs i g2 e2 in
            let long = count in
            let (g, e) = slice_get_there p.functions i (omega (arith, below, long)) in
            (each i g g2 e e2).ids));
      }

      same_at : (i : ℕ) (g g2 : Function) → slice_get p.functions i ≡ Some g → slice_get fs i ≡ Some g2 → function_of trees g2 ≡ with_body (function_of trees g) (after_passes D (body_of trees g.body))
      same_at i g g2 e e2 =
          let s = each i g g2 e e2 in
          ap (function_of trees) s.head ∙ ap (with_body (function_of trees g)) (s.passed ∙ ap (λ (D : List Shape). after_passes D (body_of trees g.body)) alone_shapes)

      pub passed_after : crate_of (with_functions fs t2) ≡ optimised (crate_of p)
      unfolding optimised
      passed_after =
          ap (λ (gs : List TypedFunction). let c : Crate = record (crate_of p) { functions = gs } in c)
          (each_same (function_of trees) (λ g. with_body g (after_passes D g.body)) fs p.functions count same_at)
