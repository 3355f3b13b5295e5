-- The assignments that are made of one, before they are put at the new locals: each keeps the rules, and so does what becomes of it.
use Rattle.std.proofs.Common.{◌≡◌, refl, sym, ap, ◌∙◌, subst, ℕ, zero, suc, ◌+◌, Bool, true, false, nat_lt, nat_eq, ◌&&◌, ◌||◌, if◌then◌else◌, List, [], ◌∷◌, ◌++◌, map, length, Option, Some, None, slice_get, arith, eqb-true}
use Rattle.std.proofs.lemmas.Bool.{and_from}
use Rattle.std.specs.List.{list_all, list_any, flat_map}
use Rattle.mir_syntax.specs.declared.body.Proj.{Proj}
use Rattle.mir_syntax.specs.declared.body.Proj.TheVariants.{Field, Downcast, Deref}
use Rattle.mir_syntax.specs.declared.body.Place.{Place}
use Rattle.mir_syntax.specs.declared.body.Operand.{Operand}
use Rattle.mir_syntax.specs.declared.body.Operand.TheVariants as operand
use Rattle.mir_syntax.specs.Tree.{Tree, more, named}
use Rattle.mir_syntax.specs.Crate.{TypedRvalue, «use», TypedStmt, assign, TypedVariant, TypedDef, TypedBody, Crate}
use Rattle.mir_syntax.specs.Shapes.{Shape, fields_tuple, shapes_of, first_variant, struct_fields, fields_of_struct, fields_of, field_ty, place_ty}
use Rattle.mir_syntax.specs.Parts.{path_formed, begins_with_field, operand_places, rvalue_operands, rvalue_places}
use Rattle.mir_syntax.proofs.Binds.{bind_some, some_bind}
use Rattle.mir_rules.specs.Same.{same_tree}
use Rattle.mir_rules.specs.Typing.{build_ty, operand_ty, operands_ty, rvalue_ty}
use Rattle.mir_rules.specs.BodyRules.{moves_through_destructor, moves_needing_indirectly}
use Rattle.mir_rules.specs.Formed.{place_formed, operand_formed, shape_formed, variant_formed, def_formed, outside_formed, function_formed, is_formed, stmt_formed, body_formed}
use Rattle.mir_rules.specs.Valid.{Valid}
use Rattle.mir_rules.proofs.Destructors.{shape_is}
use Rattle.mir_rules.proofs.Lists.{and_true-left, and_true-right, or_false-right, list_all_true-at, then_some_is}
use Rattle.mir_rules.proofs.Same.{same_tree_is}
use Rattle.mir_rules.proofs.Statements.{MovesKept, StmtTyped, Assigns}
use Rattle.sroa_pass.specs.Split.{copies, puts, renamed, field_at}
use Rattle.sroa_pass.proofs.Planned.{val, s, ts2, Fits, AllFit}
use Rattle.sroa_pass.proofs.Ways.{Whole, field_fits, field_typed}
use Rattle.sroa_pass.proofs.Uses.{parts}
use Rattle.sroa_pass.proofs.valid.Types.{place_same, rvalue_same, moves_same, split_operands, operands_fit, place_there, rvalue_there, operands_kept, shape_kept}

path_longer : (ps : List Proj) (i : ℕ) → path_formed ps ≡ true → path_formed (ps ++ Field i ∷ []) ≡ true
path_longer [] i h = refl
path_longer (Field k ∷ ps) i h = path_longer ps i h
path_longer (Deref ∷ ps) i h = path_longer ps i h
path_longer (Downcast k ∷ ps) i h = and_from _ _ (begins ps (and_true-left (begins_with_field ps) (path_formed ps) h)) (path_longer ps i (and_true-right (begins_with_field ps) (path_formed ps) h))
  where
    begins : (ps : List Proj) → begins_with_field ps ≡ true → begins_with_field (ps ++ Field i ∷ []) ≡ true
    begins (Field k ∷ ps) h = refl
    begins [] h = refl
    begins (Downcast k ∷ ps) h = absurd (grind arith)
    begins (Deref ∷ ps) h = absurd (grind arith)

-- what is built for a struct is of its fields
one_variant : (C : Crate) → Valid C → (d : ℕ) (z : Shape) → slice_get (shapes_of C) d ≡ Some z → z.is_enum ≡ false → length z.variants ≡ 1
unfolding is_formed
one_variant C valid d z e en =
    let (def, at, same) = shape_is C d z e in
    let formed = list_all_true-at (def_formed C) C.defs d def (and_true-left (list_all (def_formed C) C.defs) (list_all (outside_formed C) C.outsides && list_all (function_formed C) C.functions) valid.formed) at in
    let first = and_true-left (def.is_enum || nat_eq (length def.variants) 1) (list_all (variant_formed C) def.variants) formed in
    rw same (length_map def.variants ∙ count def (rw same at en) first)
  where
    length_map : (vs : List TypedVariant) → length (map fields_tuple vs) ≡ length vs
    length_map [] = refl
    length_map (v ∷ vs) = ap suc (length_map vs)

    count : (def : TypedDef) → def.is_enum ≡ false → (def.is_enum || nat_eq (length def.variants) 1) ≡ true → length def.variants ≡ 1
    count def en h = eqb-true (length def.variants) 1 (rw en at h)

only_variant : (ts : List Tree) (v : ℕ) (us : Tree) → length ts ≡ 1 → slice_get ts v ≡ Some us → first_variant ts ≡ us
only_variant [] v us l e = absurd (grind arith)
only_variant (t ∷ []) zero us l e = grind arith
only_variant (t ∷ []) (suc v) us l e = absurd (grind arith)
only_variant (t ∷ u ∷ ts) v us l e = absurd (omega (arith, l))

pub struct_built : (C : Crate) → Valid C → (d v : ℕ) (us t parts : Tree) → build_ty (shapes_of C) d v us ≡ Some t → fields_of (shapes_of C) t ≡ Some parts → us ≡ parts
struct_built C valid d v us t parts e f =
    let (z, e1, k1) = bind_some e in
    let (fields, e2, k2) = bind_some k1 in
    let (q, same) = then_some_is (same_tree us fields) (named d) t k2 in
    let there : slice_get z.variants v ≡ Some us = e2 ∙ ap Some (sym (same_tree_is us fields q)) in
    go z z.is_enum refl e1 there (sym (some_bind _ e1 refl) ∙ ap (fields_of (shapes_of C)) same ∙ f)
  where
    go : (z : Shape) (c : Bool) → z.is_enum ≡ c → slice_get (shapes_of C) d ≡ Some z → slice_get z.variants v ≡ Some us → fields_of_struct z ≡ Some parts → us ≡ parts
    go z true en e1 there g = absurd (let k : ◌≡◌ {A = Option Tree} None (Some parts) = sym (ap (λ c. if c then None else Some (struct_fields z)) en) ∙ g in grind arith)
    go z false en e1 there g = sym (only_variant z.variants v us (one_variant C valid d z e1 en) there) ∙ val (sym (ap (λ c. if c then None else Some (struct_fields z)) en) ∙ g)

module _ (C : Crate) (valid : Valid C) (b b2 : TypedBody) (formed : body_formed C b ≡ true) (same : b2.locals ≡ ts2 (shapes_of C) b) (many : length b2.blocks ≡ length b.blocks) where
  abbrev D : List Shape
  D = shapes_of C

  -- an assignment of the body that keeps the rules and of which each place fits
  pub record Source (p : Place) (r : TypedRvalue) : Type 0 where
    pub fits : Fits (shapes_of C) b p
    pub all : AllFit (shapes_of C) b (rvalue_places r)
    pub typed : Assigns (shapes_of C) b.args b.locals p r
    pub form : stmt_formed C b (assign p r) ≡ true

  -- a statement of the split body that keeps the rules
  abbrev pub Good : TypedStmt → Type 0
  Good t = (stmt_formed C b2 t ≡ true) × StmtTyped (shapes_of C) b.args (ts2 (shapes_of C) b) t

  abbrev pub AllGood : List TypedStmt → Type 0
  AllGood [] = Unit {0}
  AllGood (t ∷ ts) = Good t × AllGood ts

  pub good : (p : Place) (r : TypedRvalue) → Source p r → Good (renamed (s D b) (assign p r))
  unfolding stmt_formed
  good p r h =
      let place = place_formed b p in
      let shape = shape_formed C r in
      let ops = list_all operand_formed (rvalue_operands r) in
      let places = list_all (place_formed b) (rvalue_places r) in
      let f = and_true-right place (shape && (ops && places)) h.form in
      let f2 = and_true-right shape (ops && places) f in (
        and_from _ _ (place_there D b C b2 same many p h.fits (and_true-left place (shape && (ops && places)) h.form))
            (and_from _ _ (shape_kept D b C b2 same many r ∙ and_true-left shape (ops && places) f)
            (and_from _ _ (ap (list_all operand_formed) (split_operands D b r) ∙ operands_kept D b C b2 same many (rvalue_operands r) ∙ and_true-left ops places f2) (rvalue_there D b C b2 same many r h.all (and_true-right ops places f2)))),
        record {
          ty = h.typed.ty;
          place = place_same D b p h.fits ∙ h.typed.place;
          rvalue = rvalue_same D b r h.all ∙ h.typed.rvalue;
          moves = subst (λ os. MovesKept D (ts2 D b) os) (sym (split_operands D b r)) (moves_same D b (rvalue_operands r) (operands_fit D b r h.all) h.typed.moves);
        },
      )

  -- ---- fields

  longer : (p : Place) (i : ℕ) → place_formed b p ≡ true → place_formed b (field_at p i) ≡ true
  longer p i h = and_from _ _ (and_true-left (nat_lt p.local (length b.locals)) (path_formed p.proj) h) (path_longer p.proj i (and_true-right (nat_lt p.local (length b.locals)) (path_formed p.proj) h))

  copy_typed : (q : Place) (u : Tree) → place_ty D b.locals q ≡ Some u → rvalue_ty D b.locals («use» (operand.Copy q)) ≡ Some u
  unfolding rvalue_ty operand_ty
  copy_typed q u e = e

  one_copy : (p q : Place) (hp : Whole D b p) (hq : Whole D b q) (us u : Tree) (i : ℕ) → fields_of D hp.ty ≡ Some us → fields_of D hq.ty ≡ Some us → field_ty us i ≡ Some u → place_formed b p ≡ true → place_formed b q ≡ true → Source (field_at p i) («use» (operand.Copy (field_at q i)))
  unfolding stmt_formed
  one_copy p q hp hq us u i gp gq e fp fq = record {
    fits = field_fits D b p hp us u i gp e;
    all = (field_fits D b q hq us u i gq e, tt);
    typed = record { ty = u; place = field_typed D b.locals p hp.ty us u i hp.is gp e; rvalue = copy_typed (field_at q i) u (field_typed D b.locals q hq.ty us u i hq.is gq e); moves = record { through = refl; indirect = refl } };
    form = and_from _ _ (longer p i fp) (and_from _ _ (longer q i fq) refl);
  }

  pub copies_good : (p q : Place) (hp : Whole D b p) (hq : Whole D b q) (us : Tree) → fields_of D hp.ty ≡ Some us → fields_of D hq.ty ≡ Some us → place_formed b p ≡ true → place_formed b q ≡ true → (vs : List Tree) (i : ℕ) → ((k : ℕ) (u : Tree) → slice_get vs k ≡ Some u → field_ty us (i + k) ≡ Some u) → AllGood (map (renamed (s D b)) (copies p q i vs))
  copies_good p q hp hq us gp gq fp fq [] i h = tt
  copies_good p q hp hq us gp gq fp fq (v ∷ vs) i h =
      let here : field_ty us i ≡ Some v = ap (field_ty us) (let z : i ≡ i + 0 = omega arith in z) ∙ h 0 v refl in
      (good (field_at p i) («use» (operand.Copy (field_at q i))) (one_copy p q hp hq us v i gp gq here fp fq), copies_good p q hp hq us gp gq fp fq vs (suc i) (λ k u e. ap (field_ty us) (let z : suc i + k ≡ i + suc k = omega arith in z) ∙ h (suc k) u e))

  use_typed : (o : Operand) (u : Tree) → operand_ty D b.locals o ≡ Some u → rvalue_ty D b.locals («use» o) ≡ Some u
  unfolding rvalue_ty
  use_typed o u e = e

  alone_false : (x y : Bool) → (x || y) ≡ false → (x || false) ≡ false
  alone_false true y h = h
  alone_false false y h = refl

  one_moves : (o : Operand) (os : List Operand) → MovesKept D b.locals (o ∷ os) → MovesKept D b.locals (o ∷ [])
  one_moves o os m = record { through = alone_false (moves_through_destructor D b.locals o) (list_any (moves_through_destructor D b.locals) os) m.through; indirect = alone_false (moves_needing_indirectly D b.locals o) (list_any (moves_needing_indirectly D b.locals) os) m.indirect }

  later_moves : (o : Operand) (os : List Operand) → MovesKept D b.locals (o ∷ os) → MovesKept D b.locals os
  later_moves o os m = record { through = or_false-right (moves_through_destructor D b.locals o) (list_any (moves_through_destructor D b.locals) os) m.through; indirect = or_false-right (moves_needing_indirectly D b.locals o) (list_any (moves_needing_indirectly D b.locals) os) m.indirect }

  -- the places of the first operand, and of the others
  first_places : (o : Operand) (os : List Operand) → AllFit D b (flat_map operand_places (o ∷ os)) → list_all (place_formed b) (flat_map operand_places (o ∷ os)) ≡ true → AllFit D b (rvalue_places («use» o)) × (list_all (place_formed b) (rvalue_places («use» o)) ≡ true) × AllFit D b (flat_map operand_places os) × (list_all (place_formed b) (flat_map operand_places os) ≡ true)
  first_places (operand.Copy q) os h f = ((h.0, tt), and_from _ _ (and_true-left (place_formed b q) _ f) refl, h.1, and_true-right (place_formed b q) _ f)
  first_places (operand.Move q) os h f = ((h.0, tt), and_from _ _ (and_true-left (place_formed b q) _ f) refl, h.1, and_true-right (place_formed b q) _ f)
  first_places (operand.Const c) os h f = (tt, refl, h, f)

  one_put : (p : Place) (hp : Whole D b p) (us u : Tree) (i : ℕ) (o : Operand) → fields_of D hp.ty ≡ Some us → field_ty us i ≡ Some u → operand_ty D b.locals o ≡ Some u → place_formed b p ≡ true → operand_formed o ≡ true → AllFit D b (rvalue_places («use» o)) → list_all (place_formed b) (rvalue_places («use» o)) ≡ true → MovesKept D b.locals (o ∷ []) → Source (field_at p i) («use» o)
  unfolding stmt_formed
  one_put p hp us u i o gp e ot fp fo all places m = record {
    fits = field_fits D b p hp us u i gp e;
    all = all;
    typed = record { ty = u; place = field_typed D b.locals p hp.ty us u i hp.is gp e; rvalue = use_typed o u ot; moves = m };
    form = and_from _ _ (longer p i fp) (and_from _ _ (and_from _ _ fo refl) places);
  }

  pub puts_good : (p : Place) (hp : Whole D b p) (us : Tree) → fields_of D hp.ty ≡ Some us → place_formed b p ≡ true → (os : List Operand) (ts : Tree) (i : ℕ) → operands_ty D b.locals os ≡ Some ts → ((k : ℕ) (u : Tree) → field_ty ts k ≡ Some u → field_ty us (i + k) ≡ Some u) → AllFit D b (flat_map operand_places os) → list_all operand_formed os ≡ true → list_all (place_formed b) (flat_map operand_places os) ≡ true → MovesKept D b.locals os → AllGood (map (renamed (s D b)) (puts p i os))
  unfolding operands_ty
  puts_good p hp us gp fp [] ts i e h all fo fs m = tt
  puts_good p hp us gp fp (o ∷ os) ts i e h all fo fs m =
      let (u, e1, k1) = bind_some e in
      let (us', e2, k2) = bind_some k1 in
      let is : more u us' ≡ ts = val k2 in
      let (one, one_formed, rest, rest_formed) = first_places o os all fs in
      let here : field_ty us i ≡ Some u = ap (field_ty us) (let z : i ≡ i + 0 = omega arith in z) ∙ h 0 u (ap (λ t. field_ty t 0) (sym is)) in
      (good (field_at p i) («use» o) (one_put p hp us u i o gp here e1 fp (and_true-left (operand_formed o) (list_all operand_formed os) fo) one one_formed (one_moves o os m)), puts_good p hp us gp fp os us' (suc i) e2 (λ k v q. ap (field_ty us) (let z : suc i + k ≡ i + suc k = omega arith in z) ∙ h (suc k) v (ap (λ t. field_ty t (suc k)) (sym is) ∙ q)) rest (and_true-right (operand_formed o) (list_all operand_formed os) fo) rest_formed (later_moves o os m))
