-- The places of a split body have the types, and the text the form, that those of the body have.
use Rattle.std.proofs.Common.{◌≡◌, inl, inr, refl, sym, ap, ap₂, ◌∙◌, subst, ℕ, zero, suc, ◌<◌, true, not, nat_lt, ◌&&◌, ◌||◌, ◌==◌, List, [], ◌∷◌, map, length, Option, Some, None, is_some, slice_get, arith, lt-ltb}
use Rattle.std.proofs.lemmas.Bool.{and_from}
use Rattle.std.specs.List.{list_all, list_any, flat_map}
use Rattle.std.proofs.lemmas.Option.{slice_get_within}
use Rattle.mir_syntax.specs.declared.body.Proj.TheVariants.{Field}
use Rattle.mir_syntax.specs.declared.body.Place.{Place}
use Rattle.mir_syntax.specs.declared.body.Operand.{Operand}
use Rattle.mir_syntax.specs.declared.body.Operand.TheVariants as operand
use Rattle.mir_syntax.specs.declared.body.Term.{Term}
use Rattle.mir_syntax.specs.declared.body.Term.TheVariants.{Goto, Switch, Return, Unreachable, Drop, Call, Assert}
use Rattle.mir_syntax.specs.Tree.{Tree, more}
use Rattle.mir_syntax.specs.Tree as tree
use Rattle.mir_syntax.specs.Crate.{TypedRvalue, «use», binary, overflow, unary, cast, discriminant, tuple, build, TypedBody, Crate}
use Rattle.mir_syntax.specs.Crate as rvalue
use Rattle.mir_syntax.specs.Shapes.{◌>>=◌, Shape, place_ty, proj_ty, destructor_of, path_through, goes_through_destructor}
use Rattle.mir_syntax.specs.Parts.{is_direct, path_formed, operand_places, rvalue_operands, rvalue_places, term_operands, term_places, targets}
use Rattle.mir_syntax.proofs.Binds.{bind_some, some_bind}
use Rattle.mir_rules.specs.Typing.{binary_ty, overflow_ty, unary_ty, cast_ty, discriminant_ty, build_ty, operand_ty, operands_ty, rvalue_ty}
use Rattle.mir_rules.specs.BodyRules.{breaks_v21, breaks_v22, moves_through_destructor, some_needs_drop, moves_needing_indirectly}
use Rattle.mir_rules.specs.Formed.{place_formed, operand_formed, shape_formed, call_formed, block_there, term_formed}
use Rattle.mir_rules.proofs.Lists.{and_true-left, and_true-right}
use Rattle.mir_rules.proofs.Statements.{MovesKept}
use Rattle.mir_rules.proofs.Terminators.{OwnTyped, TermTyped}
use Rattle.sroa_pass.specs.Split.{First, split_place, split_operand, split_rvalue, split_term}
use Rattle.sroa_pass.proofs.Plans.{PartAs, PlaceTo, place_types}
use Rattle.sroa_pass.proofs.Planned.{val, s, ts2, plan, chosen, split_back, Fits, place_to, AllFit}

local_within : (D : List Shape) (ts : List Tree) (p : Place) (t : Tree) → place_ty D ts p ≡ Some t → p.local < length ts
unfolding place_ty
local_within D ts p t e = let (u, e1, k) = bind_some e in slice_get_within ts p.local u e1

module _ (D : List Shape) (b : TypedBody) where
  abbrev S : First
  S = s D b

  -- ---- places

  pub place_same : (p : Place) → Fits D b p → place_ty D (ts2 D b) (split_place (s D b) p) ≡ place_ty D b.locals p
  place_same p h = sym (place_types D b.locals (ts2 D b) (plan D b) p (split_place (s D b) p) (place_to D b p h))

  through_part : (p q : Place) → PartAs D b.locals (ts2 D b) (plan D b) p q → goes_through_destructor D (ts2 D b) q ≡ goes_through_destructor D b.locals p
  through_part p q h =
      let c = chosen D b p.local h.first (split_back D b p.local h.first h.split) in
      let t : h.has.ty ≡ c.ty = val (sym h.has.is ∙ c.there) in
      let plain : destructor_of D h.has.ty ≡ None = ap (destructor_of D) t ∙ c.splits.plain in
      let there : slice_get (ts2 D b) q.local ≡ Some h.has.field = ap (slice_get (ts2 D b)) h.local ∙ (plan D b).types p.local h.first h.field h.split h.has in
      let field : proj_ty D h.has.ty (Field h.field) ≡ Some h.has.field = some_bind _ h.has.tuple h.has.at in
      ap (λ o. path_through D o q.proj) (there ∙ sym field)
      ∙ ap (λ o. is_some o || path_through D (proj_ty D h.has.ty (Field h.field)) q.proj) (sym plain)
      ∙ ap₂ (λ o ps. path_through D o ps) (sym h.has.is) (sym h.proj)

  through_same : (p : Place) → Fits D b p → goes_through_destructor D (ts2 D b) (split_place (s D b) p) ≡ goes_through_destructor D b.locals p
  through_same p h = go (place_to D b p h)
    where
      go : PlaceTo D b.locals (ts2 D b) (plan D b) p (split_place (s D b) p) → goes_through_destructor D (ts2 D b) (split_place (s D b) p) ≡ goes_through_destructor D b.locals p
      go (inl (k, e)) = ap₂ (λ o ps. path_through D o ps) (sym ((plan D b).kept p.local (split_place (s D b) p).local k)) (sym e)
      go (inr k) = through_part p (split_place (s D b) p) k

  direct_same : (p : Place) → Fits D b p → is_direct (split_place (s D b) p).proj ≡ is_direct p.proj
  direct_same p h = go (place_to D b p h)
    where
      go : PlaceTo D b.locals (ts2 D b) (plan D b) p (split_place (s D b) p) → is_direct (split_place (s D b) p).proj ≡ is_direct p.proj
      go (inl (k, e)) = ap is_direct (sym e)
      go (inr k) = ap is_direct (sym k.proj)

  -- ---- operands and rvalues

  pub operand_same : (o : Operand) → AllFit D b (operand_places o) → operand_ty D (ts2 D b) (split_operand (s D b) o) ≡ operand_ty D b.locals o
  unfolding operand_ty
  operand_same (operand.Copy p) h = place_same p h.0
  operand_same (operand.Move p) h = place_same p h.0
  operand_same (operand.Const c) h = refl

  -- the first operand's places and the others'
  pub parted : (o : Operand) (os : List Operand) → AllFit D b (flat_map operand_places (o ∷ os)) → AllFit D b (operand_places o) × AllFit D b (flat_map operand_places os)
  parted (operand.Copy p) os h = ((h.0, tt), h.1)
  parted (operand.Move p) os h = ((h.0, tt), h.1)
  parted (operand.Const c) os h = (tt, h)

  first_same : (o : Operand) (os : List Operand) → AllFit D b (flat_map operand_places (o ∷ os)) → operand_ty D (ts2 D b) (split_operand (s D b) o) ≡ operand_ty D b.locals o
  first_same o os h = operand_same o (parted o os h).0

  operands_same : (os : List Operand) → AllFit D b (flat_map operand_places os) → operands_ty D (ts2 D b) (map (split_operand (s D b)) os) ≡ operands_ty D b.locals os
  unfolding operands_ty
  operands_same [] h = refl
  operands_same (o ∷ os) h = let (a, r) = parted o os h in ap₂ (λ x y. x >>= λ t. y >>= λ ts. Some (more t ts)) (operand_same o a) (operands_same os r)

  two_same : (a c : Operand) → AllFit D b (flat_map operand_places (a ∷ c ∷ [])) → (make : Tree → Tree → Option Tree) → (operand_ty D (ts2 D b) (split_operand (s D b) a) >>= λ t. operand_ty D (ts2 D b) (split_operand (s D b) c) >>= make t) ≡ (operand_ty D b.locals a >>= λ t. operand_ty D b.locals c >>= make t)
  two_same a c h make = ap₂ (λ x y. x >>= λ t. y >>= make t) (first_same a (c ∷ []) h) (first_same c [] (parted a (c ∷ []) h).1)

  pub rvalue_same : (r : TypedRvalue) → AllFit D b (rvalue_places r) → rvalue_ty D (ts2 D b) (split_rvalue (s D b) r) ≡ rvalue_ty D b.locals r
  unfolding rvalue_ty
  rvalue_same («use» o) h = first_same o [] h
  rvalue_same (binary op a c) h = two_same a c h (binary_ty op)
  rvalue_same (overflow op a c) h = two_same a c h overflow_ty
  rvalue_same (unary op a) h = ap (λ x. x >>= unary_ty op) (first_same a [] h)
  rvalue_same (cast a t) h = ap (λ x. x >>= cast_ty t) (first_same a [] h)
  rvalue_same (rvalue.ref p) h = ap (λ x. x >>= λ t. Some (tree.ref t)) (place_same p h.0)
  rvalue_same (rvalue.ref_mut p) h = ap (λ x. x >>= λ t. Some (tree.ref_mut t)) (place_same p h.0)
  rvalue_same (discriminant p) h = ap (λ x. x >>= discriminant_ty D) (place_same p h.0)
  rvalue_same (tuple os) h = operands_same os h
  rvalue_same (build d k os) h = ap (λ x. x >>= build_ty D d k) (operands_same os h)

  -- ---- moves

  through_operand : (o : Operand) → AllFit D b (operand_places o) → moves_through_destructor D (ts2 D b) (split_operand (s D b) o) ≡ moves_through_destructor D b.locals o
  through_operand (operand.Copy p) h = refl
  through_operand (operand.Move p) h = through_same p h.0
  through_operand (operand.Const c) h = refl

  needing_operand : (o : Operand) → AllFit D b (operand_places o) → moves_needing_indirectly D (ts2 D b) (split_operand (s D b) o) ≡ moves_needing_indirectly D b.locals o
  needing_operand (operand.Copy p) h = refl
  needing_operand (operand.Move p) h = ap₂ (λ c o. not c && some_needs_drop D o) (direct_same p h.0) (place_same p h.0)
  needing_operand (operand.Const c) h = refl

  through_operands : (os : List Operand) → AllFit D b (flat_map operand_places os) → breaks_v21 D (ts2 D b) (map (split_operand (s D b)) os) ≡ breaks_v21 D b.locals os
  through_operands [] h = refl
  through_operands (o ∷ os) h = let (a, r) = parted o os h in ap₂ (λ x y. x || y) (through_operand o a) (through_operands os r)

  needing_operands : (os : List Operand) → AllFit D b (flat_map operand_places os) → breaks_v22 D (ts2 D b) (map (split_operand (s D b)) os) ≡ breaks_v22 D b.locals os
  needing_operands [] h = refl
  needing_operands (o ∷ os) h = let (a, r) = parted o os h in ap₂ (λ x y. x || y) (needing_operand o a) (needing_operands os r)

  pub moves_same : (os : List Operand) → AllFit D b (flat_map operand_places os) → MovesKept D b.locals os → MovesKept D (ts2 D b) (map (split_operand (s D b)) os)
  moves_same os h m = record { through = through_operands os h ∙ m.through; indirect = needing_operands os h ∙ m.indirect }

  pub split_operands : (r : TypedRvalue) → rvalue_operands (split_rvalue (s D b) r) ≡ map (split_operand (s D b)) (rvalue_operands r)
  split_operands («use» o) = refl
  split_operands (binary op a c) = refl
  split_operands (overflow op a c) = refl
  split_operands (unary op a) = refl
  split_operands (cast a t) = refl
  split_operands (rvalue.ref p) = refl
  split_operands (rvalue.ref_mut p) = refl
  split_operands (discriminant p) = refl
  split_operands (tuple os) = refl
  split_operands (build d k os) = refl

  pub operands_fit : (r : TypedRvalue) → AllFit D b (rvalue_places r) → AllFit D b (flat_map operand_places (rvalue_operands r))
  operands_fit («use» o) h = h
  operands_fit (binary op a c) h = h
  operands_fit (overflow op a c) h = h
  operands_fit (unary op a) h = h
  operands_fit (cast a t) h = h
  operands_fit (rvalue.ref p) h = tt
  operands_fit (rvalue.ref_mut p) h = tt
  operands_fit (discriminant p) h = tt
  operands_fit (tuple os) h = h
  operands_fit (build d k os) h = h

  -- ---- terminators

  message : (os : List Operand) → AllFit D b (flat_map operand_places os) → (i : ℕ) (q : Operand) → slice_get (map (split_operand (s D b)) os) i ≡ Some q → (o : Operand) × (slice_get os i ≡ Some o) × (operand_ty D (ts2 D b) q ≡ operand_ty D b.locals o)
  message [] h i q e = absurd (grind arith)
  message (o ∷ os) h zero q e = (o, refl, ap (operand_ty D (ts2 D b)) (sym (val e)) ∙ first_same o os h)
  message (o ∷ os) h (suc i) q e = message os (parted o os h).1 i q e

  own_keeps : (C : Crate) (t : Term) → AllFit D b (term_places t) → OwnTyped C D b.locals t → OwnTyped C D (ts2 D b) (split_term (s D b) t)
  own_keeps C (Goto u) h k = tt
  own_keeps C (Switch o arms u) h k = record { ty = k.ty; operand = first_same o [] h ∙ k.operand; once = k.once; fits = k.fits }
  own_keeps C Return h k = tt
  own_keeps C Unreachable h k = tt
  own_keeps C (Drop p u) h k = record { ty = k.ty; place = place_same p h.0 ∙ k.place; direct = direct_same p h.0 ∙ k.direct; outside = through_same p h.0 ∙ k.outside }
  own_keeps C (Call p g os u) h k = record { ty = k.ty; place = place_same p h.0 ∙ k.place; result = k.result; types = k.types; operands = operands_same os h.1 ∙ k.operands; wanted = k.wanted }
  own_keeps C (Assert o e words os u) h k = record {
    condition = first_same o os h ∙ k.condition;
    message = λ i q at. let (a, there, same) = message os (parted o os h).1 i q at in let (z, is) = k.message i a there in (z, same ∙ is);
  }

  split_targets : (t : Term) → targets (split_term (s D b) t) ≡ targets t
  split_targets (Goto u) = refl
  split_targets (Switch o arms u) = refl
  split_targets Return = refl
  split_targets Unreachable = refl
  split_targets (Drop p u) = refl
  split_targets (Call p g os u) = refl
  split_targets (Assert o e words os u) = refl

  term_moves : (t : Term) → AllFit D b (term_places t) → MovesKept D b.locals (term_operands t) → MovesKept D (ts2 D b) (term_operands (split_term (s D b) t))
  term_moves (Goto u) h m = record { through = refl; indirect = refl }
  term_moves (Switch o arms u) h m = moves_same (o ∷ []) h m
  term_moves Return h m = record { through = refl; indirect = refl }
  term_moves Unreachable h m = record { through = refl; indirect = refl }
  term_moves (Drop p u) h m = record { through = refl; indirect = refl }
  term_moves (Call p g os u) h m = moves_same os h.1 m
  term_moves (Assert o e words os u) h m = moves_same (o ∷ os) h m

  pub term_keeps : (C : Crate) (t : Term) → AllFit D b (term_places t) → TermTyped C D b.locals t → TermTyped C D (ts2 D b) (split_term (s D b) t)
  term_keeps C t h k = record { targets = ap (λ bs. list_any (λ i. i == 0) bs) (split_targets t) ∙ k.targets; own = own_keeps C t h k.own; moves = term_moves t h k.moves }

  -- ---- formed text

  module _ (C : Crate) (b2 : TypedBody) (same : b2.locals ≡ ts2 D b) (many : length b2.blocks ≡ length b.blocks) where
    pub place_there : (p : Place) → Fits D b p → place_formed b p ≡ true → place_formed b2 (split_place (s D b) p) ≡ true
    place_there p h f = go (place_to D b p h)
      where
        formed : path_formed p.proj ≡ true
        formed = and_true-right (nat_lt p.local (length b.locals)) (path_formed p.proj) f

        below : (t : Tree) → place_ty D (ts2 D b) (split_place (s D b) p) ≡ Some t → nat_lt (split_place (s D b) p).local (length b2.locals) ≡ true
        below t e = lt-ltb (split_place (s D b) p).local (length b2.locals) (subst (λ (ts : List Tree). (split_place (s D b) p).local < length ts) (sym same) (local_within D (ts2 D b) (split_place (s D b) p) t e))

        go : PlaceTo D b.locals (ts2 D b) (plan D b) p (split_place (s D b) p) → place_formed b2 (split_place (s D b) p) ≡ true
        go (inl (k, e)) = and_from _ _ (below h.ty (place_same p h ∙ h.is)) (ap path_formed (sym e) ∙ formed)
        go (inr k) = and_from _ _ (below h.ty (place_same p h ∙ h.is)) (ap path_formed (sym k.proj) ∙ formed)

    places_there : (os : List Operand) → AllFit D b (flat_map operand_places os) → list_all (place_formed b) (flat_map operand_places os) ≡ true → list_all (place_formed b2) (flat_map operand_places (map (split_operand (s D b)) os)) ≡ true
    places_there [] h f = refl
    places_there (operand.Copy p ∷ os) h f = and_from _ _ (place_there p h.0 (and_true-left (place_formed b p) _ f)) (places_there os h.1 (and_true-right (place_formed b p) _ f))
    places_there (operand.Move p ∷ os) h f = and_from _ _ (place_there p h.0 (and_true-left (place_formed b p) _ f)) (places_there os h.1 (and_true-right (place_formed b p) _ f))
    places_there (operand.Const c ∷ os) h f = places_there os h f

    one_there : (p : Place) → Fits D b p → list_all (place_formed b) (p ∷ []) ≡ true → list_all (place_formed b2) (split_place (s D b) p ∷ []) ≡ true
    one_there p h f = and_from _ _ (place_there p h (and_true-left (place_formed b p) _ f)) refl

    pub rvalue_there : (r : TypedRvalue) → AllFit D b (rvalue_places r) → list_all (place_formed b) (rvalue_places r) ≡ true → list_all (place_formed b2) (rvalue_places (split_rvalue (s D b) r)) ≡ true
    rvalue_there («use» o) h f = places_there (o ∷ []) h f
    rvalue_there (binary op a c) h f = places_there (a ∷ c ∷ []) h f
    rvalue_there (overflow op a c) h f = places_there (a ∷ c ∷ []) h f
    rvalue_there (unary op a) h f = places_there (a ∷ []) h f
    rvalue_there (cast a t) h f = places_there (a ∷ []) h f
    rvalue_there (rvalue.ref p) h f = one_there p h.0 f
    rvalue_there (rvalue.ref_mut p) h f = one_there p h.0 f
    rvalue_there (discriminant p) h f = one_there p h.0 f
    rvalue_there (tuple os) h f = places_there os h f
    rvalue_there (build d k os) h f = places_there os h f

    term_there : (t : Term) → AllFit D b (term_places t) → list_all (place_formed b) (term_places t) ≡ true → list_all (place_formed b2) (term_places (split_term (s D b) t)) ≡ true
    term_there (Goto u) h f = refl
    term_there (Switch o arms u) h f = places_there (o ∷ []) h f
    term_there Return h f = refl
    term_there Unreachable h f = refl
    term_there (Drop p u) h f = one_there p h.0 f
    term_there (Call p g os u) h f = and_from _ _ (place_there p h.0 (and_true-left (place_formed b p) _ f)) (places_there os h.1 (and_true-right (place_formed b p) _ f))
    term_there (Assert o e words os u) h f = places_there (o ∷ os) h f

    operand_kept : (o : Operand) → operand_formed (split_operand (s D b) o) ≡ operand_formed o
    operand_kept (operand.Copy p) = refl
    operand_kept (operand.Move p) = refl
    operand_kept (operand.Const c) = refl

    pub operands_kept : (os : List Operand) → list_all operand_formed (map (split_operand (s D b)) os) ≡ list_all operand_formed os
    operands_kept [] = refl
    operands_kept (o ∷ os) = ap₂ (λ x y. x && y) (operand_kept o) (operands_kept os)

    pub shape_kept : (r : TypedRvalue) → shape_formed C (split_rvalue (s D b) r) ≡ shape_formed C r
    shape_kept («use» o) = refl
    shape_kept (binary op a c) = refl
    shape_kept (overflow op a c) = refl
    shape_kept (unary op a) = refl
    shape_kept (cast a t) = refl
    shape_kept (rvalue.ref p) = refl
    shape_kept (rvalue.ref_mut p) = refl
    shape_kept (discriminant p) = refl
    shape_kept (tuple []) = refl
    shape_kept (tuple (o ∷ os)) = refl
    shape_kept (build d k os) = refl

    call_kept : (t : Term) → call_formed C (split_term (s D b) t) ≡ call_formed C t
    call_kept (Goto u) = refl
    call_kept (Switch o arms u) = refl
    call_kept Return = refl
    call_kept Unreachable = refl
    call_kept (Drop p u) = refl
    call_kept (Call p g os u) = refl
    call_kept (Assert o e words os u) = refl

    term_ops : (t : Term) → list_all operand_formed (term_operands (split_term (s D b) t)) ≡ list_all operand_formed (term_operands t)
    term_ops (Goto u) = refl
    term_ops (Switch o arms u) = operands_kept (o ∷ [])
    term_ops Return = refl
    term_ops Unreachable = refl
    term_ops (Drop p u) = refl
    term_ops (Call p g os u) = operands_kept os
    term_ops (Assert o e words os u) = operands_kept (o ∷ os)

    pub term_kept : (t : Term) → AllFit D b (term_places t) → term_formed C b t ≡ true → term_formed C b2 (split_term (s D b) t) ≡ true
    unfolding term_formed
    term_kept t h f =
        let ops = list_all operand_formed (term_operands t) in
        let places = list_all (place_formed b) (term_places t) in
        let there = list_all (block_there b) (targets t) in
        let f1 = and_true-right (call_formed C t) (ops && (places && there)) f in
        let f2 = and_true-right ops (places && there) f1 in
        and_from _ _ (call_kept t ∙ and_true-left (call_formed C t) (ops && (places && there)) f)
        (and_from _ _ (term_ops t ∙ and_true-left ops (places && there) f1)
        (and_from _ _ (term_there t h (and_true-left places there f2)) (ap₂ (λ n is. list_all (λ i. nat_lt i n) is) many (split_targets t) ∙ and_true-right places there f2)))
