-- An elaborated body has no more blocks and locals than are counted of the body.
use Rattle.std.proofs.Common.{◌≡◌, refl, sym, ap, ◌∙◌, subst, ℕ, suc, ◌+◌, ◌*◌, ◌≤◌, Bool, true, false, ◌&&◌, if◌then◌else◌, cond, List, [], ◌∷◌, ◌++◌, map, length, sum_by, Option, Some, None, slice_get, arith}
use Rattle.std.proofs.lemmas.List.{length-append, append-nil}
use Rattle.std.proofs.lemmas.List.Sums.{sum_by-cons}
use Rattle.std.proofs.lemmas.List.Recursion.{is_count_by}
use Rattle.mir_syntax.specs.declared.body.Place.{Place}
use Rattle.mir_syntax.specs.declared.body.Proj.{Proj}
use Rattle.mir_syntax.specs.declared.body.Term.{Term}
use Rattle.mir_syntax.specs.declared.body.Term.TheVariants.{Goto, Switch, Return, Unreachable, Drop, Call, Assert}
use Rattle.mir_syntax.specs.Tree.{Tree}
use Rattle.mir_syntax.specs.Parts.{is_direct}
use Rattle.mir_syntax.specs.Crate.{TypedStmt, TypedBlock, TypedBody}
use Rattle.mir_syntax.specs.Shapes.{Shape, path_ty, place_ty, path_through, needs_drop}
use Rattle.mir_syntax.proofs.Binds.{bind_some, some_bind}
use Rattle.mir_rules.specs.DefinitionRules.{holds}
use Rattle.mir_rules.specs.Limits.{weight_of, term_weight, block_weight, body_weight, is_call, ends_in_call, blocks_count, locals_count}
use Rattle.mir_rules.specs.Weights.{units, counted, inside_by, inside_def, drop_weight}
use Rattle.move_paths.specs.Effects.{in_local, units_of_body, is_under, moved, begun}
use Rattle.drop_elab.specs.Plan.{Plan, done, clear, Laid}
use Rattle.drop_elab.specs.Elab.{Inits, Status, dead, static, conditional, is_conditional, conditional_under, none_of, wants_flag, either_bit, want_flags, Flagged, with_flags, flag_locals, statuses_at, settings, only_if, cleared, typed_glue, guarded_by, plan_unit, plan_drop, call_end, lay_end, LaidBlocks, lay_blocks, elab_by}
use Rattle.drop_elab.proofs.refines.Items.{Proper, ProperShapes}
use Rattle.drop_elab.proofs.refines.Propers.{direct_proper}
use Rattle.drop_elab.proofs.refines.Sound.{Has}
use Rattle.drop_elab.proofs.refines.UnitPaths.{first_step, unit_under}
use Rattle.drop_elab.proofs.refines.Kept.{units_fields, unit_needs}
use Rattle.drop_elab.proofs.refines.Solid.{unit_of_local}
use Rattle.drop_elab.proofs.refines.Begins.{kept_units, units_in}
use Rattle.drop_elab.proofs.refines.Begins as begins
use Rattle.drop_elab.proofs.refines.Bodies.{flags_of, first_new, blocks_long}
use Rattle.drop_elab.proofs.valid.Fine.{Each, each_from}
use Rattle.drop_elab.proofs.valid.EndsFine.{fields_formed}
use Rattle.drop_elab.proofs.valid.Sizes.{Costs, cost, in_blocks, in_locals, few_blocks, few_locals, bound, glue_cost}
use Rattle.drop_elab.proofs.valid.UnitWeights.{paths_weigh, units_weigh}

-- bits that are set, each of which counts so much
abbrev marks : ℕ → List Bool → ℕ
marks x [] = 0
marks x (true ∷ bs) = x + marks x bs
marks x (false ∷ bs) = marks x bs

marks_are : (bs : List Bool) → length (flag_locals bs) ≡ marks 1 bs
marks_are [] = refl
marks_are (true ∷ bs) = (let h = marks_are bs in omega (arith, h))
marks_are (false ∷ bs) = marks_are bs

marks_none : (x : ℕ) (us : List Place) → marks x (map none_of us) ≡ 0
marks_none x [] = refl
marks_none x (u ∷ us) = marks_none x us

marks_either : (x : ℕ) (as' bs : List Bool) → marks x (either_bit as' bs) ≤ marks x as' + marks x bs
marks_either x [] bs = omega arith
marks_either x (a ∷ as') [] = omega arith
marks_either x (true ∷ as') (true ∷ bs) = (let h = marks_either x as' bs in omega (arith, h))
marks_either x (true ∷ as') (false ∷ bs) = (let h = marks_either x as' bs in omega (arith, h))
marks_either x (false ∷ as') (true ∷ bs) = (let h = marks_either x as' bs in omega (arith, h))
marks_either x (false ∷ as') (false ∷ bs) = marks_either x as' bs

module _ (D : List Shape) (apart : (d : ℕ) → holds D (length D) d d ≡ false) (proper : ProperShapes D) (b : TypedBody) (proper_locals : (x : ℕ) (t : Tree) → slice_get b.locals x ≡ Some t → Proper t) where
  -- ---- units have types that need drop

  unit_typed : (u : List Proj) (t : Tree) → Proper t → Has (units D t) u → (v : Tree) × (path_ty D t u ≡ Some v)
  unit_typed [] t pr h = (t, refl)
  unit_typed (p ∷ u) t pr h =
      let (j, us, ti, ej, fu, fj, pi, hu) = first_step D apart proper t p u pr h in
      let (v, ev) = unit_typed u ti pi hu in
      (v, subst (λ p. path_ty D t (p ∷ u) ≡ Some v) ej (some_bind _ (some_bind _ fu fj) ev))

  pub record Known (u : Place) : Type 0 where
    pub ty : Tree
    pub typed : place_ty D b.locals u ≡ Some ty
    pub needs : needs_drop D ty ≡ true
    pub tupled : Proper ty

  known : (u : Place) → Has (units_of_body D b) u → Known u
  unfolding place_ty
  known u hu =
      let (y, lt, ul, el, hp) = unit_of_local D 0 b.locals u hu in
      let z : y ≡ u.local = sym (ul ∙ (let z : 0 + y ≡ y = omega arith in z)) in
      let el' : slice_get b.locals u.local ≡ Some lt = subst (λ y. slice_get b.locals y ≡ Some lt) z el in
      let pr = proper_locals u.local lt el' in
      let (v, ev) = unit_typed u.proj lt pr hp in
      let at = unit_under D apart proper u.proj lt v [] pr (subst (λ ps. Has (units D lt) ps) (sym (append-nil u.proj)) hp) ev in
      record { ty = v; typed = some_bind _ el' ev; needs = unit_needs D apart proper v [] at; tupled = direct_proper D proper u.proj lt v pr (fields_formed u.proj (units_fields D apart proper u.proj lt pr hp)).1 ev }

  -- ---- the plan of a drop

  abbrev places_weigh : List Place → ℕ
  places_weigh [] = 0
  places_weigh (u ∷ us) = weight_of D (place_ty D b.locals u) + places_weigh us

  unit_weight : (u : Place) (h : Known u) → weight_of D (place_ty D b.locals u) ≡ suc (inside_by D (inside_def D (length D)) h.ty)
  unfolding drop_weight
  unit_weight u h = ap (weight_of D) h.typed ∙ ap (λ c. counted c (inside_by D (inside_def D (length D)) h.ty)) h.needs

  module _ (c : Costs) (m x : ℕ) (small : c.of_destroy + c.of_choose ≤ m) (few : x + c.of_guard + m ≤ 4) (low : c.of_arm ≤ 4) where
    typed_cost : (u : Place) (h : Known u) (rest : Plan) → cost c (typed_glue D u (place_ty D b.locals u) rest) ≤ m + 4 * inside_by D (inside_def D (length D)) h.ty + cost c rest
    typed_cost u h rest =
        let g = glue_cost D proper c m small (omega (arith, few)) low u h.ty rest h.tupled in
        let e = ap (λ o. cost c (typed_glue D u o rest)) h.typed in
        let n = ap (λ d. bound m d (inside_by D (inside_def D (length D)) h.ty)) h.needs in
        omega (arith, g, e, n)

    cleared_cost : (o : Option ℕ) (rest : Plan) → cost c (cleared o rest) ≡ cost c rest
    cleared_cost None rest = refl
    cleared_cost (Some y) rest = refl

    -- what a unit costs, with its flag
    unit_cost : (k : Flagged) (s : Status) (rest : Plan) (h : Known k.unit) → marks x (is_conditional s ∷ []) + cost c (plan_unit D b.locals k s rest) ≤ 4 * weight_of D (place_ty D b.locals k.unit) + cost c rest
    unit_cost k dead rest h = omega arith
    unit_cost k static rest h = (let g = typed_cost k.unit h (cleared k.flag rest) in let e = cleared_cost k.flag rest in let w = unit_weight k.unit h in omega (arith, g, e, w, few))
    unit_cost k conditional rest h = go k.flag
      where
        go : (o : Option ℕ) → x + 0 + cost c (guarded_by o (λ y. typed_glue D k.unit (place_ty D b.locals k.unit) (clear y done)) rest) ≤ 4 * weight_of D (place_ty D b.locals k.unit) + cost c rest
        go None = (let w = unit_weight k.unit h in omega (arith, w, few))
        go (Some y) = (let g = typed_cost k.unit h (clear y done) in let w = unit_weight k.unit h in omega (arith, g, w, few))

    -- the flags alone
    flags_cost : (p : Place) (us : List Place) (ss : List Status) → Each Known us → marks x (conditional_under p us ss) ≤ 4 * places_weigh (kept_units p us)
    flags_cost p [] ss h = omega arith
    flags_cost p (u ∷ us) [] h = omega arith
    flags_cost p (u ∷ us) (s ∷ ss) h = go (is_under p u) (is_conditional s) (flags_cost p us ss h.1)
      where
        go : (c d : Bool) → marks x (conditional_under p us ss) ≤ 4 * places_weigh (kept_units p us) → marks x ((c && d) ∷ conditional_under p us ss) ≤ 4 * places_weigh (if c then u ∷ kept_units p us else kept_units p us)
        go true true ih = (let w = unit_weight u h.0 in omega (arith, ih, w, few))
        go true false ih = omega (arith, ih)
        go false d ih = ih

    marks_cons : (d : Bool) (bs : List Bool) → marks x (d ∷ bs) ≡ marks x (d ∷ []) + marks x bs
    marks_cons true bs = omega arith
    marks_cons false bs = omega arith

    plan_cost : (p : Place) (us : List Place) (bs : List Bool) (ss : List Status) (y : ℕ) → Each Known us → marks x (conditional_under p us ss) + cost c (plan_drop D b.locals p (with_flags y us bs) ss) ≤ 4 * places_weigh (kept_units p us)
    plan_cost p [] bs ss y h = omega arith
    plan_cost p (u ∷ us) [] ss y h = (let f = flags_cost p (u ∷ us) ss h in omega (arith, f))
    plan_cost p (u ∷ us) (true ∷ bs) [] y h = omega arith
    plan_cost p (u ∷ us) (false ∷ bs) [] y h = omega arith
    plan_cost p (u ∷ us) (true ∷ bs) (s ∷ ss) y h = go (is_under p u) (plan_cost p us bs ss (suc y) h.1)
      where
        k : Flagged
        k = record { unit = u; flag = Some y }

        go : (d : Bool) → marks x (conditional_under p us ss) + cost c (plan_drop D b.locals p (with_flags (suc y) us bs) ss) ≤ 4 * places_weigh (kept_units p us) → marks x ((d && is_conditional s) ∷ conditional_under p us ss) + cost c (if d then plan_unit D b.locals (record { unit = u; flag = Some y }) s (plan_drop D b.locals p (with_flags (suc y) us bs) ss) else plan_drop D b.locals p (with_flags (suc y) us bs) ss) ≤ 4 * places_weigh (if d then u ∷ kept_units p us else kept_units p us)
        go true ih = (let g = unit_cost (record { unit = u; flag = Some y }) s (plan_drop D b.locals p (with_flags (suc y) us bs) ss) h.0 in let e = marks_cons (is_conditional s) (conditional_under p us ss) in omega (arith, ih, g, e))
        go false ih = ih
    plan_cost p (u ∷ us) (false ∷ bs) (s ∷ ss) y h = go (is_under p u) (plan_cost p us bs ss y h.1)
      where
        go : (d : Bool) → marks x (conditional_under p us ss) + cost c (plan_drop D b.locals p (with_flags y us bs) ss) ≤ 4 * places_weigh (kept_units p us) → marks x ((d && is_conditional s) ∷ conditional_under p us ss) + cost c (if d then plan_unit D b.locals (record { unit = u; flag = None }) s (plan_drop D b.locals p (with_flags y us bs) ss) else plan_drop D b.locals p (with_flags y us bs) ss) ≤ 4 * places_weigh (if d then u ∷ kept_units p us else kept_units p us)
        go true ih = (let g = unit_cost (record { unit = u; flag = None }) s (plan_drop D b.locals p (with_flags y us bs) ss) h.0 in let e = marks_cons (is_conditional s) (conditional_under p us ss) in omega (arith, ih, g, e))
        go false ih = ih

  -- ---- the units under what is dropped

  path_join : (ps us : List Proj) (lt ty : Tree) → path_ty D lt ps ≡ Some ty → path_ty D lt (ps ++ us) ≡ path_ty D ty us
  path_join [] us lt ty e = ap (λ t. path_ty D t us) (let z : lt ≡ ty = grind arith in z)
  path_join (p ∷ ps) us lt ty e = (let (t, e1, e2) = bind_some e in some_bind _ e1 refl ∙ path_join ps us t ty e2)

  weigh_in : (p : Place) (lt ty : Tree) → slice_get b.locals p.local ≡ Some lt → path_ty D lt p.proj ≡ Some ty → (vs : List (List Proj)) → places_weigh (map (in_local p.local) (map (λ u. p.proj ++ u) vs)) ≡ paths_weigh D ty vs
  unfolding place_ty
  weigh_in p lt ty el ep [] = refl
  weigh_in p lt ty el ep (v ∷ vs) =
      let h = weigh_in p lt ty el ep vs in
      let e : place_ty D b.locals (in_local p.local (p.proj ++ v)) ≡ path_ty D ty v = some_bind _ el refl ∙ path_join p.proj v lt ty ep in
      let w = ap (weight_of D) e in
      omega (arith, h, w)

  -- a drop keeps the rules
  pub record DropFine (p : Place) : Type 0 where
    pub local : Tree
    pub is : slice_get b.locals p.local ≡ Some local
    pub ty : Tree
    pub path : path_ty D local p.proj ≡ Some ty
    pub direct : is_direct p.proj ≡ true
    pub outside : path_through D (Some local) p.proj ≡ false

  kept_weigh : (p : Place) → DropFine p → places_weigh (kept_units p (units_of_body D b)) ≤ weight_of D (place_ty D b.locals p)
  unfolding place_ty
  kept_weigh p f =
      let pr = proper_locals p.local f.local f.is in
      let e = units_in D p p.local 0 b.locals f.local (omega arith) f.is ∙ ap (map (in_local p.local)) (begins.kept_are D apart proper p.proj f.local f.ty pr f.path f.direct f.outside) in
      let x = ap places_weigh e ∙ weigh_in p f.local f.ty f.is f.path (units D f.ty) in
      let y = units_weigh D apart proper f.ty (direct_proper D proper p.proj f.local f.ty pr f.direct f.path) in
      let t : place_ty D b.locals p ≡ Some f.ty = some_bind _ f.is f.path in
      let z = ap (weight_of D) t in
      omega (arith, x, y, z)

  -- ---- blocks

  abbrev us : List Place
  us = units_of_body D b

  all_known : Each Known us
  all_known = each_from Known us (λ i u e. known u (i, e))

  abbrev one_call : Term → ℕ
  one_call t = cond (is_call t) 1 0

  call_blocks : (clears sets : List TypedStmt) (same moved_on : Term) (next : ℕ) → length (call_end clears same moved_on next sets).blocks ≤ 1
  call_blocks clears [] same moved_on next = omega arith
  call_blocks clears (s ∷ ss) same moved_on next = omega arith

  call_locals : (clears sets : List TypedStmt) (same moved_on : Term) (next : ℕ) → length (call_end clears same moved_on next sets).locals ≡ 0
  call_locals clears [] same moved_on next = refl
  call_locals clears (s ∷ ss) same moved_on next = refl

  end_blocks : (y : ℕ) (bs : List Bool) (ss : List Status) (t : Term) (l n : ℕ) → ((p : Place) (u : ℕ) → t ≡ Drop p u → DropFine p) → length (lay_end D b.locals (with_flags y us bs) ss t l n).blocks ≤ one_call t + 4 * term_weight D b.locals t
  end_blocks y bs ss (Drop p next) l n f =
      let P = plan_drop D b.locals p (with_flags y us bs) ss in
      let x = few_blocks P l n next in
      let g = plan_cost in_blocks 2 0 (omega arith) (omega arith) (omega arith) p us bs ss y all_known in
      let w = kept_weigh p (f p next refl) in
      omega (arith, x, g, w)
  end_blocks y bs ss (Call p g os next) l n f = (let x = call_blocks (settings (λ u. only_if (moved u (Call p g os next)) false) (with_flags y us bs)) (settings (λ u. only_if (begun u (Call p g os next)) true) (with_flags y us bs)) (Call p g os next) (Call p g os n) next in omega (arith, x))
  end_blocks y bs ss (Goto u) l n f = omega arith
  end_blocks y bs ss (Switch o arms u) l n f = omega arith
  end_blocks y bs ss Return l n f = omega arith
  end_blocks y bs ss Unreachable l n f = omega arith
  end_blocks y bs ss (Assert o c w os u) l n f = omega arith

  end_locals : (y : ℕ) (bs : List Bool) (ss : List Status) (t : Term) (l n : ℕ) → ((p : Place) (u : ℕ) → t ≡ Drop p u → DropFine p) → marks 1 (wants_flag us ss t) + length (lay_end D b.locals (with_flags y us bs) ss t l n).locals ≤ 4 * term_weight D b.locals t
  end_locals y bs ss (Drop p next) l n f =
      let P = plan_drop D b.locals p (with_flags y us bs) ss in
      let x = few_locals P l n next in
      let g = plan_cost in_locals 3 1 (omega arith) (omega arith) (omega arith) p us bs ss y all_known in
      let w = kept_weigh p (f p next refl) in
      omega (arith, x, g, w)
  end_locals y bs ss (Call p g os next) l n f = (let x = call_locals (settings (λ u. only_if (moved u (Call p g os next)) false) (with_flags y us bs)) (settings (λ u. only_if (begun u (Call p g os next)) true) (with_flags y us bs)) (Call p g os next) (Call p g os n) next in let z = marks_none 1 us in omega (arith, x, z))
  end_locals y bs ss (Goto u) l n f = (let z = marks_none 1 us in omega (arith, z))
  end_locals y bs ss (Switch o arms u) l n f = (let z = marks_none 1 us in omega (arith, z))
  end_locals y bs ss Return l n f = (let z = marks_none 1 us in omega (arith, z))
  end_locals y bs ss Unreachable l n f = (let z = marks_none 1 us in omega (arith, z))
  end_locals y bs ss (Assert o c w os u) l n f = (let z = marks_none 1 us in omega (arith, z))

  abbrev Drops : TypedBlock → Type 0
  Drops k = (p : Place) (u : ℕ) → k.term ≡ Drop p u → DropFine p

  abbrev calls_in : List TypedBlock → ℕ
  calls_in [] = 0
  calls_in (k ∷ ks) = cond (ends_in_call k) (1 + calls_in ks) (calls_in ks)

  calls_more : (k : TypedBlock) (ks : List TypedBlock) → calls_in (k ∷ ks) ≡ one_call k.term + calls_in ks
  calls_more k ks = go (ends_in_call k)
    where
      go : (c : Bool) → cond c (1 + calls_in ks) (calls_in ks) ≡ cond c 1 0 + calls_in ks
      go true = refl
      go false = omega arith

  module _ (inits : Inits) (y : ℕ) (bs : List Bool) where
    blocks_few : (i : ℕ) (ks : List TypedBlock) (l n : ℕ) → Each Drops ks → length (lay_blocks D b us (with_flags y us bs) inits i ks l n).new_blocks ≤ calls_in ks + 4 * sum_by (block_weight D b.locals) ks
    blocks_few i [] l n h = omega arith
    blocks_few i (k ∷ ks) l n h =
        let en : Laid = lay_end D b.locals (with_flags y us bs) (statuses_at us inits i k) k.term l n in
        let r : LaidBlocks = lay_blocks D b us (with_flags y us bs) inits (suc i) ks (l + length en.locals) (n + length en.blocks) in
        let x = end_blocks y bs (statuses_at us inits i k) k.term l n h.0 in
        let z = blocks_few (suc i) ks (l + length en.locals) (n + length en.blocks) h.1 in
        let a = length-append en.blocks r.new_blocks in
        let c = calls_more k ks in
        let s = sum_by-cons (block_weight D b.locals) k ks in
        omega (arith, x, z, a, c, s)

    locals_few : (i : ℕ) (ks : List TypedBlock) (l n : ℕ) → Each Drops ks → marks 1 (want_flags us inits i ks) + length (lay_blocks D b us (with_flags y us bs) inits i ks l n).new_locals ≤ 4 * sum_by (block_weight D b.locals) ks
    locals_few i [] l n h = (let z = marks_none 1 us in omega (arith, z))
    locals_few i (k ∷ ks) l n h =
        let en : Laid = lay_end D b.locals (with_flags y us bs) (statuses_at us inits i k) k.term l n in
        let r : LaidBlocks = lay_blocks D b us (with_flags y us bs) inits (suc i) ks (l + length en.locals) (n + length en.blocks) in
        let x = end_locals y bs (statuses_at us inits i k) k.term l n h.0 in
        let z = locals_few (suc i) ks (l + length en.locals) (n + length en.blocks) h.1 in
        let a = length-append en.locals r.new_locals in
        let f = marks_either 1 (wants_flag us (statuses_at us inits i k) k.term) (want_flags us inits (suc i) ks) in
        let s = sum_by-cons (block_weight D b.locals) k ks in
        omega (arith, x, z, a, f, s)

  -- ---- the body

  pub few_by : (inits : Inits) → Each Drops b.blocks → (length (elab_by D b inits).blocks ≤ blocks_count D b) × (length (elab_by D b inits).locals ≤ locals_count D b)
  unfolding elab_by blocks_count locals_count body_weight
  few_by inits h =
      let wanted = want_flags us inits 0 b.blocks in
      let w : LaidBlocks = lay_blocks D b us (flags_of D b inits) inits 0 b.blocks (first_new D b inits) (length b.blocks) in
      let x = blocks_few inits (length b.locals) wanted 0 b.blocks (first_new D b inits) (length b.blocks) h in
      let c = is_count_by calls_in ends_in_call refl (λ k ks. refl) b.blocks in
      let n = blocks_long D b us (flags_of D b inits) inits 0 b.blocks (first_new D b inits) (length b.blocks) in
      let a = length-append w.blocks w.new_blocks in
      let z = locals_few inits (length b.locals) wanted 0 b.blocks (first_new D b inits) (length b.blocks) h in
      let m = marks_are wanted in
      let d = length-append b.locals (flag_locals wanted ++ w.new_locals) in
      let e = length-append (flag_locals wanted) w.new_locals in
      (omega (arith, x, c, n, a), omega (arith, z, m, d, e))
