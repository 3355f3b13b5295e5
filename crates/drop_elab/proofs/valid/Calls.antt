-- An elaborated body calls what the body calls, and destructors of what it drops.
use Rattle.std.proofs.Common.{◌≡◌, ◌⊎◌, inl, inr, refl, sym, ap, ap₂, ◌∙◌, subst, ℕ, zero, suc, ◌+◌, Bool, true, false, nat_eq, if◌then◌else◌, List, [], ◌∷◌, ◌++◌, length, Option, Some, None, slice_get, append_assoc, arith}
use Rattle.std.proofs.lemmas.Bool.{eqb-true}
use Rattle.mir_syntax.specs.declared.body.Place.{Place}
use Rattle.mir_syntax.specs.declared.body.Proj.{Proj}
use Rattle.mir_syntax.specs.declared.body.Proj.TheVariants.{Field, Downcast, Deref}
use Rattle.mir_syntax.specs.declared.body.Operand.{Operand}
use Rattle.mir_syntax.specs.declared.body.Callee.{Callee}
use Rattle.mir_syntax.specs.declared.body.Callee.TheVariants as callee
use Rattle.mir_syntax.specs.declared.body.Term.{Term}
use Rattle.mir_syntax.specs.declared.body.Term.TheVariants.{Goto, Switch, Return, Unreachable, Drop, Call, Assert}
use Rattle.mir_syntax.specs.Tree.{Tree, scalar, empty, more, named}
use Rattle.mir_syntax.specs.Tree as tree
use Rattle.mir_syntax.specs.Parts.{has_deref}
use Rattle.mir_syntax.specs.Crate.{TypedStmt, TypedBlock, TypedBody}
use Rattle.mir_syntax.specs.Shapes.{Shape, struct_fields, fields_of, field_ty, proj_ty, path_ty, place_ty, needs_drop}
use Rattle.mir_syntax.proofs.Binds.{bind_some, some_bind}
use Rattle.mir_rules.specs.Calls.{Calls}
use Rattle.mir_rules.specs.DefinitionRules.{holds}
use Rattle.move_paths.specs.Effects.{units_of_body, goes_on, is_under, moved, begun}
use Rattle.drop_elab.specs.Plan.{Plan, done, destroy, choose, arm, guarded, clear, part, glue_from, arms_of, chosen, glue_inside, glue_shape, glue_of, glue_def, glue, Laid, code, arms_from, lay}
use Rattle.drop_elab.specs.Elab.{Inits, IsElab, Status, dead, static, conditional, Flagged, want_flags, statuses_at, settings, only_if, cleared, typed_glue, guarded_by, plan_unit, plan_drop, call_end, lay_end, LaidBlocks, lay_blocks, elab_by}
use Rattle.drop_elab.specs.Destructors.{Holds, Destroys, AddsDestructors}
use Rattle.mir_relate.proofs.Leaves.{some_val}
use Rattle.drop_elab.proofs.refines.Items.{IsTuple, Proper, ProperShapes, first_proper}
use Rattle.drop_elab.proofs.refines.Propers.{direct_proper}
use Rattle.drop_elab.proofs.refines.Sound.{Has}
use Rattle.drop_elab.proofs.refines.Puts.{Fields}
use Rattle.drop_elab.proofs.refines.Kept.{units_fields}
use Rattle.drop_elab.proofs.refines.Solid.{unit_of_local}
use Rattle.drop_elab.proofs.refines.Ended.{goes_parts, and_both}
use Rattle.drop_elab.proofs.refines.Bodies.{flags_of, first_new}
use Rattle.drop_elab.proofs.valid.Fine.{Each, each_append, each_at, each_from}
use Rattle.drop_elab.proofs.valid.GlueFine.{path_end}
use Rattle.drop_elab.proofs.valid.EndsFine.{fields_formed}
use Rattle.drop_elab.proofs.valid.Stays.{unit_at}

-- ---- plans whose destructors are good

abbrev PlanGood : (ℕ → Type 0) → Plan → Type 0
PlanGood Good done = Unit {0}
PlanGood Good (destroy q t g p) = Good g × PlanGood Good p
PlanGood Good (choose q arms p) = PlanGood Good arms × PlanGood Good p
PlanGood Good (arm k q rest) = PlanGood Good q × PlanGood Good rest
PlanGood Good (guarded x q p) = PlanGood Good q × PlanGood Good p
PlanGood Good (clear x p) = PlanGood Good p

-- parts of a place that is dropped
module _ (D : List Shape) (proper : ProperShapes D) (b : TypedBody) (p : Place) where
  abbrev Good : ℕ → Type 0
  Good = Holds D b p

  record Part (q : Place) (t : Tree) : Type 0 where
    pub path : List Proj
    pub inside : has_deref path ≡ false
    pub is : q ≡ record p { proj = p.proj ++ path }
    pub ty : place_ty D b.locals q ≡ Some t

  plain_end : (ps : List Proj) (q : Proj) → has_deref ps ≡ false → has_deref (q ∷ []) ≡ false → has_deref (ps ++ q ∷ []) ≡ false
  plain_end [] q h k = k
  plain_end (Field i ∷ ps) q h k = plain_end ps q h k
  plain_end (Downcast i ∷ ps) q h k = plain_end ps q h k
  plain_end (Deref ∷ ps) q h k = absurd (grind arith)

  further : (q : Place) (r : Proj) (t u : Tree) → Part q t → has_deref (r ∷ []) ≡ false → proj_ty D t r ≡ Some u → Part (part q r) u
  unfolding place_ty
  further q r t u h k f = record {
    path = h.path ++ r ∷ [];
    inside = plain_end h.path r h.inside k;
    is = ap (λ (q : Place). part q r) h.is ∙ ap (λ ps. record p { proj = ps }) (append_assoc p.proj h.path (r ∷ []));
    ty = (let (lt, e1, e2) = bind_some h.ty in some_bind _ e1 (path_end D q.proj r lt t u e2 f));
  }

  abbrev Row : Place → ℕ → Tree → Type 0
  Row q i us = (j : ℕ) (u : Tree) → field_ty us j ≡ Some u → Part (part q (Field (i + j))) u

  row : (q : Place) (t us : Tree) → Part q t → fields_of D t ≡ Some us → Row q 0 us
  row q t us h f j u k = (let z : 0 + j ≡ j = omega arith in subst (λ n. Part (part q (Field n)) u) (sym z) (further q (Field j) t u h refl (some_bind _ f k)))

  abbrev OfDef : (ℕ → Place → Plan → Plan) → Type 0
  OfDef of_def = (d : ℕ) (q : Place) (rest : Plan) → Part q (named d) → PlanGood Good rest → PlanGood Good (of_def d q rest)

  abbrev Stands : Place → ℕ → Tree → Type 0
  Stands q i t = (Part q t × (i ≡ 0)) ⊎ (IsTuple t × Row q i t)

  module _ (of_def : ℕ → Place → Plan → Plan) (ok : OfDef of_def) where
    row_of : (q : Place) (i : ℕ) (t ts : Tree) → Stands q i (more t ts) → Row q i (more t ts)
    row_of q i t ts (inl (h, z)) j u k = subst (λ i. Part (part q (Field (i + j))) u) (sym z) (row q (more t ts) (more t ts) h refl j u k)
    row_of q i t ts (inr h) j u k = h.1 j u k

    from_good : (t : Tree) (q : Place) (i : ℕ) (rest : Plan) → Proper t → Stands q i t → PlanGood Good rest → PlanGood Good (glue_from of_def q i t rest)
    from_good (more t ts) q i rest pr st h =
        let r = row_of q i t ts st in
        let z : i + 0 ≡ i = omega arith in
        from_good t (part q (Field i)) 0 (glue_from of_def q (suc i) ts rest) pr.0 (inl (subst (λ n. Part (part q (Field n)) t) z (r 0 t refl), refl))
        (from_good ts q (suc i) rest pr.2 (inr (pr.1, λ j u k. (let y : i + suc j ≡ suc i + j = omega arith in subst (λ n. Part (part q (Field n)) u) y (r (suc j) u k)))) h)
    from_good (named d) q i rest pr (inl (k, z)) h = ok d q rest k h
    from_good (named d) q i rest pr (inr (k, z)) h = absurd k
    from_good (scalar s) q i rest pr st h = h
    from_good empty q i rest pr st h = h
    from_good (tree.ref t) q i rest pr st h = h
    from_good (tree.ref_mut t) q i rest pr st h = h

    arms_good : (q : Place) (k : ℕ) (ts : List Tree) → ((j : ℕ) (us : Tree) → slice_get ts j ≡ Some us → IsTuple us × Proper us × Part (part q (Downcast (k + j))) us) → PlanGood Good (arms_of D of_def q k ts)
    arms_good q k [] vs = tt
    arms_good q k (t ∷ ts) vs = go (needs_drop D t) (arms_good q (suc k) ts (λ j us e. (let y : k + suc j ≡ suc k + j = omega arith in subst (λ n. IsTuple us × Proper us × Part (part q (Downcast n)) us) y (vs (suc j) us e))))
      where
        first : PlanGood Good (glue_from of_def (part q (Downcast k)) 0 t done)
        first =
            let z : k + 0 ≡ k = omega arith in
            let (tu, pr, h) = subst (λ n. IsTuple t × Proper t × Part (part q (Downcast n)) t) z (vs 0 t refl) in
            from_good t (part q (Downcast k)) 0 done pr (inl (h, refl)) tt

        go : (c : Bool) → PlanGood Good (arms_of D of_def q (suc k) ts) → PlanGood Good (if c then arm k (glue_from of_def (part q (Downcast k)) 0 t done) (arms_of D of_def q (suc k) ts) else arms_of D of_def q (suc k) ts)
        go true h = (first, h)
        go false h = h

  chosen_good : (q : Place) (arms rest : Plan) → PlanGood Good arms → PlanGood Good rest → PlanGood Good (chosen q arms rest)
  chosen_good q done rest h r = r
  chosen_good q (arm k p as') rest h r = (h, r)
  chosen_good q (destroy p u g as') rest h r = (h, r)
  chosen_good q (choose p as' qs) rest h r = (h, r)
  chosen_good q (guarded x p as') rest h r = (h, r)
  chosen_good q (clear x as') rest h r = (h, r)

  inside_good : (of_def : ℕ → Place → Plan → Plan) → OfDef of_def → (d : ℕ) (s : Shape) (q : Place) (rest : Plan) → slice_get D d ≡ Some s → Part q (named d) → PlanGood Good rest → PlanGood Good (glue_inside D of_def s q rest)
  inside_good of_def ok d s q rest es h r = go s.is_enum refl
    where
      go : (c : Bool) → s.is_enum ≡ c → PlanGood Good (if c then chosen q (arms_of D of_def q 0 s.variants) rest else glue_from of_def q 0 (struct_fields s) rest)
      go true e = chosen_good q (arms_of D of_def q 0 s.variants) rest (arms_good of_def ok q 0 s.variants (λ j us k. (let (tu, pr) = proper d s es j us k in let z : 0 + j ≡ j = omega arith in (tu, pr, subst (λ n. Part (part q (Downcast n)) us) (sym z) (further q (Downcast j) (named d) us h refl (some_bind _ es (ap (λ c. if c then slice_get s.variants j else None) e ∙ k))))))) r
      go false e = (let (tu, pr) = first_proper s.variants (proper d s es) in from_good of_def ok (struct_fields s) q 0 rest pr (inr (tu, row q (named d) (struct_fields s) h (some_bind _ es (ap (λ c. if c then None else Some (struct_fields s)) e)))) r)

  def_good : (n : ℕ) → OfDef (glue_def D n)
  def_good zero d q rest h r = r
  def_good (suc n) d q rest h r = go (needs_drop D (named d)) (slice_get D d) refl (def_good n)
    where
      shape : (s : Shape) (o : Option ℕ) → slice_get D d ≡ Some s → s.destructor ≡ o → OfDef (glue_def D n) → PlanGood Good (glue_shape D (glue_def D n) d s o q rest)
      shape s None es k ih = inside_good (glue_def D n) ih d s q rest es h r
      shape s (Some g) es k ih = (record { path = h.path; inside = h.inside; def = d; ty = ap (place_ty D b.locals) (sym h.is) ∙ h.ty; shape = s; is = es; destructor = k }, inside_good (glue_def D n) ih d s q rest es h r)

      go : (c : Bool) (o : Option Shape) → slice_get D d ≡ o → OfDef (glue_def D n) → PlanGood Good (glue_of D (glue_def D n) d c o q rest)
      go true (Some s) es ih = shape s s.destructor es refl ih
      go true None es ih = r
      go false o es ih = r

  glue_good : (q : Place) (t : Tree) (rest : Plan) → Proper t → Part q t → PlanGood Good rest → PlanGood Good (glue D q t rest)
  unfolding glue
  glue_good q t rest pr h r = from_good (glue_def D (length D)) (def_good (length D)) t q 0 rest pr (inl (h, refl)) r

  -- ---- a drop

  module _ (apart : (d : ℕ) → holds D (length D) d d ≡ false) (proper_locals : (x : ℕ) (t : Tree) → slice_get b.locals x ≡ Some t → Proper t) where
    fields_plain : (ps : List Proj) → Fields ps → has_deref ps ≡ false
    fields_plain [] h = refl
    fields_plain (Field i ∷ ps) h = fields_plain ps h
    fields_plain (Downcast k ∷ ps) h = absurd h
    fields_plain (Deref ∷ ps) h = absurd h

    behind : (xs ys : List Proj) → Fields (xs ++ ys) → Fields ys
    behind [] ys h = h
    behind (Field i ∷ xs) ys h = behind xs ys h
    behind (Downcast k ∷ xs) ys h = absurd h
    behind (Deref ∷ xs) ys h = absurd h

    unit_part : (u : Place) (t : Tree) → Has (units_of_body D b) u → is_under p u ≡ true → place_ty D b.locals u ≡ Some t → Part u t × Proper t
    unfolding place_ty
    unit_part u t hu un q =
        let (y, lt, ul, el, hp) = unit_of_local D 0 b.locals u hu in
        let z : y ≡ u.local = sym (ul ∙ (let z : 0 + y ≡ y = omega arith in z)) in
        let el' : slice_get b.locals u.local ≡ Some lt = subst (λ y. slice_get b.locals y ≡ Some lt) z el in
        let (l, e1, e2) = bind_some q in
        let same : l ≡ lt = some_val (sym e1 ∙ el') in
        let pr = proper_locals u.local lt el' in
        let fs = units_fields D apart proper u.proj lt pr hp in
        let (a, c) = and_both (nat_eq p.local u.local) (goes_on p.proj u.proj) un in
        let (rest, eu) = goes_parts p.proj u.proj c in (
          record { path = rest; inside = fields_plain rest (behind p.proj rest (subst Fields eu fs)); is = ap₂ (λ x ps. let v : Place = record { local = x; proj = ps } in v) (sym (eqb-true p.local u.local a)) eu; ty = q },
          direct_proper D proper u.proj lt t pr (fields_formed u.proj fs).1 (subst (λ l. path_ty D l u.proj ≡ Some t) same e2),
        )

    typed_good : (u : Place) (o : Option Tree) (rest : Plan) → Has (units_of_body D b) u → is_under p u ≡ true → place_ty D b.locals u ≡ o → PlanGood Good rest → PlanGood Good (typed_glue D u o rest)
    typed_good u None rest hu un q h = h
    typed_good u (Some t) rest hu un q h = (let (k, pr) = unit_part u t hu un q in glue_good u t rest pr k h)

    unit_good : (k : Flagged) (s : Status) (rest : Plan) → Has (units_of_body D b) k.unit → is_under p k.unit ≡ true → PlanGood Good rest → PlanGood Good (plan_unit D b.locals k s rest)
    unit_good k dead rest hu un r = r
    unit_good k static rest hu un r = typed_good k.unit (place_ty D b.locals k.unit) (cleared k.flag rest) hu un refl (clear_good k.flag)
      where
        clear_good : (o : Option ℕ) → PlanGood Good (cleared o rest)
        clear_good None = r
        clear_good (Some x) = r
    unit_good k conditional rest hu un r = guard k.flag
      where
        guard : (o : Option ℕ) → PlanGood Good (guarded_by o (λ x. typed_glue D k.unit (place_ty D b.locals k.unit) (clear x done)) rest)
        guard None = r
        guard (Some x) = (typed_good k.unit (place_ty D b.locals k.unit) (clear x done) hu un refl tt, r)

    plan_good : (ks : List Flagged) (ss : List Status) → Each (λ (k : Flagged). Has (units_of_body D b) k.unit) ks → PlanGood Good (plan_drop D b.locals p ks ss)
    plan_good [] ss h = tt
    plan_good (k ∷ ks) [] h = tt
    plan_good (k ∷ ks) (s ∷ ss) h = go (is_under p k.unit) refl (plan_good ks ss h.1)
      where
        go : (c : Bool) → is_under p k.unit ≡ c → PlanGood Good (plan_drop D b.locals p ks ss) → PlanGood Good (if c then plan_unit D b.locals k s (plan_drop D b.locals p ks ss) else plan_drop D b.locals p ks ss)
        go true e r = unit_good k s (plan_drop D b.locals p ks ss) h.0 e r
        go false e r = r

-- ---- their code

module _ (Ok : Callee → Type 0) where
  abbrev TermGood : Term → Type 0
  TermGood t = (p : Place) (c : Callee) (os : List Operand) (n : ℕ) → t ≡ Call p c os n → Ok c

  abbrev BlockGood : TypedBlock → Type 0
  BlockGood k = TermGood k.term

  record LaidGood (r : Laid) : Type 0 where
    pub term : TermGood r.term
    pub blocks : Each BlockGood r.blocks
    pub heads : Each BlockGood r.heads

  goto_good : (s : ℕ) → TermGood (Goto s)
  goto_good s p c os n e = absurd (grind arith)

  lay_good : (p : Plan) (l b s : ℕ) → PlanGood (λ g. Ok (callee.Local (record { 0 = g }))) p → LaidGood (lay p l b s)
  lay_good done l b s h = record { term = goto_good s; blocks = tt; heads = tt }
  lay_good (clear x p) l b s h = (let r = lay_good p l b s h in record { term = r.term; blocks = r.blocks; heads = tt })
  lay_good (destroy q t g p) l b s h = (let r = lay_good p (suc (suc l)) (suc b) s h.1 in record { term = λ p c os n e. subst Ok (let z : callee.Local (record { 0 = g }) ≡ c = grind arith in z) h.0; blocks = (r.term, r.blocks); heads = tt })
  lay_good (guarded x q p) l b s h =
      let g : Laid = lay q l (suc (suc b)) (suc b) in
      let gg = lay_good q l (suc (suc b)) (suc b) h.0 in
      let r = lay_good p (l + length g.locals) (suc (suc b) + length g.blocks) s h.1 in
      record { term = λ p c os n e. absurd (grind arith); blocks = (gg.term, (r.term, each_append BlockGood g.blocks (lay p (l + length g.locals) (suc (suc b) + length g.blocks) s).blocks gg.blocks r.blocks)); heads = tt }
  lay_good (choose q arms p) l b s h =
      let join = b + length (arms_from b arms) in
      let a : Laid = lay arms (suc l) (suc join) join in
      let r : Laid = lay p (suc l + length a.locals) (suc join + length a.blocks) s in
      let ag = lay_good arms (suc l) (suc join) join h.0 in
      let rg = lay_good p (suc l + length a.locals) (suc join + length a.blocks) s h.1 in
      record { term = λ p c os n e. absurd (grind arith); blocks = each_append BlockGood a.heads (code r ∷ (a.blocks ++ r.blocks)) ag.heads (rg.term, each_append BlockGood a.blocks r.blocks ag.blocks rg.blocks); heads = tt }
  lay_good (arm k q rest) l b s h =
      let g : Laid = lay q l b s in
      let r : Laid = lay rest (l + length g.locals) (b + length g.blocks) s in
      let gg = lay_good q l b s h.0 in
      let rg = lay_good rest (l + length g.locals) (b + length g.blocks) s h.1 in
      record { term = goto_good s; blocks = each_append BlockGood g.blocks r.blocks gg.blocks rg.blocks; heads = (gg.term, rg.heads) }

  call_good : (clears sets : List TypedStmt) (p : Place) (g : Callee) (os : List Operand) (next b : ℕ) → Ok g → LaidGood (call_end clears (Call p g os next) (Call p g os b) next sets)
  call_good clears [] p g os next b h = record { term = λ q c ps n e. subst Ok (let z : g ≡ c = grind arith in z) h; blocks = tt; heads = tt }
  call_good clears (x ∷ xs) p g os next b h = record { term = λ q c ps n e. subst Ok (let z : g ≡ c = grind arith in z) h; blocks = (goto_good next, tt); heads = tt }

module _ (D : List Shape) (proper : ProperShapes D) (apart : (d : ℕ) → holds D (length D) d d ≡ false) (b : TypedBody) (proper_locals : (x : ℕ) (t : Tree) → slice_get b.locals x ≡ Some t → Proper t) (us : List Place) (inits : Inits) (ks : List Flagged) (known : Each (λ (k : Flagged). Has (units_of_body D b) k.unit) ks) where
  abbrev Ok : Callee → Type 0
  Ok c = Calls b c ⊎ Destroys D b c

  plan_more : (P Q : ℕ → Type 0) → ((g : ℕ) → P g → Q g) → (p : Plan) → PlanGood P p → PlanGood Q p
  plan_more P Q f done h = tt
  plan_more P Q f (destroy q t g p) h = (f g h.0, plan_more P Q f p h.1)
  plan_more P Q f (choose q arms p) h = (plan_more P Q f arms h.0, plan_more P Q f p h.1)
  plan_more P Q f (arm k q rest) h = (plan_more P Q f q h.0, plan_more P Q f rest h.1)
  plan_more P Q f (guarded x q p) h = (plan_more P Q f q h.0, plan_more P Q f p h.1)
  plan_more P Q f (clear x p) h = plan_more P Q f p h

  end_good : (at : ℕ) (k : TypedBlock) (ss : List Status) (l n : ℕ) → slice_get b.blocks at ≡ Some k → (t : Term) → k.term ≡ t → LaidGood Ok (lay_end D b.locals ks ss t l n)
  end_good at k ss l n e (Drop p next) q = lay_good Ok (plan_drop D b.locals p ks ss) l n next (plan_more (Holds D b p) (λ g. Ok (callee.Local (record { 0 = g }))) (λ g h. inr (record { at = at; block = k; place = p; next = next; is = e; drops = q; g = g; callee = refl; holds = h })) (plan_drop D b.locals p ks ss) (plan_good D proper b p apart proper_locals ks ss known))
  end_good at k ss l n e (Call p g os next) q = call_good Ok (settings (λ u. only_if (moved u (Call p g os next)) false) ks) (settings (λ u. only_if (begun u (Call p g os next)) true) ks) p g os next n (inl (at, k, p, os, next, e, q))
  end_good at k ss l n e (Goto u) q = record { term = goto_good Ok u; blocks = tt; heads = tt }
  end_good at k ss l n e (Switch o arms u) q = record { term = λ p c os n e. absurd (grind arith); blocks = tt; heads = tt }
  end_good at k ss l n e Return q = record { term = λ p c os n e. absurd (grind arith); blocks = tt; heads = tt }
  end_good at k ss l n e Unreachable q = record { term = λ p c os n e. absurd (grind arith); blocks = tt; heads = tt }
  end_good at k ss l n e (Assert o c w os u) q = record { term = λ p c os n e. absurd (grind arith); blocks = tt; heads = tt }

  blocks_good : (i : ℕ) (bs : List TypedBlock) (l n : ℕ) → ((j : ℕ) (k : TypedBlock) → slice_get bs j ≡ Some k → slice_get b.blocks (i + j) ≡ Some k) → Each (BlockGood Ok) (lay_blocks D b us ks inits i bs l n).blocks × Each (BlockGood Ok) (lay_blocks D b us ks inits i bs l n).new_blocks
  blocks_good i [] l n h = (tt, tt)
  blocks_good i (k ∷ bs) l n h =
      let en : Laid = lay_end D b.locals ks (statuses_at us inits i k) k.term l n in
      let r : LaidBlocks = lay_blocks D b us ks inits (suc i) bs (l + length en.locals) (n + length en.blocks) in
      let z : i + 0 ≡ i = omega arith in
      let eg = end_good i k (statuses_at us inits i k) l n (subst (λ m. slice_get b.blocks m ≡ Some k) z (h 0 k refl)) k.term refl in
      let (p, q) = blocks_good (suc i) bs (l + length en.locals) (n + length en.blocks) (λ j k' e. (let y : i + suc j ≡ suc i + j = omega arith in subst (λ m. slice_get b.blocks m ≡ Some k') y (h (suc j) k' e))) in
      ((eg.term, p), each_append (BlockGood Ok) en.blocks r.new_blocks eg.blocks q)

pub adds_destructors : (D : List Shape) → ProperShapes D → ((d : ℕ) → holds D (length D) d d ≡ false) → (b e : TypedBody) → ((x : ℕ) (t : Tree) → slice_get b.locals x ≡ Some t → Proper t) → IsElab D b e → AddsDestructors D e b
unfolding elab_by
adds_destructors D proper apart b e proper_locals is c (i, k, p, os, n, at, q) =
    let us = units_of_body D b in
    let wanted = want_flags us is.inits 0 b.blocks in
    let ks = flags_of D b is.inits in
    let known = each_from (λ (k : Flagged). Has (units_of_body D b) k.unit) ks (λ i k q. (i, unit_at (length b.locals) us wanted i k q)) in
    let low = first_new D b is.inits in
    let w : LaidBlocks = lay_blocks D b us ks is.inits 0 b.blocks low (length b.blocks) in
    let (x, y) = blocks_good D proper apart b proper_locals us is.inits ks known 0 b.blocks low (length b.blocks) (λ j k e. (let z : 0 + j ≡ j = omega arith in subst (λ m. slice_get b.blocks m ≡ Some k) (sym z) e)) in
    each_at (BlockGood (λ c. Calls b c ⊎ Destroys D b c)) (w.blocks ++ w.new_blocks) i k (each_append (BlockGood (λ c. Calls b c ⊎ Destroys D b c)) w.blocks w.new_blocks x y) (ap (λ (x : TypedBody). slice_get x.blocks i) (sym is.is) ∙ at) p c os n q
