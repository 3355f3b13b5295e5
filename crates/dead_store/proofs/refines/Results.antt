-- Where the result of a call goes: to a lent place or behind a reference, or to a local of the frame's own.
use Rattle.std.proofs.Common.{◌≡◌, ◌⊎◌, inl, inr, refl, sym, ap, ◌∙◌, subst, ℕ, Bool, true, false, nat_eq, List, [], Some, slice_get, arith}
use Rattle.std.specs.List.{Contains}
use Rattle.mir_syntax.specs.declared.body.Place.{Place}
use Rattle.mir_syntax.specs.Tree.{Tree}
use Rattle.mir_syntax.specs.Shapes.{Shape, place_ty, path_ty}
use Rattle.mir_semantics.specs.Values.{Addr, Value}
use Rattle.mir_semantics.specs.Memory.{Memory, local_at, value_at, write}
use Rattle.mir_semantics.specs.Step.{Dest, State, local_addr, type_of, resolve, dest_of, store, to_block}
use Rattle.mir_syntax.specs.Parts.{has_deref}
use Rattle.mir_renaming.specs.Places.{solid, is_nil}
use Rattle.mir_syntax.proofs.Binds.{bind_some, some_bind}
use Rattle.mir_renaming.proofs.Memory.{same_or_not, value_at_rel}
use Rattle.mir_renaming.proofs.Statements.{DestRel}
use Rattle.mir_renaming.proofs.Types.{AddrTy, HasTy, dest_ty}
use Rattle.mir_renaming.proofs.Stores.{store_split}
use Rattle.mir_renaming.proofs.Walks.{walk_root, walk_solid, at_path_solid, solid_plain}
use Rattle.mir_relate.specs.Alike.{Same}
use Rattle.mir_relate.specs.Frames.{Change, Pass}
use Rattle.mir_relate.specs.Pass.{Valids}
use Rattle.mir_relate.proofs.Leaves.{some_val, leaves_then}
use Rattle.mir_relate.proofs.Living.{Holds, living_at, living_none, lent_holds}
use Rattle.mir_relate.proofs.Near as near
use Rattle.mir_relate.proofs.Own as own
use Rattle.mir_relate.proofs.Running as running
use Rattle.mir_relate.proofs.Single.{plain_at, dest_plain, dest_there, resolve_whole}
use Rattle.liveness.specs.Live.{result_reads, whole, Live}
use Rattle.dead_store.specs.Pruned.{pruned_once}
use Rattle.dead_store.proofs.refines.Reads.{whole_is, is_nil_or, reads_result}
use Rattle.dead_store.proofs.refines.Frames as frames
use Rattle.dead_store.proofs.refines.Frames.{Awaits, Standing}
use Rattle.dead_store.proofs.refines.Moment as moment
use Rattle.dead_store.proofs.refines.Moment.{Moment}

module _ {X : Change} {once : X.body2 ≡ pruned_once X.source.shapes X.body1} {V : Valids X} {Inv : State → Type 0} (now : Moment X once V Inv) where
  open now use {n, s2, s1, r, st, lives, r.{core.{lent as j}, typed1.{types as G}}, s2.{top.{frame as f2}}, s1.{top.{frame as f1}}, lives.{set as a}}
  open moment.seen now use {K, Q, S, H1, H2, lent, Alive, Left}

  abbrev D : List Shape
  D = X.source.shapes

  abbrev P : Pass
  P = frames.pass X once

  abbrev ts1 : List Tree
  ts1 = X.body1.locals

  abbrev pub GoalAt : Dest → Dest → ℕ → Type 0
  GoalAt d2 d1 u = own.Goal X P V Inv (frames.frames X once V Inv) n s2 s1 r [] s1.callers refl (omega arith) now.below S Q (moment.left now) refl (moment.first now) d2 d1 u u

  far_goal : (d2 d1 : Dest) (u : ℕ) (t : Tree) → moment.Covered now u → DestRel j d1 d2 → AddrTy D G d1.addr t → GoalAt d2 d1 u
  far_goal d2 d1 u t cov dr ty = record {
    waits = λ m2 m1 q. (let (n', (z, st', lv)) = moment.edge now m2 m1 u cov q in (z, (n', st'), inl (dr, lv)));
    gets = λ m2 m1 m1' v q hv wh k. gets m2 m1 m1' v q hv k;
  }
    where
      gets : (m2 m1 m1' : Memory) (v : Value) → Q m2 m1 → Same j v v → store D m1 d1 v ≡ Some m1' → (m2' : Memory) × (store D m2 d2 v ≡ Some m2') × Left m2' m1' × ((n' : ℕ) × P.own n' j (to_block u s2.top) (to_block u s1.top) [] m2' m1')
      gets m2 m1 m1' v q hv k =
          let (m2', g, l', lv) = near.store_leaves D G j f2 f1 s2.memory s1.memory m2 m1 m1' d1 d2 t v v (moment.left now m2 m1 q).0 q.leaves dr ty hv k in
          let (old, e1, same1) = store_split D m1 m1' d1 v k in
          let (old2, e2, same2) = store_split D m2 m2' d2 v g in
          let h' : Holds j f2 f1 a m2' m1' = subst (λ m. Holds j f2 f1 a m2' m) same1 (subst (λ m. Holds j f2 f1 a m (write m1 d1.addr v)) same2 (lent_holds j f2 f1 (moment.pl now) a m2 m1 d1.addr d2.addr v v dr.addr (moment.holds now m2 m1 q))) in
          let (n', h) = frames.begins_at X once (to_block u s2.top) (to_block u s1.top) refl refl in
          (m2', g, (l', lv), (n', (refl, moment.moved now n' (to_block u s2.top) (to_block u s1.top) refl refl refl refl refl refl h, record { set = a; covers = cov; holds = h' })))

  -- a result to a place that isn't lent: it is there in the target wherever it is there in the source
  own_goal : (p : Place) (u : ℕ) → lent p.local ≡ false → ((x : ℕ) → Live D X.body1 u 0 x → Alive x ⊎ ((x ≡ p.local) × (p.proj ≡ []))) → ((m2 m1 : Memory) (o : Value) → Q m2 m1 → value_at m1 (record { frame = f1; local = p.local; path = p.proj }) ≡ Some o → (w : Value) × (value_at m2 (record { frame = f2; local = p.local; path = p.proj }) ≡ Some w)) → GoalAt (plain_at H2 p) (plain_at H1 p) u
  own_goal p u nl cov is_there = record {
    waits = λ m2 m1 q. (let (n', st') = here in (refl, (n', st'), inr (awaits m2 m1 q)));
    gets = λ m2 m1 m1' v q hv wh k.
        let (n', st') = here in
        let (c, ec, (m2', g, l', lv, lives')) = frames.delivers X once G j n' (to_block u s2.top) (to_block u s1.top) (Some (plain_at H2 p)) (Some (plain_at H1 p)) m2 m1 m1' v v (plain_at H1 p) st' (awaits m2 m1 q) (moment.left now m2 m1 q).0 hv.0 refl k in
        (m2', subst (λ c. store D m2 c v ≡ Some m2') (sym (some_val ec)) g, (l', leaves_then D G j j j f2 f1 s2.memory s1.memory m2 m1 m2' m1' q.leaves lv), (n', (refl, st', lives')));
  }
    where
      here : (n' : ℕ) × Standing X once n' j (to_block u s2.top) (to_block u s1.top)
      here = (let (n', h) = frames.begins_at X once (to_block u s2.top) (to_block u s1.top) refl refl in (n', moment.moved now n' (to_block u s2.top) (to_block u s1.top) refl refl refl refl refl refl h))

      covered : (x : ℕ) → Alive x ⊎ ((x ≡ p.local) × (p.proj ≡ [])) → (lent x ≡ true) ⊎ (a x ≡ true) ⊎ ((x ≡ p.local) × (p.proj ≡ []))
      covered x (inl (inl e)) = inl e
      covered x (inl (inr e)) = inr (inl e)
      covered x (inr h) = inr (inr h)

      awaits : (m2 m1 : Memory) → Q m2 m1 → Awaits X once j (Some (plain_at H2 p)) (Some (plain_at H1 p)) (to_block u s2.top) (to_block u s1.top) m2 m1
      awaits m2 m1 q = record { set = a; local = p.local; path = p.proj; unlent = nl; to1 = refl; to2 = refl; covers = λ x lv. covered x (cov x lv); holds = moment.holds now m2 m1 q; there = λ o e. is_there m2 m1 o q e }

  -- a local that lives, or a part that is there in all values of its type
  living_there : (p : Place) → a p.local ≡ true → (m2 m1 : Memory) (o : Value) → Q m2 m1 → value_at m1 (record { frame = f1; local = p.local; path = p.proj }) ≡ Some o → (w : Value) × (value_at m2 (record { frame = f2; local = p.local; path = p.proj }) ≡ Some w)
  living_there p ax m2 m1 o q e = (let (w, g, rel) = value_at_rel j K m2 m1 q.linked.mem (record { frame = f1; local = p.local; path = p.proj }) (record { frame = f2; local = p.local; path = p.proj }) (record { root = living_at j f2 f1 (moment.pl now) a p.local ax; path = refl }) o e in (w, g))

  -- the local's value in the target, with its type
  room : (x : ℕ) (t : Tree) (o : Value) → lent x ≡ false → slice_get ts1 x ≡ Some t → local_at s1.memory f1 x ≡ Some o → (w : Value) × (local_at s2.memory f2 x ≡ Some w) × HasTy D r.typed2.types t w
  room x t o nl et e = (let (w, g) = lives.holds.room x o (moment.unlent_at now x nl) e in (w, g, r.typed2.mem.at f2 x t w (r.typed2.top.locals X.body2 (running.body2_at r st.function1 st.function2) x t (sym (moment.types now x) ∙ et)) g))

  solid_there : (p : Place) (t u : Tree) → lent p.local ≡ false → a p.local ≡ false → solid D (slice_get ts1 p.local) p.proj ≡ true → slice_get ts1 p.local ≡ Some t → path_ty D t p.proj ≡ Some u → (m2 m1 : Memory) (o : Value) → Q m2 m1 → value_at m1 (record { frame = f1; local = p.local; path = p.proj }) ≡ Some o → (w : Value) × (value_at m2 (record { frame = f2; local = p.local; path = p.proj }) ≡ Some w)
  unfolding value_at
  solid_there p t u nl na so et eu m2 m1 o q e =
      let (o1, e1, k1) = bind_some e in
      let (o0, e0) = q.back f1 p.local o1 e1 in
      let (w, g, ty) = room p.local t o0 nl et e0 in
      let (z, k) = at_path_solid D r.typed2.types p.proj t u w (subst (λ o. solid D o p.proj ≡ true) et so) eu ty in
      (z, some_bind _ (q.still f2 p.local (living_none j f2 f1 (moment.pl now) a p.local (moment.unlent_at now p.local nl) na) ∙ g) k)

  -- a call whose place has a type: where the place is read it is alive, and so is what lives in the next block and isn't filled
  module _ (p : Place) (u : ℕ) (t : Tree) (pt : type_of H1 p ≡ Some t) (reads : Contains (result_reads D ts1 p) p.local → Alive p.local) (leads : (x : ℕ) → Live D X.body1 u 0 x → (Contains (whole p) x → ⊥) → Alive x) where
    filled : (x : ℕ) → Live D X.body1 u 0 x → Alive x ⊎ ((x ≡ p.local) × (p.proj ≡ []))
    filled x lv = go (same_or_not p.local x) (is_nil_or p.proj)
      where
        go : ((nat_eq p.local x ≡ true) × (p.local ≡ x)) ⊎ ((nat_eq p.local x ≡ false) × (p.local ≡ x → ⊥)) → (p.proj ≡ []) ⊎ (is_nil p.proj ≡ false) → Alive x ⊎ ((x ≡ p.local) × (p.proj ≡ []))
        go (inl e) (inl nil) = inr (sym e.1, nil)
        go (inl e) (inr nn) = inl (leads x lv (λ c. let z : true ≡ false = sym (ap is_nil (whole_is p x c).1) ∙ nn in absurd (grind arith)))
        go (inr ne) o = inl (leads x lv (λ c. ne.1 (sym (whole_is p x c).0)))

    unsolid : solid D (slice_get ts1 p.local) p.proj ≡ false → Alive p.local
    unfolding type_of
    unsolid q = reads (reads_result D ts1 p t pt q)

    covered_lent : lent p.local ≡ true → (x : ℕ) → Alive x ⊎ ((x ≡ p.local) × (p.proj ≡ [])) → Alive x
    covered_lent l x (inl h) = h
    covered_lent l x (inr (e, nil)) = inl (ap lent e ∙ l)

    covered_deref : has_deref p.proj ≡ true → (x : ℕ) → Alive x ⊎ ((x ≡ p.local) × (p.proj ≡ [])) → Alive x
    covered_deref d x (inl h) = h
    covered_deref d x (inr (e, nil)) = absurd (let z : false ≡ true = ap has_deref (sym nil) ∙ d in grind arith)

    pt2 : type_of H2 p ≡ Some t
    unfolding type_of
    pt2 = ap (λ ts. place_ty D ts p) (frames.same_locals X once) ∙ pt

    abbrev pub Found : Dest → Type 0
    Found d1 = (d2 : Dest) × (dest_of S.target s2.memory p ≡ Some d2) × GoalAt d2 d1 u

    far : (d1 : Dest) → dest_of S.source s1.memory p ≡ Some d1 → (j f1 p.local ≡ Some (f2, p.local)) ⊎ ((has_deref p.proj ≡ true) × (K f1 p.local ≡ Some (f2, p.local))) → moment.Covered now u → Found d1
    far d1 e h cov =
        let (d2, g2, dr) = moment.dest_far now p d1 h e in
        (d2, g2, far_goal d2 d1 u t cov dr (dest_ty D G (V.valid1.blank_ok G) ts1 f1 (moment.lok now) s1.memory p t d1 r.typed1.mem pt e))

    -- in a local of the frame's own
    near_found : lent p.local ≡ false → has_deref p.proj ≡ false → dest_of S.target s2.memory p ≡ Some (plain_at H2 p) → ((m2 m1 : Memory) (o : Value) → Q m2 m1 → value_at m1 (record { frame = f1; local = p.local; path = p.proj }) ≡ Some o → (w : Value) × (value_at m2 (record { frame = f2; local = p.local; path = p.proj }) ≡ Some w)) → (d1 : Dest) → dest_of S.source s1.memory p ≡ Some d1 → Found d1
    near_found nl nd g is_there d1 e = subst Found (sym (dest_plain H1 s1.memory p d1 nd e)) (plain_at H2 p, g, own_goal p u nl filled is_there)

    living_found : lent p.local ≡ false → has_deref p.proj ≡ false → a p.local ≡ true → (d1 : Dest) → dest_of S.source s1.memory p ≡ Some d1 → Found d1
    living_found nl nd ax d1 e =
        let (c, g2, dr) = moment.dest_near now p d1 (living_at j f2 f1 (moment.pl now) a p.local ax) e in
        near_found nl nd (g2 ∙ ap Some (dest_plain H2 s2.memory p c nd g2)) (living_there p ax) d1 e

    solid_found : lent p.local ≡ false → a p.local ≡ false → solid D (slice_get ts1 p.local) p.proj ≡ true → (d1 : Dest) → dest_of S.source s1.memory p ≡ Some d1 → Found d1
    unfolding type_of place_ty dest_of resolve local_addr value_at
    solid_found nl na so d1 e =
        let (t0, e1, e2) = bind_some pt in
        let nd = solid_plain D (slice_get ts1 p.local) p.proj so in
        let (a1, r1, _) = bind_some e in
        near_found nl nd (resolved t0 e1 e2 nd a1 r1 (is_nil_or p.proj)) (solid_there p t0 t nl na so e1 e2) d1 e
      where
        resolved : (t0 : Tree) → slice_get ts1 p.local ≡ Some t0 → path_ty D t0 p.proj ≡ Some t → has_deref p.proj ≡ false → (a1 : Addr) → resolve H1 s1.memory p ≡ Some a1 → (p.proj ≡ []) ⊎ (is_nil p.proj ≡ false) → dest_of H2 s2.memory p ≡ Some (plain_at H2 p)
        resolved t0 e1 e2 nd a1 r1 (inl nil) = dest_there H2 s2.memory p t _ nd pt2 (resolve_whole H2 s2.memory p nil)
        resolved t0 e1 e2 nd a1 r1 (inr nn) =
            let (o, eo) = walk_root p.proj s1.memory (record { frame = f1; local = p.local; path = [] }) a1 nn nd r1 in
            let (w, g, ty) = room p.local t0 o nl e1 eo in
            let (c, g2) = walk_solid D r.typed2.types p.proj s2.memory (record { frame = f2; local = p.local; path = [] }) t0 t w (subst (λ o. solid D o p.proj ≡ true) e1 so) e2 ty (some_bind _ g refl) in
            dest_there H2 s2.memory p t c nd pt2 g2

    covers_by : ((x : ℕ) → Alive x ⊎ ((x ≡ p.local) × (p.proj ≡ [])) → Alive x) → moment.Covered now u
    covers_by h = λ x lv. h x (filled x lv)

    pub found : (d1 : Dest) → dest_of S.source s1.memory p ≡ Some d1 → Found d1
    found d1 e = go (lent p.local) (has_deref p.proj) refl refl
      where
        by_solid : lent p.local ≡ false → a p.local ≡ false → (b : Bool) → solid D (slice_get ts1 p.local) p.proj ≡ b → Found d1
        by_solid nl na true so = solid_found nl na so d1 e
        by_solid nl na false so = (let h = unsolid so in clash h)
          where
            clash : Alive p.local → Found d1
            clash (inl l) = absurd (let z : true ≡ false = sym l ∙ nl in grind arith)
            clash (inr l) = absurd (let z : true ≡ false = sym l ∙ na in grind arith)

        not_solid : has_deref p.proj ≡ true → (b : Bool) → solid D (slice_get ts1 p.local) p.proj ≡ b → b ≡ false
        not_solid h true q = absurd (let z : true ≡ false = sym h ∙ solid_plain D (slice_get ts1 p.local) p.proj q in grind arith)
        not_solid h false q = refl

        by_life : lent p.local ≡ false → has_deref p.proj ≡ false → (b : Bool) → a p.local ≡ b → Found d1
        by_life nl nd true ax = living_found nl nd ax d1 e
        by_life nl nd false ax = by_solid nl ax (solid D (slice_get ts1 p.local) p.proj) refl

        go : (b c : Bool) → lent p.local ≡ b → has_deref p.proj ≡ c → Found d1
        go true c l d = far d1 e (inl (moment.lent_at now p.local l)) (covers_by (covered_lent l))
        go false true nl d = far d1 e (inr (d, moment.at now p.local (unsolid (not_solid d (solid D (slice_get ts1 p.local) p.proj) refl)))) (covers_by (covered_deref d))
        go false false nl nd = by_life nl nd (a p.local) refl
