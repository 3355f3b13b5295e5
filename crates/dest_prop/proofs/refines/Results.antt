-- Where the result of a call goes: to a lent place or behind a reference, or to the home of a local that nobody has lent.
use Rattle.std.proofs.Common.{◌≡◌, ◌⊎◌, inl, inr, refl, sym, ap, ◌∙◌, subst, ℕ, Bool, true, false, nat_eq, if◌then◌else◌, List, [], ◌∷◌, Some, arith}
use Rattle.std.specs.List.{Contains}
use Rattle.mir_syntax.specs.declared.body.Place.{Place}
use Rattle.mir_syntax.specs.Tree.{Tree}
use Rattle.mir_syntax.specs.Shapes.{Shape, goes_through_destructor}
use Rattle.mir_syntax.specs.Parts.{is_direct, has_deref}
use Rattle.mir_syntax.proofs.Binds.{bind_some}
use Rattle.mir_syntax.proofs.Members.{has_first}
use Rattle.mir_semantics.specs.Values.{Value}
use Rattle.mir_semantics.specs.Memory.{Memory, value_at, write}
use Rattle.mir_semantics.specs.Step.{Here, Dest, State, type_of, dest_of, store, to_block}
use Rattle.mir_renaming.specs.Places.{is_nil}
use Rattle.mir_renaming.proofs.Memory.{same_or_not}
use Rattle.mir_renaming.proofs.Statements.{DestRel}
use Rattle.mir_renaming.proofs.Types.{AddrTy, dest_ty}
use Rattle.mir_renaming.proofs.Stores.{store_split}
use Rattle.mir_relate.specs.Alike.{Same}
use Rattle.mir_relate.specs.Frames.{Change, Pass}
use Rattle.mir_relate.specs.Pass.{Valids}
use Rattle.mir_relate.proofs.Leaves.{leaves_then}
use Rattle.mir_relate.proofs.Near as near
use Rattle.mir_relate.proofs.Own as own
use Rattle.mir_relate.proofs.Rules.{deref_indirect}
use Rattle.mir_relate.proofs.Single.{plain_at, dest_plain}
use Rattle.liveness.specs.Live.{result_reads, written_reads, whole as filled, Live}
use Rattle.dead_store.proofs.refines.Reads.{whole_is}
use Rattle.dest_prop.specs.Merged.{home_of, is_shared, place_home, merged_by}
use Rattle.dest_prop.proofs.refines.Housed.{Housed, lent_housed}
use Rattle.dest_prop.proofs.refines.Frames as frames
use Rattle.dest_prop.proofs.refines.Frames.{Filled, Alone, Awaits, Lives, Standing}
use Rattle.dest_prop.proofs.refines.Starts.{frame_laws}
use Rattle.dest_prop.proofs.refines.Moment as moment
use Rattle.dest_prop.proofs.refines.Moment.{Moment}
use Rattle.dest_prop.proofs.refines.Reads as reads
use Rattle.dest_prop.proofs.refines.Places as places
use Rattle.dest_prop.proofs.refines.Places.{nil_or}

-- a place that isn't direct is read where a result goes to it
indirect_read : (D : List Shape) (ts : List Tree) (p : Place) → is_direct p.proj ≡ false → Contains (result_reads D ts p) p.local
indirect_read D ts p d = go (goes_through_destructor D ts p) refl
  where
    written : Contains (written_reads p) p.local
    written = subst (λ b. Contains (if b then [] else p.local ∷ []) p.local) (sym d) (has_first p.local [])

    go : (b : Bool) → goes_through_destructor D ts p ≡ b → Contains (result_reads D ts p) p.local
    go true g = subst (λ b. Contains (if b then p.local ∷ [] else written_reads p) p.local) (sym g) (has_first p.local [])
    go false g = subst (λ b. Contains (if b then p.local ∷ [] else written_reads p) p.local) (sym g) written

module _ {X : Change} {once : X.body2 ≡ merged_by (is_shared X.body1 (home_of X.source.shapes X.body1)) (home_of X.source.shapes X.body1) X.body1} {V : Valids X} {Inv : State → Type 0} (now : Moment X once V Inv) where
  open now use {n, s2, s1, r, st, lives, r.{core.{lent as j}, typed1.{types as G}}, s2.{top.{frame as f2}}, s1.{top.{frame as f1}}, lives.{set as a}}

  abbrev D : List Shape
  D = X.source.shapes

  abbrev P : Pass
  P = frames.pass X once

  abbrev home : ℕ → ℕ
  home = home_of X.source.shapes X.body1

  abbrev Q : Memory → Memory → Type 0
  Q = moment.Q now

  abbrev H1 : Here
  H1 = moment.H1 now

  abbrev H2 : Here
  H2 = moment.H2 now

  abbrev Left : Memory → Memory → Type 0
  Left = moment.Left now

  abbrev pub GoalAt : Dest → Dest → ℕ → Type 0
  GoalAt d2 d1 u = own.Goal X P V Inv (frame_laws X once V Inv) n s2 s1 r [] s1.callers refl (omega arith) now.below (moment.S now) (moment.Q now) (moment.left now) refl (moment.first now) d2 d1 u u

  far_goal : (d2 d1 : Dest) (u : ℕ) (t : Tree) → moment.Covered now u → DestRel j d1 d2 → AddrTy D G d1.addr t → GoalAt d2 d1 u
  far_goal d2 d1 u t cov dr ty = record {
    waits = λ m2 m1 q. (let (n', st', lv) = moment.edge_filled now m2 m1 u cov q in (refl, (n', st'), inl (dr, lv)));
    gets = λ m2 m1 m1' v q hv wh k. gets m2 m1 m1' v q hv k;
  }
    where
      gets : (m2 m1 m1' : Memory) (v : Value) → Q m2 m1 → Same j v v → store D m1 d1 v ≡ Some m1' → (m2' : Memory) × (store D m2 d2 v ≡ Some m2') × Left m2' m1' × ((n' : ℕ) × P.own n' j (to_block u s2.top) (to_block u s1.top) [] m2' m1')
      gets m2 m1 m1' v q hv k =
          let (m2', g, l', lv) = near.store_leaves X.source.shapes r.typed1.types r.core.lent s2.top.frame s1.top.frame s2.memory s1.memory m2 m1 m1' d1 d2 t v v q.linked q.leaves dr ty hv k in
          let (old, e1, same1) = store_split X.source.shapes m1 m1' d1 v k in
          let (old2, e2, same2) = store_split X.source.shapes m2 m2' d2 v g in
          let h' : Housed r.core.lent s2.top.frame s1.top.frame (home_of X.source.shapes X.body1) Filled lives.set m2' m1' = subst (λ m. Housed r.core.lent s2.top.frame s1.top.frame (home_of X.source.shapes X.body1) Filled lives.set m2' m) same1 (subst (λ m. Housed r.core.lent s2.top.frame s1.top.frame (home_of X.source.shapes X.body1) Filled lives.set m (write m1 d1.addr v)) same2 (lent_housed r.core.lent s2.top.frame s1.top.frame (home_of X.source.shapes X.body1) (moment.pl now) (moment.hs now) Filled lives.set m2 m1 d1.addr d2.addr v v dr.addr q.holds)) in
          let (n', h) = frames.begins_at X once (to_block u s2.top) (to_block u s1.top) refl refl in
          (m2', g, (l', lv), (n', (refl, moment.moved now n' (to_block u s2.top) (to_block u s1.top) refl refl refl refl refl refl h, frames.later X once r.core.lent (to_block u s2.top) (to_block u s1.top) m2' m1' (record { set = lives.set; covers = cov; holds = h' }))))

  -- a result to a place that isn't lent: at its home something stands wherever something stands there
  own_goal : (p : Place) (u : ℕ) → moment.lent now p.local ≡ false → ((x : ℕ) → Live D X.body1 u 0 x → (moment.lent now x ≡ true) ⊎ Alone home p.local p.proj a x) → ((m2 m1 : Memory) (o : Value) → Q m2 m1 → value_at m1 (moment.own1 now p.local p.proj) ≡ Some o → (w : Value) × (value_at m2 (moment.own2 now p.local p.proj) ≡ Some w)) → GoalAt (plain_at H2 (place_home home p)) (plain_at H1 p) u
  own_goal p u nl cov is_there = record {
    waits = λ m2 m1 q. (let (n', st') = here in (refl, (n', st'), inr (awaits m2 m1 q)));
    gets = λ m2 m1 m1' v q hv wh k.
        let (n', st') = here in
        let (c, ec, (m2', g, l', lv, lives')) = frames.delivers X once G j n' (to_block u s2.top) (to_block u s1.top) (Some (plain_at H2 (place_home home p))) (Some (plain_at H1 p)) m2 m1 m1' v v (plain_at H1 p) st' (awaits m2 m1 q) q.linked hv.0 wh refl k in
        (m2', subst (λ c. store D m2 c v ≡ Some m2') (some_dest c (plain_at H2 (place_home home p)) ec) g, (l', leaves_then D G j j j f2 f1 s2.memory s1.memory m2 m1 m2' m1' q.leaves lv), (n', (refl, st', frames.later X once j (to_block u s2.top) (to_block u s1.top) m2' m1' lives')));
  }
    where
      here : (n' : ℕ) × Standing X once n' r.core.lent (to_block u s2.top) (to_block u s1.top)
      here = (let (n', h) = frames.begins_at X once (to_block u s2.top) (to_block u s1.top) refl refl in (n', moment.moved now n' (to_block u s2.top) (to_block u s1.top) refl refl refl refl refl refl h))

      some_dest : (c d : Dest) → Some d ≡ Some c → c ≡ d
      some_dest c d e = grind arith

      awaits : (m2 m1 : Memory) → Q m2 m1 → Awaits X once r.core.lent (Some (plain_at H2 (place_home (home_of X.source.shapes X.body1) p))) (Some (plain_at H1 p)) (to_block u s2.top) (to_block u s1.top) m2 m1
      awaits m2 m1 q = record { set = lives.set; local = p.local; path = p.proj; unlent = nl; to1 = refl; to2 = refl; covers = cov; holds = q.holds; there = λ o e. is_there m2 m1 o q e }

  -- a call whose place has a type: where the place is read it is alive, so is what lives in the next block and isn't filled, and none of that
  -- shares the place's home
  module _ (p : Place) (u : ℕ) (t : Tree) (pt : type_of H1 p ≡ Some t) (reads_it : Contains (result_reads D X.body1.locals p) p.local → moment.Alive now p.local) (leads : (x : ℕ) → Live D X.body1 u 0 x → (Contains (filled p) x → ⊥) → moment.Alive now x) (clear : has_deref p.proj ≡ false → (x : ℕ) → Live D X.body1 u 0 x → home x ≡ home p.local → x ≡ p.local) where
    kept_or_filled : (x : ℕ) → Live D X.body1 u 0 x → moment.Alive now x ⊎ ((x ≡ p.local) × (p.proj ≡ []))
    kept_or_filled x lv = go (same_or_not p.local x) (nil_or p.proj)
      where
        go : ((nat_eq p.local x ≡ true) × (p.local ≡ x)) ⊎ ((nat_eq p.local x ≡ false) × (p.local ≡ x → ⊥)) → (p.proj ≡ []) ⊎ (is_nil p.proj ≡ false) → moment.Alive now x ⊎ ((x ≡ p.local) × (p.proj ≡ []))
        go (inl e) (inl nil) = inr (sym e.1, nil)
        go (inl e) (inr nn) = inl (leads x lv (λ c. let z : true ≡ false = sym (ap is_nil (whole_is p x c).1) ∙ nn in absurd (grind arith)))
        go (inr ne) o = inl (leads x lv (λ c. ne.1 (sym (whole_is p x c).0)))

    covered_lent : moment.lent now p.local ≡ true → moment.Covered now u
    covered_lent l x lv = go (kept_or_filled x lv)
      where
        go : moment.Alive now x ⊎ ((x ≡ p.local) × (p.proj ≡ [])) → moment.Alive now x
        go (inl h) = h
        go (inr (e, nil)) = inl (ap (moment.lent now) e ∙ l)

    covered_deref : has_deref p.proj ≡ true → moment.Covered now u
    covered_deref d x lv = go (kept_or_filled x lv)
      where
        go : moment.Alive now x ⊎ ((x ≡ p.local) × (p.proj ≡ [])) → moment.Alive now x
        go (inl h) = h
        go (inr (e, nil)) = absurd (let z : false ≡ true = ap has_deref (sym nil) ∙ d in grind arith)

    covered_own : has_deref p.proj ≡ false → (x : ℕ) → Live D X.body1 u 0 x → (moment.lent now x ≡ true) ⊎ Alone home p.local p.proj a x
    covered_own nd x lv = go (kept_or_filled x lv)
      where
        go : moment.Alive now x ⊎ ((x ≡ p.local) × (p.proj ≡ [])) → (moment.lent now x ≡ true) ⊎ Alone (home_of X.source.shapes X.body1) p.local p.proj lives.set x
        go (inl (inl l)) = inl l
        go (inl (inr h)) = inr (inl (h, clear nd x lv))
        go (inr h) = inr (inr h)

    abbrev pub Found : Dest → Type 0
    Found d1 = (d2 : Dest) × (dest_of H2 s2.memory (place_home home p) ≡ Some d2) × GoalAt d2 d1 u

    far : (d1 : Dest) → dest_of H1 s1.memory p ≡ Some d1 → moment.Far now p → moment.Covered now u → Found d1
    far d1 e h cov =
        let (d2, g2, dr) = reads.dest_far now s2.memory s1.memory p d1 h (moment.first now) e in
        (d2, g2, far_goal d2 d1 u t cov dr (dest_ty D G (V.valid1.blank_ok G) X.body1.locals f1 (moment.lok now) s1.memory p t d1 r.typed1.mem pt e))

    reached : moment.lent now p.local ≡ false → places.Reached now p
    reached nl = go (is_direct p.proj) refl
      where
        alive : moment.Alive now p.local → places.Reached now p
        alive (inl l) = absurd (let z : true ≡ false = sym l ∙ nl in grind arith)
        alive (inr h) = inl h

        go : (b : Bool) → is_direct p.proj ≡ b → places.Reached now p
        go true d = inr d
        go false d = alive (reads_it (indirect_read X.source.shapes X.body1.locals p d))

    own_found : moment.lent now p.local ≡ false → has_deref p.proj ≡ false → (d1 : Dest) → dest_of H1 s1.memory p ≡ Some d1 → Found d1
    unfolding dest_of
    own_found nl nd d1 e =
        let (b1, e1, k1) = bind_some e in
        subst Found (sym (dest_plain H1 s1.memory p d1 nd e)) (plain_at H2 (place_home home p), places.leads now p t nl nd pt (reached nl) s2.memory s1.memory b1 (moment.first now) e1, own_goal p u nl (covered_own nd) (places.stands now p t nl pt (reached nl)))

    pub found : (d1 : Dest) → dest_of H1 s1.memory p ≡ Some d1 → Found d1
    found d1 e = go (moment.lent now p.local) (has_deref p.proj) refl refl
      where
        go : (b c : Bool) → moment.lent now p.local ≡ b → has_deref p.proj ≡ c → Found d1
        go true c l d = far d1 e (inl l) (covered_lent l)
        go false true nl d = far d1 e (inr (d, moment.at now p.local (reads_it (indirect_read X.source.shapes X.body1.locals p (deref_indirect p.proj d))))) (covered_deref d)
        go false false nl nd = own_found nl nd d1 e
