-- A statement of the merged body that both do.
use Rattle.std.proofs.Common.{◌≡◌, ◌⊎◌, inl, inr, refl, sym, ap, ◌∙◌, subst, ℕ, suc, Bool, true, false, if◌then◌else◌, List, [], ◌∷◌, map, Some, slice_get, arith}
use Rattle.std.specs.List.{Contains}
use Rattle.std.proofs.lemmas.List.Elements.{Contains-append_left, Contains-append_right}
use Rattle.bit_rows.specs.Rows.{stands}
use Rattle.mir_syntax.specs.declared.body.Place.{Place}
use Rattle.mir_syntax.specs.Tree.{Tree}
use Rattle.mir_syntax.specs.Shapes.{Shape, variant_ty, needs_drop}
use Rattle.mir_syntax.specs.Crate.{TypedRvalue, «use», binary, overflow, unary, cast, discriminant, tuple, build, TypedStmt, assign, storage_live, storage_dead, set_discriminant, TypedBlock}
use Rattle.mir_syntax.specs.Crate as rvalue
use Rattle.mir_syntax.specs.Parts.{is_direct, rvalue_places, has_deref}
use Rattle.mir_syntax.proofs.Binds.{bind_some, some_bind}
use Rattle.mir_syntax.proofs.Members.{has_first, has_none}
use Rattle.mir_semantics.specs.Values.{Addr, Value, variant, blank, whole}
use Rattle.mir_semantics.specs.Memory.{Memory, value_at, write}
use Rattle.mir_semantics.specs.Step.{Here, State, type_of, resolve, dest_of, store, is_variant, write_unless, set_blank, next_stmt, exec}
use Rattle.mir_renaming.specs.Renaming.{AddrRel, ValueRel}
use Rattle.mir_renaming.proofs.Memory.{value_at_rel, whole_rel}
use Rattle.mir_renaming.proofs.Statements.{blank_rel, variant_is, variants_same}
use Rattle.mir_renaming.proofs.Types.{AddrTy, HasTy, RvalueTy, StmtTy, dest_ty}
use Rattle.mir_renaming.proofs.Agree.{tight_self}
use Rattle.mir_renaming.proofs.Among.{OkRvalue}
use Rattle.mir_renaming.proofs.Stores.{store_split, store_made}
use Rattle.mir_relate.specs.Frames.{Change}
use Rattle.mir_relate.specs.Pass.{Valids, RvalueMoves, StmtMoves}
use Rattle.mir_relate.proofs.Leaves.{some_val}
use Rattle.mir_relate.proofs.Rules.{deref_indirect}
use Rattle.mir_relate.proofs.Running as running
use Rattle.mir_relate.proofs.Single.{set_blank_is, set_blank_made, plain_at, dest_plain}
use Rattle.mir_relate.proofs.Wholes.{eval_whole}
use Rattle.liveness.specs.Live.{place_local, written_reads, stmt_reads, stmt_fills, Live}
use Rattle.liveness.specs.Bits.{stands_has, has_stands}
use Rattle.liveness.proofs.Paths.{live_stmt, live_next}
use Rattle.escape_info.proofs.Lends.{lends}
use Rattle.dead_store.proofs.refines.Reads.{ok_rvalue, only_one, whole_is}
use Rattle.dest_prop.specs.Merged.{home_of, is_shared, place_home, stmt_home, stays, merged_by}
use Rattle.dest_prop.proofs.Homes.{not_true, sole}
use Rattle.dest_prop.proofs.refines.Conflicts.{clear_assign, clear_set}
use Rattle.dest_prop.proofs.refines.Fills.{whole_fills, variant_fills}
use Rattle.dest_prop.proofs.refines.Frames.{Filled, alone, alone_old, Lives}
use Rattle.dest_prop.proofs.refines.Moment as moment
use Rattle.dest_prop.proofs.refines.Moment.{Moment}
use Rattle.dest_prop.proofs.refines.Reads as reads
use Rattle.dest_prop.proofs.refines.Places as places
use Rattle.dest_prop.proofs.refines.Places.{nil_or}
use Rattle.dest_prop.proofs.refines.Writes as writes

-- a place that isn't direct is read where it is written
indirect_read : (p : Place) → is_direct p.proj ≡ false → Contains (written_reads p) p.local
indirect_read p d = subst (λ b. Contains (if b then [] else p.local ∷ []) p.local) (sym d) (has_first p.local [])

module _ {X : Change} {once : X.body2 ≡ merged_by (is_shared X.body1 (home_of X.source.shapes X.body1)) (home_of X.source.shapes X.body1) X.body1} {V : Valids X} {Inv : State → Type 0} (now : Moment X once V Inv) where
  open now use {s2, s1, r, st, lives, r.{core.{lent as j}, typed1.{types as G}}, s2.{top.{frame as f2}}, s1.{top.{frame as f1}}, lives.{set as a}}

  abbrev D : List Shape
  D = X.source.shapes

  abbrev ts1 : List Tree
  ts1 = X.body1.locals

  abbrev home : ℕ → ℕ
  home = home_of X.source.shapes X.body1

  abbrev shared : ℕ → Bool
  shared = is_shared X.body1 (home_of X.source.shapes X.body1)

  abbrev Q : Memory → Memory → Type 0
  Q = moment.Q now

  abbrev H1 : Here
  H1 = moment.H1 now

  abbrev H2 : Here
  H2 = moment.H2 now

  abbrev Left : Memory → Memory → Type 0
  Left = moment.Left now

  abbrev Fits : TypedStmt → Type 0
  Fits = StmtTy D G (V.valid1.blank_ok G) ts1 f1 (moment.lok now)

  abbrev LiveAfter : ℕ → Type 0
  LiveAfter x = Live D X.body1 s1.top.block (suc s1.top.at) x

  -- both are one statement further
  abbrev pub Done : TypedStmt → Memory → Type 0
  Done s m1' = (m2' : Memory) × (exec H2 s2.memory (stmt_home shared home s) ≡ Some m2') × Left m2' m1' × Lives X once Filled j (next_stmt s2.top) (next_stmt s1.top) m2' m1'

  module _ (k : TypedBlock) (ek : slice_get X.body1.blocks s1.top.block ≡ Some k) where
    module _ (s : TypedStmt) (es : slice_get k.stmts s1.top.at ≡ Some s) where
      reads_stmt : (x : ℕ) → Contains (stmt_reads s) x → moment.Alive now x
      reads_stmt x q = lives.covers x (live_stmt D X.body1 s1.top.block s1.top.at x k s ek es q)

      next : (x : ℕ) → LiveAfter x → Contains (stmt_fills s) x ⊎ moment.Alive now x
      next x lv = go (stands x (stmt_fills s)) refl
        where
          go : (b : Bool) → stands x (stmt_fills s) ≡ b → Contains (stmt_fills s) x ⊎ moment.Alive now x
          go true q = inl (stands_has x (stmt_fills s) q)
          go false q = inr (lives.covers x (live_next X.source.shapes X.body1 s1.top.block s1.top.at x k s ek es lv (λ c. let z : true ≡ false = sym (has_stands x (stmt_fills s) c) ∙ q in absurd (grind arith))))

    -- ---- assignments

    module _ (p : Place) (x : TypedRvalue) (es : slice_get k.stmts s1.top.at ≡ Some (assign p x)) (st : stays shared home (assign p x) ≡ true) (mo : RvalueMoves H1 x) (t : Tree) (pt : type_of H1 p ≡ Some t) (xt : RvalueTy D G (V.valid1.blank_ok G) ts1 f1 (moment.lok now) x t) where
      kept_or_filled : (y : ℕ) → LiveAfter y → moment.Alive now y ⊎ ((y ≡ p.local) × (p.proj ≡ []))
      kept_or_filled y lv = go (next (assign p x) es y lv)
        where
          go : Contains (stmt_fills (assign p x)) y ⊎ moment.Alive now y → moment.Alive now y ⊎ ((y ≡ p.local) × (p.proj ≡ []))
          go (inl c) = inr (whole_is p y c)
          go (inr h) = inl h

      alive : OkRvalue (moment.Alive now) x
      alive = ok_rvalue (moment.Alive now) x (λ y z. reads_stmt (assign p x) es y (Contains-append_left (map place_local (rvalue_places x)) (written_reads p) y z))

      lent_ok : reads.Lends now x
      lent_ok = go x es
        where
          by : (v : Place) → (slice_get k.stmts s1.top.at ≡ Some (assign p (rvalue.ref v))) ⊎ (slice_get k.stmts s1.top.at ≡ Some (assign p (rvalue.ref_mut v))) → (b : Bool) → has_deref v.proj ≡ b → (has_deref v.proj ≡ true) ⊎ (moment.lent now v.local ≡ true)
          by v e true h = inl h
          by v e false h = inr (lends X.source.shapes X.body1 s1.top.block s1.top.at k p v ek e h)

          go : (x : TypedRvalue) → slice_get k.stmts s1.top.at ≡ Some (assign p x) → reads.Lends now x
          go (rvalue.ref v) e = by v (inl e) (has_deref v.proj) refl
          go (rvalue.ref_mut v) e = by v (inr e) (has_deref v.proj) refl
          go («use» o) e = tt
          go (binary op a c) e = tt
          go (overflow op a c) e = tt
          go (unary op a) e = tt
          go (cast a t) e = tt
          go (discriminant v) e = tt
          go (tuple os) e = tt
          go (build d i os) e = tt

      far_covers : moment.Far now p → (y : ℕ) → LiveAfter y → (moment.lent now y ≡ true) ⊎ (a y ≡ true)
      far_covers far y lv = go far (kept_or_filled y lv)
        where
          go : moment.Far now p → moment.Alive now y ⊎ ((y ≡ p.local) × (p.proj ≡ [])) → (moment.lent now y ≡ true) ⊎ (lives.set y ≡ true)
          go far (inl h) = h
          go (inl l) (inr (e, nil)) = inl (ap (moment.lent now) e ∙ l)
          go (inr (d, h)) (inr (e, nil)) = absurd (let z : false ≡ true = ap has_deref (sym nil) ∙ d in grind arith)

      far_done : moment.Far now p → (m1' : Memory) → exec H1 s1.memory (assign p x) ≡ Some m1' → Done (assign p x) m1'
      unfolding exec
      far_done far m1' e =
          let (v, e1, k1) = bind_some e in
          let (d, e2, k2) = bind_some k1 in
          let (w, g1, hv, q1) = (reads.evals now x alive lent_ok mo).evals s2.memory s1.memory v (moment.first now) e1 in
          let (c, g2, dr) = reads.dest_far now w.1 v.1 p d far q1 e2 in
          let at = dest_ty D G (V.valid1.blank_ok G) ts1 f1 (moment.lok now) v.1 p t d q1.typed pt e2 in
          let (m2', g3, l, h) = writes.far_write now w.1 v.1 m1' d c t v.0 w.0 q1 dr at hv k2 in
          (m2', some_bind _ g1 (some_bind _ g2 g3), l, record { set = a; covers = far_covers far; holds = h })

      reached : moment.lent now p.local ≡ false → places.Reached now p
      reached nl = go (is_direct p.proj) refl
        where
          there : moment.Alive now p.local → places.Reached now p
          there (inl l) = absurd (let z : true ≡ false = sym l ∙ nl in grind arith)
          there (inr h) = inl h

          go : (b : Bool) → is_direct p.proj ≡ b → places.Reached now p
          go true d = inr d
          go false d = there (reads_stmt (assign p x) es p.local (Contains-append_right (map place_local (rvalue_places x)) (written_reads p) p.local (indirect_read p d)))

      own_covers : has_deref p.proj ≡ false → (y : ℕ) → LiveAfter y → (moment.lent now y ≡ true) ⊎ (alone home p.local p.proj a y ≡ true)
      own_covers nd y lv = go (kept_or_filled y lv)
        where
          go : moment.Alive now y ⊎ ((y ≡ p.local) × (p.proj ≡ [])) → (moment.lent now y ≡ true) ⊎ (alone (home_of X.source.shapes X.body1) p.local p.proj lives.set y ≡ true)
          go (inl (inl l)) = inl l
          go (inl (inr h)) = inr (alone_old (home_of X.source.shapes X.body1) p.local p.proj lives.set y (inl (h, clear_assign X.source.shapes X.body1 s1.top.block s1.top.at k p x ek es st nd y lv)))
          go (inr h) = inr (alone_old (home_of X.source.shapes X.body1) p.local p.proj lives.set y (inr h))

      own_done : moment.lent now p.local ≡ false → has_deref p.proj ≡ false → (m1' : Memory) → exec H1 s1.memory (assign p x) ≡ Some m1' → Done (assign p x) m1'
      unfolding exec dest_of
      own_done nl nd m1' e =
          let (v, e1, k1) = bind_some e in
          let (d, e2, k2) = bind_some k1 in
          let (b1, r1, _) = bind_some e2 in
          let (w, g1, hv, q1) = (reads.evals now x alive lent_ok mo).evals s2.memory s1.memory v (moment.first now) e1 in
          let wv : whole v.0 ≡ true = eval_whole D G (V.valid1.blank_ok G) ts1 f1 (moment.lok now) s1.memory x t v xt e1 in
          let ww : whole w.0 ≡ true = whole_rel j v.0 w.0 hv.0 wv in
          let is : d ≡ plain_at H1 p = dest_plain H1 v.1 p d nd e2 in
          let (old, o1, same) = store_split D v.1 m1' (plain_at H1 p) v.0 (subst (λ d. store D v.1 d v.0 ≡ Some m1') is k2) in
          let (old2, o2) = places.stands now p t nl pt (reached nl) w.1 v.1 old q1 o1 in
          let there = places.leads now p t nl nd pt (reached nl) w.1 v.1 b1 q1 r1 in
          let stored : store D w.1 (plain_at H2 (place_home home p)) w.0 ≡ Some (write w.1 (moment.own2 now p.local p.proj) w.0) = store_made D w.1 (plain_at H2 (place_home home p)) w.0 old2 refl o2 in
          let (l, h) = writes.own_write now w.1 v.1 p.local p.proj v.0 w.0 nl hv.0 (λ y e ne o. whole_fills o w.0 ww) q1 in
          subst (Done (assign p x)) same (write w.1 (moment.own2 now p.local p.proj) w.0, some_bind _ g1 (some_bind _ there stored), l, record { set = alone home p.local p.proj a; covers = own_covers nd; holds = h })

      assign_done : (m1' : Memory) → exec H1 s1.memory (assign p x) ≡ Some m1' → Done (assign p x) m1'
      assign_done m1' e = go (moment.lent now p.local) (has_deref p.proj) refl refl
        where
          go : (b c : Bool) → moment.lent now p.local ≡ b → has_deref p.proj ≡ c → Done (assign p x) m1'
          go true c l d = far_done (inl l) m1' e
          go false true nl d = far_done (inr (d, moment.at now p.local (reads_stmt (assign p x) es p.local (Contains-append_right (map place_local (rvalue_places x)) (written_reads p) p.local (indirect_read p (deref_indirect p.proj d)))))) m1' e
          go false false nl nd = own_done nl nd m1' e

    -- ---- storage

    module _ (x : ℕ) (s : TypedStmt) (es : slice_get k.stmts s1.top.at ≡ Some s) (fills : (y : ℕ) → Contains (stmt_fills s) y → y ≡ x) (does1 : exec H1 s1.memory s ≡ set_blank H1 s1.memory x) (does2 : exec H2 s2.memory (stmt_home shared home s) ≡ set_blank H2 s2.memory (home x)) (ns : shared x ≡ false) where
      lent_done : moment.lent now x ≡ true → (m1' : Memory) → exec H1 s1.memory s ≡ Some m1' → Done s m1'
      lent_done l m1' e =
          let (t, et, same) = set_blank_is H1 s1.memory m1' x (sym does1 ∙ e) in
          let (le, h) = writes.lent_blank now x t l et in
          subst (Done s) same (write s2.memory (moment.own2 now x []) (blank D t), does2 ∙ set_blank_made H2 s2.memory (home x) t (sym (moment.types_home now x) ∙ et), le, record { set = a; covers = covers; holds = h })
        where
          covers : (y : ℕ) → LiveAfter y → (moment.lent now y ≡ true) ⊎ (lives.set y ≡ true)
          covers y lv = go (next s es y lv)
            where
              go : Contains (stmt_fills s) y ⊎ moment.Alive now y → (moment.lent now y ≡ true) ⊎ (lives.set y ≡ true)
              go (inl c) = inl (ap (moment.lent now) (fills y c) ∙ l)
              go (inr h) = h

      sole_done : moment.lent now x ≡ false → (m1' : Memory) → exec H1 s1.memory s ≡ Some m1' → Done s m1'
      sole_done nl m1' e =
          let (t, et, same) = set_blank_is H1 s1.memory m1' x (sym does1 ∙ e) in
          let (le, h) = writes.own_write now s2.memory s1.memory x [] (blank D t) (blank D t) nl (blank_rel j D t) (λ y q ne o. absurd (ne (sole D X.body1 x y ns q))) (moment.first now) in
          subst (Done s) same (write s2.memory (moment.own2 now x []) (blank D t), does2 ∙ set_blank_made H2 s2.memory (home x) t (sym (moment.types_home now x) ∙ et), le, record { set = alone home x [] a; covers = covers; holds = h })
        where
          covers : (y : ℕ) → LiveAfter y → (moment.lent now y ≡ true) ⊎ (alone (home_of X.source.shapes X.body1) x [] lives.set y ≡ true)
          covers y lv = go (next s es y lv)
            where
              go : Contains (stmt_fills s) y ⊎ moment.Alive now y → (moment.lent now y ≡ true) ⊎ (alone (home_of X.source.shapes X.body1) x [] lives.set y ≡ true)
              go (inl c) = inr (alone_old (home_of X.source.shapes X.body1) x [] lives.set y (inr (fills y c, refl)))
              go (inr (inl h)) = inl h
              go (inr (inr h)) = inr (alone_old (home_of X.source.shapes X.body1) x [] lives.set y (inl (h, λ q. sole X.source.shapes X.body1 x y ns q)))

      storage_done : (m1' : Memory) → exec H1 s1.memory s ≡ Some m1' → Done s m1'
      storage_done m1' e = go (moment.lent now x) refl
        where
          go : (b : Bool) → moment.lent now x ≡ b → Done s m1'
          go true l = lent_done l m1' e
          go false l = sole_done l m1' e

    -- ---- a discriminant

    module _ (p : Place) (i : ℕ) (es : slice_get k.stmts s1.top.at ≡ Some (set_discriminant p i)) (calm : (t : Tree) → type_of H1 p ≡ Some t → needs_drop D t ≡ false) where
      p_alive : moment.Alive now p.local
      p_alive = reads_stmt (set_discriminant p i) es p.local (has_first p.local [])

      still : (y : ℕ) → LiveAfter y → moment.Alive now y
      still y lv = go (next (set_discriminant p i) es y lv)
        where
          go : Contains (stmt_fills (set_discriminant p i)) y ⊎ moment.Alive now y → moment.Alive now y
          go (inl c) = absurd (has_none y c)
          go (inr h) = h

      -- what both have there, and what they set
      module _ (b1 b2 : Addr) (t us : Tree) (v w : Value) (e1 : resolve H1 s1.memory p ≡ Some b1) (g1 : resolve H2 s2.memory (place_home home p) ≡ Some b2) (e2 : value_at s1.memory b1 ≡ Some v) (g2 : value_at s2.memory b2 ≡ Some w) (e3 : type_of H1 p ≡ Some t) (e4 : variant_ty D t i ≡ Some us) (rel : ValueRel j v w) where
        abbrev new : Value
        new = variant i (blank D us)

        fresh1 : HasTy D G t (variant i (blank D us))
        fresh1 = (us, e4, V.valid1.blank_ok G us)

        fresh2 : HasTy D r.typed2.types t (variant i (blank D us))
        fresh2 = (us, e4, V.valid2.blank_ok r.typed2.types us)

        new_rel : ValueRel j (variant i (blank D us)) (variant i (blank D us))
        new_rel = (refl, blank_rel j D us)

        -- the target has the variant already
        old_rel : is_variant i w ≡ true → ValueRel j (variant i (blank D us)) w
        old_rel q =
            let (u, same) = variant_is i w q in
            subst (λ w. ValueRel j (variant i (blank D us)) w) (sym same) (let z : ValueRel j (variant i (blank D us)) (variant i u) = (refl, running.payloads r st.function1 st.function2 (moment.L now) (moment.low now) (place_home home p) b2 t us i u g1 (moment.ty_home now p ∙ e3) e4 (g2 ∙ ap Some same)) in z)

        abbrev Set : Type 0
        Set = Left (write_unless (is_variant i w) s2.memory b2 (variant i (blank D us))) (write_unless (is_variant i v) s1.memory b1 (variant i (blank D us))) × Lives X once Filled j (next_stmt s2.top) (next_stmt s1.top) (write_unless (is_variant i w) s2.memory b2 (variant i (blank D us))) (write_unless (is_variant i v) s1.memory b1 (variant i (blank D us)))

        abbrev SetAs : Bool → Bool → Type 0
        SetAs c d = Left (write_unless d s2.memory b2 (variant i (blank D us))) (write_unless c s1.memory b1 (variant i (blank D us))) × Lives X once Filled j (next_stmt s2.top) (next_stmt s1.top) (write_unless d s2.memory b2 (variant i (blank D us))) (write_unless c s1.memory b1 (variant i (blank D us)))

        by_q : (m2 m1 : Memory) → Q m2 m1 → Left m2 m1 × Lives X once Filled j (next_stmt s2.top) (next_stmt s1.top) m2 m1
        by_q m2 m1 q = (moment.left now m2 m1 q, record { set = a; covers = still; holds = q.holds })

        far_set : AddrRel j b1 b2 → Set
        unfolding write_unless
        far_set ab = go (is_variant i v) (is_variant i w) refl refl
          where
            ty : AddrTy X.source.shapes r.typed1.types b1 t
            ty = reads.addr_ty now s2.memory s1.memory p b1 t (moment.first now) e3 e1

            go : (c d : Bool) → is_variant i v ≡ c → is_variant i w ≡ d → SetAs c d
            go true true c d = by_q s2.memory s1.memory (moment.first now)
            go true false c d = absurd (variants_same j i v w rel c d)
            go false true c d = by_q s2.memory (write s1.memory b1 (variant i (blank X.source.shapes us))) (moment.alone_lent now s2.memory s1.memory b1 b2 t (variant i (blank X.source.shapes us)) w v (moment.first now) ab ty (calm t e3) e2 g2 fresh1 (old_rel d))
            go false false c d = by_q (write s2.memory b2 (variant i (blank X.source.shapes us))) (write s1.memory b1 (variant i (blank X.source.shapes us))) (moment.both_lent now s2.memory s1.memory b1 b2 t (variant i (blank X.source.shapes us)) (variant i (blank X.source.shapes us)) v (moment.first now) ab ty e2 fresh1 (reads.addr_ty2 now s2.memory s1.memory p b2 t (moment.first now) e3 g1) fresh2 (new_rel, tight_self (variant i (blank X.source.shapes us))))

        own_set : moment.lent now p.local ≡ false → has_deref p.proj ≡ false → b1 ≡ moment.own1 now p.local p.proj → b2 ≡ moment.own2 now p.local p.proj → Set
        unfolding write_unless
        own_set nl nd is1 is2 = go (is_variant i v) (is_variant i w) refl refl
          where
            ax : moment.Alive now p.local → lives.set p.local ≡ true
            ax (inl l) = absurd (let z : true ≡ false = sym l ∙ nl in grind arith)
            ax (inr h) = h

            ty : AddrTy X.source.shapes r.typed1.types (moment.own1 now p.local p.proj) t
            ty = subst (λ b. AddrTy X.source.shapes r.typed1.types b t) is1 (reads.addr_ty now s2.memory s1.memory p b1 t (moment.first now) e3 e1)

            covers : (y : ℕ) → LiveAfter y → (moment.lent now y ≡ true) ⊎ (alone (home_of X.source.shapes X.body1) p.local p.proj lives.set y ≡ true)
            covers y lv = by (still y lv)
              where
                by : moment.Alive now y → (moment.lent now y ≡ true) ⊎ (alone (home_of X.source.shapes X.body1) p.local p.proj lives.set y ≡ true)
                by (inl l) = inl l
                by (inr h) = inr (alone_old (home_of X.source.shapes X.body1) p.local p.proj lives.set y (inl (h, clear_set X.source.shapes X.body1 s1.top.block s1.top.at k p i ek es nd y lv)))

            fits : is_variant i w ≡ true → (w' : Value) → value_at s2.memory (moment.own2 now p.local p.proj) ≡ Some w' → ValueRel r.core.lent (variant i (blank X.source.shapes us)) w'
            fits d w' g = subst (λ w. ValueRel r.core.lent (variant i (blank X.source.shapes us)) w) (some_val (sym g2 ∙ ap (value_at s2.memory) is2 ∙ g)) (old_rel d)

            go : (c d : Bool) → is_variant i v ≡ c → is_variant i w ≡ d → SetAs c d
            go true true c d = by_q s2.memory s1.memory (moment.first now)
            go true false c d = absurd (variants_same j i v w rel c d)
            go false true c d = subst (λ b. Left s2.memory (write s1.memory b (variant i (blank X.source.shapes us))) × Lives X once Filled r.core.lent (next_stmt s2.top) (next_stmt s1.top) s2.memory (write s1.memory b (variant i (blank X.source.shapes us)))) (sym is1) (by_q s2.memory (write s1.memory (moment.own1 now p.local p.proj) (variant i (blank X.source.shapes us))) (moment.alone_own_as now s2.memory s1.memory p.local p.proj t v (variant i (blank X.source.shapes us)) nl (ax p_alive) (moment.first now) ty (ap (value_at s1.memory) (sym is1) ∙ e2) fresh1 (fits d)))
            go false false c d =
                let (l, h) = writes.own_write now s2.memory s1.memory p.local p.proj (variant i (blank X.source.shapes us)) (variant i (blank X.source.shapes us)) nl new_rel (λ y e ne o. variant_fills o (blank X.source.shapes us) i) (moment.first now) in
                subst (λ b. Left (write s2.memory b2 (variant i (blank X.source.shapes us))) (write s1.memory b (variant i (blank X.source.shapes us))) × Lives X once Filled r.core.lent (next_stmt s2.top) (next_stmt s1.top) (write s2.memory b2 (variant i (blank X.source.shapes us))) (write s1.memory b (variant i (blank X.source.shapes us)))) (sym is1)
                (subst (λ b. Left (write s2.memory b (variant i (blank X.source.shapes us))) (write s1.memory (moment.own1 now p.local p.proj) (variant i (blank X.source.shapes us))) × Lives X once Filled r.core.lent (next_stmt s2.top) (next_stmt s1.top) (write s2.memory b (variant i (blank X.source.shapes us))) (write s1.memory (moment.own1 now p.local p.proj) (variant i (blank X.source.shapes us)))) (sym is2) (l, record { set = alone (home_of X.source.shapes X.body1) p.local p.proj lives.set; covers = covers; holds = h }))

      set_done : (m1' : Memory) → exec H1 s1.memory (set_discriminant p i) ≡ Some m1' → Done (set_discriminant p i) m1'
      unfolding exec
      set_done m1' e =
          let (b1, e1, k1) = bind_some e in
          let (v, e2, k2) = bind_some k1 in
          let (t, e3, k3) = bind_some k2 in
          let (us, e4, k4) = bind_some k3 in
          let (b2, g1, ab) = moment.resolved now s2.memory s1.memory p b1 (moment.at now p.local p_alive) (moment.first now) e1 in
          let (w, g2, rel) = value_at_rel j (moment.L now) s2.memory s1.memory (moment.mem now s2.memory s1.memory (moment.first now)) b1 b2 ab v e2 in
          let (l, lv) = go b1 b2 t us v w e1 g1 e2 g2 e3 e4 rel (moment.far_or_own now p (moment.at now p.local p_alive)) in
          subst (Done (set_discriminant p i)) (some_val k4) (write_unless (is_variant i w) s2.memory b2 (variant i (blank D us)), some_bind _ g1 (some_bind _ g2 (some_bind _ (moment.ty_home now p ∙ e3) (some_bind _ e4 refl))), l, lv)
        where
          go : (b1 b2 : Addr) (t us : Tree) (v w : Value) (e1 : resolve H1 s1.memory p ≡ Some b1) (g1 : resolve H2 s2.memory (place_home home p) ≡ Some b2) (e2 : value_at s1.memory b1 ≡ Some v) (g2 : value_at s2.memory b2 ≡ Some w) (e3 : type_of H1 p ≡ Some t) (e4 : variant_ty X.source.shapes t i ≡ Some us) (rel : ValueRel r.core.lent v w) → moment.Far now p ⊎ ((moment.lent now p.local ≡ false) × (has_deref p.proj ≡ false)) → Left (write_unless (is_variant i w) s2.memory b2 (variant i (blank X.source.shapes us))) (write_unless (is_variant i v) s1.memory b1 (variant i (blank X.source.shapes us))) × Lives X once Filled r.core.lent (next_stmt s2.top) (next_stmt s1.top) (write_unless (is_variant i w) s2.memory b2 (variant i (blank X.source.shapes us))) (write_unless (is_variant i v) s1.memory b1 (variant i (blank X.source.shapes us)))
          go b1 b2 t us v w e1 g1 e2 g2 e3 e4 rel (inl far) =
              let (c, g, ab) = moment.far_resolved now s2.memory s1.memory p b1 far (moment.first now) e1 in
              far_set b1 b2 t us v w e1 g1 e2 g2 e3 e4 rel (subst (λ c. AddrRel r.core.lent b1 c) (some_val (sym g ∙ g1)) ab)
          go b1 b2 t us v w e1 g1 e2 g2 e3 e4 rel (inr (nl, nd)) = own_set b1 b2 t us v w e1 g1 e2 g2 e3 e4 rel nl nd (moment.plain now s1.memory p b1 nd e1) (moment.plain2 now s2.memory p b2 nd g1)

    -- ---- all of them

    pub done : (s : TypedStmt) → slice_get k.stmts s1.top.at ≡ Some s → stays shared home s ≡ true → StmtMoves H1 s → Fits s → (m1' : Memory) → exec H1 s1.memory s ≡ Some m1' → Done s m1'
    unfolding exec
    done (assign p x) es st mo (t, pt, xt) m1' e = assign_done p x es st mo t pt xt m1' e
    done (storage_live x) es st mo ty m1' e = storage_done x (storage_live x) es (λ y c. sym (only_one x y c)) refl refl (not_true (shared x) st) m1' e
    done (storage_dead x) es st mo ty m1' e = storage_done x (storage_dead x) es (λ y c. sym (only_one x y c)) refl refl (not_true (shared x) st) m1' e
    done (set_discriminant p i) es st mo ty m1' e = set_done p i es mo m1' e
