-- A statement of the pruned body: one that both do, and one that the source does alone.
use Rattle.std.proofs.Common.{◌≡◌, ◌⊎◌, inl, inr, refl, sym, ap, ap₂, ◌∙◌, subst, ℕ, suc, Bool, true, false, not, nat_eq, ◌&&◌, List, [], map, Some, None, slice_get, arith}
use Rattle.std.specs.List.{Contains}
use Rattle.std.proofs.lemmas.List.Elements.{Contains-append_left, Contains-append_right}
use Rattle.bit_rows.specs.Rows.{stands}
use Rattle.mir_syntax.specs.declared.body.Proj.{Proj}
use Rattle.mir_syntax.specs.declared.body.Place.{Place}
use Rattle.mir_syntax.specs.Tree.{Tree}
use Rattle.mir_syntax.specs.Shapes.{Shape, place_ty}
use Rattle.mir_syntax.specs.Crate.{TypedRvalue, «use», binary, overflow, unary, cast, discriminant, tuple, build, TypedStmt, assign, storage_live, storage_dead, set_discriminant, TypedBlock}
use Rattle.mir_syntax.specs.Crate as rvalue
use Rattle.mir_syntax.specs.Parts.{rvalue_places, has_deref}
use Rattle.mir_semantics.specs.Values.{Value, variant, blank}
use Rattle.mir_semantics.specs.Memory.{Memory, write}
use Rattle.mir_semantics.specs.Step.{Here, Dest, State, local_addr, type_of, resolve, dest_of, store, is_variant, write_unless, set_blank, next_stmt, exec}
use Rattle.mir_renaming.specs.Places.{is_nil}
use Rattle.mir_syntax.proofs.Binds.{bind_some, some_bind}
use Rattle.mir_renaming.proofs.Memory.{same_or_not}
use Rattle.mir_renaming.proofs.Statements.{blank_rel}
use Rattle.mir_renaming.proofs.Agree.{tight_self}
use Rattle.mir_renaming.proofs.Among.{OkRvalue}
use Rattle.mir_renaming.proofs.Stores.{root_of, value_of_root, store_split, store_made}
use Rattle.mir_renaming.proofs.Walks.{walk_plain}
use Rattle.mir_relate.specs.Alike.{Same}
use Rattle.mir_relate.specs.Frames.{Change}
use Rattle.mir_relate.specs.Pass.{Valids, RvalueMoves, StmtMoves}
use Rattle.mir_relate.proofs.Alone.{eval_alone}
use Rattle.mir_relate.proofs.Leaves.{some_val, leaves_then, leaves_source}
use Rattle.mir_relate.proofs.Living.{Holds, own_linked, own_leaves, own_holds, unlent_linked, gone_holds}
use Rattle.mir_relate.proofs.Single.{addr_is, set_blank_is, set_blank_made, plain_at, dest_plain, dest_there, resolve_whole}
use Rattle.liveness.specs.Live.{place_local, written_reads, stmt_reads, stmt_fills, Live}
use Rattle.mir_syntax.proofs.Members.{has_first, has_none}
use Rattle.liveness.specs.Bits.{stands_has, has_stands}
use Rattle.liveness.proofs.Paths.{live_stmt, live_next}
use Rattle.dead_store.specs.Pruned.{IsRead, IsUseless, IsUseful, pruned_once}
use Rattle.escape_info.proofs.Lends.{lends}
use Rattle.dead_store.proofs.refines.Reads.{ok_rvalue, only_one, whole_is, is_nil_or, written_deref}
use Rattle.dead_store.proofs.refines.Frames.{more, more_new, more_old, Lives}
use Rattle.dead_store.proofs.refines.Frames as frames
use Rattle.dead_store.proofs.refines.Moment as moment
use Rattle.dead_store.proofs.refines.Moment.{Moment}

module _ {X : Change} {once : X.body2 ≡ pruned_once X.source.shapes X.body1} {V : Valids X} {Inv : State → Type 0} (now : Moment X once V Inv) where
  open now use {s2, s1, r, st, lives, r.{core.{lent as j}, typed1.{types as G}}, s2.{top.{frame as f2}}, s1.{top.{frame as f1}}, lives.{set as a}}
  open moment.seen now use {K, Q, S, H1, H2, lent, Alive, Left}

  abbrev D : List Shape
  D = X.source.shapes

  module _ (k : TypedBlock) (ek : slice_get X.body1.blocks s1.top.block ≡ Some k) (s : TypedStmt) (es : slice_get k.stmts s1.top.at ≡ Some s) where
    reads_stmt : (x : ℕ) → Contains (stmt_reads s) x → Alive x
    reads_stmt x q = lives.covers x (live_stmt D X.body1 s1.top.block s1.top.at x k s ek es q)

    next : (x : ℕ) → Live D X.body1 s1.top.block (suc s1.top.at) x → (Contains (stmt_fills s) x → ⊥) → Alive x
    next x lv q = lives.covers x (live_next D X.body1 s1.top.block s1.top.at x k s ek es lv q)

    unfilled : (x : ℕ) → stands x (stmt_fills s) ≡ false → Contains (stmt_fills s) x → ⊥
    unfilled x q c = let z : true ≡ false = sym (has_stands x (stmt_fills s) c) ∙ q in absurd (grind arith)

    next_by : ((x : ℕ) → Contains (stmt_fills s) x → Alive x) → (x : ℕ) → Live D X.body1 s1.top.block (suc s1.top.at) x → Alive x
    next_by h x lv = go (stands x (stmt_fills s)) refl
      where
        go : (b : Bool) → stands x (stmt_fills s) ≡ b → Alive x
        go true q = h x (stands_has x (stmt_fills s) q)
        go false q = next x lv (unfilled x q)

    -- both are one statement further
    abbrev pub Done : Memory → Type 0
    Done m1' = (m2' : Memory) × (exec H2 s2.memory s ≡ Some m2') × Left m2' m1' × Lives X once j (next_stmt s2.top) (next_stmt s1.top) m2' m1'

    kept_done : moment.StmtOk now s → StmtMoves H1 s → moment.Fits now s → ((x : ℕ) → Contains (stmt_fills s) x → Alive x) → (m1' : Memory) → exec S.source s1.memory s ≡ Some m1' → Done m1'
    kept_done ok mo ty fill m1' e =
        let (m2', g, q) = moment.stmt_execs now s ok mo ty m1' e in
        (m2', g, moment.left now m2' m1' q, record { set = a; covers = next_by fill; holds = moment.holds now m2' m1' q })

    -- a local that isn't lent is written as a whole
    own_done : (x : ℕ) → lent x ≡ false → ((y : ℕ) → Contains (stmt_fills s) y → y ≡ x) → (m2 m1 : Memory) (v w : Value) → Same j v w → Left m2 m1 → Holds j f2 f1 a m2 m1 → exec H2 s2.memory s ≡ Some (write m2 (record { frame = f2; local = x; path = [] }) w) → Done (write m1 (record { frame = f1; local = x; path = [] }) v)
    own_done x nl fill m2 m1 v w hv l h g = (
      write m2 (record { frame = f2; local = x; path = [] }) w,
      g,
      (own_linked j f2 f1 (moment.pl now) a x (moment.unlent_at now x nl) [] m2 m1 v w l.0, leaves_then D G j j j f2 f1 s2.memory s1.memory m2 m1 (write m2 (record { frame = f2; local = x; path = [] }) w) (write m1 (record { frame = f1; local = x; path = [] }) v) l.1 (own_leaves j f2 f1 (moment.pl now) a x (moment.unlent_at now x nl) [] D G m2 m1 v w)),
      record { set = more x [] a; covers = λ y lv. covered y lv (stands y (stmt_fills s)) refl; holds = own_holds j f2 f1 (moment.pl now) a x (moment.unlent_at now x nl) [] (more x [] a) (more_new x [] a) m2 m1 v w hv.0 h },
    )
      where
        old : (y : ℕ) → Alive y → (lent y ≡ true) ⊎ (more x [] a y ≡ true)
        old y (inl e) = inl e
        old y (inr e) = inr (more_old x [] a y (inl e))

        covered : (y : ℕ) → Live D X.body1 s1.top.block (suc s1.top.at) y → (b : Bool) → stands y (stmt_fills s) ≡ b → (lent y ≡ true) ⊎ (more x [] a y ≡ true)
        covered y lv true q = inr (more_old x [] a y (inr (fill y (stands_has y (stmt_fills s) q), refl)))
        covered y lv false q = old y (next y lv (unfilled y q))

    -- an assignment of a whole local that isn't lent
    assign_own : (p : Place) (q : TypedRvalue) → s ≡ assign p q → p.proj ≡ [] → lent p.local ≡ false → OkRvalue (moment.A now) q → moment.Lends now q → RvalueMoves H1 q → (t : Tree) → type_of H1 p ≡ Some t → (m1' : Memory) → exec S.source s1.memory (assign p q) ≡ Some m1' → Done m1'
    unfolding exec type_of
    assign_own p q est nil nl ok le mo t pt m1' e =
        let (v, e1, k1) = bind_some e in
        let (d, e2, k2) = bind_some k1 in
        let (w, g1, hv, q1) = (moment.rvalue_evals now q ok le mo).evals s2.memory s1.memory v (moment.first now) e1 in
        let nd : has_deref p.proj ≡ false = ap has_deref nil in
        let is : d ≡ whole f1 = dest_plain H1 v.1 p d nd e2 ∙ ap (λ ps. record { addr = record { frame = f1; local = p.local; path = ps }; guard = None }) nil in
        let (old, e3, same) = store_split D v.1 m1' (whole f1) v.0 (subst (λ d. store D v.1 d v.0 ≡ Some m1') is k2) in
        let (o, eo) = root_of v.1 (record { frame = f1; local = p.local; path = [] }) old e3 in
        let (o2, g2) = (moment.holds now w.1 v.1 q1).room p.local o (moment.unlent_at now p.local nl) eo in
        let there : dest_of H2 w.1 p ≡ Some (whole f2) = dest_there H2 w.1 p t _ nd (ap (λ ts. place_ty D ts p) (frames.same_locals X once) ∙ pt) (resolve_whole H2 w.1 p nil) ∙ ap (λ ps. Some (record { addr = record { frame = f2; local = p.local; path = ps }; guard = None })) nil in
        let stored : store D w.1 (whole f2) w.0 ≡ Some (write w.1 (record { frame = f2; local = p.local; path = [] }) w.0) = store_made D w.1 (whole f2) w.0 o2 refl (value_of_root w.1 (record { frame = f2; local = p.local; path = [] }) o2 refl g2) in
        subst Done same (own_done p.local nl fill w.1 v.1 v.0 w.0 hv (moment.left now w.1 v.1 q1) (moment.holds now w.1 v.1 q1) (ap (exec H2 s2.memory) est ∙ some_bind _ g1 (some_bind _ there stored)))
      where
        whole : ℕ → Dest
        whole fr = record { addr = record { frame = fr; local = p.local; path = [] }; guard = None }

        fill : (y : ℕ) → Contains (stmt_fills s) y → y ≡ p.local
        fill y e = (whole_is p y (subst (λ s. Contains (stmt_fills s) y) est e)).0

    -- storage of one
    blank_own : (x : ℕ) → ((m : Memory) (h : Here) → exec h m s ≡ set_blank h m x) → ((y : ℕ) → Contains (stmt_fills s) y → y ≡ x) → lent x ≡ false → (m1' : Memory) → exec S.source s1.memory s ≡ Some m1' → Done m1'
    blank_own x is fill nl m1' e =
        let (t, et, same) = set_blank_is H1 s1.memory m1' x (sym (is s1.memory H1) ∙ e) in
        subst Done same (own_done x nl fill s2.memory s1.memory (blank D t) (blank D t) (blank_rel j D t, tight_self (blank D t)) (moment.left now s2.memory s1.memory (moment.first now)) (moment.holds now s2.memory s1.memory (moment.first now)) (is s2.memory H2 ∙ set_blank_made H2 s2.memory x t (sym (moment.types now x) ∙ et)))

    lends_ok : (p : Place) (q : TypedRvalue) → s ≡ assign p q → moment.Lends now q
    lends_ok p q est = go q est
      where
        by : (v : Place) → (slice_get k.stmts s1.top.at ≡ Some (assign p (rvalue.ref v))) ⊎ (slice_get k.stmts s1.top.at ≡ Some (assign p (rvalue.ref_mut v))) → (b : Bool) → has_deref v.proj ≡ b → (has_deref v.proj ≡ true) ⊎ (j f1 v.local ≡ Some (f2, v.local))
        by v e true h = inl h
        by v e false h = inr (moment.lent_at now v.local (lends D X.body1 s1.top.block s1.top.at k p v ek e h))

        go : (q : TypedRvalue) → s ≡ assign p q → moment.Lends now q
        go (rvalue.ref v) e = by v (inl (es ∙ ap Some e)) (has_deref v.proj) refl
        go (rvalue.ref_mut v) e = by v (inr (es ∙ ap Some e)) (has_deref v.proj) refl
        go («use» o) e = tt
        go (binary op a c) e = tt
        go (overflow op a c) e = tt
        go (unary op a) e = tt
        go (cast a t) e = tt
        go (discriminant v) e = tt
        go (tuple os) e = tt
        go (build d i os) e = tt

    rvalue_reads : (p : Place) (q : TypedRvalue) → s ≡ assign p q → OkRvalue (moment.A now) q
    rvalue_reads p q est = ok_rvalue (moment.A now) q (λ y z. moment.at now y (reads_stmt y (subst (λ s. Contains (stmt_reads s) y) (sym est) (Contains-append_left (map place_local (rvalue_places q)) (written_reads p) y z))))

    pub stays : (s' : TypedStmt) → s ≡ s' → IsUseful D X.body1 s1.top.block s1.top.at s' → StmtMoves H1 s → moment.Fits now s → (m1' : Memory) → exec S.source s1.memory s ≡ Some m1' → Done m1'
    unfolding exec
    stays (assign p q) est u mo ty m1' e = go u
      where
        mo' : RvalueMoves H1 q
        mo' = subst (λ s. StmtMoves H1 s) est mo

        fill : Alive p.local → (x : ℕ) → Contains (stmt_fills s) x → Alive x
        fill h x f = subst (λ x. Alive x) (sym (whole_is p x (subst (λ s. Contains (stmt_fills s) x) est f)).0) h

        alive : Alive p.local → Done m1'
        alive h = kept_done (subst (λ s. moment.StmtOk now s) (sym est) (moment.at now p.local h, rvalue_reads p q est, lends_ok p q est)) mo ty (fill h) m1' e

        whole : p.proj ≡ [] → (b : Bool) → lent p.local ≡ b → Done m1'
        whole nil true l = alive (inl l)
        whole nil false nl = (let (t, pt, xt) = subst (λ s. moment.Fits now s) est ty in assign_own p q est nil nl (rvalue_reads p q est) (lends_ok p q est) mo' t pt m1' (sym (ap (exec S.source s1.memory) est) ∙ e))

        part : (p.proj ≡ []) ⊎ (is_nil p.proj ≡ false) → Live D X.body1 s1.top.block (suc s1.top.at) p.local → Done m1'
        part (inl nil) lv = whole nil (lent p.local) refl
        part (inr nn) lv = alive (next p.local lv (λ c. let z : true ≡ false = sym (ap is_nil (whole_is p p.local (subst (λ s. Contains (stmt_fills s) p.local) est c)).1) ∙ nn in absurd (grind arith)))

        go : IsRead D X.body1 s1.top.block s1.top.at p → Done m1'
        go (inl d) = alive (reads_stmt p.local (subst (λ s. Contains (stmt_reads s) p.local) (sym est) (Contains-append_right (map place_local (rvalue_places q)) (written_reads p) p.local (written_deref p (d)))))
        go (inr (inl l)) = alive (inl l)
        go (inr (inr lv)) = part (is_nil_or p.proj) lv
    stays (storage_live x) est u mo ty m1' e = go (lent x) refl
      where
        fill : (y : ℕ) → Contains (stmt_fills s) y → y ≡ x
        fill y f = sym (only_one x y (subst (λ s. Contains (stmt_fills s) y) est f))

        go : (b : Bool) → lent x ≡ b → Done m1'
        go true l = kept_done (subst (λ s. moment.StmtOk now s) (sym est) (moment.at now x (inl l))) mo ty (λ y f. inl (ap lent (fill y f) ∙ l)) m1' e
        go false l = blank_own x (λ m h. ap (exec h m) est) fill l m1' e
    stays (storage_dead x) est u mo ty m1' e = go (lent x) refl
      where
        fill : (y : ℕ) → Contains (stmt_fills s) y → y ≡ x
        fill y f = sym (only_one x y (subst (λ s. Contains (stmt_fills s) y) est f))

        go : (b : Bool) → lent x ≡ b → Done m1'
        go true l = kept_done (subst (λ s. moment.StmtOk now s) (sym est) (moment.at now x (inl l))) mo ty (λ y f. inl (ap lent (fill y f) ∙ l)) m1' e
        go false l = blank_own x (λ m h. ap (exec h m) est) fill l m1' e
    stays (set_discriminant p i) est u mo ty m1' e =
        kept_done (subst (λ s. moment.StmtOk now s) (sym est) (moment.at now p.local (reads_stmt p.local (subst (λ s. Contains (stmt_reads s) p.local) (sym est) (has_first p.local []))))) mo ty (λ x f. absurd (has_none x (subst (λ s. Contains (stmt_fills s) x) est f))) m1' e

    -- ---- a statement of the source alone

    abbrev pub GoneDone : Memory → Type 0
    GoneDone m1' = Left s2.memory m1' × Lives X once j s2.top (next_stmt s1.top) s2.memory m1'

    -- a write to a local that isn't lent and doesn't live after
    write_gone : (x : ℕ) (ps : List Proj) → lent x ≡ false → (Live D X.body1 s1.top.block (suc s1.top.at) x → ⊥) → ((y : ℕ) → Live D X.body1 s1.top.block (suc s1.top.at) y → (y ≡ x → ⊥) → Alive y) → (m1 : Memory) (v : Value) → Q s2.memory m1 → GoneDone (write m1 (record { frame = f1; local = x; path = ps }) v)
    write_gone x ps nl dead stay m1 v q =
        let (l, lv) = moment.left now s2.memory m1 q in (
          (unlent_linked j s2.memory m1 (record { frame = f1; local = x; path = ps }) v (moment.unlent_at now x nl) l, leaves_then D G j j j f2 f1 s2.memory s1.memory s2.memory m1 s2.memory (write m1 (record { frame = f1; local = x; path = ps }) v) lv (leaves_source D G j s2.memory m1 (record { frame = f1; local = x; path = ps }) v f2 f1 (omega arith))),
          record { set = less; covers = covered; holds = gone_holds j f2 f1 (moment.pl now) a x (moment.unlent_at now x nl) ps less less_parts s2.memory m1 v (moment.holds now s2.memory m1 q) },
        )
      where
        less : ℕ → Bool
        less y = not (nat_eq x y) && a y

        less_parts : (y : ℕ) → less y ≡ true → (a y ≡ true) × (y ≡ x → ⊥)
        less_parts y e = go (same_or_not x y) (a y) refl
          where
            go : ((nat_eq x y ≡ true) × (x ≡ y)) ⊎ ((nat_eq x y ≡ false) × (x ≡ y → ⊥)) → (b : Bool) → a y ≡ b → (a y ≡ true) × (y ≡ x → ⊥)
            go (inl p) b h = absurd (let z : false ≡ true = sym (ap (λ b. not b && a y) p.0) ∙ e in grind arith)
            go (inr p) true h = (h, λ q. p.1 (sym q))
            go (inr p) false h = absurd (let z : false ≡ true = sym (ap₂ (λ b c. not b && c) p.0 h) ∙ e in grind arith)

        stays_alive : (y : ℕ) → (y ≡ x → ⊥) → Alive y → (lent y ≡ true) ⊎ (less y ≡ true)
        stays_alive y ne (inl l) = inl l
        stays_alive y ne (inr h) = go (same_or_not x y)
          where
            go : ((nat_eq x y ≡ true) × (x ≡ y)) ⊎ ((nat_eq x y ≡ false) × (x ≡ y → ⊥)) → (lent y ≡ true) ⊎ (less y ≡ true)
            go (inl p) = absurd (ne (sym p.1))
            go (inr p) = inr (ap₂ (λ b c. not b && c) p.0 h)

        covered : (y : ℕ) → Live D X.body1 s1.top.block (suc s1.top.at) y → (lent y ≡ true) ⊎ (less y ≡ true)
        covered y lv = (let ne : y ≡ x → ⊥ = λ q. dead (subst (λ y. Live D X.body1 s1.top.block (suc s1.top.at) y) q lv) in stays_alive y ne (stay y lv ne))

    pub goes : (s' : TypedStmt) → s ≡ s' → IsUseless D X.body1 s1.top.block s1.top.at s' → StmtMoves H1 s → (m1' : Memory) → exec S.source s1.memory s' ≡ Some m1' → GoneDone m1'
    unfolding exec resolve local_addr write_unless
    goes (assign p q) est (nd, nl, dead) mo m1' e =
        let (v, e1, k1) = bind_some e in
        let (d, e2, k2) = bind_some k1 in
        let mo' : RvalueMoves H1 q = subst (λ s. StmtMoves H1 s) est mo in
        let spent = moment.rvalue_alone now q (rvalue_reads p q est) (lends_ok p q est) mo' in
        let q1 : Q s2.memory v.1 = eval_alone S Q q spent s2.memory s1.memory v (moment.first now) e1 in
        let is : d ≡ plain_at H1 p = dest_plain H1 v.1 p d (nd) e2 in
        let (old, e3, same) = store_split D v.1 m1' (plain_at H1 p) v.0 (subst (λ d. store D v.1 d v.0 ≡ Some m1') is k2) in
        subst GoneDone same (write_gone p.local p.proj nl dead (λ y lv ne. next y lv (λ c. ne (whole_is p y (subst (λ s. Contains (stmt_fills s) y) est c)).0)) v.1 v.0 q1)
    goes (set_discriminant p i) est (nd, nl, dead) mo m1' e =
        let (b, e1, k1) = bind_some e in
        let (v, e2, k2) = bind_some k1 in
        let (t, e3, k3) = bind_some k2 in
        let (us, e4, k4) = bind_some k3 in
        let (c1, c2, c3) = walk_plain p.proj s1.memory (record { frame = f1; local = p.local; path = [] }) b (nd) e1 in
        subst GoneDone (some_val k4) (subst (λ b. GoneDone (write_unless (is_variant i v) s1.memory b (variant i (blank D us)))) (sym (addr_is b (record { frame = f1; local = p.local; path = p.proj }) c1 c2 c3)) (either (is_variant i v) (variant i (blank D us))))
      where
        stay : (y : ℕ) → Live D X.body1 s1.top.block (suc s1.top.at) y → Alive y
        stay y lv = next y lv (λ c. has_none y (subst (λ s. Contains (stmt_fills s) y) est c))

        either : (b : Bool) (w : Value) → GoneDone (write_unless b s1.memory (record { frame = f1; local = p.local; path = p.proj }) w)
        either true w = (moment.left now s2.memory s1.memory (moment.first now), record { set = a; covers = stay; holds = moment.holds now s2.memory s1.memory (moment.first now) })
        either false w = write_gone p.local p.proj nl dead (λ y lv ne. stay y lv) s1.memory w (moment.first now)
    goes (storage_live x) est u mo m1' e = absurd u
    goes (storage_dead x) est u mo m1' e = absurd u
