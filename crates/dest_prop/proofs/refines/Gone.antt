-- A statement that goes, which the source does alone: a copy of a member to its own home, and storage of a member.
use Rattle.std.proofs.Common.{◌≡◌, ◌⊎◌, inl, inr, refl, sym, ap, ◌∙◌, subst, ℕ, suc, Bool, true, false, not, nat_eq, ◌&&◌, ◌||◌, List, [], ◌∷◌, ◌++◌, map, Some, slice_get, arith, eqb-true}
use Rattle.std.specs.List.{Contains, list_any}
use Rattle.std.proofs.lemmas.Bool.{and_parts}
use Rattle.std.proofs.lemmas.List.Elements.{Contains-append_left}
use Rattle.bit_rows.specs.Rows.{stands}
use Rattle.mir_syntax.specs.declared.body.Proj.{Proj}
use Rattle.mir_syntax.specs.declared.body.Place.{Place}
use Rattle.mir_syntax.specs.declared.body.Operand.{Operand}
use Rattle.mir_syntax.specs.declared.body.Operand.TheVariants as operand
use Rattle.mir_syntax.specs.Tree.{Tree}
use Rattle.mir_syntax.specs.Shapes.{Shape}
use Rattle.mir_syntax.specs.Crate.{TypedRvalue, «use», binary, overflow, unary, cast, discriminant, tuple, build, TypedStmt, assign, storage_live, storage_dead, set_discriminant, TypedBlock}
use Rattle.mir_syntax.specs.Crate as rvalue
use Rattle.mir_syntax.specs.Parts.{rvalue_places, has_deref}
use Rattle.mir_syntax.proofs.Binds.{bind_some}
use Rattle.mir_syntax.proofs.Bools.{if_true}
use Rattle.mir_syntax.proofs.Members.{has_first}
use Rattle.mir_semantics.specs.Values.{Addr, Value, at_path, whole, blank}
use Rattle.mir_semantics.specs.Memory.{Memory, local_at, value_at, write}
use Rattle.mir_semantics.specs.Step.{Here, State, store, set_blank, read_at, read, next_stmt, eval, exec}
use Rattle.mir_renaming.specs.Renaming.{SomeRel}
use Rattle.mir_renaming.proofs.Memory.{same_or_not}
use Rattle.mir_renaming.proofs.Statements.{only_true}
use Rattle.mir_renaming.proofs.Types.{HasTy, blank_fits}
use Rattle.mir_renaming.proofs.Among.{OkOperand}
use Rattle.mir_renaming.proofs.Stores.{store_split}
use Rattle.mir_relate.specs.Frames.{Change}
use Rattle.mir_relate.specs.Pass.{Valids, MoveOk, RvalueMoves, StmtMoves}
use Rattle.mir_relate.proofs.Leaves.{some_val}
use Rattle.mir_relate.proofs.Single.{set_blank_is, plain_at, dest_plain, resolve_whole}
use Rattle.liveness.specs.Live.{place_local, written_reads, stmt_fills, unless_inside, Live}
use Rattle.liveness.specs.Bits.{stands_has, has_stands}
use Rattle.liveness.proofs.Paths.{live_stmt, live_next}
use Rattle.dead_store.proofs.refines.Reads.{only_one, whole_is}
use Rattle.dest_prop.specs.Merged.{home_of, is_shared, place_home, operand_home, pairs, stays, merged_by}
use Rattle.dest_prop.proofs.Homes.{not_false, unlent, shared_of}
use Rattle.dest_prop.proofs.refines.Frames.{Filled, Lives}
use Rattle.dest_prop.proofs.refines.Moment as moment
use Rattle.dest_prop.proofs.refines.Moment.{Moment}
use Rattle.dest_prop.proofs.refines.Reads as reads
use Rattle.dest_prop.proofs.refines.Writes as writes
use Rattle.dest_prop.proofs.refines.Writes.{with, with_old, with_it}

-- ---- what a copy that goes looks like

-- the place of an operand that is copied or moved
abbrev From : Operand → Place → Type 0
From o q = (o ≡ operand.Copy q) ⊎ (o ≡ operand.Move q)

record IsOwnCopy (shared : ℕ → Bool) (home : ℕ → ℕ) (p : Place) (x : TypedRvalue) : Type 0 where
  pub from : Operand
  pub source : Place
  pub use_it : x ≡ «use» from
  pub from_it : From from source
  pub whole_target : p.proj ≡ []
  pub whole_source : source.proj ≡ []
  pub shared_target : shared p.local ≡ true
  pub one_home : home p.local ≡ home source.local

module _ (shared : ℕ → Bool) (home : ℕ → ℕ) where
  tested : (a b : ℕ) → not (list_any (λ (c : ℕ × ℕ). shared c.0 && nat_eq (home c.0) (home c.1)) ((a, b) ∷ [])) ≡ false → (shared a ≡ true) × (home a ≡ home b)
  tested a b h =
      let k = and_parts (shared a) (nat_eq (home a) (home b)) (no_more (shared a && nat_eq (home a) (home b)) (not_false _ h)) in
      (k.0, eqb-true (home a) (home b) k.1)
    where
      no_more : (c : Bool) → (c || false) ≡ true → c ≡ true
      no_more true e = refl
      no_more false e = absurd (grind arith)

  both_whole : (p q : Place) (o : Operand) → From o q → (ps qs : List Proj) → p.proj ≡ ps → q.proj ≡ qs → not (list_any (λ (c : ℕ × ℕ). shared c.0 && nat_eq (home c.0) (home c.1)) (pairs (unless_inside p.local ps) (unless_inside q.local qs ++ []))) ≡ false → IsOwnCopy shared home p («use» o)
  both_whole p q o f [] [] ep eq h = (let (sh, e) = tested p.local q.local h in record { from = o; source = q; use_it = refl; from_it = f; whole_target = ep; whole_source = eq; shared_target = sh; one_home = e })
  both_whole p q o f [] (r ∷ qs) ep eq h = absurd (grind arith)
  both_whole p q o f (r ∷ ps) qs ep eq h = absurd (grind arith)

  no_copy : (a : ℕ) (ps : List Proj) → not (list_any (λ (c : ℕ × ℕ). shared c.0 && nat_eq (home c.0) (home c.1)) (pairs (unless_inside a ps) [])) ≡ false → ⊥
  no_copy a [] h = grind arith
  no_copy a (r ∷ ps) h = grind arith

  own_copy : (p : Place) (x : TypedRvalue) → stays shared home (assign p x) ≡ false → IsOwnCopy shared home p x
  own_copy p («use» (operand.Copy q)) h = both_whole p q (operand.Copy q) (inl refl) p.proj q.proj refl refl h
  own_copy p («use» (operand.Move q)) h = both_whole p q (operand.Move q) (inr refl) p.proj q.proj refl refl h
  own_copy p («use» (operand.Const c)) h = absurd (no_copy p.local p.proj h)
  own_copy p (binary op a b) h = absurd (no_copy p.local p.proj h)
  own_copy p (overflow op a b) h = absurd (no_copy p.local p.proj h)
  own_copy p (unary op a) h = absurd (no_copy p.local p.proj h)
  own_copy p (cast a t) h = absurd (no_copy p.local p.proj h)
  own_copy p (rvalue.ref q) h = absurd (no_copy p.local p.proj h)
  own_copy p (rvalue.ref_mut q) h = absurd (no_copy p.local p.proj h)
  own_copy p (discriminant q) h = absurd (no_copy p.local p.proj h)
  own_copy p (tuple os) h = absurd (no_copy p.local p.proj h)
  own_copy p (build d k os) h = absurd (no_copy p.local p.proj h)

-- what a copy of a whole local reads
copy_reads : (h : Here) (m : Memory) (p : Place) (w : Value × Memory) → p.proj ≡ [] → read h m (operand.Copy p) ≡ Some w → (local_at m h.frame p.local ≡ Some w.0) × (m ≡ w.1)
unfolding read read_at value_at
copy_reads h m p w nil e =
    let (b, e1, k1) = bind_some e in
    let (v, e2, k2) = bind_some k1 in
    let (u, e3, k3) = bind_some e2 in
    let (o, e4, k4) = bind_some e3 in
    let (t, vu) = only_true (whole u) u v k3 in
    let is : b ≡ record { frame = h.frame; local = p.local; path = [] } = some_val (sym e1 ∙ resolve_whole h m p nil) in
    let same : (v, m) ≡ w = some_val k2 in
    let at : local_at m h.frame p.local ≡ Some o = ap (λ (b : Addr). local_at m b.frame b.local) (sym is) ∙ e4 in
    let ou : o ≡ u = some_val (ap (λ (b : Addr). at_path b.path o) (sym is) ∙ k4) in
    (at ∙ ap Some (ou ∙ vu ∙ ap (λ (w : Value × Memory). w.0) same), ap (λ (w : Value × Memory). w.1) same)

module _ {X : Change} {once : X.body2 ≡ merged_by (is_shared X.body1 (home_of X.source.shapes X.body1)) (home_of X.source.shapes X.body1) X.body1} {V : Valids X} {Inv : State → Type 0} (now : Moment X once V Inv) where
  open now use {s2, s1, r, lives, r.{core.{lent as j}, typed1.{types as G}}, s2.{top.{frame as f2}}, s1.{top.{frame as f1}}, lives.{set as a}}

  abbrev D : List Shape
  D = X.source.shapes

  abbrev home : ℕ → ℕ
  home = home_of X.source.shapes X.body1

  abbrev shared : ℕ → Bool
  shared = is_shared X.body1 (home_of X.source.shapes X.body1)

  abbrev Q : Memory → Memory → Type 0
  Q = moment.Q now

  abbrev H1 : Here
  H1 = moment.H1 now

  abbrev H2 : Here
  H2 = moment.H2 now

  abbrev LiveAfter : ℕ → Type 0
  LiveAfter x = Live D X.body1 s1.top.block (suc s1.top.at) x

  -- the source is one statement further
  abbrev pub GoneDone : Memory → Type 0
  GoneDone m1' = moment.Left now s2.memory m1' × Lives X once Filled j s2.top (next_stmt s1.top) s2.memory m1'

  module _ (k : TypedBlock) (ek : slice_get X.body1.blocks s1.top.block ≡ Some k) where
    module _ (s : TypedStmt) (es : slice_get k.stmts s1.top.at ≡ Some s) where
      next : (x : ℕ) → LiveAfter x → Contains (stmt_fills s) x ⊎ moment.Alive now x
      next x lv = go (stands x (stmt_fills s)) refl
        where
          go : (b : Bool) → stands x (stmt_fills s) ≡ b → Contains (stmt_fills s) x ⊎ moment.Alive now x
          go true q = inl (stands_has x (stmt_fills s) q)
          go false q = inr (lives.covers x (live_next X.source.shapes X.body1 s1.top.block s1.top.at x k s ek es lv (λ c. let z : true ≡ false = sym (has_stands x (stmt_fills s) c) ∙ q in absurd (grind arith))))

      -- the local that it writes as a whole stands at its home
      covers : (x : ℕ) → ((y : ℕ) → Contains (stmt_fills s) y → y ≡ x) → (y : ℕ) → LiveAfter y → (moment.lent now y ≡ true) ⊎ (with x a y ≡ true)
      covers x fills y lv = go (next y lv)
        where
          go : Contains (stmt_fills s) y ⊎ moment.Alive now y → (moment.lent now y ≡ true) ⊎ (with x lives.set y ≡ true)
          go (inl c) = inr (with_it x lives.set y (fills y c))
          go (inr (inl l)) = inl l
          go (inr (inr h)) = inr (with_old x lives.set y h)

    -- ---- storage

    live_is : (x : ℕ) → set_blank H1 s1.memory x ≡ exec H1 s1.memory (storage_live x)
    unfolding exec
    live_is x = refl

    dead_is : (x : ℕ) → set_blank H1 s1.memory x ≡ exec H1 s1.memory (storage_dead x)
    unfolding exec
    dead_is x = refl

    storage_gone : (x : ℕ) (s : TypedStmt) → slice_get k.stmts s1.top.at ≡ Some s → ((y : ℕ) → Contains (stmt_fills s) y → y ≡ x) → shared x ≡ true → (m1' : Memory) → set_blank H1 s1.memory x ≡ Some m1' → GoneDone m1'
    storage_gone x s es fills sh m1' e =
        let (t, et, same) = set_blank_is H1 s1.memory m1' x e in
        let nl = unlent D X.body1 x sh in
        let (l, h) = writes.gone_write now s1.memory x (blank D t) nl (has t et nl) (moment.first now) in
        subst GoneDone same (l, record { set = with x a; covers = covers s es x fills; holds = h })
      where
        has : (t : Tree) → slice_get X.body1.locals x ≡ Some t → moment.lent now x ≡ false → (o : Value) → local_at s1.memory s1.top.frame x ≡ Some o → SomeRel r.core.lent (blank X.source.shapes t) (local_at s2.memory s2.top.frame (home_of X.source.shapes X.body1 x))
        has t et nl o g =
            let (w, gw, fl) = (moment.first now).holds.room x o (moment.unlent_at now x nl) g in
            let hw : HasTy X.source.shapes r.typed2.types t w = r.typed2.mem.at s2.top.frame (home_of X.source.shapes X.body1 x) t w (moment.lok2 now (home_of X.source.shapes X.body1 x) t (sym (moment.types_home now x) ∙ et)) gw in
            (w, gw, blank_fits X.source.shapes r.typed2.types r.core.lent t w hw)

    -- ---- a copy to its own home

    module _ (p : Place) (x : TypedRvalue) (es : slice_get k.stmts s1.top.at ≡ Some (assign p x)) (own : IsOwnCopy shared home p x) (mo : RvalueMoves H1 x) where
      abbrev q : Place
      q = own.source

      source_read : Contains (map place_local (rvalue_places x)) q.local
      source_read = subst (λ x. Contains (map place_local (rvalue_places x)) own.source.local) (sym own.use_it) (by own.from_it)
        where
          by : From own.from own.source → Contains (map place_local (rvalue_places («use» own.from))) own.source.local
          by (inl e) = subst (λ o. Contains (map place_local (rvalue_places («use» o))) own.source.local) (sym e) (has_first own.source.local [])
          by (inr e) = subst (λ o. Contains (map place_local (rvalue_places («use» o))) own.source.local) (sym e) (has_first own.source.local [])

      source_alive : moment.Alive now q.local
      source_alive = lives.covers q.local (live_stmt D X.body1 s1.top.block s1.top.at q.local k (assign p x) ek es (Contains-append_left (map place_local (rvalue_places x)) (written_reads p) q.local source_read))

      source_shared : shared q.local ≡ true
      source_shared = go (same_or_not p.local own.source.local)
        where
          go : ((nat_eq p.local own.source.local ≡ true) × (p.local ≡ own.source.local)) ⊎ ((nat_eq p.local own.source.local ≡ false) × (p.local ≡ own.source.local → ⊥)) → is_shared X.body1 (home_of X.source.shapes X.body1) own.source.local ≡ true
          go (inl e) = ap (is_shared X.body1 (home_of X.source.shapes X.body1)) (sym e.1) ∙ own.shared_target
          go (inr ne) = shared_of X.source.shapes X.body1 own.source.local p.local own.one_home ne.1

      from_alive : OkOperand (moment.Alive now) own.from
      from_alive = by own.from_it
        where
          by : From own.from own.source → OkOperand (moment.Alive now) own.from
          by (inl e) = subst (OkOperand (moment.Alive now)) (sym e) source_alive
          by (inr e) = subst (OkOperand (moment.Alive now)) (sym e) source_alive

      -- the target would copy it
      copied_there : operand_home shared home own.from ≡ operand.Copy (place_home home q)
      copied_there = by own.from_it
        where
          by : From own.from own.source → operand_home (is_shared X.body1 (home_of X.source.shapes X.body1)) (home_of X.source.shapes X.body1) own.from ≡ operand.Copy (place_home (home_of X.source.shapes X.body1) own.source)
          by (inl e) = ap (operand_home (is_shared X.body1 (home_of X.source.shapes X.body1)) (home_of X.source.shapes X.body1)) e
          by (inr e) = ap (operand_home (is_shared X.body1 (home_of X.source.shapes X.body1)) (home_of X.source.shapes X.body1)) e ∙ if_true (operand.Copy (place_home (home_of X.source.shapes X.body1) own.source)) (operand.Move (place_home (home_of X.source.shapes X.body1) own.source)) source_shared

      copy_gone : (m1' : Memory) → exec H1 s1.memory (assign p x) ≡ Some m1' → GoneDone m1'
      unfolding exec eval
      copy_gone m1' e =
          let (v, e1, k1) = bind_some e in
          let (d, e2, k2) = bind_some k1 in
          let e0 : read H1 s1.memory own.from ≡ Some v = subst (λ x. eval H1 s1.memory x ≡ Some v) own.use_it e1 in
          let mo0 : MoveOk H1 own.from = subst (λ x. RvalueMoves H1 x) own.use_it mo in
          let (w, g1, hv, q1) = (reads.operand_reads now own.from from_alive mo0).reads s2.memory s1.memory v (moment.first now) e0 in
          let (gw, kept) = copy_reads H2 s2.memory (place_home home q) w own.whole_source (subst (λ o. read H2 s2.memory o ≡ Some w) copied_there g1) in
          let nd : has_deref p.proj ≡ false = ap has_deref own.whole_target in
          let is : d ≡ plain_at H1 p = dest_plain H1 v.1 p d nd e2 in
          let (old, o1, same) = store_split D v.1 m1' (plain_at H1 p) v.0 (subst (λ d. store D v.1 d v.0 ≡ Some m1') is k2) in
          let nl = unlent D X.body1 p.local own.shared_target in
          let (l, h) = writes.gone_write now v.1 p.local v.0 nl (λ o k. (w.0, ap (local_at s2.memory f2) own.one_home ∙ gw, hv.0)) (subst (λ m2. Q m2 v.1) (sym kept) q1) in
          subst GoneDone (ap (λ ps. write v.1 (moment.own1 now p.local ps) v.0) (sym own.whole_target) ∙ same) (l, record { set = with p.local a; covers = covers (assign p x) es p.local (λ y c. (whole_is p y c).0); holds = h })

    -- ---- all of them

    pub gone : (s : TypedStmt) → slice_get k.stmts s1.top.at ≡ Some s → stays shared home s ≡ false → StmtMoves H1 s → (m1' : Memory) → exec H1 s1.memory s ≡ Some m1' → GoneDone m1'
    gone (assign p x) es st mo m1' e = copy_gone p x es (own_copy shared home p x st) mo m1' e
    gone (storage_live x) es st mo m1' e = storage_gone x (storage_live x) es (λ y c. sym (only_one x y c)) (not_false (shared x) st) m1' (live_is x ∙ e)
    gone (storage_dead x) es st mo m1' e = storage_gone x (storage_dead x) es (λ y c. sym (only_one x y c)) (not_false (shared x) st) m1' (dead_is x ∙ e)
    gone (set_discriminant p i) es st mo m1' e = absurd (grind arith)
