-- A frame of the merged body at work: what is related, what writes keep, and what both frames read.
use Rattle.std.proofs.Common.{◌≡◌, ◌⊎◌, inl, inr, refl, sym, ap, ◌∙◌, subst, ℕ, Bool, true, false, List, [], Some, None, slice_get, arith}
use Rattle.mir_syntax.specs.declared.body.Proj.{Proj}
use Rattle.mir_syntax.specs.declared.body.Place.{Place}
use Rattle.mir_syntax.specs.Tree.{Tree}
use Rattle.mir_syntax.specs.Shapes.{Shape, needs_drop}
use Rattle.mir_syntax.specs.Parts.{has_deref}
use Rattle.mir_syntax.proofs.Binds.{bind_some, some_bind}
use Rattle.mir_semantics.specs.Values.{Addr, Value, at_path, put, blank}
use Rattle.mir_semantics.specs.Memory.{Memory, local_at, value_at, write}
use Rattle.mir_semantics.specs.Step.{Here, Control, State, local_addr, resolve, type_of, to_block}
use Rattle.mir_renaming.specs.Renaming.{Renaming, AddrRel, ValueRel, Sub, MemRel, AddrThere}
use Rattle.mir_renaming.proofs.Memory.{at_path_rel, put_rel, put_same, value_at_rel, write_again}
use Rattle.mir_renaming.proofs.Statements as text
use Rattle.mir_renaming.proofs.Statements.{Linked, DestRel, write_linked, const_rel, blank_rel}
use Rattle.mir_renaming.proofs.Types.{AddrTy, HasTy, MemTy, write_ty, value_at_ty, blank_any, LocalsTy}
use Rattle.mir_renaming.proofs.Agree.{tight_agree}
use Rattle.mir_renaming.proofs.Stores.{root_of}
use Rattle.mir_renaming.proofs.Walks.{walk_plain, walk_deref_rel}
use Rattle.mir_renaming.proofs.Among.{Among}
use Rattle.mir_relate.specs.Alike.{Between, Sides, Same, Refers, Shows}
use Rattle.mir_relate.specs.Frames.{Change, Pass, Below}
use Rattle.mir_relate.specs.Leaves.{Leaves}
use Rattle.mir_relate.specs.Pass.{Valids, Related}
use Rattle.mir_relate.proofs.Renumbered.{place_same}
use Rattle.mir_relate.proofs.Leaves.{some_val, leaves_none, leaves_then, leaves_write, leaves_alone, leaves_source}
use Rattle.mir_relate.proofs.Living.{Placed, unlent_linked}
use Rattle.mir_relate.proofs.OneForOne.{home_lent, home_none}
use Rattle.mir_relate.proofs.Own as own
use Rattle.mir_relate.proofs.Running as running
use Rattle.mir_relate.proofs.Single.{stand_moved, addr_is}
use Rattle.escape_info.specs.Borrowed.{borrowed}
use Rattle.liveness.specs.Live.{Live}
use Rattle.dest_prop.specs.Merged.{home_of, is_shared, place_home, merged_by}
use Rattle.dest_prop.proofs.Homes.{types, sole, sole_self, lent_sole}
use Rattle.dest_prop.proofs.refines.Fills.{rel_fills, put_both}
use Rattle.dest_prop.proofs.refines.Housed.{Housed, Homes, homed, homed_at, homed_low, homed_mem, housed_more, lent_housed, alone_housed, own_linked, own_leaves, own_housed, gone_housed}
use Rattle.dest_prop.proofs.refines.Frames as frames
use Rattle.dest_prop.proofs.refines.Frames.{Filled, Later, Lives, Standing, InBlock}
use Rattle.dest_prop.proofs.refines.Starts.{frame_laws}

-- two states whose top frames are of the merged body
pub record Moment (X : Change) (once : X.body2 ≡ merged_by (is_shared X.body1 (home_of X.source.shapes X.body1)) (home_of X.source.shapes X.body1) X.body1) (V : Valids X) (Inv : State → Type 0) : Type 1 where
  pub n : ℕ
  pub s2 : State
  pub s1 : State
  pub r : Related X (frames.pass X once) V Inv n s2 s1
  pub st : Standing X once n r.core.lent s2.top s1.top
  pub lives : Lives X once (Later X.source.shapes X.body1.locals) r.core.lent s2.top s1.top s2.memory s1.memory
  pub below : Below X (frames.pass X once) r.core.lent s2.top.dest s1.top.dest s2.top.frame s1.top.frame s2.callers s1.callers s2.memory s1.memory

module _ {X : Change} {once : X.body2 ≡ merged_by (is_shared X.body1 (home_of X.source.shapes X.body1)) (home_of X.source.shapes X.body1) X.body1} {V : Valids X} {Inv : State → Type 0} (now : Moment X once V Inv) where
  open now use {n, s2, s1, r, st, lives, r.{core.{lent as j}, typed1.{types as G}}, s2.{top.{frame as f2}}, s1.{top.{frame as f1}}, lives.{set as a}}

  abbrev D : List Shape
  D = X.source.shapes

  abbrev P : Pass
  P = frames.pass X once

  abbrev pub home : ℕ → ℕ
  home = home_of X.source.shapes X.body1

  abbrev pub shared : ℕ → Bool
  shared = is_shared X.body1 (home_of X.source.shapes X.body1)

  abbrev pub lent : ℕ → Bool
  lent = borrowed X.source.shapes X.body1

  abbrev ts1 : List Tree
  ts1 = X.body1.locals

  abbrev ts2 : List Tree
  ts2 = X.body2.locals

  abbrev pub L : Renaming
  L = homed j f2 f1 home lives.set

  abbrev bok : (t : Tree) → HasTy D G t (blank D t)
  bok = V.valid1.blank_ok G

  pub lok : LocalsTy G ts1 f1
  lok = running.locals_ok r st.function1 st.function2

  pub lok2 : (x : ℕ) (t : Tree) → slice_get ts2 x ≡ Some t → r.typed2.types f2 x ≡ Some t
  lok2 = r.typed2.top.locals X.body2 (running.body2_at r st.function1 st.function2)

  pub pl : Placed j f2 f1
  pl = frames.placed X once n j s2.top s1.top st

  pub hs : Homes j f2 f1 home
  hs = frames.homes X once n j s2.top s1.top st

  pub low : Sub j L
  low = homed_low j f2 f1 home pl hs a

  pub types_home : (x : ℕ) → slice_get ts1 x ≡ slice_get ts2 (home x)
  types_home x = sym (types D X.body1 x) ∙ ap (λ ts. slice_get ts (home x)) (sym (frames.same_locals X once))

  -- a place has the type of the one at its home
  pub ty_home : (p : Place) → type_of (record { shapes = D; locals = ts2; frame = f2 }) (place_home home p) ≡ type_of (record { shapes = D; locals = ts1; frame = f1 }) p
  unfolding type_of
  ty_home p = place_same D ts1 ts2 (λ x y. y ≡ home x) (λ x y e. types_home x ∙ ap (slice_get ts2) (sym e)) p (place_home home p) (refl, refl)

  -- at the start the homes have what their members have
  pub first_holds : Housed j f2 f1 home Filled a s2.memory s1.memory
  first_holds = housed_more j f2 f1 home (Later D ts1) Filled a s2.memory s1.memory (λ x v w e g h. h r.typed2.types (λ t et. r.typed2.mem.at f2 (home x) t w (r.typed2.top.locals X.body2 (running.body2_at r st.function1 st.function2) (home x) t (sym (types_home x) ∙ et)) g)) lives.holds

  -- what both know of their memories
  pub record Known (m2 m1 : Memory) : Type 0 where
    pub linked : Linked j j m2 m1
    pub typed : MemTy D G m1
    pub typed2 : MemTy D r.typed2.types m2
    pub holds : Housed j f2 f1 home Filled lives.set m2 m1
    pub leaves : Leaves D G j j f2 f1 m2 m1 s2.memory s1.memory

  abbrev pub Q : Between
  Q m2 m1 = Known m2 m1

  pub first : Q s2.memory s1.memory
  first = record { linked = r.core.linked; typed = r.typed1.mem; typed2 = r.typed2.mem; holds = first_holds; leaves = leaves_none D G j f2 f1 s2.memory s1.memory }

  pub mem : (m2 m1 : Memory) → Q m2 m1 → MemRel j L m2 m1
  mem m2 m1 q = homed_mem j f2 f1 home pl hs a Filled m2 m1 q.linked.mem q.holds

  abbrev pub S : Sides
  S = record { target = record { shapes = D; locals = ts2; frame = f2 }; source = record { shapes = D; locals = ts1; frame = f1 }; lent = j }

  abbrev pub H1 : Here
  H1 = record { shapes = D; locals = ts1; frame = f1 }

  abbrev pub H2 : Here
  H2 = record { shapes = D; locals = ts2; frame = f2 }

  abbrev pub Left : Memory → Memory → Type 0
  Left = own.Left X P V Inv (frame_laws X once V Inv) n s2 s1 r [] s1.callers refl (omega arith) now.below

  pub left : (m2 m1 : Memory) → Q m2 m1 → Left m2 m1
  left m2 m1 q = (q.linked, q.leaves)

  -- lent or alive
  abbrev pub Alive : ℕ → Type 0
  Alive x = (lent x ≡ true) ⊎ (a x ≡ true)

  pub lent_home : (x : ℕ) → lent x ≡ true → home x ≡ x
  lent_home x e = sole_self D X.body1 x (lent_sole D X.body1 x e)

  pub lent_at : (x : ℕ) → lent x ≡ true → j f1 x ≡ Some (f2, home x)
  lent_at x e = st.roots x x (home_lent (borrowed X.source.shapes X.body1) x e) ∙ ap (λ y. Some (f2, y)) (sym (lent_home x e))

  pub unlent_at : (x : ℕ) → lent x ≡ false → j f1 x ≡ None
  unlent_at x e = st.none x (home_none (borrowed X.source.shapes X.body1) x e)

  abbrev pub A : Among
  A x = L f1 x ≡ Some (f2, home x)

  pub at : (x : ℕ) → Alive x → A x
  at x (inl e) = low f1 x _ (lent_at x e)
  at x (inr e) = homed_at j f2 f1 home pl hs a x e

  -- ---- where the frame stands

  pub moved : (n' : ℕ) (c2 c1 : Control) → c2.frame ≡ f2 → c1.frame ≡ f1 → c2.function ≡ s2.top.function → c1.function ≡ s1.top.function → c2.block ≡ c1.block → c1.dropping ≡ None → InBlock X once n' c2 c1 → Standing X once n' j c2 c1
  moved n' c2 c1 a2 a1 g2 g1 b d h = stand_moved X.f (frames.place X once) (frames.InBlock X once) n n' j s2.top s1.top c2 c1 a2 a1 g2 g1 b d h st

  -- what lives at the start of a block
  abbrev pub Covered : ℕ → Type 0
  Covered u = (x : ℕ) → Live D X.body1 u 0 x → Alive x

  pub edge_filled : (m2 m1 : Memory) (u : ℕ) → Covered u → Q m2 m1 → (n' : ℕ) × Standing X once n' j (to_block u s2.top) (to_block u s1.top) × Lives X once Filled j (to_block u s2.top) (to_block u s1.top) m2 m1
  edge_filled m2 m1 u cov q =
      let (n', h) = frames.begins_at X once (to_block u s2.top) (to_block u s1.top) refl refl in
      (n', moved n' (to_block u s2.top) (to_block u s1.top) refl refl refl refl refl refl h, record { set = a; covers = cov; holds = q.holds })

  pub edge : (m2 m1 : Memory) (u : ℕ) → Covered u → Q m2 m1 → (n' : ℕ) × P.own n' j (to_block u s2.top) (to_block u s1.top) [] m2 m1
  edge m2 m1 u cov q = (let (n', st', lv) = edge_filled m2 m1 u cov q in (n', (refl, st', frames.later X once j (to_block u s2.top) (to_block u s1.top) m2 m1 lv)))

  -- ---- writes

  pub both_lent : (m2 m1 : Memory) (b1 b2 : Addr) (t : Tree) (v w old : Value) → Q m2 m1 → AddrRel j b1 b2 → AddrTy D G b1 t → value_at m1 b1 ≡ Some old → HasTy D G t v → AddrTy D r.typed2.types b2 t → HasTy D r.typed2.types t w → Same j v w → Q (write m2 b2 w) (write m1 b1 v)
  both_lent m2 m1 b1 b2 t v w old q ab at e ty at2 ty2 hv =
      let (o, eo) = root_of m1 b1 old e in
      record {
        linked = write_linked j j m2 m1 b1 b2 v w old q.linked ab hv.0 e;
        typed = write_ty D G m1 b1 t v q.typed at ty;
        typed2 = write_ty D r.typed2.types m2 b2 t w q.typed2 at2 ty2;
        holds = lent_housed j f2 f1 home pl hs Filled a m2 m1 b1 b2 v w ab q.holds;
        leaves = leaves_then D G j j j f2 f1 s2.memory s1.memory m2 m1 (write m2 b2 w) (write m1 b1 v) q.leaves (leaves_write D G j m2 m1 b1 b2 v w q.linked.mem ab t at (tight_agree D v w t hv.1) (λ h x u k z. q.linked.apart h x b1.frame b1.local (b2.frame, b2.local) u o k ab.root z eo) f2 f1);
      }

  pub alone_lent : (m2 m1 : Memory) (b1 b2 : Addr) (t : Tree) (v w old : Value) → Q m2 m1 → AddrRel j b1 b2 → AddrTy D G b1 t → needs_drop D t ≡ false → value_at m1 b1 ≡ Some old → value_at m2 b2 ≡ Some w → HasTy D G t v → ValueRel j v w → Q m2 (write m1 b1 v)
  alone_lent m2 m1 b1 b2 t v w old q ab at nd e1 e2 ty rel =
      let (o, eo) = root_of m1 b1 old e1 in
      let l' = write_linked j j m2 m1 b1 b2 v w old q.linked ab rel e1 in
      record {
        linked = record { apart = l'.apart; mem = record { at = λ f x g y ll u' e. (let (z, g2, r2) = l'.mem.at f x g y ll u' e in (z, sym (write_again m2 b2 w g y e2) ∙ g2, r2)) } };
        typed = write_ty D G m1 b1 t v q.typed at ty;
        typed2 = q.typed2;
        holds = alone_housed j f2 f1 home pl hs Filled a m2 m1 b1 b2 v ab q.holds;
        leaves = leaves_then D G j j j f2 f1 s2.memory s1.memory m2 m1 m2 (write m1 b1 v) q.leaves (leaves_alone D G V.needs j m2 m1 b1 b2 v w t f2 f1 q.linked.mem ab at nd e2 (λ h x u k z. q.linked.apart h x b1.frame b1.local (b2.frame, b2.local) u o k ab.root z eo));
      }

  abbrev pub own1 : ℕ → List Proj → Addr
  own1 x ps = record { frame = f1; local = x; path = ps }

  abbrev pub own2 : ℕ → List Proj → Addr
  own2 x ps = record { frame = f2; local = home x; path = ps }

  -- a move out of a local that isn't shared
  pub both_own : (m2 m1 : Memory) (x : ℕ) (ps : List Proj) (t : Tree) (v w : Value) → lent x ≡ false → shared x ≡ false → Q m2 m1 → AddrTy D G (own1 x ps) t → HasTy D G t v → AddrTy D r.typed2.types (own2 x ps) t → HasTy D r.typed2.types t w → ValueRel j v w → Q (write m2 (own2 x ps) w) (write m1 (own1 x ps) v)
  both_own m2 m1 x ps t v w nl ns q at ty at2 ty2 rel = record {
    linked = own_linked j f2 f1 home pl hs Filled a x (unlent_at x nl) ps m2 m1 v w q.linked;
    typed = write_ty D G m1 (own1 x ps) t v q.typed at ty;
    typed2 = write_ty D r.typed2.types m2 (own2 x ps) t w q.typed2 at2 ty2;
    holds = own_housed j f2 f1 home pl hs Filled a x (unlent_at x nl) ps a m2 m1 v w (λ y by. inl (by, λ e. sole D X.body1 x y ns e)) rel (λ v0 w0 h. put_both ps v w (rel_fills j v w rel) v0 w0 h) (λ y u w0 e ne k g h. absurd (ne (sole D X.body1 x y ns e))) q.holds;
    leaves = leaves_then D G j j j f2 f1 s2.memory s1.memory m2 m1 (write m2 (own2 x ps) w) (write m1 (own1 x ps) v) q.leaves (own_leaves j f2 f1 home pl hs Filled a x (unlent_at x nl) ps D G m2 m1 v w);
  }

  -- the source alone writes into a local that lives, where its home has such a value already
  pub alone_own_as : (m2 m1 : Memory) (x : ℕ) (ps : List Proj) (t : Tree) (old v : Value) → lent x ≡ false → a x ≡ true → Q m2 m1 → AddrTy D G (own1 x ps) t → value_at m1 (own1 x ps) ≡ Some old → HasTy D G t v → ((w : Value) → value_at m2 (own2 x ps) ≡ Some w → ValueRel j v w) → Q m2 (write m1 (own1 x ps) v)
  unfolding value_at
  alone_own_as m2 m1 x ps t old v nl ax q at e ty fits = record {
    linked = unlent_linked j m2 m1 (own1 x ps) v (unlent_at x nl) q.linked;
    typed = write_ty D G m1 (own1 x ps) t v q.typed at ty;
    typed2 = q.typed2;
    holds = gone_housed j f2 f1 home pl hs Filled a x (unlent_at x nl) ps a m2 m1 v (λ y by ne. by) (λ ay o k. (let (w0, g, rel) = q.holds.at x o (unlent_at x nl) ax k in (w0, g, related o k w0 g rel))) (λ v0 w0 k g h. (let (w1, g1, rel) = q.holds.at x v0 (unlent_at x nl) ax k in rel_fills j (put ps v v0) w0 (subst (λ w. ValueRel j (put ps v v0) w) (some_val (sym g1 ∙ g)) (related v0 k w1 g1 rel)))) q.holds;
    leaves = leaves_then D G j j j f2 f1 s2.memory s1.memory m2 m1 m2 (write m1 (own1 x ps) v) q.leaves (leaves_source D G j m2 m1 (own1 x ps) v f2 f1 (omega arith));
  }
    where
      related : (o : Value) → local_at m1 f1 x ≡ Some o → (w0 : Value) → local_at m2 f2 (home x) ≡ Some w0 → ValueRel j o w0 → ValueRel j (put ps v o) w0
      related o k w0 g rel =
          let (o', e1, e2) = bind_some e in
          let here : at_path ps o ≡ Some old = ap (at_path ps) (some_val (sym k ∙ e1)) ∙ e2 in
          let (w', g', rel') = at_path_rel j ps o w0 old rel here in
          subst (λ w. ValueRel j (put ps v o) w) (put_same ps w' w0 g') (put_rel j ps v w' (fits w' (some_bind _ g g')) o w0 rel)

  -- a move out of a shared one, by the source alone
  pub alone_own : (m2 m1 : Memory) (x : ℕ) (ps : List Proj) (t : Tree) (old : Value) → lent x ≡ false → a x ≡ true → Q m2 m1 → AddrTy D G (own1 x ps) t → value_at m1 (own1 x ps) ≡ Some old → Q m2 (write m1 (own1 x ps) (blank D t))
  alone_own m2 m1 x ps t old nl ax q at e = alone_own_as m2 m1 x ps t old (blank D t) nl ax q at e (bok t) (λ w g. let (w1, g1, rel) = value_at_rel j L m2 m1 (mem m2 m1 q) (own1 x ps) (own2 x ps) (record { root = homed_at j f2 f1 home pl hs a x ax; path = refl }) old e in blank_any D G j t old w (value_at_ty D G m1 (own1 x ps) t old q.typed at e) (subst (λ w. ValueRel j old w) (some_val (sym g1 ∙ g)) rel))

  -- ---- what both read

  abbrev pub PlaceAs : Place → Type 0
  PlaceAs p = text.PlaceRel D ts1 ts2 f1 f2 j L low L p (place_home home p)

  pub place_as : (p : Place) → A p.local → PlaceAs p
  place_as p h = record { root = h; proj = refl; ty = types_home p.local }

  pub resolved : (m2 m1 : Memory) (p : Place) (b1 : Addr) → A p.local → Q m2 m1 → resolve H1 m1 p ≡ Some b1 → AddrThere L b1 (resolve H2 m2 (place_home home p))
  resolved m2 m1 p b1 h q e = text.resolve_rel D ts1 ts2 f1 f2 j L low L low (λ f x r e. e) m2 m1 p (place_home home p) b1 (place_as p h) (mem m2 m1 q) e

  pub shows : (p : Place) → A p.local → Shows S Q p (place_home home p)
  shows p h = record { shows = λ m2 m1 b1 v q e ev. (let (b, g, ab) = resolved m2 m1 p b1 h q e in (b, g, value_at_rel j L m2 m1 (mem m2 m1 q) b1 b ab v ev)) }

  -- what is behind a reference is lent
  pub behind : (m2 m1 : Memory) (p : Place) (b1 : Addr) → A p.local → has_deref p.proj ≡ true → Q m2 m1 → resolve H1 m1 p ≡ Some b1 → AddrThere j b1 (resolve H2 m2 (place_home home p))
  unfolding resolve local_addr
  behind m2 m1 p b1 h d q e = walk_deref_rel j L low m2 m1 (mem m2 m1 q) p.proj _ _ b1 d (record { root = h; path = refl }) e

  -- a place that isn't is the frame's own
  pub plain : (m1 : Memory) (p : Place) (b1 : Addr) → has_deref p.proj ≡ false → resolve H1 m1 p ≡ Some b1 → b1 ≡ own1 p.local p.proj
  unfolding resolve local_addr
  plain m1 p b1 d e = (let (x, y, z) = walk_plain p.proj m1 (record { frame = f1; local = p.local; path = [] }) b1 d e in addr_is b1 (own1 p.local p.proj) x y z)

  pub plain2 : (m2 : Memory) (p : Place) (b2 : Addr) → has_deref p.proj ≡ false → resolve H2 m2 (place_home home p) ≡ Some b2 → b2 ≡ own2 p.local p.proj
  unfolding resolve local_addr
  plain2 m2 p b2 d e = (let (x, y, z) = walk_plain p.proj m2 (record { frame = f2; local = home p.local; path = [] }) b2 d e in addr_is b2 (own2 p.local p.proj) x y z)

  -- a lent local, or one of which a part behind a reference is meant
  abbrev pub Far : Place → Type 0
  Far p = (lent p.local ≡ true) ⊎ (has_deref p.proj ≡ true) × A p.local

  pub far_resolved : (m2 m1 : Memory) (p : Place) (b1 : Addr) → Far p → Q m2 m1 → resolve H1 m1 p ≡ Some b1 → AddrThere j b1 (resolve H2 m2 (place_home home p))
  far_resolved m2 m1 p b1 (inl l) q e = text.resolve_rel D ts1 ts2 f1 f2 j L low j (λ f x r e. e) low m2 m1 p (place_home home p) b1 (record { root = lent_at p.local l; proj = refl; ty = types_home p.local }) (mem m2 m1 q) e
  far_resolved m2 m1 p b1 (inr (d, h)) q e = behind m2 m1 p b1 h d q e

  pub refers : (p : Place) → Far p → Refers S Q p (place_home home p)
  refers p h = record { refers = λ m2 m1 b1 q e. far_resolved m2 m1 p b1 h q e }

  -- far, or in a local that isn't lent
  pub far_or_own : (p : Place) → A p.local → Far p ⊎ ((lent p.local ≡ false) × (has_deref p.proj ≡ false))
  far_or_own p h = go (lent p.local) (has_deref p.proj) refl refl
    where
      go : (b c : Bool) → borrowed X.source.shapes X.body1 p.local ≡ b → has_deref p.proj ≡ c → Far p ⊎ ((borrowed X.source.shapes X.body1 p.local ≡ false) × (has_deref p.proj ≡ false))
      go true c l d = inl (inl l)
      go false true l d = inl (inr (d, h))
      go false false l d = inr (l, d)
