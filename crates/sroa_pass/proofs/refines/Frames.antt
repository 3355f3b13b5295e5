-- Frames of the split body: what waits of them, and what comes to them.
use Rattle.std.proofs.Common.{◌≡◌, ◌⊎◌, inl, inr, refl, sym, ap, ◌∙◌, subst, ℕ, ◌+◌, ◌<◌, ◌≤◌, true, List, length, drop, Option, Some, None, slice_get, arith}
use Rattle.std.specs.List.{flat_map}
use Rattle.mir_syntax.specs.Tree.{Tree}
use Rattle.mir_syntax.specs.Shapes.{Shape}
use Rattle.mir_syntax.specs.Crate.{TypedStmt, TypedBlock}
use Rattle.mir_semantics.specs.Values.{Addr, Value}
use Rattle.mir_semantics.specs.Memory.{Memory, local_at, value_at, write}
use Rattle.mir_semantics.specs.Step.{Dest, Control, allows, store}
use Rattle.mir_renaming.specs.Renaming.{Renaming, AddrRel, SomeRel, Sub}
use Rattle.mir_syntax.proofs.Binds.{bind_some, some_bind}
use Rattle.mir_renaming.proofs.Memory.{fewer}
use Rattle.mir_renaming.proofs.Ghosts.{value_mono}
use Rattle.mir_renaming.proofs.Statements.{Linked, write_linked, only_true, true_only, allows_rel}
use Rattle.mir_renaming.proofs.Types.{TypeMap, AddrTy}
use Rattle.mir_renaming.proofs.Agree.{tight_agree}
use Rattle.mir_renaming.proofs.Stores.{root_of}
use Rattle.mir_relate.specs.Alike.{Same}
use Rattle.mir_relate.specs.Leaves.{Leaves}
use Rattle.mir_relate.specs.Frames.{Change}
use Rattle.mir_relate.proofs.Leaves.{leaves_then, leaves_source, leaves_target, leaves_write}
use Rattle.sroa_pass.proofs.refines.Parts as parts
use Rattle.sroa_pass.proofs.refines.Parts.{Parts, PartOf}
use Rattle.sroa_pass.proofs.Plans.{Has, Plan}
use Rattle.sroa_pass.proofs.refines.Pieces as pieces
use Rattle.sroa_pass.proofs.refines.Pieces.{Roots}

val : {A : Type 0} {x y : A} → Some x ≡ Some y → x ≡ y
val e = grind arith

module _ (X : Change) (P : Plan X.source.shapes X.body1.locals X.body2.locals) (st : TypedStmt → List TypedStmt) where
  abbrev D : List Shape
  D = X.source.shapes

  abbrev ts1 : List Tree
  ts1 = X.body1.locals

  abbrev ts2 : List Tree
  ts2 = X.body2.locals

  -- as far in the block; the number is of the statements left in the source's block
  abbrev pub InBlock : ℕ → Control → Control → Type 0
  InBlock n c2 c1 = (k1 k2 : TypedBlock) → slice_get X.body1.blocks c1.block ≡ Some k1 → slice_get X.body2.blocks c1.block ≡ Some k2 → (drop c2.at k2.stmts ≡ flat_map st (drop c1.at k1.stmts)) × (n ≡ length (drop c1.at k1.stmts))

  abbrev pub Rooted : Renaming → Control → Control → Type 0
  Rooted j c2 c1 = Roots D ts1 ts2 P c2.frame c1.frame j

  -- where the frame stands
  pub record Stand (n : ℕ) (j : Renaming) (c2 c1 : Control) : Type 0 where
    pub function1 : c1.function ≡ X.f
    pub function2 : c2.function ≡ X.f
    pub block : c2.block ≡ c1.block
    pub calm : c1.dropping ≡ None
    pub roots : Rooted j c2 c1
    pub here : InBlock n c2 c1

  -- what nobody has lent
  pub record Own (j : Renaming) (c2 c1 : Control) (m2 m1 : Memory) : Type 0 where
    pub stays : (x y : ℕ) → P.stays x ≡ Some y → P.lent x ≡ None → (v : Value) → local_at m1 c1.frame x ≡ Some v → SomeRel j v (local_at m2 c2.frame y)
    pub fields : Parts j c2.frame c1.frame P.split (Has D ts1) m2 m1

  pub moved : (n n' : ℕ) (j : Renaming) (c2 c1 c2' c1' : Control) → c2'.frame ≡ c2.frame → c1'.frame ≡ c1.frame → c2'.function ≡ c2.function → c1'.function ≡ c1.function → c2'.block ≡ c1'.block → c1'.dropping ≡ None → InBlock n' c2' c1' → Stand n j c2 c1 → Stand n' j c2' c1'
  moved n n' j c2 c1 c2' c1' a2 a1 f2 f1 b d h s = record {
    function1 = f1 ∙ s.function1;
    function2 = f2 ∙ s.function2;
    block = b;
    calm = d;
    roots = subst (λ k. Roots D ts1 ts2 P k c1'.frame j) (sym a2) (subst (λ k. Roots D ts1 ts2 P c2.frame k j) (sym a1) s.roots);
    here = h;
  }

  -- steps that leave the frames below leave all of that
  roots_kept : (G : TypeMap) (j j' : Renaming) (c2 c1 : Control) (n2 n1 : ℕ) (m2' m1' m2 m1 : Memory) → c1.frame < n1 → c2.frame < n2 → Leaves D G j j' n2 n1 m2' m1' m2 m1 → Rooted j c2 c1 → Rooted j' c2 c1
  roots_kept G j j' c2 c1 n2 n1 m2' m1' m2 m1 l1 l2 l r = record {
    roots = λ x y e. l.up c1.frame x _ (r.roots x y e);
    none = λ x e. l.same1 c1.frame x l1 ∙ r.none x e;
    only = λ h x y e. r.only h x y (l.same2 h x c2.frame y l2 e);
  }

  pub stand_kept : (G : TypeMap) (j j' : Renaming) (n : ℕ) (c2 c1 : Control) (n2 n1 : ℕ) (m2' m1' m2 m1 : Memory) → c1.frame < n1 → c2.frame < n2 → Leaves D G j j' n2 n1 m2' m1' m2 m1 → Stand n j c2 c1 → Stand n j' c2 c1
  stand_kept G j j' n c2 c1 n2 n1 m2' m1' m2 m1 l1 l2 l s = record { function1 = s.function1; function2 = s.function2; block = s.block; calm = s.calm; here = s.here; roots = roots_kept G j j' c2 c1 n2 n1 m2' m1' m2 m1 l1 l2 l s.roots }

  some_up : (j j' : Renaming) → Sub j j' → (v : Value) (o o' : Option Value) → o' ≡ o → SomeRel j v o → SomeRel j' v o'
  some_up j j' up v o o' e (w, g, r) = (w, e ∙ g, value_mono j j' up v w r)

  pub own_kept : (G : TypeMap) (j j' : Renaming) (c2 c1 : Control) (n2 n1 : ℕ) (m2' m1' m2 m1 : Memory) → c1.frame < n1 → c2.frame < n2 → Leaves D G j j' n2 n1 m2' m1' m2 m1 → Rooted j c2 c1 → Own j c2 c1 m2 m1 → Own j' c2 c1 m2' m1'
  own_kept G j j' c2 c1 n2 n1 m2' m1' m2 m1 l1 l2 l r o = record {
    stays = λ x y s n v e. some_up j j' l.up v _ _ (l.target c2.frame y l2 (λ h z q. alone x y s n h z q)) (o.stays x y s n v (sym (l.source c1.frame x l1 (r.none x n)) ∙ e));
    fields = record { at = λ x y i s hi v u e1 e2. some_up j j' l.up u _ _ (l.target c2.frame (y + i) l2 (λ h z q. pieces.nobody D ts1 ts2 P c2.frame c1.frame j r x y i s hi h z q)) (o.fields.at x y i s hi v u (sym (l.source c1.frame x l1 (r.none x (unlent x y s))) ∙ e1) e2) };
  }
    where
      alone : (x y : ℕ) → P.stays x ≡ Some y → P.lent x ≡ None → (h z : ℕ) → j h z ≡ Some (c2.frame, y) → ⊥
      alone x y s n h z q =
          let (a, b) = r.only h z y q in
          let same : z ≡ x = sym (P.same z y (P.lends z y b)) ∙ P.same x y s in
          let k : ◌≡◌ {A = Option ℕ} None (Some y) = sym n ∙ ap P.lent (sym same) ∙ b in
          grind arith

      unlent : (x y : ℕ) → P.split x ≡ Some y → P.lent x ≡ None
      unlent x y s = go (P.lent x) refl
        where
          go : (p : Option ℕ) → P.lent x ≡ p → P.lent x ≡ None
          go None q = q
          go (Some z) q = absurd (let k : ◌≡◌ {A = Option ℕ} None (Some z) = sym (P.away x y s) ∙ P.lends x z q in grind arith)

  -- ---- the memories of a frame that runs

  module _ (j : Renaming) (c2 c1 : Control) (r : Rooted j c2 c1) where
    abbrev pub f2 : ℕ
    f2 = c2.frame

    abbrev pub f1 : ℕ
    f1 = c1.frame

    abbrev pub K : Renaming
    K = pieces.K D ts1 ts2 P f2 f1 j r

    abbrev pub low : Sub j K
    low = pieces.low D ts1 ts2 P f2 f1 j r

    abbrev pub AddrTo : Addr → Addr → Type 0
    AddrTo = pieces.AddrTo D ts1 ts2 P f2 f1 j r

    pub linked_all : (m2 m1 : Memory) → Linked j j m2 m1 → Own j c2 c1 m2 m1 → Linked j K m2 m1
    linked_all m2 m1 l o = record { mem = record { at = λ f x g y e v q. at f x g y v q (pieces.both_at D ts1 ts2 P f2 f1 j r f x g y e) }; apart = λ f x f' x' p u u' e e' k k'. apart f x f' x' p u u' e e' k k' (pieces.both_at D ts1 ts2 P f2 f1 j r f x p.0 p.1 e) (pieces.both_at D ts1 ts2 P f2 f1 j r f' x' p.0 p.1 e') }
      where
        here : (x y : ℕ) (v : Value) → P.stays x ≡ Some y → (p : Option ℕ) → P.lent x ≡ p → local_at m1 f1 x ≡ Some v → SomeRel j v (local_at m2 f2 y)
        here x y v s None n q = o.stays x y s n v q
        here x y v s (Some z) n q = l.mem.at f1 x f2 y (r.roots x z n ∙ ap (λ z. Some (f2, z)) (let k : z ≡ y = val (sym (P.lends x z n) ∙ s) in k)) v q

        at : (f x g y : ℕ) (v : Value) → local_at m1 f x ≡ Some v → ((f ≡ f1) × (g ≡ f2) × (P.stays x ≡ Some y)) ⊎ ((f1 ≡ f → ⊥) × (j f x ≡ Some (g, y))) → SomeRel j v (local_at m2 g y)
        at f x g y v q (inl h) = subst (λ g. SomeRel j v (local_at m2 g y)) (sym h.1) (here x y v h.2 (P.lent x) refl (ap (λ f. local_at m1 f x) (sym h.0) ∙ q))
        at f x g y v q (inr h) = l.mem.at f x g y h.1 v q

        apart : (f x f' x' : ℕ) (p : ℕ × ℕ) (u u' : Value) → K f x ≡ Some p → K f' x' ≡ Some p → local_at m1 f x ≡ Some u → local_at m1 f' x' ≡ Some u' → ((f ≡ f1) × (p.0 ≡ f2) × (P.stays x ≡ Some p.1)) ⊎ ((f1 ≡ f → ⊥) × (j f x ≡ Some p)) → ((f' ≡ f1) × (p.0 ≡ f2) × (P.stays x' ≡ Some p.1)) ⊎ ((f1 ≡ f' → ⊥) × (j f' x' ≡ Some p)) → (f ≡ f') × (x ≡ x')
        apart f x f' x' p u u' e e' k k' (inl h) (inl h') = (h.0 ∙ sym h'.0, sym (P.same x p.1 h.2) ∙ P.same x' p.1 h'.2)
        apart f x f' x' p u u' e e' k k' (inl h) (inr h') = absurd (h'.0 (sym (r.only f' x' p.1 (h'.1 ∙ ap (λ g. Some (g, p.1)) h.1)).0))
        apart f x f' x' p u u' e e' k k' (inr h) (inl h') = absurd (h.0 (sym (r.only f x p.1 (h.1 ∙ ap (λ g. Some (g, p.1)) h'.1)).0))
        apart f x f' x' p u u' e e' k k' (inr h) (inr h') = l.apart f x f' x' p u u' h.1 h'.1 k k'

    pub lent_part : (m2 m1 : Memory) → Linked j K m2 m1 → Linked j j m2 m1
    lent_part m2 m1 l = record { mem = fewer j K j m2 m1 low l.mem; apart = λ f x f' x' p u u' e e' k k'. l.apart f x f' x' p u u' (low f x p e) (low f' x' p e') k k' }

    pub own_part : (m2 m1 : Memory) → Linked j K m2 m1 → Parts j f2 f1 P.split (Has D ts1) m2 m1 → Own j c2 c1 m2 m1
    own_part m2 m1 l p = record { stays = λ x y s n v e. l.mem.at f1 x f2 y (pieces.at_stays D ts1 ts2 P f2 f1 j r x y s) v e; fields = p }

    -- a result comes to a place of the frame
    pub comes : (G : TypeMap) (m2 m1 m1' : Memory) (d c : Dest) (t : Tree) (v w : Value) → Linked j K m2 m1 → Parts j f2 f1 P.split (Has D ts1) m2 m1 → AddrTo d.addr c.addr → d.guard ≡ c.guard → AddrTy D G d.addr t → Same j v w → store D m1 d v ≡ Some m1' → (m2' : Memory) × (store D m2 c w ≡ Some m2') × Linked j K m2' m1' × Parts j f2 f1 P.split (Has D ts1) m2' m1' × Leaves D G j j f2 f1 m2' m1' m2 m1
    unfolding store
    comes G m2 m1 m1' d c t v w l p h gd at hv e =
        let (old, e1, k1) = bind_some e in
        let (ok, same) = only_true (allows D d.guard old) (write m1 d.addr v) m1' k1 in
        let (old', g1, h1) = parts.value_to j K low f2 f1 P.split (Has D ts1) P.owner P.back (pieces.away D ts1 ts2 P f2 f1 j r) (pieces.free D ts1 ts2 P f2 f1 j r) m2 m1 l.mem p d.addr c.addr old h e1 in
        let ok' : allows D c.guard old' ≡ true = subst (λ g. allows D g old' ≡ true) gd (allows_rel j D d.guard old old' h1 ok) in
        let (l', p', lv) = both d.addr c.addr old h at e1 in
        let (l2, p2, lv2) = subst (λ m. Linked j K (write m2 c.addr w) m × Parts j f2 f1 P.split (Has D ts1) (write m2 c.addr w) m × Leaves D G j j f2 f1 (write m2 c.addr w) m m2 m1) same (l', p', lv) in
        (write m2 c.addr w, some_bind _ g1 (true_only _ (write m2 c.addr w) ok'), l2, p2, lv2)
      where
        lent_or_not : (a b : Addr) (old : Value) → AddrRel K a b → AddrTy D G a t → value_at m1 a ≡ Some old → (j a.frame a.local ≡ Some (b.frame, b.local)) ⊎ ((j a.frame a.local ≡ None) × (f1 ≤ a.frame) × (f2 ≤ b.frame) × ((h' x' : ℕ) → j h' x' ≡ Some (b.frame, b.local) → ⊥)) → Leaves D G j j f2 f1 (write m2 b w) (write m1 a v) m2 m1
        lent_or_not a b old h at e (inl q) =
            let (o, eo) = root_of m1 a old e in
            leaves_write D G j m2 m1 a b v w (fewer j K j m2 m1 low l.mem) (record { root = q; path = h.path }) t at (tight_agree D v w t hv.1) (λ f x u k z. l.apart f x a.frame a.local (b.frame, b.local) u o (low f x _ k) h.root z eo) f2 f1
        lent_or_not a b old h at e (inr (q, l1, l2, out)) = leaves_then D G j j j f2 f1 m2 m1 m2 (write m1 a v) (write m2 b w) (write m1 a v) (leaves_source D G j m2 m1 a v f2 f1 l1) (leaves_target D G j m2 (write m1 a v) b w f2 f1 out l2)

        both : (a b : Addr) (old : Value) → AddrTo a b → AddrTy D G a t → value_at m1 a ≡ Some old → Linked j K (write m2 b w) (write m1 a v) × Parts j f2 f1 P.split (Has D ts1) (write m2 b w) (write m1 a v) × Leaves D G j j f2 f1 (write m2 b w) (write m1 a v) m2 m1
        both a b old (inl h) at e = (write_linked j K m2 m1 a b v w old l h hv.0 e, parts.else_parts j K low f2 f1 P.split (Has D ts1) P.owner P.back (pieces.away D ts1 ts2 P f2 f1 j r) (pieces.free D ts1 ts2 P f2 f1 j r) m2 m1 a b v w p h, lent_or_not a b old h at e (pieces.nears D ts1 ts2 P f2 f1 j r a.frame a.local b.frame b.local h.root))
        both a b old (inr h) at e =
            let (mem, fs) = parts.write_part j K low f2 f1 P.split (Has D ts1) P.owner P.back (pieces.away D ts1 ts2 P f2 f1 j r) (pieces.free D ts1 ts2 P f2 f1 j r) m2 m1 a b v w l.mem p h hv.0 in
            (pieces.linked_source D ts1 ts2 P f2 f1 j r m2 m1 (write m2 b w) a v l mem, fs, leaves_then D G j j j f2 f1 m2 m1 m2 (write m1 a v) (write m2 b w) (write m1 a v) (pieces.leaves_field1 D ts1 ts2 P f2 f1 j r G m2 m1 a v a.local h.first h.frame1 refl h.split) (pieces.leaves_field2 D ts1 ts2 P f2 f1 j r G m2 (write m1 a v) b w a.local h.first h.field h.frame2 h.local h.split h.has))

  -- addresses of the frame's places
  pub addr_up : (j j' : Renaming) (c2 c1 : Control) (r : Rooted j c2 c1) (r' : Rooted j' c2 c1) → Sub j j' → (a b : Addr) → AddrTo j c2 c1 r a b → AddrTo j' c2 c1 r' a b
  addr_up j j' c2 c1 r r' up a b (inr h) = inr h
  addr_up j j' c2 c1 r r' up a b (inl h) = inl (record { root = go (pieces.both_at D ts1 ts2 P c2.frame c1.frame j r a.frame a.local b.frame b.local h.root); path = h.path })
    where
      go : ((a.frame ≡ c1.frame) × (b.frame ≡ c2.frame) × (P.stays a.local ≡ Some b.local)) ⊎ ((c1.frame ≡ a.frame → ⊥) × (j a.frame a.local ≡ Some (b.frame, b.local))) → K j' c2 c1 r' a.frame a.local ≡ Some (b.frame, b.local)
      go (inl p) = ap (λ f. K j' c2 c1 r' f a.local) p.0 ∙ pieces.at_stays D ts1 ts2 P c2.frame c1.frame j' r' a.local b.local p.2 ∙ ap (λ f. Some (f, b.local)) (sym p.1)
      go (inr p) = pieces.low D ts1 ts2 P c2.frame c1.frame j' r' a.frame a.local _ (up a.frame a.local _ p.1)
