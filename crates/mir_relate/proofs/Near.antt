-- Memories of a running frame whose locals stand for locals of the other side, one for one: what writes of both sides leave.
use Rattle.std.proofs.Common.{◌≡◌, ◌⊎◌, inl, inr, refl, sym, ap₂, ◌∙◌, subst, ℕ, ◌≤◌, Bool, true, false, List, [], ◌∷◌, Some, None, slice_get, arith}
use Rattle.mir_syntax.specs.declared.body.Place.{Place}
use Rattle.mir_syntax.specs.declared.body.Operand.{Operand}
use Rattle.mir_syntax.specs.declared.body.Operand.TheVariants as operand
use Rattle.mir_syntax.specs.Tree.{Tree}
use Rattle.mir_syntax.specs.Crate.{TypedRvalue, «use», binary, overflow, unary, cast, discriminant, tuple, build}
use Rattle.mir_syntax.specs.Crate as rvalue
use Rattle.mir_syntax.specs.Shapes.{Shape, needs_drop}
use Rattle.mir_semantics.specs.Values.{Addr, Value, blank}
use Rattle.mir_semantics.specs.Memory.{Memory, local_at, value_at, write}
use Rattle.mir_semantics.specs.Step.{Dest, local_addr, resolve, type_of, store}
use Rattle.mir_syntax.specs.Parts.{has_deref}
use Rattle.mir_renaming.specs.Renaming.{Renaming, AddrRel, ValueRel, Sub, MemRel}
use Rattle.mir_renaming.proofs.Memory.{value_at_rel, write_other, write_back, write_again, fewer}
use Rattle.mir_renaming.proofs.Statements as text
use Rattle.mir_renaming.proofs.Statements.{Linked, DestRel, store_rel, blank_rel, write_linked, write_clear}
use Rattle.mir_renaming.proofs.Types.{TypeMap, AddrTy, HasTy, MemTy, write_ty, resolve_ty, value_at_ty, blank_any}
use Rattle.mir_renaming.proofs.Agree.{NeedsOk, Agree, tight_agree, tight_self}
use Rattle.mir_renaming.proofs.Stores.{root_of, store_split}
use Rattle.mir_relate.specs.Pass.{MoveOk}
use Rattle.mir_relate.specs.Alike.{Between, Sides, Same}
use Rattle.mir_relate.specs.Leaves.{Leaves}
use Rattle.mir_relate.proofs.Leaves.{leaves_none, leaves_then, leaves_write, leaves_alone, leaves_source, leaves_target}
use Rattle.mir_relate.proofs.Kept as kept
use Rattle.mir_relate.proofs.Kept.{Kept}
use Rattle.mir_relate.proofs.Operands.{Clears}
use Rattle.mir_relate.proofs.Alone.{Spends, AllSpend, RvalueSpends}

-- both store such values at related lent places
pub store_leaves : (D : List Shape) (G : TypeMap) (j : Renaming) (n2 n1 : ℕ) (m2s m1s m2 m1 m1' : Memory) (d c : Dest) (t : Tree) (v w : Value) → Linked j j m2 m1 → Leaves D G j j n2 n1 m2 m1 m2s m1s → DestRel j d c → AddrTy D G d.addr t → Same j v w → store D m1 d v ≡ Some m1' → (m2' : Memory) × (store D m2 c w ≡ Some m2') × Linked j j m2' m1' × Leaves D G j j n2 n1 m2' m1' m2s m1s
store_leaves D G j n2 n1 m2s m1s m2 m1 m1' d c t v w l lv r at hv e =
    let (old, e1, same) = store_split D m1 m1' d v e in
    let (m2', g, l') = store_rel D j j m2 m1 m1' d c v w r hv.0 l e in
    let (old2, e2, same2) = store_split D m2 m2' c w g in
    let (o, eo) = root_of m1 d.addr old e1 in
    let lw = leaves_write D G j m2 m1 d.addr c.addr v w l.mem r.addr t at (tight_agree D v w t hv.1) (λ h x u k z. l.apart h x d.addr.frame d.addr.local (c.addr.frame, c.addr.local) u o k r.addr.root z eo) n2 n1 in
    (m2', g, l', leaves_then D G j j j n2 n1 m2s m1s m2 m1 m2' m1' lv (subst (λ m. Leaves D G j j n2 n1 m2' m m2 m1) same (subst (λ m. Leaves D G j j n2 n1 m (write m1 d.addr v) m2 m1) same2 lw)))

-- what K relates beyond j is of no earlier frames, and nothing stands in j for it
abbrev pub Nears : Renaming → Renaming → ℕ → ℕ → Type 0
Nears j K n2 n1 = (h x g y : ℕ) → K h x ≡ Some (g, y) → (j h x ≡ Some (g, y)) ⊎ ((j h x ≡ None) × (n1 ≤ h) × (n2 ≤ g) × ((h' x' : ℕ) → j h' x' ≡ Some (g, y) → ⊥))

-- the memories, and what is left of those that the frame found
pub record Near (D : List Shape) (G : TypeMap) (j K : Renaming) (n2 n1 : ℕ) (m2s m1s m2 m1 : Memory) : Type 0 where
  pub linked : Linked j K m2 m1
  pub typed : MemTy D G m1
  pub leaves : Leaves D G j j n2 n1 m2 m1 m2s m1s
  pub still : (g y : ℕ) → ((h x : ℕ) → K h x ≡ Some (g, y) → ⊥) → local_at m2 g y ≡ local_at m2s g y
  pub back : (h x : ℕ) (v : Value) → local_at m1 h x ≡ Some v → (u : Value) × (local_at m1s h x ≡ Some u)

module _ (D : List Shape) (ts1 ts2 : List Tree) (f1 f2 : ℕ) (j K : Renaming) (low : Sub j K) (G : TypeMap) (blank_ok : (t : Tree) → HasTy D G t (blank D t)) (locals_ok : (x : ℕ) (t : Tree) → slice_get ts1 x ≡ Some t → G f1 x ≡ Some t) (needs : NeedsOk D) (n2 n1 : ℕ) (m2s m1s : Memory) (near : Nears j K n2 n1) (once : (x y h x' : ℕ) (v : Value) → K f1 x ≡ Some (f2, y) → K h x' ≡ Some (f2, y) → local_at m1s h x' ≡ Some v → (h ≡ f1) × (x' ≡ x)) where
  abbrev pub Q : Between
  Q = Near D G j K n2 n1 m2s m1s

  pub near_start : Linked j K m2s m1s → MemTy D G m1s → Q m2s m1s
  near_start l t = record { linked = l; typed = t; leaves = leaves_none D G j n2 n1 m2s m1s; still = λ g y none. refl; back = λ h x v e. (v, e) }

  low_rel : (m2 m1 : Memory) → Q m2 m1 → MemRel j j m2 m1
  low_rel m2 m1 q = fewer j K j m2 m1 low q.linked.mem

  -- a write of both, wherever it is
  leaves_both : (m2 m1 : Memory) (a b : Addr) (t : Tree) (v w : Value) → Q m2 m1 → AddrRel K a b → AddrTy D G a t → Agree D t v w → ((h x : ℕ) (v : Value) → K h x ≡ Some (b.frame, b.local) → local_at m1 h x ≡ Some v → (h ≡ a.frame) × (x ≡ a.local)) → Leaves D G j j n2 n1 (write m2 b w) (write m1 a v) m2s m1s
  leaves_both m2 m1 a b t v w q ab at hv one = leaves_then D G j j j n2 n1 m2s m1s m2 m1 (write m2 b w) (write m1 a v) q.leaves (go (near a.frame a.local b.frame b.local ab.root))
    where
      go : (j a.frame a.local ≡ Some (b.frame, b.local)) ⊎ ((j a.frame a.local ≡ None) × (n1 ≤ a.frame) × (n2 ≤ b.frame) × ((h' x' : ℕ) → j h' x' ≡ Some (b.frame, b.local) → ⊥)) → Leaves D G j j n2 n1 (write m2 b w) (write m1 a v) m2 m1
      go (inl e) = leaves_write D G j m2 m1 a b v w (low_rel m2 m1 q) (record { root = e; path = ab.path }) t at hv (λ h x u k z. one h x u (low h x _ k) z) n2 n1
      go (inr (e, l1, l2, out)) = leaves_then D G j j j n2 n1 m2 m1 m2 (write m1 a v) (write m2 b w) (write m1 a v) (leaves_source D G j m2 m1 a v n2 n1 l1) (leaves_target D G j m2 (write m1 a v) b w n2 n1 out l2)

  backs : (m2 m1 : Memory) (a : Addr) (v : Value) → Q m2 m1 → (h x : ℕ) (u : Value) → local_at (write m1 a v) h x ≡ Some u → (o : Value) × (local_at m1s h x ≡ Some o)
  backs m2 m1 a v q h x u e = let (o, k) = write_back m1 a v h x u e in q.back h x o k

  stills : (m2 m1 : Memory) (a b : Addr) (w : Value) → Q m2 m1 → AddrRel K a b → (g y : ℕ) → ((h x : ℕ) → K h x ≡ Some (g, y) → ⊥) → local_at (write m2 b w) g y ≡ local_at m2s g y
  stills m2 m1 a b w q ab g y none = write_other m2 b w g y (λ e e'. none a.frame a.local (ab.root ∙ ap₂ (λ g y. Some (g, y)) (sym e) (sym e'))) ∙ q.still g y none

  boths : (m2 m1 : Memory) (a b : Addr) (t : Tree) (v w old : Value) → Q m2 m1 → AddrRel K a b → AddrTy D G a t → value_at m1 a ≡ Some old → HasTy D G t v → Same j v w → Q (write m2 b w) (write m1 a v)
  boths m2 m1 a b t v w old q ab at e ty hv =
      let (o, eo) = root_of m1 a old e in
      record {
        linked = write_linked j K m2 m1 a b v w old q.linked ab hv.0 e;
        typed = write_ty D G m1 a t v q.typed at ty;
        leaves = leaves_both m2 m1 a b t v w q ab at (tight_agree D v w t hv.1) (λ h x u k z. q.linked.apart h x a.frame a.local (b.frame, b.local) u o k ab.root z eo);
        still = stills m2 m1 a b w q ab;
        back = backs m2 m1 a v q;
      }

  clears : (m2 m1 : Memory) (x y : ℕ) (t : Tree) → Q m2 m1 → K f1 x ≡ Some (f2, y) → slice_get ts1 x ≡ Some t → Q (write m2 (local_addr f2 y) (blank D t)) (write m1 (local_addr f1 x) (blank D t))
  unfolding local_addr
  clears m2 m1 x y t q e et =
      let a : Addr = record { frame = f1; local = x; path = [] } in
      let b : Addr = record { frame = f2; local = y; path = [] } in
      let ab : AddrRel K a b = record { root = e; path = refl } in
      let at : AddrTy D G a t = record { local = t; is = locals_ok x t et; path = refl } in
      let B = blank D t in
      let one : (h x' : ℕ) (v : Value) → K h x' ≡ Some (f2, y) → local_at m1 h x' ≡ Some v → (h ≡ f1) × (x' ≡ x) = λ h x' v k z. (let (u, p) = q.back h x' v z in once x y h x' u e k p) in
      record {
        linked = write_clear j K m2 m1 a b B B q.linked ab (blank_rel j D t) (λ h x' u k z. one h x' u k z);
        typed = write_ty D G m1 a t B q.typed at (blank_ok t);
        leaves = leaves_both m2 m1 a b t B B q ab at (tight_agree D B B t (tight_self B)) one;
        still = stills m2 m1 a b B q ab;
        back = backs m2 m1 a B q;
      }

  -- a write of the source alone, in the running frame or of a type that needs no drop
  alones : (m2 m1 : Memory) (a b : Addr) (t : Tree) (v w old : Value) → Q m2 m1 → AddrRel K a b → AddrTy D G a t → (n1 ≤ a.frame) ⊎ (needs_drop D t ≡ false) → value_at m1 a ≡ Some old → value_at m2 b ≡ Some w → HasTy D G t v → ValueRel j v w → Q m2 (write m1 a v)
  alones m2 m1 a b t v w old q ab at nd e1 e2 ty rel =
      let (o, eo) = root_of m1 a old e1 in
      let l' = write_linked j K m2 m1 a b v w old q.linked ab rel e1 in
      record {
        linked = record { apart = l'.apart; mem = record { at = λ f x g y ll u' e. (let (z, f2, r2) = l'.mem.at f x g y ll u' e in (z, sym (write_again m2 b w g y e2) ∙ f2, r2)) } };
        typed = write_ty D G m1 a t v q.typed at ty;
        leaves = leaves_then D G j j j n2 n1 m2s m1s m2 m1 m2 (write m1 a v) q.leaves (by o eo nd);
        still = q.still;
        back = backs m2 m1 a v q;
      }
    where
      go : (o : Value) → local_at m1 a.frame a.local ≡ Some o → needs_drop D t ≡ false → (j a.frame a.local ≡ Some (b.frame, b.local)) ⊎ ((j a.frame a.local ≡ None) × (n1 ≤ a.frame) × (n2 ≤ b.frame) × ((h' x' : ℕ) → j h' x' ≡ Some (b.frame, b.local) → ⊥)) → Leaves D G j j n2 n1 m2 (write m1 a v) m2 m1
      go o eo nd (inl e) = leaves_alone D G needs j m2 m1 a b v w t n2 n1 (low_rel m2 m1 q) (record { root = e; path = ab.path }) at nd e2 (λ h x u k z. q.linked.apart h x a.frame a.local (b.frame, b.local) u o (low h x _ k) ab.root z eo)
      go o eo nd (inr (e, l1, l2, out)) = leaves_source D G j m2 m1 a v n2 n1 l1

      by : (o : Value) → local_at m1 a.frame a.local ≡ Some o → (n1 ≤ a.frame) ⊎ (needs_drop D t ≡ false) → Leaves D G j j n2 n1 m2 (write m1 a v) m2 m1
      by o eo (inl le) = leaves_source D G j m2 m1 a v n2 n1 le
      by o eo (inr nd) = go o eo nd (near a.frame a.local b.frame b.local ab.root)

  pub near_kept : Kept D ts1 ts2 f1 f2 j K low G blank_ok locals_ok Q
  near_kept = record {
    rel = λ m2 m1 q. q.linked.mem;
    typed = λ m2 m1 q. q.typed;
    both = λ m2 m1 a b t v w old q ab at e fair ty hv. boths m2 m1 a b t v w old q ab at e ty hv;
    clear = clears;
    alone = λ m2 m1 a b t v w old q ab at nd e1 e2 ty rel. alones m2 m1 a b t v w old q ab at (inr nd) e1 e2 ty rel;
  }

  abbrev S : Sides
  S = kept.sides D ts1 ts2 f1 f2 j K low G blank_ok locals_ok

  -- both store such values at related places
  pub store_near : (m2 m1 m1' : Memory) (d c : Dest) (t : Tree) (v w : Value) → Q m2 m1 → DestRel K d c → AddrTy D G d.addr t → Same j v w → store D m1 d v ≡ Some m1' → (m2' : Memory) × (store D m2 c w ≡ Some m2') × Linked j K m2' m1' × Leaves D G j j n2 n1 m2' m1' m2s m1s
  store_near m2 m1 m1' d c t v w q r at hv e =
      let (old, e1, same) = store_split D m1 m1' d v e in
      let (m2', g, l') = store_rel D j K m2 m1 m1' d c v w r hv.0 q.linked e in
      let (old2, e2, same2) = store_split D m2 m2' c w g in
      let (o, eo) = root_of m1 d.addr old e1 in
      let lw = leaves_both m2 m1 d.addr c.addr t v w q r.addr at (tight_agree D v w t hv.1) (λ h x u k z. q.linked.apart h x d.addr.frame d.addr.local (c.addr.frame, c.addr.local) u o k r.addr.root z eo) in
      (m2', g, l', subst (λ m. Leaves D G j j n2 n1 m2' m m2s m1s) same (subst (λ m. Leaves D G j j n2 n1 m (write m1 d.addr v) m2s m1s) same2 lw))

  -- the source alone moves out of a place
  pub near_clears : n1 ≤ f1 → (p q : Place) → kept.PlaceAs D ts1 ts2 f1 f2 j K low G blank_ok locals_ok K p q → MoveOk S.source (operand.Move p) → Clears S Q p
  near_clears le p q h ok = record { clears = λ m2 m1 a t v l e et ev. clear m2 m1 a t v l e et ev (has_deref p.proj) refl }
    where
      clear : (m2 m1 : Memory) (a : Addr) (t : Tree) (v : Value) → Q m2 m1 → resolve S.source m1 p ≡ Some a → type_of S.source p ≡ Some t → value_at m1 a ≡ Some v → (b : Bool) → has_deref p.proj ≡ b → Q m2 (write m1 a (blank D t))
      clear m2 m1 a t v l e et ev b d =
          let (c, g, ac) = kept.place_rel D ts1 ts2 f1 f2 j K low G blank_ok locals_ok Q near_kept m2 m1 p q a l h e in
          let (w, ew, rel) = value_at_rel j K m2 m1 l.linked.mem a c ac v ev in
          let at = resolve_ty D G blank_ok ts1 f1 locals_ok m1 p a t l.typed et e in
          alones m2 m1 a c t (blank D t) w v l ac at (fair b d) ev ew (blank_ok t) (blank_any D G j t v w (value_at_ty D G m1 a t v l.typed at ev) rel)
        where
          fair : (b : Bool) → has_deref p.proj ≡ b → (n1 ≤ a.frame) ⊎ (needs_drop D t ≡ false)
          fair true d = inr (ok d t et)
          fair false d = let same = kept.plain_frame D ts1 ts2 f1 f2 j K low G blank_ok locals_ok Q near_kept m1 p a d e in inl (omega (arith, le, same))

  pub near_spends : n1 ≤ f1 → (o p : Operand) → kept.OperandAs D ts1 ts2 f1 f2 j K low G blank_ok locals_ok o p → MoveOk S.source o → Spends S Q o
  near_spends le (operand.Copy p) (operand.Copy q) h ok = tt
  near_spends le (operand.Move p) (operand.Move q) h ok = near_clears le p q h ok
  near_spends le (operand.Const c) (operand.Const d) h ok = tt
  near_spends le o p h ok = absurd h

  pub near_spend : n1 ≤ f1 → (os ps : List Operand) → text.OperandsRel D ts1 ts2 f1 f2 j K low os ps → kept.MovesOk D ts1 ts2 f1 f2 j K low G blank_ok locals_ok Q near_kept os → AllSpend S Q os
  near_spend le [] [] h ok = tt
  near_spend le (o ∷ os) (p ∷ ps) h ok = (near_spends le o p h.0 ok.0, near_spend le os ps h.1 ok.1)
  near_spend le [] (p ∷ ps) h ok = absurd h
  near_spend le (o ∷ os) [] h ok = absurd h

  -- the source alone evaluates
  pub near_spent : n1 ≤ f1 → (x y : TypedRvalue) → kept.RvalueAs D ts1 ts2 f1 f2 j K low G blank_ok locals_ok Q near_kept x y → RvalueSpends S Q x
  near_spent le («use» o) («use» p) h = near_spends le o p h.0 h.1
  near_spent le (binary op a b) (binary op' c d) h = (near_spends le a c h.1.0 h.2.0, near_spends le b d h.1.1 h.2.1)
  near_spent le (overflow op a b) (overflow op' c d) h = (near_spends le a c h.1.0 h.2.0, near_spends le b d h.1.1 h.2.1)
  near_spent le (unary op a) (unary op' b) h = near_spends le a b h.1 h.2
  near_spent le (cast a t) (cast b u) h = near_spends le a b h.1 h.2
  near_spent le (rvalue.ref p) (rvalue.ref q) h = tt
  near_spent le (rvalue.ref_mut p) (rvalue.ref_mut q) h = tt
  near_spent le (discriminant p) (discriminant q) h = tt
  near_spent le (tuple os) (tuple ps) h = near_spend le os ps h.0 h.1
  near_spent le (build d i os) (build d' i' ps) h = near_spend le os ps h.2 h.3
  near_spent le x y h = absurd h
