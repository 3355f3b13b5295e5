-- What related writes of both sides keep, related statements of both sides keep.
use Rattle.std.proofs.Common.{◌≡◌, refl, sym, ap, ◌∙◌, subst, ℕ, Bool, true, false, nat_eq, List, [], ◌∷◌, Some, arith}
use Rattle.mir_syntax.specs.declared.body.Place.{Place}
use Rattle.mir_syntax.specs.declared.body.Operand.{Operand}
use Rattle.mir_syntax.specs.declared.body.Operand.TheVariants as operand
use Rattle.mir_syntax.specs.Tree.{Tree}
use Rattle.mir_syntax.specs.Crate.{TypedRvalue, «use», binary, overflow, unary, cast, discriminant, tuple, build, TypedStmt, assign, storage_live, storage_dead, set_discriminant}
use Rattle.mir_syntax.specs.Crate as rvalue
use Rattle.mir_syntax.specs.Shapes.{Shape}
use Rattle.mir_semantics.specs.Values.{Addr, Value, variant, blank}
use Rattle.mir_semantics.specs.Memory.{Memory, local_at, value_at, write}
use Rattle.mir_semantics.specs.Step.{Dest, Here, local_addr, resolve, dest_of, allows, store, read, read_all, read_number, read_two, eval, set_blank, is_variant, write_unless, exec}
use Rattle.mir_renaming.specs.Renaming.{Renaming, AddrRel, ValueRel, Sub, MemRel}
use Rattle.mir_syntax.proofs.Binds.{bind_some}
use Rattle.mir_renaming.proofs.Memory.{value_at_rel}
use Rattle.mir_renaming.proofs.Statements.{Linked, only_true, DestRel, H1, H2, PlaceRel, OperandRel, OperandsRel, RvalueRel, StmtRel, LocalRel, resolve_rel, read_at_rel, read_rel, read_number_rel, eval_rel, dest_rel}
use Rattle.mir_relate.proofs.Leaves.{some_val}
use Rattle.mir_renaming.proofs.Stores.{root_of}

module _ (D : List Shape) (ts1 ts2 : List Tree) (f1 f2 : ℕ) (j L : Renaming) (low : Sub j L) (Q : Memory → Memory → Type 0) (both : (m2 m1 : Memory) (a b : Addr) (v w : Value) (x : ℕ) (u : Value) → Q m2 m1 → AddrRel L a b → local_at m1 a.frame a.local ≡ Some u → Q (write m2 b w) (write m1 a v)) (alone : (m2 m1 : Memory) (a : Addr) (v : Value) → Q m2 m1 → Q m2 (write m1 a v)) where
  abbrev A1 : Here
  A1 = H1 D ts1 ts2 f1 f2 j L low

  abbrev A2 : Here
  A2 = H2 D ts1 ts2 f1 f2 j L low

  abbrev Ops : Operand → Operand → Type 0
  Ops = OperandRel D ts1 ts2 f1 f2 j L low

  abbrev Pl : Place → Place → Type 0
  Pl = PlaceRel D ts1 ts2 f1 f2 j L low L

  wrote : (m2 m1 : Memory) (a b c : Addr) (v w u : Value) → Q m2 m1 → AddrRel L a b → b ≡ c → value_at m1 a ≡ Some u → Q (write m2 c w) (write m1 a v)
  wrote m2 m1 a b c v w u q h same e = let (z, at) = root_of m1 a u e in subst (λ c. Q (write m2 c w) (write m1 a v)) same (both m2 m1 a b v w 0 z q h at)

  pub resolve_same : (m2 m1 : Memory) (p q : Place) (a c : Addr) → Pl p q → MemRel j L m2 m1 → resolve A1 m1 p ≡ Some a → resolve A2 m2 q ≡ Some c → AddrRel L a c
  resolve_same m2 m1 p q a c h l e g =
      let (b, f, r) = resolve_rel D ts1 ts2 f1 f2 j L low L low (λ f x r e. e) m2 m1 p q a h l e in
      subst (AddrRel L a) (some_val (sym f ∙ g)) r

  pub read_both : (m2 m1 : Memory) (o p : Operand) (r s : Value × Memory) → Ops o p → Linked j L m2 m1 → read A1 m1 o ≡ Some r → read A2 m2 p ≡ Some s → Q m2 m1 → Q s.1 r.1
  unfolding read
  read_both m2 m1 (operand.Copy p) (operand.Copy q) r s h l e g k =
      let (a, e1, e2) = bind_some e in
      let (v, e3, e4) = bind_some e2 in
      let (b, g1, g2) = bind_some g in
      let (w, g3, g4) = bind_some g2 in
      subst (λ (r : Value × Memory). Q s.1 r.1) (some_val e4) (subst (λ (s : Value × Memory). Q s.1 m1) (some_val g4) k)
  read_both m2 m1 (operand.Move p) (operand.Move q) r s h l e g k =
      let (a, e1, e2) = bind_some e in
      let (v, e3, e4) = bind_some e2 in
      let (t, e5, e6) = bind_some e4 in
      let (b, g1, g2) = bind_some g in
      let (w, g3, g4) = bind_some g2 in
      let (u, g5, g6) = bind_some g4 in
      let ab = resolve_same m2 m1 p q a b h l.mem e1 g1 in
      let (_, at) = read_at_rel D ts1 ts2 f1 f2 j L low m2 m1 a b v ab l.mem e3 in
      subst (λ (r : Value × Memory). Q s.1 r.1) (some_val e6) (subst (λ (s : Value × Memory). Q s.1 (write m1 a (blank D t))) (some_val g6) (wrote m2 m1 a b b (blank D t) (blank D u) v k ab refl at))
  read_both m2 m1 (operand.Const c) (operand.Const d) r s h l e g k = subst (λ (r : Value × Memory). Q s.1 r.1) (some_val e) (subst (λ (s : Value × Memory). Q s.1 m1) (some_val g) k)
  read_both m2 m1 o p r s h l e g k = absurd h

  pub read_all_both : (os ps : List Operand) (m2 m1 : Memory) (r s : List Value × Memory) → OperandsRel D ts1 ts2 f1 f2 j L low os ps → Linked j L m2 m1 → read_all A1 m1 os ≡ Some r → read_all A2 m2 ps ≡ Some s → Q m2 m1 → Q s.1 r.1
  unfolding read_all
  read_all_both [] [] m2 m1 r s h l e g k = subst (λ (r : List Value × Memory). Q s.1 r.1) (some_val e) (subst (λ (s : List Value × Memory). Q s.1 m1) (some_val g) k)
  read_all_both (o ∷ os) (p ∷ ps) m2 m1 r s h l e g k =
      let (x, e1, e2) = bind_some e in
      let (y, e3, e4) = bind_some e2 in
      let (x2, g1, g2) = bind_some g in
      let (y2, g3, g4) = bind_some g2 in
      let (x2', f1', _, l1) = read_rel D ts1 ts2 f1 f2 j L low m2 m1 o p x h.0 l e1 in
      let l1' = subst (λ (z : Value × Memory). Linked j L z.1 x.1) (some_val (sym f1' ∙ g1)) l1 in
      let k1 = read_both m2 m1 o p x x2 h.0 l e1 g1 k in
      let k2 = read_all_both os ps x2.1 x.1 y y2 h.1 l1' e3 g3 k1 in
      subst (λ (r : List Value × Memory). Q s.1 r.1) (some_val e4) (subst (λ (s : List Value × Memory). Q s.1 y.1) (some_val g4) k2)
  read_all_both [] (p ∷ ps) m2 m1 r s h l e g k = absurd h
  read_all_both (o ∷ os) [] m2 m1 r s h l e g k = absurd h

  pub read_number_both : (m2 m1 : Memory) (o p : Operand) (r s : ℕ × Memory) → Ops o p → Linked j L m2 m1 → read_number A1 m1 o ≡ Some r → read_number A2 m2 p ≡ Some s → Q m2 m1 → Q s.1 r.1
  unfolding read_number
  read_number_both m2 m1 o p r s h l e g k =
      let (x, e1, e2) = bind_some e in
      let (n, e3, e4) = bind_some e2 in
      let (y, g1, g2) = bind_some g in
      let (i, g3, g4) = bind_some g2 in
      subst (λ (r : ℕ × Memory). Q s.1 r.1) (some_val e4) (subst (λ (s : ℕ × Memory). Q s.1 x.1) (some_val g4) (read_both m2 m1 o p x y h l e1 g1 k))

  two_both : (m2 m1 : Memory) (a b c d : Operand) (r s : (ℕ × ℕ) × Memory) → Ops a c → Ops b d → Linked j L m2 m1 → read_two A1 m1 a b ≡ Some r → read_two A2 m2 c d ≡ Some s → Q m2 m1 → Q s.1 r.1
  unfolding read_two
  two_both m2 m1 a b c d r s ha hb l e g k =
      let (x, e1, e2) = bind_some e in
      let (y, e3, e4) = bind_some e2 in
      let (x2, g1, g2) = bind_some g in
      let (y2, g3, g4) = bind_some g2 in
      let (x2', f1', _, l1) = read_number_rel D ts1 ts2 f1 f2 j L low m2 m1 a c x ha l e1 in
      let l1' = subst (λ (z : ℕ × Memory). Linked j L z.1 x.1) (some_val (sym f1' ∙ g1)) l1 in
      subst (λ (r : (ℕ × ℕ) × Memory). Q s.1 r.1) (some_val e4) (subst (λ (s : (ℕ × ℕ) × Memory). Q s.1 y.1) (some_val g4) (read_number_both x2.1 x.1 b d y y2 hb l1' e3 g3 (read_number_both m2 m1 a c x x2 ha l e1 g1 k)))

  -- where the memories are left alone
  abbrev Left : Value × Memory → Value × Memory → Type 0
  Left s r = Q s.1 r.1

  pub eval_both : (m2 m1 : Memory) (x y : TypedRvalue) (r s : Value × Memory) → RvalueRel D ts1 ts2 f1 f2 j L low x y → Linked j L m2 m1 → eval A1 m1 x ≡ Some r → eval A2 m2 y ≡ Some s → Q m2 m1 → Q s.1 r.1
  unfolding eval
  eval_both m2 m1 («use» o) («use» p) r s h l e g k = read_both m2 m1 o p r s h l e g k
  eval_both m2 m1 (binary op a b) (binary op' c d) r s h l e g k =
      let (t, e1, e2) = bind_some e in
      let (x, e3, e4) = bind_some e2 in
      let (n, e5, e6) = bind_some e4 in
      let (u, g1, g2) = bind_some g in
      let (y, g3, g4) = bind_some g2 in
      let (i, g5, g6) = bind_some g4 in
      subst (λ r. Left s r) (some_val e6) (subst (λ (s : Value × Memory). Q s.1 x.1) (some_val g6) (two_both m2 m1 a b c d x y h.1 h.2 l e3 g3 k))
  eval_both m2 m1 (overflow op a b) (overflow op' c d) r s h l e g k =
      let (t, e1, e2) = bind_some e in
      let (x, e3, e4) = bind_some e2 in
      let (u, g1, g2) = bind_some g in
      let (y, g3, g4) = bind_some g2 in
      subst (λ r. Left s r) (some_val e4) (subst (λ (s : Value × Memory). Q s.1 x.1) (some_val g4) (two_both m2 m1 a b c d x y h.1 h.2 l e3 g3 k))
  eval_both m2 m1 (unary op a) (unary op' c) r s h l e g k =
      let (t, e1, e2) = bind_some e in
      let (x, e3, e4) = bind_some e2 in
      let (u, g1, g2) = bind_some g in
      let (y, g3, g4) = bind_some g2 in
      subst (λ r. Left s r) (some_val e4) (subst (λ (s : Value × Memory). Q s.1 x.1) (some_val g4) (read_number_both m2 m1 a c x y h.1 l e3 g3 k))
  eval_both m2 m1 (cast a t) (cast c t') r s h l e g k =
      let (from, e1, e2) = bind_some e in
      let (to, e3, e4) = bind_some e2 in
      let (x, e5, e6) = bind_some e4 in
      let (from', g1, g2) = bind_some g in
      let (to', g3, g4) = bind_some g2 in
      let (y, g5, g6) = bind_some g4 in
      subst (λ r. Left s r) (some_val e6) (subst (λ (s : Value × Memory). Q s.1 x.1) (some_val g6) (read_number_both m2 m1 a c x y h.1 l e5 g5 k))
  eval_both m2 m1 (rvalue.ref p) (rvalue.ref q) r s h l e g k =
      let (a, e1, e2) = bind_some e in
      let (b, g1, g2) = bind_some g in
      subst (λ r. Left s r) (some_val e2) (subst (λ (s : Value × Memory). Q s.1 m1) (some_val g2) k)
  eval_both m2 m1 (rvalue.ref_mut p) (rvalue.ref_mut q) r s h l e g k =
      let (a, e1, e2) = bind_some e in
      let (b, g1, g2) = bind_some g in
      subst (λ r. Left s r) (some_val e2) (subst (λ (s : Value × Memory). Q s.1 m1) (some_val g2) k)
  eval_both m2 m1 (discriminant p) (discriminant q) r s h l e g k =
      let (a, e1, e2) = bind_some e in
      let (v, e3, e4) = bind_some e2 in
      let (n, e5, e6) = bind_some e4 in
      let (b, g1, g2) = bind_some g in
      let (w, g3, g4) = bind_some g2 in
      let (i, g5, g6) = bind_some g4 in
      subst (λ r. Left s r) (some_val e6) (subst (λ (s : Value × Memory). Q s.1 m1) (some_val g6) k)
  eval_both m2 m1 (tuple os) (tuple ps) r s h l e g k =
      let (x, e1, e2) = bind_some e in
      let (y, g1, g2) = bind_some g in
      subst (λ r. Left s r) (some_val e2) (subst (λ (s : Value × Memory). Q s.1 x.1) (some_val g2) (read_all_both os ps m2 m1 x y h l e1 g1 k))
  eval_both m2 m1 (build d i os) (build d' i' ps) r s h l e g k =
      let (x, e1, e2) = bind_some e in
      let (y, g1, g2) = bind_some g in
      subst (λ r. Left s r) (some_val e2) (subst (λ (s : Value × Memory). Q s.1 x.1) (some_val g2) (read_all_both os ps m2 m1 x y h.2 l e1 g1 k))
  eval_both m2 m1 x y r s h l e g k = absurd h

  pub store_both : (m2 m1 n2 n1 : Memory) (d c : Dest) (v w : Value) → DestRel L d c → store D m1 d v ≡ Some n1 → store D m2 c w ≡ Some n2 → Q m2 m1 → Q n2 n1
  unfolding store
  store_both m2 m1 n2 n1 d c v w h e g k =
      let (old, e1, e2) = bind_some e in
      let (old2, g1, g2) = bind_some g in
      let (_, same) = only_true (allows D d.guard old) (write m1 d.addr v) n1 e2 in
      let (_, same2) = only_true (allows D c.guard old2) (write m2 c.addr w) n2 g2 in
      subst (λ n. Q n n1) same2 (subst (λ n. Q (write m2 c.addr w) n) same (wrote m2 m1 d.addr c.addr c.addr v w old k h.addr refl e1))

  dest_same : (m2 m1 : Memory) (p q : Place) (d c : Dest) → Pl p q → Linked j L m2 m1 → dest_of A1 m1 p ≡ Some d → dest_of A2 m2 q ≡ Some c → DestRel L d c
  dest_same m2 m1 p q d c h l e g =
      let (c', f, r) = dest_rel D ts1 ts2 f1 f2 j L low m2 m1 p q d h l e in
      subst (DestRel L d) (some_val (sym f ∙ g)) r

  variant_kept : (n : ℕ) (v w : Value) → ValueRel j v w → is_variant n v ≡ true → is_variant n w ≡ true
  variant_kept n (variant k v) (variant i w) r e = ap (λ x. nat_eq x n) (sym r.0) ∙ e
  variant_kept n v w r e = absurd (grind arith)

  -- a storage statement's local need not be there
  module _ (bare : (m2 m1 : Memory) (a b : Addr) (v w : Value) → Q m2 m1 → AddrRel L a b → Q (write m2 b w) (write m1 a v)) where
    blanked_both : (m2 m1 n2 n1 : Memory) (x y : ℕ) → LocalRel D ts1 ts2 f1 f2 j L low x y → set_blank A1 m1 x ≡ Some n1 → set_blank A2 m2 y ≡ Some n2 → Q m2 m1 → Q n2 n1
    unfolding set_blank local_addr
    blanked_both m2 m1 n2 n1 x y h e g k =
        let (t, e1, e2) = bind_some e in
        let (t', g1, g2) = bind_some g in
        subst (λ n. Q n n1) (some_val g2) (subst (λ n. Q (write m2 (record { frame = f2; local = y; path = [] }) (blank D t')) n) (some_val e2) (bare m2 m1 (record { frame = f1; local = x; path = [] }) (record { frame = f2; local = y; path = [] }) (blank D t) (blank D t') k (record { root = h.root; path = refl })))

    pub exec_both : (m2 m1 n2 n1 : Memory) (x y : TypedStmt) → StmtRel D ts1 ts2 f1 f2 j L low x y → Linked j L m2 m1 → exec A1 m1 x ≡ Some n1 → exec A2 m2 y ≡ Some n2 → Q m2 m1 → Q n2 n1
    unfolding exec write_unless
    exec_both m2 m1 n2 n1 (assign p x) (assign q y) h l e g k =
        let (v, e1, e2) = bind_some e in
        let (d, e3, e4) = bind_some e2 in
        let (w, g1, g2) = bind_some g in
        let (c, g3, g4) = bind_some g2 in
        let (w', f, _, l1) = eval_rel D ts1 ts2 f1 f2 j L low m2 m1 x y v h.1 l e1 in
        let l1' = subst (λ (z : Value × Memory). Linked j L z.1 v.1) (some_val (sym f ∙ g1)) l1 in
        store_both w.1 v.1 n2 n1 d c v.0 w.0 (dest_same w.1 v.1 p q d c h.0 l1' e3 g3) e4 g4 (eval_both m2 m1 x y v w h.1 l e1 g1 k)
    exec_both m2 m1 n2 n1 (storage_live x) (storage_live y) h l e g k = blanked_both m2 m1 n2 n1 x y h e g k
    exec_both m2 m1 n2 n1 (storage_dead x) (storage_dead y) h l e g k = blanked_both m2 m1 n2 n1 x y h e g k
    exec_both m2 m1 n2 n1 (set_discriminant p i) (set_discriminant q i') h l e g k =
        let (a, e1, e2) = bind_some e in
        let (v, e3, e4) = bind_some e2 in
        let (t, e5, e6) = bind_some e4 in
        let (us, e7, e8) = bind_some e6 in
        let (b, g1, g2) = bind_some g in
        let (w, g3, g4) = bind_some g2 in
        let (t', g5, g6) = bind_some g4 in
        let (us', g7, g8) = bind_some g6 in
        let ab = resolve_same m2 m1 p q a b h.0 l.mem e1 g1 in
        let (w', f, vw) = value_at_rel j L m2 m1 l.mem a b ab v e3 in
        let vw' : ValueRel j v w = subst (ValueRel j v) (some_val (sym f ∙ g3)) vw in
        subst (λ n. Q n n1) (some_val g8) (subst (λ n. Q (write_unless (is_variant i' w) m2 b (variant i' (blank D us'))) n) (some_val e8) (go a b v w us us' ab e3 (is_variant i v) (is_variant i' w) (λ t. ap (λ n. is_variant n w) (sym h.1) ∙ variant_kept i v w vw' t) refl))
      where
        go : (a b : Addr) (v w : Value) (us us' : Tree) → AddrRel L a b → value_at m1 a ≡ Some v → (s t : Bool) → (s ≡ true → is_variant i' w ≡ true) → is_variant i' w ≡ t → Q (write_unless t m2 b (variant i' (blank D us'))) (write_unless s m1 a (variant i (blank D us)))
        go a b v w us us' ab e true true f q = k
        go a b v w us us' ab e true false f q = absurd (let z = sym q ∙ f refl in grind arith)
        go a b v w us us' ab e false true f q = alone m2 m1 a (variant i (blank D us)) k
        go a b v w us us' ab e false false f q = wrote m2 m1 a b b (variant i (blank D us)) (variant i' (blank D us')) v k ab refl e
    exec_both m2 m1 n2 n1 x y h l e g k = absurd h
