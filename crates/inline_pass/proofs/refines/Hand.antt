-- The statements before a call that is replaced: the destination is kept, and the arguments are handed over.
use Rattle.std.proofs.Common.{◌≡◌, refl, sym, ap, ap₂, ◌∙◌, subst, ℕ, zero, suc, ◌+◌, ◌<◌, ◌≤◌, List, [], ◌∷◌, ◌++◌, length, Some, None, slice_get, option_map, arith}
use Rattle.mir_syntax.specs.declared.body.Operand.{Operand}
use Rattle.mir_syntax.specs.Tree.{Tree}
use Rattle.mir_syntax.specs.Crate.{«use», TypedStmt, assign}
use Rattle.mir_syntax.specs.Shapes.{Shape, place_ty}
use Rattle.mir_semantics.specs.Values.{Addr, Value, put}
use Rattle.mir_semantics.specs.Memory.{Memory, local_at, value_at, write, walk}
use Rattle.mir_semantics.specs.Step.{Dest, Here, local_addr, resolve, type_of, guard_of, dest_of, store, read, read_all, eval, exec}
use Rattle.mir_renaming.specs.Renaming.{Renaming, AddrRel, ValueRel, SomeRel}
use Rattle.mir_syntax.proofs.Binds.{bind_some, some_bind}
use Rattle.mir_renaming.proofs.Memory.{write_target, write_same, write_other, write_back}
use Rattle.mir_renaming.proofs.Statements.{Linked, OperandsRel, read_rel}
use Rattle.mir_relate.proofs.Leaves.{some_val}
use Rattle.mir_renaming.proofs.Stores.{write_there}
use Rattle.inline_pass.specs.Spliced.{whole_local, handed}
use Rattle.inline_pass.proofs.refines.Into.{Stands, into}
use Rattle.inline_pass.proofs.refines.Both.{read_both}
use Rattle.inline_pass.proofs.refines.Stacks.{Onward}
use Rattle.inline_pass.proofs.refines.Onwards.{exec_all}

-- as Onward, but that the target may have written the locals from y to e of the frame a0
pub record Writes (F : Stands) (n a0 y e : ℕ) (m2 m1 k2 k1 : Memory) : Type 0 where
  pub room : (a x : ℕ) (w : Value) → a < n → local_at m2 a x ≡ Some w → (w' : Value) × (local_at k2 a x ≡ Some w')
  pub back : (i x a z : ℕ) (u : Value) → into F i x ≡ Some (a, z) → a < n → local_at k1 i x ≡ Some u → (u' : Value) × (local_at m1 i x ≡ Some u')
  pub stay : (a z : ℕ) (w : Value) → a < n → (a ≡ a0 → y ≤ z → z < e → ⊥) → ((i x : ℕ) (u : Value) → into F i x ≡ Some (a, z) → local_at m1 i x ≡ Some u → ⊥) → local_at m2 a z ≡ Some w → local_at k2 a z ≡ Some w

pub writes_trans : (F : Stands) (n a0 y e : ℕ) (m2 m1 k2 k1 l2 l1 : Memory) → Writes F n a0 y e m2 m1 k2 k1 → Writes F n a0 y e k2 k1 l2 l1 → Writes F n a0 y e m2 m1 l2 l1
writes_trans F n a0 y e m2 m1 k2 k1 l2 l1 o q = record {
  room = λ a x w l r. (let (v, s) = o.room a x w l r in q.room a x v l s);
  back = λ i x a z u r l k. (let (v, s) = q.back i x a z u r l k in o.back i x a z v r l s);
  stay = λ a z w l out free r. q.stay a z w l out (λ i x u s k. (let (v, t) = o.back i x a z u s l k in free i x v s t)) (o.stay a z w l out free r);
}

pub writes_wide : (F : Stands) (n a0 y e y' e' : ℕ) (m2 m1 k2 k1 : Memory) → y' ≤ y → e ≤ e' → Writes F n a0 y e m2 m1 k2 k1 → Writes F n a0 y' e' m2 m1 k2 k1
writes_wide F n a0 y e y' e' m2 m1 k2 k1 a b o = record { room = o.room; back = o.back; stay = λ c z w l out free r. o.stay c z w l (λ p q s. out p (omega (arith, a, q)) (omega (arith, b, s))) free r }

module _ (F : Stands) (n a0 y e : ℕ) (m2 m1 : Memory) where
  pub writes_both : (k2 k1 : Memory) (a b : Addr) (v w : Value) (x : ℕ) (u : Value) → Writes F n a0 y e m2 m1 k2 k1 → AddrRel (into F) a b → local_at k1 a.frame a.local ≡ Some u → Writes F n a0 y e m2 m1 (write k2 b w) (write k1 a v)
  writes_both k2 k1 a b v w x u o ab live = record {
    room = λ c x t l e. (let (t', e') = o.room c x t l e in write_there k2 b w c x t' e');
    back = λ e x c z t q l k. (let (t', k') = write_back k1 a v e x t k in o.back e x c z t' q l k');
    stay = stay;
  }
    where
      stay : (c z : ℕ) (t : Value) → c < n → (c ≡ a0 → y ≤ z → z < e → ⊥) → ((i x : ℕ) (u : Value) → into F i x ≡ Some (c, z) → local_at m1 i x ≡ Some u → ⊥) → local_at m2 c z ≡ Some t → local_at (write k2 b w) c z ≡ Some t
      stay c z t l out free r = write_other k2 b w c z away ∙ o.stay c z t l out free r
        where
          away : c ≡ b.frame → z ≡ b.local → ⊥
          away p q =
              let root : into F a.frame a.local ≡ Some (c, z) = ab.root ∙ ap₂ (λ s t. Some (s, t)) (sym p) (sym q) in
              let (u', there) = o.back a.frame a.local c z u root l live in
              free a.frame a.local u' root there

  pub writes_alone : (k2 k1 : Memory) (a : Addr) (v : Value) → Writes F n a0 y e m2 m1 k2 k1 → Writes F n a0 y e m2 m1 k2 (write k1 a v)
  writes_alone k2 k1 a v o = record { room = o.room; back = λ e x c z t q l k. (let (t', k') = write_back k1 a v e x t k in o.back e x c z t' q l k'); stay = o.stay }

  pub writes_refl : Writes F n a0 y e m2 m1 m2 m1
  writes_refl = record { room = λ a x w l r. (w, r); back = λ i x a z u q l k. (u, k); stay = λ a z w l out free r. r }

-- frames below a0 are as they were
pub writes_onward : (F : Stands) (n a0 y e : ℕ) (m2 m1 k2 k1 : Memory) → a0 < n → Writes F n a0 y e m2 m1 k2 k1 → Onward F a0 m2 m1 k2 k1
writes_onward F n a0 y e m2 m1 k2 k1 lt o = record {
  room = λ a x w l r. o.room a x w (omega (arith, l, lt)) r;
  back = λ i x a z u r l k. o.back i x a z u r (omega (arith, l, lt)) k;
  stay = λ a z w l free r. o.stay a z w (omega (arith, l, lt)) (λ p q s. omega (arith, p, l)) (λ i x u q live. free i x q) r;
}

pub exec_more : (h : Here) (m : Memory) (ss ts : List TypedStmt) (k l : Memory) → exec_all h m ss ≡ Some k → exec_all h k ts ≡ Some l → exec_all h m (ss ++ ts) ≡ Some l
exec_more h m [] ts k l e f = ap (λ m. exec_all h m ts) (some_val e) ∙ f
exec_more h m (s ∷ ss) ts k l e f = let (m', e1, e2) = bind_some e in some_bind _ e1 (exec_more h m' ss ts k l e2 f)

module _ (D : List Shape) (F : Stands) (n : ℕ) (ts1 ts2 : List Tree) (f1 a0 : ℕ) (below : a0 < n) (top : ℕ) where
  abbrev J : Renaming
  J = into F

  abbrev A1 : Here
  A1 = record { shapes = D; locals = ts1; frame = f1 }

  abbrev A2 : Here
  A2 = record { shapes = D; locals = ts2; frame = a0 }

  -- the locals of the frame that are kept for the source stand below a number
  abbrev pub Low : Memory → Type 0
  Low m1 = (i x z : ℕ) (u : Value) → into F i x ≡ Some (a0, z) → local_at m1 i x ≡ Some u → z < top

  resolved : (y : ℕ) (m : Memory) → resolve A2 m (whole_local y) ≡ Some (local_addr a0 y)
  unfolding resolve walk
  resolved y m = refl

  local_ty : (y : ℕ) (t : Tree) → slice_get ts2 y ≡ Some t → type_of A2 (whole_local y) ≡ Some t
  unfolding type_of place_ty
  local_ty y t is = some_bind _ is refl

  local_dest : (y : ℕ) (t : Tree) (m : Memory) → slice_get ts2 y ≡ Some t → dest_of A2 m (whole_local y) ≡ Some (record { addr = local_addr a0 y; guard = None })
  unfolding dest_of guard_of
  local_dest y t m is = some_bind _ (resolved y m) (some_bind _ (local_ty y t is) refl)

  local_value : (y : ℕ) (m : Memory) (w : Value) → local_at m a0 y ≡ Some w → value_at m (local_addr a0 y) ≡ Some w
  unfolding value_at local_addr
  local_value y m w at = some_bind _ at refl

  local_store : (y : ℕ) (m : Memory) (w v : Value) → local_at m a0 y ≡ Some w → store D m (record { addr = local_addr a0 y; guard = None }) v ≡ Some (write m (local_addr a0 y) v)
  unfolding store
  local_store y m w v at = some_bind _ (local_value y m w at) refl

  local_written : (y : ℕ) (m : Memory) (w v : Value) → local_at m a0 y ≡ Some w → local_at (write m (local_addr a0 y) v) a0 y ≡ Some v
  unfolding local_addr
  local_written y m w v at = write_same m (record { frame = a0; local = y; path = [] }) v a0 y (refl, refl) ∙ ap (option_map (put [] v)) at

  -- a local of the frame that is written
  pub set_local : (y : ℕ) (t : Tree) (m : Memory) (w v : Value) → slice_get ts2 y ≡ Some t → local_at m a0 y ≡ Some w → (dest_of A2 m (whole_local y) ≡ Some (record { addr = local_addr a0 y; guard = None })) × (store D m (record { addr = local_addr a0 y; guard = None }) v ≡ Some (write m (local_addr a0 y) v)) × (local_at (write m (local_addr a0 y) v) a0 y ≡ Some v)
  set_local y t m w v is at = (local_dest y t m is, local_store y m w v at, local_written y m w v at)

  -- the target alone writes a local of the frame that is free
  pub written : (y e : ℕ) (m2 m1 : Memory) (v : Value) → top ≤ y → y < e → Low m1 → Linked J J m2 m1 → Linked J J (write m2 (local_addr a0 y) v) m1 × Writes F n a0 y e m2 m1 (write m2 (local_addr a0 y) v) m1
  unfolding local_addr
  written y e m2 m1 v le lt low l = (
    record { mem = write_target J J m2 m1 (record { frame = a0; local = y; path = [] }) v l.mem (λ i x u q k. (let z = low i x y u q k in omega (arith, z, le))); apart = l.apart },
    record {
      room = λ a x w b r. write_there m2 (record { frame = a0; local = y; path = [] }) v a x w r;
      back = λ i x a z u r b k. (u, k);
      stay = λ a z w b out free r. write_other m2 (record { frame = a0; local = y; path = [] }) v a z (λ p q. out p (omega (arith, q)) (omega (arith, q, lt))) ∙ r;
    },
  )

  assigned : (y : ℕ) (o : Operand) (m2 : Memory) (w : Value × Memory) (n2 : Memory) (c : Dest) → read A2 m2 o ≡ Some w → dest_of A2 w.1 (whole_local y) ≡ Some c → store D w.1 c w.0 ≡ Some n2 → exec A2 m2 (assign (whole_local y) («use» o)) ≡ Some n2
  unfolding exec eval
  assigned y o m2 w n2 c e1 e2 e3 = some_bind _ e1 (some_bind _ e2 e3)

  -- ---- the arguments

  abbrev Ops : List Operand → Type 0
  Ops os = OperandsRel D ts1 ts2 f1 a0 J J (λ f x r e. e) os os

  low_on : (y : ℕ) (m2 m1 k2 k1 : Memory) → Writes F n a0 y y m2 m1 k2 k1 → Low m1 → Low k1
  low_on y m2 m1 k2 k1 o low i x z u q k = let (u', k') = o.back i x a0 z u q below k in low i x z u' q k'

  pub hand : (os : List Operand) (y e : ℕ) (m2 m1 : Memory) (r : List Value × Memory) → Ops os → Linked J J m2 m1 → Low m1 → top ≤ y → y + length os ≤ e → ((z : ℕ) → y ≤ z → z < e → (t : Tree) × (slice_get ts2 z ≡ Some t)) → ((z : ℕ) → y ≤ z → z < e → (w : Value) × (local_at m2 a0 z ≡ Some w)) → read_all A1 m1 os ≡ Some r → (k2 : Memory) × (exec_all A2 m2 (handed y os) ≡ Some k2) × Linked J J k2 r.1 × Writes F n a0 y e m2 m1 k2 r.1 × ((i : ℕ) (v : Value) → slice_get r.0 i ≡ Some v → SomeRel J v (local_at k2 a0 (y + i)))
  unfolding read_all
  hand [] y e m2 m1 r ops l low le few ty room q =
      subst (λ (r : List Value × Memory). (k2 : Memory) × (exec_all A2 m2 [] ≡ Some k2) × Linked J J k2 r.1 × Writes F n a0 y e m2 m1 k2 r.1 × ((i : ℕ) (v : Value) → slice_get r.0 i ≡ Some v → SomeRel J v (local_at k2 a0 (y + i)))) (some_val q)
      (m2, refl, l, record { room = λ a x w l r. (w, r); back = λ i x a z u r l k. (u, k); stay = λ a z w l out free r. r }, λ i v s. absurd (grind arith))
  hand (o ∷ os) y e m2 m1 r ops l low le few ty room q =
      let (x, e1, e2) = bind_some q in
      let (xs, e3, e4) = bind_some e2 in
      let (w, q1, vw, l1) = read_rel D ts1 ts2 f1 a0 J J (λ f x r e. e) m2 m1 o o x ops.0 l e1 in
      let on = read_both D ts1 ts2 f1 a0 J J (λ f x r e. e) (λ k2 k1. Writes F n a0 y y m2 m1 k2 k1) (λ k2 k1 a b v w x u. writes_both F n a0 y y m2 m1 k2 k1 a b v w x u) (λ k2 k1 a v. writes_alone F n a0 y y m2 m1 k2 k1 a v) m2 m1 o o x w ops.0 l e1 q1 (writes_refl F n a0 y y m2 m1) in
      let lt : y < e = omega (arith, few) in
      let (t, is) = ty y (omega arith) lt in
      let (w0, at0) = room y (omega arith) lt in
      let (w1, at1) = on.room a0 y w0 below at0 in
      let (q2, q3, at2) = set_local y t w.1 w1 w.0 is at1 in
      let low1 = low_on y m2 m1 w.1 x.1 on low in
      let (l2, wr) = written y e w.1 x.1 w.0 le lt low1 l1 in
      let n2 : Memory = write w.1 (local_addr a0 y) w.0 in
      let first : Writes F n a0 y e m2 m1 w.1 x.1 = writes_wide F n a0 y y y e m2 m1 w.1 x.1 (omega arith) (omega (arith, lt)) on in
      let both : Writes F n a0 y e m2 m1 n2 x.1 = writes_trans F n a0 y e m2 m1 w.1 x.1 n2 x.1 first wr in
      let (k2, q4, l3, wr2, slots) = hand os (suc y) e n2 x.1 xs ops.1 l2 low1 (omega (arith, le)) (omega (arith, few)) (λ z a b. ty z (omega (arith, a)) b) (λ z a b. (let (u, s) = room z (omega (arith, a)) b in both.room a0 z u below s)) e3 in
      let all : Writes F n a0 y e m2 m1 k2 xs.1 = writes_trans F n a0 y e m2 m1 n2 x.1 k2 xs.1 both (writes_wide F n a0 (suc y) e y e n2 x.1 k2 xs.1 (omega arith) (omega arith) wr2) in
      let here : local_at k2 a0 y ≡ Some w.0 = wr2.stay a0 y w.0 below (λ p a b. omega (arith, a)) (λ i z u s k. (let b = low1 i z y u s k in omega (arith, b, le))) at2 in
      subst (λ (r : List Value × Memory). (k2 : Memory) × (exec_all A2 m2 (handed y (o ∷ os)) ≡ Some k2) × Linked J J k2 r.1 × Writes F n a0 y e m2 m1 k2 r.1 × ((i : ℕ) (v : Value) → slice_get r.0 i ≡ Some v → SomeRel J v (local_at k2 a0 (y + i)))) (some_val e4)
      (k2, some_bind _ (assigned y o m2 w n2 _ q1 q2 q3) q4, l3, all, at_each y x.0 w.0 xs.0 k2 vw here slots)
    where
      at_each : (y : ℕ) (v0 w0 : Value) (vs : List Value) (k2 : Memory) → ValueRel J v0 w0 → local_at k2 a0 y ≡ Some w0 → ((i : ℕ) (v : Value) → slice_get vs i ≡ Some v → SomeRel J v (local_at k2 a0 (suc y + i))) → (i : ℕ) (v : Value) → slice_get (v0 ∷ vs) i ≡ Some v → SomeRel J v (local_at k2 a0 (y + i))
      at_each y v0 w0 vs k2 r h slots zero v e = let z : y + 0 ≡ y = omega arith in (w0, ap (local_at k2 a0) z ∙ h, subst (λ v. ValueRel J v w0) (some_val e) r)
      at_each y v0 w0 vs k2 r h slots (suc i) v e = let z : y + suc i ≡ suc y + i = omega arith in subst (λ z. SomeRel J v (local_at k2 a0 z)) (sym z) (slots i v e)
