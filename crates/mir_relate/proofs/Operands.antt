-- Operands of other text that read alike: a copy for a move, a constant for a place whose value is known.
use Rattle.std.proofs.Common.{◌≡◌, refl, sym, ap, ◌∙◌, subst, true, Some}
use Rattle.mir_syntax.specs.declared.body.Place.{Place}
use Rattle.mir_syntax.specs.declared.body.Const.{Const}
use Rattle.mir_syntax.specs.declared.body.Operand.TheVariants as operand
use Rattle.mir_syntax.specs.Tree.{Tree}
use Rattle.mir_semantics.specs.Values.{Addr, Value, whole, blank}
use Rattle.mir_semantics.specs.Memory.{Memory, value_at, write}
use Rattle.mir_semantics.specs.Step.{resolve, type_of, const_value, read_at, read, scalar_ty_of}
use Rattle.mir_renaming.specs.Renaming.{ValueRel}
use Rattle.mir_syntax.proofs.Binds.{bind_some, some_bind}
use Rattle.mir_renaming.proofs.Memory.{whole_rel}
use Rattle.mir_renaming.proofs.Statements.{only_true, true_only, const_rel}
use Rattle.mir_renaming.proofs.Agree.{whole_tight, tight_self}
use Rattle.mir_relate.specs.Alike.{Between, Got, Sides, Same, Reads, Shows}
use Rattle.mir_relate.proofs.Alike.{got_at}

module _ (X : Sides) (Q : Between) where
  -- the source alone may make the place blank
  pub record Clears (p : Place) : Type 0 where
    pub clears : (m2 m1 : Memory) (a : Addr) (t : Tree) (v : Value) → Q m2 m1 → resolve X.source m1 p ≡ Some a → type_of X.source p ≡ Some t → value_at m1 a ≡ Some v → Q m2 (write m1 a (blank X.source.shapes t))

  -- what can be read there is this constant
  pub record Knows (p : Place) (c : Const) : Type 0 where
    pub is : (m2 m1 : Memory) (a : Addr) (v : Value) → Q m2 m1 → resolve X.source m1 p ≡ Some a → value_at m1 a ≡ Some v → whole v ≡ true → v ≡ const_value c

  pub whole_at : (m : Memory) (a : Addr) (v : Value) → read_at m a ≡ Some v → (value_at m a ≡ Some v) × (whole v ≡ true)
  unfolding read_at
  whole_at m a v e =
      let (u, e1, e2) = bind_some e in
      let (t, same) = only_true (whole u) u v e2 in
      (e1 ∙ ap Some same, subst (λ y. whole y ≡ true) same t)

  -- the target reads a value that is related to one without holes
  reads_it : (m2 : Memory) (q : Place) (b : Addr) (v w : Value) → resolve X.target m2 q ≡ Some b → value_at m2 b ≡ Some w → ValueRel X.lent v w → whole v ≡ true → read X.target m2 (operand.Copy q) ≡ Some (w, m2)
  unfolding read read_at
  reads_it m2 q b v w g e r h = some_bind _ g (some_bind _ (some_bind _ e (true_only (whole w) w (whole_rel X.lent v w r h))) refl)

  copy_copy : (p q : Place) → Shows X Q p q → (m2 m1 : Memory) (r : Value × Memory) → Q m2 m1 → read X.source m1 (operand.Copy p) ≡ Some r → Got (Same X.lent) Q r (read X.target m2 (operand.Copy q))
  unfolding read
  copy_copy p q h m2 m1 r l e =
      let (a, e1, k1) = bind_some e in
      let (v, e2, k2) = bind_some k1 in
      let (at, wh) = whole_at m1 a v e2 in
      let (b, g1, (w, g2, rel)) = h.shows m2 m1 a v l e1 at in
      got_at (Same X.lent) Q _ r (read X.target m2 (operand.Copy q)) k2 ((w, m2), reads_it m2 q b v w g1 g2 rel wh, (rel, whole_tight X.lent v w rel wh), l)

  move_copy : (p q : Place) → Shows X Q p q → Clears p → (m2 m1 : Memory) (r : Value × Memory) → Q m2 m1 → read X.source m1 (operand.Move p) ≡ Some r → Got (Same X.lent) Q r (read X.target m2 (operand.Copy q))
  unfolding read
  move_copy p q h c m2 m1 r l e =
      let (a, e1, k1) = bind_some e in
      let (v, e2, k2) = bind_some k1 in
      let (t, e3, k3) = bind_some k2 in
      let (at, wh) = whole_at m1 a v e2 in
      let (b, g1, (w, g2, rel)) = h.shows m2 m1 a v l e1 at in
      got_at (Same X.lent) Q _ r (read X.target m2 (operand.Copy q)) k3 ((w, m2), reads_it m2 q b v w g1 g2 rel wh, (rel, whole_tight X.lent v w rel wh), c.clears m2 m1 a t v l e1 e3 at)

  const_got : (m2 m1 : Memory) (c : Const) (v : Value) → v ≡ const_value c → Q m2 m1 → Got (Same X.lent) Q (v, m1) (read X.target m2 (operand.Const c))
  unfolding read
  const_got m2 m1 c v e l = ((const_value c, m2), refl, subst (λ y. Same X.lent y (const_value c)) (sym e) (const_rel X.lent c, tight_self (const_value c)), l)

  copy_const : (p : Place) (c : Const) → Knows p c → (m2 m1 : Memory) (r : Value × Memory) → Q m2 m1 → read X.source m1 (operand.Copy p) ≡ Some r → Got (Same X.lent) Q r (read X.target m2 (operand.Const c))
  unfolding read
  copy_const p c h m2 m1 r l e =
      let (a, e1, k1) = bind_some e in
      let (v, e2, k2) = bind_some k1 in
      let (at, wh) = whole_at m1 a v e2 in
      got_at (Same X.lent) Q _ r _ k2 (const_got m2 m1 c v (h.is m2 m1 a v l e1 at wh) l)

  move_const : (p : Place) (c : Const) → Knows p c → Clears p → (m2 m1 : Memory) (r : Value × Memory) → Q m2 m1 → read X.source m1 (operand.Move p) ≡ Some r → Got (Same X.lent) Q r (read X.target m2 (operand.Const c))
  unfolding read
  move_const p c h k m2 m1 r l e =
      let (a, e1, k1) = bind_some e in
      let (v, e2, k2) = bind_some k1 in
      let (t, e3, k3) = bind_some k2 in
      let (at, wh) = whole_at m1 a v e2 in
      got_at (Same X.lent) Q _ r _ k3 (const_got m2 (write m1 a (blank X.source.shapes t)) c v (h.is m2 m1 a v l e1 at wh) (k.clears m2 m1 a t v l e1 e3 at))

  -- merged, split: a copy of what stands elsewhere
  pub copied : (p q : Place) → Shows X Q p q → scalar_ty_of X.source (operand.Copy p) ≡ scalar_ty_of X.target (operand.Copy q) → Reads X Q (operand.Copy p) (operand.Copy q)
  copied p q h s = record { reads = copy_copy p q h; scalars = s }

  pub copied_for_move : (p q : Place) → Shows X Q p q → Clears p → scalar_ty_of X.source (operand.Move p) ≡ scalar_ty_of X.target (operand.Copy q) → Reads X Q (operand.Move p) (operand.Copy q)
  copied_for_move p q h c s = record { reads = move_copy p q h c; scalars = s }

  -- folded: a constant for what is known
  pub known : (p : Place) (c : Const) → Knows p c → scalar_ty_of X.source (operand.Copy p) ≡ scalar_ty_of X.target (operand.Const c) → Reads X Q (operand.Copy p) (operand.Const c)
  known p c h s = record { reads = copy_const p c h; scalars = s }

  pub known_for_move : (p : Place) (c : Const) → Knows p c → Clears p → scalar_ty_of X.source (operand.Move p) ≡ scalar_ty_of X.target (operand.Const c) → Reads X Q (operand.Move p) (operand.Const c)
  known_for_move p c h k s = record { reads = move_const p c h k; scalars = s }
