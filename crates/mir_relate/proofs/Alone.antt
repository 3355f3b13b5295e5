-- What the source evaluates alone: an assignment that goes, an rvalue that is a constant now.
use Rattle.std.proofs.Common.{◌≡◌, refl, sym, subst, ℕ, List, [], ◌∷◌, Some}
use Rattle.mir_syntax.specs.declared.body.Const.{Const}
use Rattle.mir_syntax.specs.declared.body.Operand.{Operand}
use Rattle.mir_syntax.specs.declared.body.Operand.TheVariants as operand
use Rattle.mir_syntax.specs.Crate.{TypedRvalue, «use», binary, overflow, unary, cast, discriminant, tuple, build}
use Rattle.mir_syntax.specs.Crate as rvalue
use Rattle.mir_semantics.specs.Values.{Value}
use Rattle.mir_semantics.specs.Memory.{Memory}
use Rattle.mir_semantics.specs.Step.{const_value, read, read_all, read_number, read_two, eval}
use Rattle.mir_syntax.proofs.Binds.{bind_some}
use Rattle.mir_renaming.proofs.Statements.{const_rel}
use Rattle.mir_renaming.proofs.Agree.{tight_self}
use Rattle.mir_relate.specs.Alike.{Between, Got, Sides, Same, Evals}
use Rattle.mir_relate.proofs.Leaves.{some_val}
use Rattle.mir_relate.proofs.Operands.{Clears, whole_at}

evaluated : (X : Sides) (m2 : Memory) (c : Const) → eval X.target m2 («use» (operand.Const c)) ≡ Some (const_value c, m2)
unfolding eval read
evaluated X m2 c = refl

module _ (X : Sides) (Q : Between) where
  -- a move makes its place blank on the source's side
  abbrev pub Spends : Operand → Type 0
  Spends (operand.Copy p) = Unit {0}
  Spends (operand.Move p) = Clears X Q p
  Spends (operand.Const c) = Unit {0}

  abbrev pub AllSpend : List Operand → Type 0
  AllSpend [] = Unit {0}
  AllSpend (o ∷ os) = Spends o × AllSpend os

  abbrev pub RvalueSpends : TypedRvalue → Type 0
  RvalueSpends («use» o) = Spends o
  RvalueSpends (binary op a b) = Spends a × Spends b
  RvalueSpends (overflow op a b) = Spends a × Spends b
  RvalueSpends (unary op a) = Spends a
  RvalueSpends (cast a t) = Spends a
  RvalueSpends (rvalue.ref p) = Unit {0}
  RvalueSpends (rvalue.ref_mut p) = Unit {0}
  RvalueSpends (discriminant p) = Unit {0}
  RvalueSpends (tuple os) = AllSpend os
  RvalueSpends (build d k os) = AllSpend os

  stays : {A : Type 0} (m2 m1 : Memory) (v : A) (r : A × Memory) → Some (v, m1) ≡ Some r → Q m2 m1 → Q m2 r.1
  stays {A = A} m2 m1 v r e l = subst (λ (r : A × Memory). Q m2 r.1) (some_val e) l

  pub read_alone : (o : Operand) → Spends o → (m2 m1 : Memory) (r : Value × Memory) → Q m2 m1 → read X.source m1 o ≡ Some r → Q m2 r.1
  unfolding read
  read_alone (operand.Copy p) h m2 m1 r l e =
      let (a, e1, k1) = bind_some e in
      let (v, e2, k2) = bind_some k1 in
      stays m2 m1 v r k2 l
  read_alone (operand.Move p) h m2 m1 r l e =
      let (a, e1, k1) = bind_some e in
      let (v, e2, k2) = bind_some k1 in
      let (t, e3, k3) = bind_some k2 in
      stays m2 _ v r k3 (h.clears m2 m1 a t v l e1 e3 (whole_at X Q m1 a v e2).0)
  read_alone (operand.Const c) h m2 m1 r l e = stays m2 m1 (const_value c) r e l

  pub all_alone : (os : List Operand) → AllSpend os → (m2 m1 : Memory) (r : List Value × Memory) → Q m2 m1 → read_all X.source m1 os ≡ Some r → Q m2 r.1
  unfolding read_all
  all_alone [] h m2 m1 r l e = stays m2 m1 [] r e l
  all_alone (o ∷ os) h m2 m1 r l e =
      let (x, e1, k1) = bind_some e in
      let (y, e2, k2) = bind_some k1 in
      stays m2 y.1 (x.0 ∷ y.0) r k2 (all_alone os h.1 m2 x.1 y (read_alone o h.0 m2 m1 x l e1) e2)

  pub number_alone : (o : Operand) → Spends o → (m2 m1 : Memory) (r : ℕ × Memory) → Q m2 m1 → read_number X.source m1 o ≡ Some r → Q m2 r.1
  unfolding read_number
  number_alone o h m2 m1 r l e =
      let (x, e1, k1) = bind_some e in
      let (n, e2, k2) = bind_some k1 in
      stays m2 x.1 n r k2 (read_alone o h m2 m1 x l e1)

  two_alone : (a b : Operand) → Spends a → Spends b → (m2 m1 : Memory) (r : (ℕ × ℕ) × Memory) → Q m2 m1 → read_two X.source m1 a b ≡ Some r → Q m2 r.1
  unfolding read_two
  two_alone a b ha hb m2 m1 r l e =
      let (x, e1, k1) = bind_some e in
      let (y, e2, k2) = bind_some k1 in
      stays m2 y.1 (x.0, y.0) r k2 (number_alone b hb m2 x.1 y (number_alone a ha m2 m1 x l e1) e2)

  pub eval_alone : (x : TypedRvalue) → RvalueSpends x → (m2 m1 : Memory) (r : Value × Memory) → Q m2 m1 → eval X.source m1 x ≡ Some r → Q m2 r.1
  unfolding eval
  eval_alone («use» o) h m2 m1 r l e = read_alone o h m2 m1 r l e
  eval_alone (binary op a b) h m2 m1 r l e =
      let (t, e1, k1) = bind_some e in
      let (x, e2, k2) = bind_some k1 in
      let (n, e3, k3) = bind_some k2 in
      stays m2 x.1 _ r k3 (two_alone a b h.0 h.1 m2 m1 x l e2)
  eval_alone (overflow op a b) h m2 m1 r l e =
      let (t, e1, k1) = bind_some e in
      let (x, e2, k2) = bind_some k1 in
      stays m2 x.1 _ r k2 (two_alone a b h.0 h.1 m2 m1 x l e2)
  eval_alone (unary op a) h m2 m1 r l e =
      let (t, e1, k1) = bind_some e in
      let (x, e2, k2) = bind_some k1 in
      stays m2 x.1 _ r k2 (number_alone a h m2 m1 x l e2)
  eval_alone (cast a to) h m2 m1 r l e =
      let (t, e1, k1) = bind_some e in
      let (s, e2, k2) = bind_some k1 in
      let (x, e3, k3) = bind_some k2 in
      stays m2 x.1 _ r k3 (number_alone a h m2 m1 x l e3)
  eval_alone (rvalue.ref p) h m2 m1 r l e = let (a, e1, k1) = bind_some e in stays m2 m1 _ r k1 l
  eval_alone (rvalue.ref_mut p) h m2 m1 r l e = let (a, e1, k1) = bind_some e in stays m2 m1 _ r k1 l
  eval_alone (discriminant p) h m2 m1 r l e =
      let (a, e1, k1) = bind_some e in
      let (v, e2, k2) = bind_some k1 in
      let (n, e3, k3) = bind_some k2 in
      stays m2 m1 _ r k3 l
  eval_alone (tuple os) h m2 m1 r l e = let (x, e1, k1) = bind_some e in stays m2 x.1 _ r k1 (all_alone os h m2 m1 x l e1)
  eval_alone (build d k os) h m2 m1 r l e = let (x, e1, k1) = bind_some e in stays m2 x.1 _ r k1 (all_alone os h m2 m1 x l e1)

  -- folded: an rvalue whose value is known
  pub known_rvalue : (x : TypedRvalue) (c : Const) → RvalueSpends x → ((m2 m1 : Memory) (r : Value × Memory) → Q m2 m1 → eval X.source m1 x ≡ Some r → r.0 ≡ const_value c) → Evals X Q Q x («use» (operand.Const c))
  known_rvalue x c h is = record { evals = λ m2 m1 r l e. got m2 m1 r l e }
    where
      got : (m2 m1 : Memory) (r : Value × Memory) → Q m2 m1 → eval X.source m1 x ≡ Some r → Got (Same X.lent) Q r (eval X.target m2 («use» (operand.Const c)))
      got m2 m1 r l e = ((const_value c, m2), evaluated X m2 c, subst (λ y. Same X.lent y (const_value c)) (sym (is m2 m1 r l e)) (const_rel X.lent c, tight_self (const_value c)), eval_alone x h m2 m1 r l e)
