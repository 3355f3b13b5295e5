-- A folded body breaks no rule where the body breaks none: statements.
use Rattle.std.proofs.Common.{◌≡◌, refl, sym, ap, ap₂, ◌∙◌, subst, ℕ, Bool, false, ◌||◌, List, [], ◌∷◌, Option, Some, None, arith}
use Rattle.std.specs.List.{list_any}
use Rattle.mir_syntax.specs.declared.types.ScalarTy.{ScalarTy}
use Rattle.mir_syntax.specs.declared.types.ScalarTy.TheVariants as scalar_ty
use Rattle.mir_syntax.specs.declared.body.Proj.TheVariants.{Field}
use Rattle.mir_syntax.specs.declared.body.Const.{Const}
use Rattle.mir_syntax.specs.declared.body.Operand.{Operand}
use Rattle.mir_syntax.specs.declared.body.Operand.TheVariants as operand
use Rattle.mir_syntax.specs.declared.body.BinOp.{BinOp}
use Rattle.mir_syntax.specs.declared.body.UnOp.{UnOp}
use Rattle.mir_syntax.specs.declared.body.UnOp.TheVariants as un_op
use Rattle.mir_syntax.specs.Tree.{Tree, scalar, empty, more, ref, ref_mut, named}
use Rattle.mir_syntax.specs.Crate.{TypedRvalue, «use», binary, overflow, unary, cast, discriminant, tuple, build}
use Rattle.mir_syntax.specs.Crate as rvalue
use Rattle.mir_syntax.specs.Shapes.{Shape, ◌>>=◌}
use Rattle.mir_semantics.specs.Step.{Here, scalar_in, scalar_ty_of, type_of}
use Rattle.mir_semantics.specs.Step as semantics
use Rattle.mir_rules.specs.Typing.{operand_ty, operands_ty, rvalue_ty, binary_ty, overflow_ty, unary_ty, cast_ty, build_ty, takes, kind_of, made_by}
use Rattle.mir_syntax.proofs.Binds.{bind_some, some_bind}
use Rattle.mir_rules.proofs.Lists.{then_some_is, or_false-left, or_false-right}
use Rattle.const_flow.specs.declared.cell.Cell.{Cell}
use Rattle.const_flow.specs.Facts.{Facts, known, value_known}
use Rattle.const_rewrite.specs.Folded.{literal, literal_of, or_constant, folded_operand, folded_operands, binary_result, number_or, pair_or, folded_rvalue}
use Rattle.const_rewrite.proofs.Literals.{literal_known, literal_ty}

some_one : {A : Type 0} {x y : A} → Some x ≡ Some y → x ≡ y
some_one e = grind arith

scalar_is : (t : Tree) (s : ScalarTy) → scalar_in t ≡ Some s → t ≡ scalar s
scalar_is (scalar x) s e = ap scalar (some_one e)
scalar_is empty s e = absurd (grind arith)
scalar_is (more a b) s e = absurd (grind arith)
scalar_is (ref a) s e = absurd (grind arith)
scalar_is (ref_mut a) s e = absurd (grind arith)
scalar_is (named d) s e = absurd (grind arith)

-- the type of a binary rvalue's constant
made_is : (h : Here) (op : BinOp) (a : Operand) (x t : ScalarTy) → scalar_ty_of h a ≡ Some x → binary_result h op a ≡ Some t → made_by (kind_of op) x ≡ scalar t
unfolding binary_result
made_is h op a x t ex e = (let (y, e1, k1) = bind_some e in scalar_is (made_by (kind_of op) x) t (ap (λ y. scalar_in (made_by (kind_of op) y)) (some_one (sym ex ∙ e1)) ∙ k1))

binary_made : (op : BinOp) (x : ScalarTy) (u ty : Tree) → binary_ty op (scalar x) u ≡ Some ty → made_by (kind_of op) x ≡ ty
binary_made op x (scalar y) ty e = (then_some_is (takes (kind_of op) x y) (made_by (kind_of op) x) ty e).1
binary_made op x empty ty e = absurd (grind arith)
binary_made op x (more a b) ty e = absurd (grind arith)
binary_made op x (ref a) ty e = absurd (grind arith)
binary_made op x (ref_mut a) ty e = absurd (grind arith)
binary_made op x (named d) ty e = absurd (grind arith)

unary_made : (op : UnOp) (x : ScalarTy) (ty : Tree) → unary_ty op (scalar x) ≡ Some ty → ty ≡ scalar x
unary_made un_op.Not x ty e = sym (some_one e)
unary_made un_op.Neg x ty e = sym (then_some_is _ (scalar x) ty e).1

binary_left : (op : BinOp) (u w ty : Tree) → binary_ty op u w ≡ Some ty → (x : ScalarTy) × (u ≡ scalar x)
binary_left op (scalar x) w ty e = (x, refl)
binary_left op empty w ty e = absurd (grind arith)
binary_left op (more a b) w ty e = absurd (grind arith)
binary_left op (ref a) w ty e = absurd (grind arith)
binary_left op (ref_mut a) w ty e = absurd (grind arith)
binary_left op (named d) w ty e = absurd (grind arith)

overflow_made : (x : ScalarTy) (u ty : Tree) → overflow_ty (scalar x) u ≡ Some ty → ty ≡ more (scalar x) (more (scalar scalar_ty.Bool) empty)
overflow_made x (scalar y) ty e = sym (then_some_is _ _ ty e).1
overflow_made x empty ty e = absurd (grind arith)
overflow_made x (more a b) ty e = absurd (grind arith)
overflow_made x (ref a) ty e = absurd (grind arith)
overflow_made x (ref_mut a) ty e = absurd (grind arith)
overflow_made x (named d) ty e = absurd (grind arith)

cast_made : (to u ty : Tree) → cast_ty to u ≡ Some ty → ty ≡ to
cast_made to (scalar x) ty e = let (s, e1, k1) = bind_some e in sym (then_some_is _ to ty k1).1
cast_made to empty ty e = absurd (grind arith)
cast_made to (more a b) ty e = absurd (grind arith)
cast_made to (ref a) ty e = absurd (grind arith)
cast_made to (ref_mut a) ty e = absurd (grind arith)
cast_made to (named d) ty e = absurd (grind arith)

module _ (D : List Shape) (locals : List Tree) (fs : Facts) where
  abbrev T : Here
  T = record { shapes = D; locals = locals; frame = 0 }

  same_ty : (o : Operand) → semantics.operand_ty T o ≡ operand_ty D locals o
  unfolding semantics.operand_ty operand_ty type_of
  same_ty (operand.Copy p) = refl
  same_ty (operand.Move p) = refl
  same_ty (operand.Const c) = refl

  -- an operand of which a scalar type is known
  pub typed_as : (o : Operand) (t : ScalarTy) → scalar_ty_of T o ≡ Some t → operand_ty D locals o ≡ Some (scalar t)
  unfolding scalar_ty_of
  typed_as o t e = let (u, e1, e2) = bind_some e in sym (same_ty o) ∙ e1 ∙ ap Some (scalar_is u t e2)

  scalar_of_typed : (o : Operand) (x : ScalarTy) → operand_ty D locals o ≡ Some (scalar x) → scalar_ty_of T o ≡ Some x
  unfolding scalar_ty_of
  scalar_of_typed o x e = some_bind scalar_in (same_ty o ∙ e) refl

  const_typed : (c : Const) (t : ScalarTy) (n : ℕ) → literal t n ≡ Some c → operand_ty D locals (operand.Const c) ≡ Some (scalar t)
  unfolding operand_ty
  const_typed c t n e = ap Some (literal_ty t n c e)

  pub operand_kept : (o : Operand) → operand_ty D locals (folded_operand T fs o) ≡ operand_ty D locals o
  unfolding folded_operand
  operand_kept o = go (literal_of (scalar_ty_of T o) (known fs o)) refl
    where
      go : (c : Option Const) → literal_of (scalar_ty_of T o) (known fs o) ≡ c → operand_ty D locals (or_constant c o) ≡ operand_ty D locals o
      go None e = refl
      go (Some c) e = let (t, n, et, ek, el) = literal_known (scalar_ty_of T o) (known fs o) c e in const_typed c t n el ∙ sym (typed_as o t et)

  pub operands_kept : (os : List Operand) → operands_ty D locals (folded_operands T fs os) ≡ operands_ty D locals os
  unfolding operands_ty
  operands_kept [] = refl
  operands_kept (o ∷ os) = ap₂ (λ a b. a >>= λ t. b >>= λ ts. Some (more t ts)) (operand_kept o) (operands_kept os)

  number_ty : (o : Option ScalarTy) (k : Cell) (y : TypedRvalue) (ty : Tree) → ((t : ScalarTy) → o ≡ Some t → ty ≡ scalar t) → rvalue_ty D locals y ≡ Some ty → rvalue_ty D locals (number_or (literal_of o k) y) ≡ Some ty
  unfolding rvalue_ty
  number_ty o k y ty h e = go (literal_of o k) refl
    where
      go : (c : Option Const) → literal_of o k ≡ c → rvalue_ty D locals (number_or c y) ≡ Some ty
      go None q = e
      go (Some c) q = let (t, n, et, ek, el) = literal_known o k c q in const_typed c t n el ∙ ap Some (sym (h t et))

  pair_ty : (o : Option ScalarTy) (k k' : Cell) (y : TypedRvalue) (ty : Tree) → ((t : ScalarTy) → o ≡ Some t → ty ≡ more (scalar t) (more (scalar scalar_ty.Bool) empty)) → rvalue_ty D locals y ≡ Some ty → rvalue_ty D locals (pair_or (literal_of o k) (literal_of (Some scalar_ty.Bool) k') y) ≡ Some ty
  unfolding rvalue_ty operands_ty ◌>>=◌
  pair_ty o k k' y ty h e = go (literal_of o k) (literal_of (Some scalar_ty.Bool) k') refl refl
    where
      go : (c c' : Option Const) → literal_of o k ≡ c → literal_of (Some scalar_ty.Bool) k' ≡ c' → rvalue_ty D locals (pair_or c c' y) ≡ Some ty
      go None c' q q' = e
      go (Some c) None q q' = e
      go (Some c) (Some c') q q' =
          let (t, n, et, ek, el) = literal_known o k c q in
          let (t', n', et', ek', el') = literal_known (Some scalar_ty.Bool) k' c' q' in
          let same : t' ≡ scalar_ty.Bool = sym (some_one et') in
          ap₂ (λ a b. a >>= λ t. (b >>= λ u. Some (more u empty)) >>= λ ts. Some (more t ts)) (const_typed c t n el) (const_typed c' t' n' el' ∙ ap (λ t. Some (scalar t)) same) ∙ ap Some (sym (h t et))

  -- the rvalue's type stays
  pub rvalue_kept : (x : TypedRvalue) (ty : Tree) → rvalue_ty D locals x ≡ Some ty → rvalue_ty D locals (folded_rvalue T fs x) ≡ Some ty
  unfolding rvalue_ty folded_rvalue
  rvalue_kept («use» o) ty e = operand_kept o ∙ e
  rvalue_kept (binary op a b) ty e =
      number_ty (binary_result T op a) (value_known T fs (binary op a b) []) (binary op (folded_operand T fs a) (folded_operand T fs b)) ty (λ t q. from t q) (ap₂ (λ o k. o >>= λ t. k >>= binary_ty op t) (operand_kept a) (operand_kept b) ∙ e)
    where
      from : (t : ScalarTy) → binary_result T op a ≡ Some t → ty ≡ scalar t
      from t q =
          let (u, e1, k1) = bind_some e in
          let (w, e2, k2) = bind_some k1 in
          let (x, ux) = binary_left op u w ty k2 in
          sym (binary_made op x w ty (subst (λ u. binary_ty op u w ≡ Some ty) ux k2)) ∙ made_is T op a x t (scalar_of_typed a x (e1 ∙ ap Some ux)) q
  rvalue_kept (overflow op a b) ty e =
      pair_ty (scalar_ty_of T a) (value_known T fs (overflow op a b) (Field 0 ∷ [])) (value_known T fs (overflow op a b) (Field 1 ∷ [])) (overflow op (folded_operand T fs a) (folded_operand T fs b)) ty (λ t q. from t q) (ap₂ (λ o k. o >>= λ t. k >>= overflow_ty t) (operand_kept a) (operand_kept b) ∙ e)
    where
      from : (t : ScalarTy) → scalar_ty_of T a ≡ Some t → ty ≡ more (scalar t) (more (scalar scalar_ty.Bool) empty)
      from t q =
          let (u, e1, k1) = bind_some e in
          let (w, e2, k2) = bind_some k1 in
          let ut : u ≡ scalar t = some_one (sym e1 ∙ typed_as a t q) in
          overflow_made t w ty (subst (λ u. overflow_ty u w ≡ Some ty) ut k2)
  rvalue_kept (unary op a) ty e =
      number_ty (scalar_ty_of T a) (value_known T fs (unary op a) []) (unary op (folded_operand T fs a)) ty (λ t q. from t q) (ap (λ o. o >>= unary_ty op) (operand_kept a) ∙ e)
    where
      from : (t : ScalarTy) → scalar_ty_of T a ≡ Some t → ty ≡ scalar t
      from t q =
          let (u, e1, k1) = bind_some e in
          unary_made op t ty (subst (λ u. unary_ty op u ≡ Some ty) (some_one (sym e1 ∙ typed_as a t q)) k1)
  rvalue_kept (cast a to) ty e =
      number_ty (scalar_in to) (value_known T fs (cast a to) []) (cast (folded_operand T fs a) to) ty (λ t q. from t q) (ap (λ o. o >>= cast_ty to) (operand_kept a) ∙ e)
    where
      from : (t : ScalarTy) → scalar_in to ≡ Some t → ty ≡ scalar t
      from t q =
          let (u, e1, k1) = bind_some e in
          cast_made to u ty k1 ∙ scalar_is to t q
  rvalue_kept (rvalue.ref p) ty e = e
  rvalue_kept (rvalue.ref_mut p) ty e = e
  rvalue_kept (discriminant p) ty e = e
  rvalue_kept (tuple os) ty e = operands_kept os ∙ e
  rvalue_kept (build d k os) ty e = ap (λ o. o >>= build_ty D d k) (operands_kept os) ∙ e

  -- what is moved is moved by the source too
  pub fewer_moves : (p : Operand → Bool) → ((c : Const) → p (operand.Const c) ≡ false) → (o : Operand) → p o ≡ false → p (folded_operand T fs o) ≡ false
  unfolding folded_operand
  fewer_moves p h o e = go (literal_of (scalar_ty_of T o) (known fs o))
    where
      go : (c : Option Const) → p (or_constant c o) ≡ false
      go None = e
      go (Some c) = h c

  pub all_fewer : (p : Operand → Bool) → ((c : Const) → p (operand.Const c) ≡ false) → (os : List Operand) → list_any p os ≡ false → list_any p (folded_operands T fs os) ≡ false
  all_fewer p h [] e = refl
  all_fewer p h (o ∷ os) e = ap₂ (λ a b. a || b) (fewer_moves p h o (or_false-left (p o) (list_any p os) e)) (all_fewer p h os (or_false-right (p o) (list_any p os) e))
