-- Operands and rvalues whose locals are all among some.
use Rattle.std.proofs.Common.{ℕ, List, [], ◌∷◌}
use Rattle.mir_syntax.specs.declared.body.Operand.{Operand}
use Rattle.mir_syntax.specs.declared.body.Operand.TheVariants as operand
use Rattle.mir_syntax.specs.Crate.{TypedRvalue, «use», binary, overflow, unary, cast, discriminant, tuple, build}
use Rattle.mir_syntax.specs.Crate as rvalue

abbrev pub Among : Type 1
Among = ℕ → Type 0

abbrev pub OkOperand : Among → Operand → Type 0
OkOperand A (operand.Copy p) = A p.local
OkOperand A (operand.Move p) = A p.local
OkOperand A (operand.Const c) = Unit {0}

abbrev pub OkOperands : Among → List Operand → Type 0
OkOperands A [] = Unit {0}
OkOperands A (o ∷ os) = OkOperand A o × OkOperands A os

abbrev pub OkRvalue : Among → TypedRvalue → Type 0
OkRvalue A («use» o) = OkOperand A o
OkRvalue A (binary op a b) = OkOperand A a × OkOperand A b
OkRvalue A (overflow op a b) = OkOperand A a × OkOperand A b
OkRvalue A (unary op a) = OkOperand A a
OkRvalue A (cast a t) = OkOperand A a
OkRvalue A (rvalue.ref p) = A p.local
OkRvalue A (rvalue.ref_mut p) = A p.local
OkRvalue A (discriminant p) = A p.local
OkRvalue A (tuple os) = OkOperands A os
OkRvalue A (build d k os) = OkOperands A os

-- all of them are, where each local is
pub all_operand : (A : Among) → ((x : ℕ) → A x) → (o : Operand) → OkOperand A o
all_operand A h (operand.Copy p) = h p.local
all_operand A h (operand.Move p) = h p.local
all_operand A h (operand.Const c) = tt

pub all_operands : (A : Among) → ((x : ℕ) → A x) → (os : List Operand) → OkOperands A os
all_operands A h [] = tt
all_operands A h (o ∷ os) = (all_operand A h o, all_operands A h os)

pub all_rvalue : (A : Among) → ((x : ℕ) → A x) → (r : TypedRvalue) → OkRvalue A r
all_rvalue A h («use» o) = all_operand A h o
all_rvalue A h (binary op a b) = (all_operand A h a, all_operand A h b)
all_rvalue A h (overflow op a b) = (all_operand A h a, all_operand A h b)
all_rvalue A h (unary op a) = all_operand A h a
all_rvalue A h (cast a t) = all_operand A h a
all_rvalue A h (rvalue.ref p) = h p.local
all_rvalue A h (rvalue.ref_mut p) = h p.local
all_rvalue A h (discriminant p) = h p.local
all_rvalue A h (tuple os) = all_operands A h os
all_rvalue A h (build d k os) = all_operands A h os
