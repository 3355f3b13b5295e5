-- Which cause an answer has that is handed on.
use Rattle.std.proofs.Common.{◌≡◌, ℕ, Result, Ok, Err, refl, sym, ap, ◌∙◌}
use Rattle.std.specs.Result.{IsErrAnd}
use Rattle.mir_resolve.specs.declared.faults.NameFault.{NameFault}
use Rattle.mir_file.specs.declared.resolve.Unresolved.{Unresolved}
use Rattle.mir_file.specs.declared.resolve.Unresolved.TheVariants as unresolved
use Rattle.mir_reader.specs.declared.refused.ReadRefused.{ReadRefused}
use Rattle.mir_reader.specs.declared.refused.ReadRefused.TheVariants as refused
use Rattle.mir_reader.specs.Refusals.{refused_by_names}

abbrev cause_in : {B : Type 0} → Result B ReadRefused → ReadRefused
cause_in (Ok y) = refused.OutOfMemory
cause_in (Err e) = e

abbrev code_in : ReadRefused → ℕ
code_in (refused.Fault code line) = code
code_in refused.OutOfMemory = 0

abbrev line_in : ReadRefused → ℕ
line_in (refused.Fault code line) = line
line_in refused.OutOfMemory = 0

-- what is answered by handing on is what the call answered
pub handed-on : {A B : Type 0} (cause : ReadRefused) (r : Result A ReadRefused) (s : Result B ReadRefused) (e : ReadRefused)
    → r ≡ Err cause → IsErrAnd s (λ x. x ≡ cause) → s ≡ Err e → r ≡ Err e
handed-on cause r (Ok y) e is same h = absurd same
handed-on cause r (Err x) e is same h = is ∙ ap (λ z. Err z) (sym same ∙ ap cause_in h)

-- a fault that is answered is one of names
pub record OfNames (cause : Unresolved) (code line : ℕ) : Type 0 where
  pub fault : NameFault
  pub is : cause ≡ unresolved.Names fault
  pub code_is : fault.code ≡ code
  pub line_is : fault.line ≡ line

pub of-names : {B : Type 0} (cause : Unresolved) (s : Result B ReadRefused) (code line : ℕ)
    → IsErrAnd s (λ x. x ≡ refused_by_names cause) → s ≡ Err (refused.Fault code line) → OfNames cause code line
of-names cause (Ok y) code line same h = absurd same
of-names (unresolved.Names fault) (Err x) code line same h =
    let e : refused.Fault fault.code fault.line ≡ refused.Fault code line = sym same ∙ ap cause_in h in
    record { fault = fault; is = refl; code_is = ap code_in e; line_is = ap line_in e }
of-names unresolved.OutOfMemory (Err x) code line same h =
    let e : refused.OutOfMemory ≡ refused.Fault code line = sym same ∙ ap cause_in h in
    absurd cc
