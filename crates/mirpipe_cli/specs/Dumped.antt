-- The text of one function as it is at a stage of the passes.
use Rattle.std.specs.Prelude.{◌≡◌, ℕ, List, Some}
use Rattle.mir_syntax.specs.declared.stage.Stage.{Stage}
use Rattle.mir_syntax.specs.Crate.{TypedBody, TypedFunction, Crate}
use Rattle.mir_syntax.specs.Shapes.{shapes_of}
use Rattle.mir_text.specs.Text.{function_text}
use Rattle.mir_rules.specs.Valid.{with_body}
use Rattle.pass_order.specs.Stages.{at_stage}
use Rattle.crate_run.specs.Ran.{IsAt}

-- bytes are the text of the function with the path, with its body as it is at the stage
pub record IsDumped (C : Crate) (stage : Stage) (path bytes : List ℕ) : Type 0 where
  pub k : ℕ
  pub f : TypedFunction
  pub at : IsAt C path k f
  pub body : TypedBody
  pub staged : at_stage stage (shapes_of C) f.body ≡ Some body
  pub written : bytes ≡ function_text C (with_body f body)
