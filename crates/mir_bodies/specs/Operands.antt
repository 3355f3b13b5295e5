-- What the operands of a list mean, by their trees.
use Rattle.std.specs.Prelude.{ℕ, List}
use Rattle.mir_syntax.specs.declared.body.Operand.{Operand}
use Rattle.mir_text.specs.GrammarPlaces.{PlaceRule}
use Rattle.mir_text.specs.NamedBodies.{operand_named}
use Rattle.mir_text.specs.NameFaults.{operand_codes}
use Rattle.mir_text.specs.ReadLines.{operand_places}
use Rattle.mir_tree.specs.declared.operand.OperandText.{OperandText}
use Rattle.mir_tree.specs.declared.rvalue.NamedText.{NamedText}
use Rattle.mir_tree.specs.Bodies.{operand_rule}
use Rattle.mir_bodies.specs.Scope.{Sense}

abbrev pub text_operand : Sense → OperandText → Operand
text_operand sense x = operand_named sense.names sense.locals (operand_rule x)

abbrev pub text_codes : Sense → OperandText → List ℕ
text_codes sense x = operand_codes sense.names sense.locals (operand_rule x)

abbrev pub text_places : OperandText → List PlaceRule
text_places x = operand_places (operand_rule x)

-- the operand behind a name
abbrev pub behind_name : NamedText → OperandText
behind_name x = x.operand
