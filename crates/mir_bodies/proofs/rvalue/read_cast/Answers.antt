use Rattle.mir_text.specs.NameFaults.{type_codes}
use Rattle.mir_tree.specs.Types.{type_rule}
use Rattle.mir_resolve.specs.Definitions.{Went}
use Rattle.mir_bodies.proofs.Reading.{went_then}
use Rattle.mir_bodies.proofs.TellsOn.{tells_on}
use Rattle.mir_bodies.proofs.rvalue.read_cast.Goals as goal

pub returns-clause-went : goal.returns-clause-went
returns-clause-went g c =
    let named : Went c.read_operand.new.draft c.read_noted.new.draft c.args.line (type_codes g.sense.names (type_rule c.args.ty.now)) =
    rw (c.requires.strings, c.requires.paths) c.in_ok-ty.ensures.went in
    went_then c.in_ok-operand.ensures.went named

pub returns-clause-tells : goal.returns-clause-tells
returns-clause-tells g c = tells_on c.in_ok-operand.ensures.tells c.in_ok-ty.ensures.went.grown
