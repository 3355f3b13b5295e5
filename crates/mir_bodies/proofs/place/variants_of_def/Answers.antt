use Rattle.mir_syntax.specs.Tree.{trees_of}
use Rattle.mir_bodies.proofs.OnTypes.{no_def, enum_def, struct_def}
use Rattle.mir_bodies.proofs.place.variants_of_def.Goals as goal

pub returns-in_err-def : goal.returns-in_err-def
returns-in_err-def c = rw c.from_residual.ensures (no_def (trees_of c.args.program.now.types) c.args.program.now.defs c.args.def c.in_err-def.ensures)

pub returns-then-def : goal.returns-then-def
returns-then-def c =
    rw c.as_slice.ensures (enum_def (trees_of c.args.program.now.types) c.args.program.now.defs c.args.def c.in_ok-def.def.now c.in_ok-def.ensures c.if-def.true)

pub returns-else-def : goal.returns-else-def
returns-else-def c = struct_def (trees_of c.args.program.now.types) c.args.program.now.defs c.args.def c.in_ok-def.def.now c.in_ok-def.ensures c.if-def.false
