use Rattle.mir_syntax.specs.Tree.{trees_of}
use Rattle.mir_bodies.specs.Locals.{declared_in}
use Rattle.mir_file.proofs.Bodies.{sense_with}
use Rattle.mir_file.proofs.functions.read_function.Given as goal

abbrev pub ghost-read_blocks : goal.ghost-read_blocks
ghost-read_blocks g a = sense_with g.names (declared_in (trees_of a.draft.now.program.types) a.scope.now.locals.now) a.texts.now
