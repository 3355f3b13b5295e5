use Rattle.std.proofs.Common.{◌∙◌, ap}
use Rattle.mir_syntax.specs.Tree.{trees_of}
use Rattle.mir_syntax.specs.Crate.{stmt_of}
use Rattle.mir_meaning.specs.Views.{memory_of}
use Rattle.mir_meaning.specs.Sight.{here_of}
use Rattle.mir_semantics.specs.Step.{exec}
use Rattle.mir_meaning.proofs.Binds.{gives_same}
use Rattle.mir_meaning.proofs.Execs.{live_is, dead_is}
use Rattle.mir_meaning.proofs.exec.exec.Goals as goal

pub returns-in-StorageLive : goal.returns-in-StorageLive
returns-in-StorageLive c = gives_same _ _ _ _ (ap (λ s. exec (here_of c.args.here) (memory_of c.args.memory.now) (stmt_of (trees_of c.args.here.program.now.types) s)) c.in-StorageLive.is ∙ live_is (here_of c.args.here) (memory_of c.args.memory.now) c.in-StorageLive.local) c.set_blank.ensures

pub returns-in-StorageDead : goal.returns-in-StorageDead
returns-in-StorageDead c = gives_same _ _ _ _ (ap (λ s. exec (here_of c.args.here) (memory_of c.args.memory.now) (stmt_of (trees_of c.args.here.program.now.types) s)) c.in-StorageDead.is ∙ dead_is (here_of c.args.here) (memory_of c.args.memory.now) c.in-StorageDead.local) c.set_blank-in-StorageDead.ensures
