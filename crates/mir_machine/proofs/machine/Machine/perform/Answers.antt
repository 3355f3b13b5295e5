use Rattle.std.proofs.Common.{◌≡◌, ◌+◌, suc, ap, map, slice_get, arith}
use Rattle.mir_syntax.specs.Tree.{trees_of}
use Rattle.mir_syntax.specs.Crate.{stmt_of}
use Rattle.mir_meaning.specs.Views.{memory_of}
use Rattle.mir_meaning.specs.Sight.{here_of}
use Rattle.mir_meaning.proofs.Binds.{stopped, gives_same}
use Rattle.mir_machine.specs.Seen.{code_in, control_in, state_in}
use Rattle.mir_machine.proofs.Ending.{performs_end, performs_lost, performs_stmt, no_stmt, stmt_at}
use Rattle.mir_machine.proofs.machine.Machine.perform.Goals as goal

pub returns-then-stmts-self-clause-goes : goal.returns-then-stmts-self-clause-goes
returns-then-stmts-self-clause-goes c =
    gives_same _ _ _ _ (performs_end (code_in c.args.here.program.now) (here_of c.args.here) (state_in c.args.here.program.now c.args.self.now) c.args.block.now.term (slice_get (map (stmt_of (trees_of c.args.here.program.now.types)) c.args.block.now.stmts) c.args.self.now.top.at)
    (no_stmt (trees_of c.args.here.program.now.types) c.args.block.now.stmts c.as_slice-stmts.result.now c.args.self.now.top.at c.as_slice-stmts.ensures (grind (arith, c.if-stmts-self.true)))) c.terminate.ensures.goes

pub returns-in_err-exec-clause-goes : goal.returns-in_err-exec-clause-goes
returns-in_err-exec-clause-goes c =
    stopped c.in_err-exec.field-0.0 c.exec.result c.from_residual.result _ _ _ _ c.in_err-exec.was c.from_residual.ensures.1 c.exec.ensures
    (performs_lost (code_in c.args.here.program.now) (here_of c.args.here) (state_in c.args.here.program.now c.args.self.now) c.args.block.now.term (slice_get (map (stmt_of (trees_of c.args.here.program.now.types)) c.args.block.now.stmts) c.args.self.now.top.at) (stmt_of (trees_of c.args.here.program.now.types) c.index-stmts-self.result)
    (stmt_at (trees_of c.args.here.program.now.types) c.args.block.now.stmts c.as_slice-stmts.result.now c.args.self.now.top.at c.index-stmts-self.result c.as_slice-stmts.ensures (grind (arith, c.if-stmts-self.false)) c.index-stmts-self.is))

pub returns-clause-goes : goal.returns-clause-goes
returns-clause-goes c =
    performs_stmt (code_in c.args.here.program.now) (here_of c.args.here) (state_in c.args.here.program.now c.args.self.now) c.args.block.now.term (slice_get (map (stmt_of (trees_of c.args.here.program.now.types)) c.args.block.now.stmts) c.args.self.now.top.at) (stmt_of (trees_of c.args.here.program.now.types) c.index-stmts-self.result) (memory_of c.exec.new.memory)
    (record (control_in c.args.here.program.now c.args.self.now.top) { at = c.args.self.now.top.at + 1 })
    (stmt_at (trees_of c.args.here.program.now.types) c.args.block.now.stmts c.as_slice-stmts.result.now c.args.self.now.top.at c.index-stmts-self.result c.as_slice-stmts.ensures (grind (arith, c.if-stmts-self.false)) c.index-stmts-self.is)
    c.in_ok-exec.ensures (ap (λ n. record (control_in c.args.here.program.now c.args.self.now.top) { at = n }) (let one : c.args.self.now.top.at + 1 ≡ suc c.args.self.now.top.at = omega arith in one))
