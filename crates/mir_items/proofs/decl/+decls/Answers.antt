-- A scope opens one level, and there is none at depth 0.
use Rattle.std.proofs.Common.{Err, sym, ap, ◌∙◌, arith}
use Rattle.mir_parse.specs.Faults.{fault_at}
use Rattle.mir_items.specs.Decls.{scope_at-outer, scope_at-too_deep}
use Rattle.mir_items.proofs.decl.+decls.Goals as goal

pub read_scope-returns-then-depth-eq0-clause-read : goal.read_scope-returns-then-depth-eq0-clause-read
read_scope-returns-then-depth-eq0-clause-read t c =
    scope_at-too_deep c.args.lines.now c.args.depth c.args.lets.now c.args.past.now c.if-depth-eq0.true
    ∙ ap (λ l. Err (fault_at 6 l)) (sym c.requires) ∙ ap (λ e. Err e) (sym c.fault_at.ensures)

pub read_scope-returns-clause-read : goal.read_scope-returns-clause-read
read_scope-returns-clause-read t c =
    rw (scope_at-outer c.args.lines.now c.args.depth c.args.lets.now c.args.past.now (omega arith)) c.read_inner_scope.ensures.read
