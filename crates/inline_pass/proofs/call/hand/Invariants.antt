use Rattle.std.proofs.Common.{◌≡◌, ◌+◌, ◌++◌, length}
use Rattle.std.specs.Vec.Iter.{into_iter_items}
use Rattle.inline_pass.specs.Code.{bare_handed}
use Rattle.inline_pass.proofs.call.hand.Given as goal

abbrev pub invariant-each : goal.invariant-each
invariant-each l = record {
  told : l.stmts ++ bare_handed l.local (into_iter_items l.arg-iterator) ≡ l.fn.stmts ++ bare_handed l.fn.first l.fn.args;
  few : l.local + length (into_iter_items l.arg-iterator) ≡ l.fn.first + length l.fn.args;
}
