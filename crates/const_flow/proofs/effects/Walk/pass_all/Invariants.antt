use Rattle.std.proofs.Common.{◌≡◌, length, map, drop}
use Rattle.mir_syntax.specs.Crate.{stmt_of}
use Rattle.const_flow.specs.Facts.{after_all}
use Rattle.const_flow.specs.Sights.{text_in, trees_in, facts_in}
use Rattle.const_flow.proofs.effects.Walk.pass_all.Given as goal

abbrev pub invariant-loop-stmt : goal.invariant-loop-stmt
invariant-loop-stmt l =
    (length l.self.cells ≡ length l.sight.paths.now) × (after_all (text_in l.sight) (map (stmt_of (trees_in l.sight)) (drop l.stmt-index l.stmts)) (facts_in l.sight l.self.cells) ≡ after_all (text_in l.sight) (map (stmt_of (trees_in l.sight)) l.stmts) (facts_in l.sight l.fn.self.cells))
