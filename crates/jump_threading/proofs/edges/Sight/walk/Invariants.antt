use Rattle.std.proofs.Common.{◌≡◌, map, drop, option_map}
use Rattle.mir_syntax.specs.Crate.{stmt_of}
use Rattle.const_flow.specs.Facts.{after_all}
use Rattle.jump_threading.specs.Code.{text_in, trees_in}
use Rattle.jump_threading.proofs.edges.Sight.walk.Given as goal

abbrev pub invariant-loop-stmt : goal.invariant-loop-stmt
invariant-loop-stmt l =
    option_map (after_all (text_in l.self) (map (stmt_of (trees_in l.self)) (drop l.stmt-index l.stmts))) l.facts ≡ option_map (after_all (text_in l.self) (map (stmt_of (trees_in l.self)) l.stmts)) l.fn.facts
