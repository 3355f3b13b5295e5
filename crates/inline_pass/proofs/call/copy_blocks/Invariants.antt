use Rattle.std.proofs.Common.{◌≡◌, ◌++◌, map, take}
use Rattle.inline_pass.specs.Code.{bare_block}
use Rattle.inline_pass.proofs.call.copy_blocks.Given as goal

abbrev pub invariant-loop-block : goal.invariant-loop-block
invariant-loop-block l = l.blocks ≡ l.fn.blocks ++ map (bare_block l.behind.locals l.behind.blocks l.dest l.next) (take l.block l.callee.blocks)
