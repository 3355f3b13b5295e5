use Rattle.std.proofs.Common.{◌≡◌, ◌≤◌, ◌-◌, length}
use Rattle.std.specs.List.{range_with_len}
use Rattle.mir_syntax.specs.Tree.{trees_of}
use Rattle.mir_syntax.specs.Crate.{body_of}
use Rattle.inline_pass.specs.Spliced.{inlined_in}
use Rattle.inline_pass.specs.Takes.{taken_in}
use Rattle.inline_pass.specs.Caller.{IsCaller}
use Rattle.inline_pass.proofs.splice.inline_from.Given as goal

abbrev pub invariant-loop-block : goal.invariant-loop-block
invariant-loop-block g l = record {
  body : body_of (trees_of l.program.types) l.caller.body ≡ inlined_in (taken_in l.program l.large (g.C.CalleeBodies.lent l.bodies) (g.C.CalleeBodies.qualifies l.bodies)) (body_of (trees_of l.program.types) l.fn.caller.body) (range_with_len l.from (l.block - l.from));
  caller : IsCaller l.program l.caller;
  grows : length l.fn.caller.body.blocks ≤ length l.caller.body.blocks;
}
