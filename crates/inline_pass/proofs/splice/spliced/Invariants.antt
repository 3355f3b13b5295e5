use Rattle.std.proofs.Common.{◌≡◌, ◌≤◌, ◌-◌, length}
use Rattle.mir_syntax.specs.Tree.{trees_of}
use Rattle.mir_syntax.specs.Crate.{body_of}
use Rattle.inline_pass.specs.Spliced.{rounds, spliced, most_depth}
use Rattle.inline_pass.specs.Takes.{taken_in}
use Rattle.inline_pass.specs.Caller.{IsCaller}
use Rattle.inline_pass.proofs.splice.spliced.Given as goal

abbrev pub invariant-loop-depth : goal.invariant-loop-depth
invariant-loop-depth g l = record {
  body : rounds (taken_in l.program l.large (g.C.CalleeBodies.lent l.bodies) (g.C.CalleeBodies.qualifies l.bodies)) (most_depth - l.depth) l.from (body_of (trees_of l.program.types) l.caller.body) ≡ spliced (taken_in l.program l.large (g.C.CalleeBodies.lent l.bodies) (g.C.CalleeBodies.qualifies l.bodies)) (body_of (trees_of l.program.types) l.fn.body);
  caller : IsCaller l.program l.caller;
  from : l.from ≤ length l.caller.body.blocks;
}
