use Rattle.std.proofs.Common.{◌≡◌, ◌≤◌, ◌++◌, length, drop}
use Rattle.mir_syntax.specs.declared.program.Program.{Program}
use Rattle.mir_syntax.specs.Tree.{at_ids, trees_of}
use Rattle.mir_semantics.specs.Step.{field_visits}
use Rattle.mir_meaning.specs.Views.{addr_of}
use Rattle.mir_machine.specs.Seen.{items_in}
use Rattle.mir_machine.proofs.visits.push_types.Given as goal

abbrev pub invariant-loop-k : goal.invariant-loop-k
invariant-loop-k l = record {
  within : l.k ≤ length l.types;
  made : (p : Program) → items_in p l.items ≡ field_visits (addr_of l.at) l.k (at_ids (trees_of p.types) (drop l.k l.types)) ++ items_in p l.fn.items;
}

abbrev pub decreases-loop-k : goal.decreases-loop-k
decreases-loop-k l = l.k
