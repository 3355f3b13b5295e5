use Rattle.std.proofs.Common.{◌≡◌, ◌≤◌, ◌++◌, length, drop}
use Rattle.mir_syntax.specs.declared.program.Program.{Program}
use Rattle.mir_syntax.specs.Tree.{trees_of}
use Rattle.mir_syntax.specs.Shapes.{fields_tree}
use Rattle.mir_semantics.specs.Step.{field_visits}
use Rattle.mir_meaning.specs.Views.{addr_of}
use Rattle.mir_machine.specs.Seen.{items_in, inside}
use Rattle.mir_machine.proofs.visits.push_fields.Given as goal

abbrev pub invariant-loop-k : goal.invariant-loop-k
invariant-loop-k l = record {
  within : l.k ≤ length l.fields;
  made : (p : Program) → items_in p l.items ≡ field_visits (inside (addr_of l.at) l.variant) l.k (fields_tree (trees_of p.types) (drop l.k l.fields)) ++ items_in p l.fn.items;
}

abbrev pub decreases-loop-k : goal.decreases-loop-k
decreases-loop-k l = l.k
