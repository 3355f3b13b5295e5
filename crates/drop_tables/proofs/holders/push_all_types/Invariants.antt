use Rattle.std.proofs.Common.{◌≡◌, ◌++◌, take}
use Rattle.std.specs.List.{flat_map}
use Rattle.drop_tables.specs.Marks.{ids_of}
use Rattle.drop_tables.proofs.holders.push_all_types.Given as goal

abbrev pub invariant-loop-variant : goal.invariant-loop-variant
invariant-loop-variant l = l.ids.items ≡ l.fn.ids.items ++ flat_map ids_of (take l.variant-index l.variants)
