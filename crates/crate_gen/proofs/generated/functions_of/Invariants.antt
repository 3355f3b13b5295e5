use Rattle.std.proofs.Common.{◌≡◌, ◌++◌, ◌-◌, ◌<◌, ℕ, List, map}
use Rattle.std.specs.Prelude.{IsTrue}
use Rattle.std.specs.List.{list_all}
use Rattle.mir_syntax.specs.Tree.{Tree, at_id}
use Rattle.mir_syntax.specs.Crate.{function_of}
use Rattle.mir_syntax.specs.Ids.{function_below}
use Rattle.crate_gen.specs.Made.{number_ty, bool_ty, made_functions}
use Rattle.crate_gen.proofs.generated.functions_of.Given as goal

abbrev pub invariant-loop-at : goal.invariant-loop-at
invariant-loop-at l =
    ((trees : List Tree) → at_id trees l.types.number ≡ number_ty → at_id trees l.types.flag ≡ bool_ty → map (function_of trees) l.functions ++ made_functions l.count l.at (l.count - l.at) l.random.state ≡ made_functions l.count 0 l.count l.start)
    × ((n : ℕ) → l.types.number.0 < n → l.types.flag.0 < n → IsTrue (list_all (function_below n) l.functions))
