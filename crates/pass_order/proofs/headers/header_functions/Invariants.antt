use Rattle.std.proofs.Common.{◌≡◌, map, take}
use Rattle.pass_order.specs.Programs.{header_function}
use Rattle.pass_order.proofs.headers.header_functions.Given as goal

abbrev pub invariant-loop-function : goal.invariant-loop-function
invariant-loop-function l = l.headers ≡ map header_function (take l.function-index l.functions)
