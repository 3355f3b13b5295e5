use Rattle.std.proofs.Common.{map, arith, true}
use Rattle.mir_print.specs.Seen.{crate_in}
use Rattle.mir_syntax.specs.Tree.{trees_of}
use Rattle.mir_text.specs.Text.{functions_text}
use Rattle.mir_syntax.specs.Crate.{function_of}
use Rattle.mir_print.proofs.Texts.{remains_more, remains_none, first_function, no_functions}
use Rattle.mir_print.proofs.program.put_functions.Goals as goal

pub loop-function-preserved : goal.loop-function-preserved
loop-function-preserved g c =
    let C = crate_in c.args.program.now in
    let typed = function_of (trees_of c.args.program.now.types) in
    remains_more (λ xs. functions_text C c.loop-function.before (map typed xs)) (λ xs. functions_text C true (map typed xs))
    c.args.functions.now c.loop-function.function-index c.function-item.result (omega (arith, c.loop-function-test.true)) c.function-item.is
    (first_function C c.loop-function.before _ _) c.loop-function.invariant c.put_next_function.ensures

pub returns : goal.returns
returns g c =
    remains_none (λ xs. functions_text (crate_in c.args.program.now) c.loop-function.before (map (function_of (trees_of c.args.program.now.types)) xs)) c.args.functions.now c.loop-function.function-index
    (omega (arith, c.loop-function-test.false)) (no_functions (crate_in c.args.program.now) c.loop-function.before) c.loop-function.invariant
