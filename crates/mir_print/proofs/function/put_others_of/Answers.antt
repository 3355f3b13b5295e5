use Rattle.std.proofs.lemmas.List.{drop-map}
use Rattle.std.proofs.Common.{arith, suc, ◌+◌, ◌≡◌}
use Rattle.mir_syntax.specs.Tree.{at_id, trees_of}
use Rattle.mir_print.proofs.function.put_others_of.Goals as goal

pub returns : goal.returns
returns g c =
    let next : suc c.args.body.now.args ≡ c.args.body.now.args + 1 = omega arith in let h = rw (c.later_ids.ensures, c.as_slice.ensures) at c.put_lets.ensures in rw (next, drop-map (at_id (trees_of c.args.program.now.types)) (c.args.body.now.args + 1) c.args.body.now.locals) h
