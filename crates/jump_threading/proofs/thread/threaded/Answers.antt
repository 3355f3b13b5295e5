use Rattle.std.proofs.Common.{◌≡◌, ℕ, ◌<◌, ◌≤◌, ◌-◌, IfOk, sym, ap, subst, length, get_or, arith}
use Rattle.std.proofs.lemmas.List.{length-map}
use Rattle.mir_syntax.specs.Tree.{trees_of}
use Rattle.mir_syntax.specs.Crate.{crate_of, body_of, block_of}
use Rattle.mir_syntax.specs.Shapes.{shapes_of}
use Rattle.jump_threading.specs.declared.thread.Edge.{Edge}
use Rattle.jump_threading.specs.Threaded.{threads}
use Rattle.jump_threading.proofs.equal.Redirects.{FromThere}
use Rattle.jump_threading.proofs.equal.InOrder.{threads_there}
use Rattle.jump_threading.proofs.equal.Whole.{made, all_leave, all_through, few_edges, body_is, still_in_table}
use Rattle.jump_threading.proofs.thread.threaded.Goals as goal

pub with_copies-requires-clause-leave : goal.with_copies-requires-clause-leave
with_copies-requires-clause-leave c =
    let trees = trees_of c.args.program.now.types in
    let D = shapes_of (crate_of c.args.program.now) in
    let b = body_of trees c.args.body in
    let es = c.in_ok-edges.edges in
    let ts = threads D c.in_ok-rows.rows b in
    let long : length b.blocks ≡ length c.args.body.blocks = length-map c.args.body.blocks (block_of trees) in
    subst (λ es. (i : ℕ) (d : Edge) → i < length es → (get_or es i d).from < length c.args.body.blocks) (sym c.as_slice.ensures)
    (all_leave b.blocks (length c.args.body.blocks) es ts c.in_ok-edges.ensures (subst (λ n. FromThere n ts) long (threads_there D c.in_ok-rows.rows b)))

pub with_copies-requires-clause-through : goal.with_copies-requires-clause-through
with_copies-requires-clause-through c =
    let trees = trees_of c.args.program.now.types in
    let D = shapes_of (crate_of c.args.program.now) in
    let b = body_of trees c.args.body in
    let es = c.in_ok-edges.edges in
    let ts = threads D c.in_ok-rows.rows b in
    let long : length b.blocks ≡ length c.args.body.blocks = length-map c.args.body.blocks (block_of trees) in
    subst (λ es. (i : ℕ) (d : Edge) → i < length es → (get_or es i d).through < length c.args.body.blocks) (sym c.as_slice.ensures)
    (subst (λ n. (i : ℕ) (d : Edge) → i < length es → (get_or es i d).through < n) long (all_through b.blocks es ts c.in_ok-edges.ensures))

pub with_copies-requires-clause-few : goal.with_copies-requires-clause-few
with_copies-requires-clause-few c =
    let trees = trees_of c.args.program.now.types in
    let D = shapes_of (crate_of c.args.program.now) in
    let b = body_of trees c.args.body in
    let es = c.in_ok-edges.edges in
    let long : length b.blocks ≡ length c.args.body.blocks = length-map c.args.body.blocks (block_of trees) in
    let few : length es ≤ 10000 - length b.blocks = few_edges D c.in_ok-rows.rows b es c.in_ok-edges.ensures in
    let same : length c.as_slice.result.now ≡ length es = ap length c.as_slice.ensures in
    let low = c.requires.few_blocks in
    omega (arith, long, few, same, low)

pub returns-clause-threaded : goal.returns-clause-threaded
returns-clause-threaded c =
    let trees = trees_of c.args.program.now.types in
    let D = shapes_of (crate_of c.args.program.now) in
    body_is D trees c.args.body c.in_ok-edges.edges c.in_ok-rows.rows c.with_copies.result c.in_ok-rows.ensures c.in_ok-edges.ensures c.with_copies.ensures.args c.with_copies.ensures.locals (subst (λ es. IfOk c.with_copies.result (λ left. left.blocks ≡ made c.args.body es)) c.as_slice.ensures c.with_copies.ensures.blocks)

pub returns-clause-in_table : goal.returns-clause-in_table
returns-clause-in_table c =
    still_in_table c.args.program.now.types c.args.body c.in_ok-edges.edges c.with_copies.result c.requires.body_ids c.with_copies.ensures.locals (subst (λ es. IfOk c.with_copies.result (λ left. left.blocks ≡ made c.args.body es)) c.as_slice.ensures c.with_copies.ensures.blocks)
