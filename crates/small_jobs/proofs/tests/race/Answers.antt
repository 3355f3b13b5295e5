use Rattle.std.proofs.Common.{[], ◌∷◌}
use Rattle.small_jobs.proofs.Race.{won_stack, left_stack, still}
use Rattle.small_jobs.proofs.tests.race.Goals as goal

pub fail-requires-clause-latest : goal.fail-requires-clause-latest
fail-requires-clause-latest c κs =
    let st = c.in-Won.ensures.step in
    let stack = won_stack c.args.table.now.0 c.args.table.now.1.thief_reads st.0 c.args.root c.in-Won.claim c.args.first.now c.claim-claimed.new.seat c.requires.first st.1 st.2.0 st.2.1.query in
    ([], ((c.args.root.query, []) ∷ [], stack))

pub fail-requires-in-Won-clause-latest : goal.fail-requires-in-Won-clause-latest
fail-requires-in-Won-clause-latest c κs =
    let st = c.in-Won.ensures.step in
    let stack = won_stack c.args.table.now.0 c.args.table.now.1.thief_reads st.0 c.args.root c.in-Won.claim c.args.first.now c.claim-claimed.new.seat c.requires.first st.1 st.2.0 st.2.1.query in
    ([], ([], left_stack c.in-Won.claim c.args.root c.claim-claimed.new.seat c.fail.new.seat stack c.fail.ensures.step))

pub fail-requires-in-Lost-clause-latest : goal.fail-requires-in-Lost-clause-latest
fail-requires-in-Lost-clause-latest c κs =
    let st = c.in-Lost.ensures.step in
    ([], ([], (still c.args.table.now.0 c.args.table.now.1.thief_reads st.0 c.args.root c.args.first.now c.claim-claimed.new.seat c.requires.first c.in-Lost.ensures.seat st.1 st.2.1).stack))
