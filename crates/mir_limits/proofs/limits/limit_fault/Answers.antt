use Rattle.std.proofs.Common.{◌≡◌, ◌++◌, map, ap, ap₂, ◌∙◌}
use Rattle.std.specs.Option.{option_map, option_or}
use Rattle.mir_syntax.specs.Crate.{crate_of}
use Rattle.mir_syntax.specs.Shapes.{shapes_of}
use Rattle.mir_text.specs.NameFaults.{first_fault}
use Rattle.mir_rules.specs.Broken.{gather}
use Rattle.mir_rules.specs.Limits.{most_functions, most_statements, blocks_count, locals_count, count_passed, functions_passed, types_passed, bodies_passed, statements_passed, passed}
use Rattle.mir_rules.specs.Faults.{by_code, first_limit}
use Rattle.mir_limits.specs.Answer.{answer_of, either}
use Rattle.mir_limits.proofs.Gathered.{both_walks}
use Rattle.mir_limits.proofs.Answered.{on, in_order, or_answer}
use Rattle.mir_limits.proofs.limits.limit_fault.Goals as goal

pub returns : goal.returns
unfolding first_limit passed bodies_passed
returns c =
    let lines = c.args.lines.now in
    let C = crate_of c.args.program.now in
    let D = shapes_of C in
    let fit = c.requires.fit in
    let tell = by_code lines in
    let functions = c.functions_line.result in
    let types = c.types_line.result in
    let blocks = c.bodies_lines-bodies.result.blocks in
    let locals = c.bodies_lines-bodies.result.locals in
    let statements = c.statements_line.result in
    let two : option_map answer_of c.or.result ≡ option_or (on 2 functions) (on 3 types) =
    ap (option_map answer_of) c.or.ensures ∙ (or_answer c.at_code-functions.result c.at_code-types.result ∙ ap₂ option_or c.at_code-functions.ensures c.at_code-types.ensures) in
    let three : option_map answer_of c.or-2.result ≡ option_or (option_or (on 2 functions) (on 3 types)) (on 4 blocks) =
    ap (option_map answer_of) c.or-2.ensures ∙ (or_answer c.or.result c.at_code-blocks.result ∙ ap₂ option_or two c.at_code-blocks.ensures) in
    let four : option_map answer_of c.or-3.result ≡ option_or (option_or (option_or (on 2 functions) (on 3 types)) (on 4 blocks)) (on 5 locals) =
    ap (option_map answer_of) c.or-3.ensures ∙ (or_answer c.or-2.result c.at_code-locals.result ∙ ap₂ option_or three c.at_code-locals.ensures) in
    let five = ap (option_map answer_of) c.or-4.ensures ∙ (or_answer c.or-3.result c.at_code-statements.result ∙ ap₂ option_or four c.at_code-statements.ensures) in
    let by_blocks = gather (count_passed 4 (blocks_count D)) 0 C.functions in
    let by_locals = gather (count_passed 5 (locals_count D)) 0 C.functions in
    let by_statements = statements_passed most_statements C in
    let bodies : either (on 4 blocks) (on 5 locals) ≡ first_fault (map tell (by_blocks ++ by_locals)) =
    ap₂ either c.bodies_lines-bodies.ensures.blocks c.bodies_lines-bodies.ensures.locals ∙ both_walks tell by_blocks by_locals in
    let later = ap₂ either bodies (c.statements_line.ensures C fit) ∙ both_walks tell (by_blocks ++ by_locals) by_statements in
    let typed = ap₂ either c.types_line.ensures later ∙ both_walks tell (types_passed C) ((by_blocks ++ by_locals) ++ by_statements) in
    five ∙ (in_order functions types blocks locals statements
    ∙ (ap₂ either (c.functions_line.ensures C fit) typed ∙ both_walks tell (functions_passed most_functions C) (types_passed C ++ ((by_blocks ++ by_locals) ++ by_statements))))
