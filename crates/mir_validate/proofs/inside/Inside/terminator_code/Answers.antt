use Rattle.std.proofs.Common.{sym, ◌∙◌}
use Rattle.mir_syntax.specs.Crate.{crate_of}
use Rattle.mir_syntax.specs.Tree.{trees_of}
use Rattle.mir_validate.specs.Inside.{shapes, local_types}
use Rattle.mir_rules.specs.BodyRules.{moves_through_destructor, moves_needing_indirectly}
use Rattle.mir_validate.proofs.TermCodes.{any_of_term, term_back, term_parts, term_own, term_operands_moved}
use Rattle.mir_validate.proofs.inside.Inside.terminator_code.Goals as goal

pub returns-then-goes_back : goal.returns-then-goes_back
returns-then-goes_back c =
    let p = c.args.self.now.program.now in
    let trees = trees_of p.types in
    let locals = local_types p c.args.self.now.body.now in
    term_back (crate_of p) (shapes p) locals c.args.term.now (sym c.goes_back.ensures ∙ c.if-goes_back.true)

pub returns-then-term_untyped : goal.returns-then-term_untyped
returns-then-term_untyped c =
    let p = c.args.self.now.program.now in
    let trees = trees_of p.types in
    let locals = local_types p c.args.self.now.body.now in
    term_parts (crate_of p) (shapes p) locals c.args.term.now (sym c.goes_back.ensures ∙ c.if-goes_back.false) (sym c.term_untyped.ensures ∙ c.if-term_untyped.true)

pub returns-in-Some : goal.returns-in-Some
returns-in-Some c =
    let p = c.args.self.now.program.now in
    let trees = trees_of p.types in
    let locals = local_types p c.args.self.now.body.now in
    term_own (crate_of p) (shapes p) locals c.args.term.now (sym c.goes_back.ensures ∙ c.if-goes_back.false) c.in-Some.code (sym c.term_untyped.ensures ∙ c.if-term_untyped.false) (sym c.in-Some.is ∙ c.in_ok-own.ensures)

pub returns-in-None : goal.returns-in-None
returns-in-None c =
    let p = c.args.self.now.program.now in
    let trees = trees_of p.types in
    let locals = local_types p c.args.self.now.body.now in
    let a = c.term_moves.result.through in
    let b = c.term_moves.result.indirectly in
    c.code.ensures ∙ term_operands_moved (crate_of p) (shapes p) locals c.args.term.now (sym c.goes_back.ensures ∙ c.if-goes_back.false) a b (sym c.term_untyped.ensures ∙ c.if-term_untyped.false) (sym c.in-None.is ∙ c.in_ok-own.ensures)
    (c.term_moves.ensures.through ∙ any_of_term (moves_through_destructor (shapes p) locals) c.args.term.now)
    (c.term_moves.ensures.indirectly ∙ any_of_term (moves_needing_indirectly (shapes p) locals) c.args.term.now)
