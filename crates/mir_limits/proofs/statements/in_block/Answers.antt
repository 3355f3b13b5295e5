use Rattle.std.proofs.Common.{◌≡◌, length, slice_get, Some, None, refl, sym, ap, ◌∙◌, arith, eqb-true}
use Rattle.std.proofs.lemmas.Option.{slice_get_within}
use Rattle.mir_syntax.proofs.Lists.{slice_get-none}
use Rattle.mir_rules.specs.Broken.{statement}
use Rattle.mir_rules.specs.Limits.{statement_spot}
use Rattle.mir_limits.proofs.Counted.{single_at, single_long}
use Rattle.mir_limits.proofs.Fitting.{statement_line}
use Rattle.mir_limits.proofs.statements.in_block.Goals as goal

pub returns-in-Some : goal.returns-in-Some
returns-in-Some c = λ all f block g k typed e h same fits.
    let left = c.args.left in
    let line = c.in-Some.line in
    let at : slice_get c.args.lines.now left ≡ Some line = sym (c.copied.ensures ∙ c.get.ensures) ∙ c.in-Some.is in
    let within = slice_get_within c.args.lines.now left line at in
    let long : length k.stmts ≡ length typed.stmts = eqb-true (length k.stmts) (length typed.stmts) fits in
    let alike = ap length same in (
      statement f block left,
      single_at (statement_spot f block) (statement f block) (λ i x. refl) typed.stmts left (omega (arith, within, long, alike)),
      statement_line all f block left line g k e h (ap (λ l. slice_get l left) same ∙ at),
    )

pub returns-in-None : goal.returns-in-None
returns-in-None c = λ all f block g k typed e h same fits.
    let at : slice_get c.args.lines.now c.args.left ≡ None = sym (c.copied.ensures ∙ c.get.ensures) ∙ c.in-None.is in
    let beyond = slice_get-none c.args.lines.now c.args.left at in
    let long : length k.stmts ≡ length typed.stmts = eqb-true (length k.stmts) (length typed.stmts) fits in
    let found = single_long (statement_spot f block) (statement f block) (λ i x. refl) typed.stmts in
    let alike = ap length same in
    omega (arith, beyond, long, found, alike, c.len.ensures)
