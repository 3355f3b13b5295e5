use Rattle.std.proofs.Common.{◌≡◌, ◌<◌, ◌+◌, ◌-◌, ◌*◌, ◌++◌, ◌∷◌, sym, ap, ◌∙◌, arith}
use Rattle.crate_gen.specs.Made.{functions_lines}
use Rattle.crate_gen.proofs.Loops.{one_made, lines_more}
use Rattle.crate_gen.proofs.lines.functions_lines.Goals as goal

pub loop-at-preserved : goal.loop-at-preserved
loop-at-preserved c =
    let i = c.loop-at.at in
    let n = c.args.functions in
    let lines = c.loop-at.lines in
    let line = c.in_ok-function_lines.field-0 in
    let rest = functions_lines (1 + 26 * (i + 1)) (n - (i + 1)) in
    let low : i < n = omega arith in
    let first : functions_lines (1 + 26 * i) (n - i) ≡ line ∷ rest = lines_more n i low ∙ ap (λ l. l ∷ rest) (sym c.in_ok-function_lines.ensures) in
    ap (λ ls. ls ++ rest) c.in_ok-push.ensures.ok ∙ one_made lines line rest (functions_lines 1 n) (ap (λ ys. lines ++ ys) (sym first) ∙ c.loop-at.invariant)
