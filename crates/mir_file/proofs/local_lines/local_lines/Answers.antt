use Rattle.std.proofs.Common.{[], ◌∙◌, ◌++◌, map, ap, ap₂, append-nil}
use Rattle.mir_text.specs.ReadLines.{local_lines}
use Rattle.mir_tree.specs.Bodies.{lined}
use Rattle.mir_tree.specs.Rules.{arg_rule}
use Rattle.mir_file.proofs.LineSteps.{none_lined}
use Rattle.mir_file.proofs.local_lines.local_lines.Goals as goal

pub returns : goal.returns
returns c =
    let count = c.args.count in
    let lets = c.as_slice.result.now in
    let x = c.args.function.now in
    c.set_lines-2.ensures (map (lined arg_rule) lets ++ []) count (c.set_lines.ensures [] count (c.in_ok-found.ensures ∙ none_lined count))
    ∙ ap₂ (λ a b. local_lines (map (lined arg_rule) a ++ (map (lined arg_rule) b ++ [])) 0 count) c.as_slice-2.ensures c.as_slice.ensures
    ∙ ap (λ l. local_lines (map (lined arg_rule) x.args.items ++ l) 0 count) (append-nil (map (lined arg_rule) x.lets))
