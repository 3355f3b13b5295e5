use Rattle.std.proofs.Common.{◌≡◌, ◌+◌, ◌-◌, ◌<◌, ◌∷◌, ◌∙◌, ◌++◌, map, drop, set, length, ap, sym, arith}
use Rattle.mir_text.specs.ReadLines.{local_lines}
use Rattle.mir_tree.specs.Bodies.{lined}
use Rattle.mir_tree.specs.Rules.{arg_rule}
use Rattle.mir_file.proofs.LineSteps.{line_set, from_place}
use Rattle.mir_file.proofs.local_lines.set_lines.Goals as goal

pub texts-preserved : goal.texts-preserved
texts-preserved c =
    let texts = c.args.texts.now in
    let left = c.texts.left in
    let item = c.index-texts-left.result in
    let some = c.texts-test.true in
    let within = c.texts.invariant.within in
    let inside : left - 1 < length texts = omega (arith, within, some) in
    let back : (left - 1) + 1 ≡ left = omega (arith, some) in
    record {
      set = λ done n h.
          c.set_line.ensures
          ∙ ap (λ l. set l item.part.local item.line) (c.texts.invariant.set done n h)
          ∙ line_set (lined arg_rule item) (map (lined arg_rule) (drop left texts) ++ done) n
          ∙ ap (λ l. local_lines (map (lined arg_rule) l ++ done) 0 n) (sym (from_place texts (left - 1) item inside c.index-texts-left.is ∙ ap (λ m. item ∷ drop m texts) back));
      within = omega arith;
    }

pub returns : goal.returns
returns c = λ done n h.
    let none : c.texts.left ≡ 0 = omega (arith, c.texts-test.false) in
    c.texts.invariant.set done n h ∙ ap (λ m. local_lines (map (lined arg_rule) (drop m c.args.texts.now) ++ done) 0 n) none
