use Rattle.std.proofs.Common.{◌≡◌, ◌∙◌, ap, lit<, false, length, [], ◌∷◌}
use Rattle.std.specs.Str.{bytes_eq}
use Rattle.mir_syntax.specs.declared.number.Number.{Number}
use Rattle.pipe_words.specs.Numbers.{number_text}
use Rattle.std.proofs.lemmas.Iterator.Splits.{YieldsList-from_str_split}
use Rattle.std.proofs.lemmas.Iterator.Consumers.{YieldsList-turn, YieldsList-end}
use Rattle.std.specs.Str.Iter.{split_text, split_has_more, split_pattern}
use Rattle.pipe_words.proofs.NumberLists.{Ranged, no_list, lists}
use Rattle.pipe_words.proofs.numbers.read_numbers.Goals as goal

pub returns-in-None-read_number : goal.returns-in-None-read_number
returns-in-None-read_number c = λ ns is.
    let into : c.into_iter-part-iterator.result ≡ c.split-part-items.result = c.into_iter-part-iterator.ensures.into_iter_gives in
    let from = YieldsList-from_str_split {s = c.into_iter-part-iterator.result} 44 c.args.word.now (lit< tt) (ap split_text into ∙ c.split-part-items.ensures.text) (ap split_has_more into ∙ c.split-part-items.ensures.has_more) (ap split_pattern into ∙ c.split-part-items.ensures.pattern) in
    let turn = YieldsList-turn from c.loop-part.yielded _ c.loop-part.yielded_by _ _ c.in-Some.part c.in-Some.is c.next.ensures.steps in
    let other : bytes_eq c.args.word.now (45 ∷ []) ≡ false = cc in
    let none : (n : Number) → Ranged n → c.in-Some.part.now ≡ number_text n → ⊥ = λ n range e. c.in-None-read_number.ensures n range (c.as_bytes.ensures.value ∙ e) in
    no_list c.args.word.now (length c.loop-part.yielded) c.in-Some.part.now other turn.0 turn.1 none ns is

pub returns : goal.returns
returns c =
    let into : c.into_iter-part-iterator.result ≡ c.split-part-items.result = c.into_iter-part-iterator.ensures.into_iter_gives in
    let from = YieldsList-from_str_split {s = c.into_iter-part-iterator.result} 44 c.args.word.now (lit< tt) (ap split_text into ∙ c.split-part-items.ensures.text) (ap split_has_more into ∙ c.split-part-items.ensures.has_more) (ap split_pattern into ∙ c.split-part-items.ensures.pattern) in
    let end = YieldsList-end from c.loop-part.yielded _ c.loop-part.yielded_by _ _ c.in-None.is c.next.ensures.steps in
    lists c.args.word.now c.loop-part.numbers c.loop-part.invariant.range (c.loop-part.invariant.texts ∙ end.0)
