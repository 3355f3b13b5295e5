use Rattle.std.proofs.Common.{◌≡◌, ◌&&◌, ◌∷◌, ◌∙◌, ℕ, List, map, ap, sym, not, subst}
use Rattle.mir_text.specs.Names.{string_at}
use Rattle.mir_text.specs.NameFaults.{none_twice, stands_in}
use Rattle.mir_tree.specs.declared.item.FieldText.{FieldText}
use Rattle.mir_resolve.specs.Once.{SameTexts}
use Rattle.mir_resolve.proofs.Making.{later_of, first_left}
use Rattle.mir_resolve.proofs.NoneTwice.{once_step, once_ended}
use Rattle.mir_resolve.proofs.once.fields_once.Goals as goal

pub names-preserved : goal.names-preserved
names-preserved c =
    let left = c.names.left.now in
    let item = c.field-item.result in
    let first : left ≡ item ∷ later_of left = first_left left item c.in-len1-up.len_at_least c.field-item.is in
    let f : FieldText → List ℕ = λ x. string_at c.args.strings.now x.name in
    let seen = c.names.seen in
    rw (c.both-once.ensures)
    (once_step c.names.once c.in_ok-new.new _ seen c.is_new.new.seen (f item) (map f (later_of left))
    (ap (λ l. c.names.once && none_twice seen (map f l)) (sym first) ∙ c.names.invariant)
    (c.in_ok-new.ensures.new ∙ ap (λ t. not (stands_in seen t)) c.string_of.ensures)
    (let P : List ℕ → Type 0 = λ t. SameTexts c.is_new.new.seen (t ∷ seen) in subst P c.string_of.ensures c.in_ok-new.ensures.seen))

pub returns : goal.returns
returns c = once_ended (λ x. string_at c.args.strings.now x.name) c.names.once _ c.names.seen c.names.left.now c.in_default.len_below c.names.invariant
