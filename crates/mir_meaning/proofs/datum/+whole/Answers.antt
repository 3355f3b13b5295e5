use Rattle.std.proofs.Common.{◌≡◌, ◌∙◌, slice_get, Some, true, refl, sym, arith}
use Rattle.std.proofs.lemmas.Option.{slice_get_read}
use borrow.Author.Count.{below_more}
use Rattle.mir_semantics.specs.Values.{whole}
use Rattle.mir_meaning.specs.Views.{value_of}
use Rattle.mir_meaning.specs.declared.datum.Datum.{Datum}
use Rattle.mir_meaning.proofs.Values.{whole_false, whole_true}
use Rattle.mir_meaning.proofs.datum.+whole.Goals as goal

pub all_whole-returns-then-not-is_whole : goal.all_whole-returns-then-not-is_whole
all_whole-returns-then-not-is_whole t c =
    sym (whole_false c.args.fields.now c.loop-field.field-index c.field-item.result (slice_get_read _ _ _ _ refl c.loop-field-test.true c.field-item.is) (sym c.is_whole.ensures ∙ c.if-not-is_whole.true))

pub all_whole-returns : goal.all_whole-returns
all_whole-returns t c = sym (whole_true c.args.fields.now (λ k b v e. c.loop-field.invariant k (omega arith) v e))

pub all_whole-loop-field-preserved : goal.all_whole-loop-field-preserved
all_whole-loop-field-preserved t c =
    let at : slice_get c.args.fields.now c.loop-field.field-index ≡ Some c.field-item.result = slice_get_read _ _ _ _ refl c.loop-field-test.true c.field-item.is in
    let ok : whole (value_of c.field-item.result) ≡ true = sym c.is_whole.ensures ∙ c.if-not-is_whole.false in
    below_more (λ k. (v : Datum) → slice_get c.args.fields.now k ≡ Some v → whole (value_of v) ≡ true) _ c.loop-field.invariant (λ v e. let same : v ≡ c.field-item.result = cc in cc)
