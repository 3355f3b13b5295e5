use Rattle.std.proofs.Common.{◌≡◌, ◌<◌, ap, ◌∙◌, sym, subst, ℕ, Some, MatchOption, length, get_or, slice_get, arith}
use Rattle.std.proofs.lemmas.Option.{slice_get-get_or}
use Rattle.place_map.specs.Order.{IsOrdered}
use Rattle.place_map.specs.Tracked.{beyond, IsNumber}
use Rattle.place_map.proofs.Sides.{beyond_long}
use Rattle.place_map.proofs.Spans.{none_between, is_first, none_is, number_is}
use Rattle.place_map.proofs.path_map.PathMap.find_part.Goals as goal

pub returns-then-span : goal.returns-then-span
returns-then-span c = none_between c.args.self.now (beyond c.args.place.now c.args.way.now) c.under_part-span.result.from c.under_part-span.result.to c.under_part-span.ensures.spans c.if-span.true

pub returns-in_err-left : goal.returns-in_err-left
returns-in_err-left c =
    let places = c.args.self.now in
    let p = beyond c.args.place.now c.args.way.now in
    let from = c.under_part-span.result.from in
    let q = c.index-as_slice-span.result in
    let same : c.as_slice.result.now ≡ places = c.as_slice.ensures ∙ c.self.view_is in
    let ordered : IsOrdered places = subst IsOrdered c.self.view_is c.self.invariant in
    let within : from < length places = (let up = c.under_part-span.ensures.within in let apart = c.if-span.false in omega arith) in
    let here : slice_get places from ≡ Some q = slice_get-get_or places from q within ∙ ap Some (ap (λ ps. get_or ps from q) (sym same) ∙ sym c.index-as_slice-span.is) in
    let long = beyond_long c.args.place.now c.args.way.now in
    let short = c.in_err-left.ensures in
    subst (λ r. MatchOption r ((i : ℕ) → slice_get places i ≡ Some p → ⊥) (IsNumber places p)) (sym c.from_residual.ensures)
    (none_is places p from c.under_part-span.result.to c.under_part-span.ensures.spans ordered q here (λ e. short (omega (arith, c.len.ensures, c.len-2.ensures))))

pub returns-then-left-way : goal.returns-then-left-way
returns-then-left-way c =
    let places = c.args.self.now in
    let p = beyond c.args.place.now c.args.way.now in
    let from = c.under_part-span.result.from in
    let q = c.index-as_slice-span.result in
    let same : c.as_slice.result.now ≡ places = c.as_slice.ensures ∙ c.self.view_is in
    let ordered : IsOrdered places = subst IsOrdered c.self.view_is c.self.invariant in
    let within : from < length places = (let up = c.under_part-span.ensures.within in let apart = c.if-span.false in omega arith) in
    let here : slice_get places from ≡ Some q = slice_get-get_or places from q within ∙ ap Some (ap (λ ps. get_or ps from q) (sym same) ∙ sym c.index-as_slice-span.is) in
    let long = beyond_long c.args.place.now c.args.way.now in
    let left = c.in_ok-left.ensures in
    let equal : length q.proj ≡ length p.proj = omega (arith, c.len.ensures, c.len-2.ensures, c.if-left-way.true, left.0, left.1) in
    number_is places p from c.under_part-span.result.to c.under_part-span.ensures.spans ordered (is_first places p from c.under_part-span.result.to c.under_part-span.ensures.spans q here c.if-span.false c.under_part-span.ensures.within.0 equal)

pub returns-else-left-way : goal.returns-else-left-way
returns-else-left-way c =
    let places = c.args.self.now in
    let p = beyond c.args.place.now c.args.way.now in
    let from = c.under_part-span.result.from in
    let q = c.index-as_slice-span.result in
    let same : c.as_slice.result.now ≡ places = c.as_slice.ensures ∙ c.self.view_is in
    let ordered : IsOrdered places = subst IsOrdered c.self.view_is c.self.invariant in
    let within : from < length places = (let up = c.under_part-span.ensures.within in let apart = c.if-span.false in omega arith) in
    let here : slice_get places from ≡ Some q = slice_get-get_or places from q within ∙ ap Some (ap (λ ps. get_or ps from q) (sym same) ∙ sym c.index-as_slice-span.is) in
    let long = beyond_long c.args.place.now c.args.way.now in
    let left = c.in_ok-left.ensures in
    let other = c.if-left-way.false in
    none_is places p from c.under_part-span.result.to c.under_part-span.ensures.spans ordered q here (λ e. other (omega (arith, c.len.ensures, c.len-2.ensures, left.0, left.1)))
