use Rattle.std.proofs.lemmas.List.{take_all, length-drop}
use Rattle.std.proofs.Common.{◌≡◌, ◌≤◌, ◌-◌, take, ap, ap₂, ◌∙◌, sym, List, length, drop, rules, arith}
use Rattle.mir_syntax.specs.declared.body.Proj.{Proj}
use Rattle.place_map.specs.declared.side.Side.TheVariants.{Before, Within, After}
use Rattle.place_map.specs.Order.{path_side}
use Rattle.place_map.proofs.Sides.{side_before, side_after, side_then, then_side, within_long}
use Rattle.place_map.proofs.side.place_side.Goals as goal

pub returns-then-tracked-place : goal.returns-then-tracked-place
returns-then-tracked-place c = side_before c.args.tracked.now c.args.place.now c.args.way.now c.if-tracked-place.true

pub returns-then-place-tracked : goal.returns-then-place-tracked
returns-then-place-tracked c = side_after c.args.tracked.now c.args.place.now c.args.way.now c.if-place-tracked.true

pub slice_bounds-path_side-count : goal.slice_bounds-path_side-count
slice_bounds-path_side-count c =
    let own = c.as_slice-own.result.now in
    let long : length c.as_slice.result.now ≤ length own = within_long own c.as_slice.result.now (sym c.path_side.ensures ∙ c.in-Within.is) in
    let same = ap length c.as_slice.ensures in
    omega (arith, c.len.ensures)

pub slice_bounds-path_side-start : goal.slice_bounds-path_side-start
slice_bounds-path_side-start c =
    let own = c.as_slice-own.result.now in
    let long : length c.as_slice.result.now ≤ length own = within_long own c.as_slice.result.now (sym c.path_side.ensures ∙ c.in-Within.is) in
    let same = ap length c.as_slice.ensures in
    let count : c.len.result ≤ length own = omega (arith, c.len.ensures) in
    search rules

pub returns-in-Before : goal.returns-in-Before
returns-in-Before c =
    let p = c.args.place.now in
    let q = c.args.tracked.now in
    let is : path_side q.proj p.proj ≡ Before = ap₂ path_side (sym c.as_slice-own.ensures) (sym c.as_slice.ensures) ∙ sym c.path_side.ensures ∙ c.in-Before.is in
    sym (ap (λ s. then_side s (path_side (drop (length p.proj) q.proj) c.args.way.now)) is) ∙ side_then q p c.args.way.now (omega (arith, c.if-tracked-place.false, c.if-place-tracked.false))

pub returns-in-After : goal.returns-in-After
returns-in-After c =
    let p = c.args.place.now in
    let q = c.args.tracked.now in
    let is : path_side q.proj p.proj ≡ After = ap₂ path_side (sym c.as_slice-own.ensures) (sym c.as_slice.ensures) ∙ sym c.path_side.ensures ∙ c.in-After.is in
    sym (ap (λ s. then_side s (path_side (drop (length p.proj) q.proj) c.args.way.now)) is) ∙ side_then q p c.args.way.now (omega (arith, c.if-tracked-place.false, c.if-place-tracked.false))

pub returns-in-Within : goal.returns-in-Within
returns-in-Within c =
    let p = c.args.place.now in
    let q = c.args.tracked.now in
    let way = c.args.way.now in
    let is : path_side q.proj p.proj ≡ Within = ap₂ path_side (sym c.as_slice-own.ensures) (sym c.as_slice.ensures) ∙ sym c.path_side.ensures ∙ c.in-Within.is in
    let own = c.as_slice-own.result.now in
    let all : take (length own - c.len.result) (drop c.len.result own) ≡ drop c.len.result own = take_all (length own - c.len.result) (drop c.len.result own) (let long = length-drop c.len.result own in omega arith) in
    let rest : c.path_side-in-Within.result ≡ path_side (drop (length p.proj) q.proj) way = c.path_side-in-Within.ensures ∙ ap (λ ps. path_side ps way) all ∙ ap₂ (λ n (ps : List Proj). path_side (drop n ps) way) c.len.ensures c.as_slice-own.ensures in
    rest ∙ sym (ap (λ s. then_side s (path_side (drop (length p.proj) q.proj) way)) is) ∙ side_then q p way (omega (arith, c.if-tracked-place.false, c.if-place-tracked.false))
