use Rattle.std.proofs.Common.{◌≡◌, ◌+◌, ◌≤◌, ◌∙◌, suc, ℕ, true, [], get_or, length, sym, ap, subst, arith, eqb-true}
use Rattle.std.specs.List.{Contains}
use Rattle.std.specs.Vec.{vec_len}
use Rattle.std.proofs.lemmas.List.{nil_from_length}
use Rattle.std.proofs.lemmas.List.Elements.{Contains-get_or}
use Rattle.drop_tables.specs.Marks.{is_marked}
use Rattle.drop_tables.specs.Holders.{Round}
use Rattle.drop_tables.proofs.Rounds.{IsSpread, marked_inside, spread_begins, spread_round, spread_over}
use Rattle.drop_tables.proofs.spread.spread.Goals as goal

pub loop-round-init : goal.loop-round-init
loop-round-init c =
    let holders = c.args.holders.now in
    let marks = c.into_vec-marks.result.items in
    let front = c.in_ok-front.front.items in
    let long : length marks ≡ length holders = ap length c.into_vec-marks.ensures ∙ c.requires.own in
    let same = c.as_slice.ensures.value in
    let found = λ (d : ℕ) (h : is_marked marks d ≡ true). c.in_ok-front.ensures.found d (ap (λ l. is_marked l d) same ∙ h) in
    let marked = λ (d : ℕ) (h : Contains front d). sym (ap (λ l. is_marked l d) same) ∙ c.in_ok-front.ensures.marked d h in (
      c.new-found.ensures.items,
      long,
      λ k d l. omega (arith, long, marked_inside marks (get_or front k d) (marked (get_or front k d) (Contains-get_or front k d l))),
      λ D are. subst (λ o. IsSpread D holders (is_marked o) marks front 0) c.into_vec-marks.ensures (spread_begins D holders marks front long found marked),
    )

pub returns-then-is_empty : goal.returns-then-is_empty
returns-then-is_empty c = λ D are d.
    let holders = c.args.holders.now in
    let marks = c.loop-round.marks.items in
    let none : c.loop-round.front.items ≡ [] = nil_from_length c.loop-round.front.items (let z : vec_len c.loop-round.front ≡ 0 = eqb-true (vec_len c.loop-round.front) 0 (sym c.is_empty.ensures ∙ c.if-is_empty.true) in omega (arith, z, c.loop-round.front.ok.0)) in
    let below : c.loop-round.round ≤ c.args.rounds = omega arith in
    let s = subst (λ f. IsSpread D holders (is_marked c.args.own) marks f c.loop-round.round) none (c.loop-round.invariant.3 D are) in
    ap (λ l. is_marked l d) c.from_vec.ensures ∙ spread_over D holders (is_marked c.args.own) are marks c.loop-round.round c.args.rounds below s d

pub loop-round-preserved : goal.loop-round-preserved
loop-round-preserved c =
    let holders = c.args.holders.now in
    let marks = c.loop-round.marks.items in
    let marks2 = c.mark_round.new.marks.items in
    let front = c.loop-round.front.items in
    let found = c.mark_round.new.found.items in
    let r : Round holders marks marks2 front found = subst (λ f. Round holders marks marks2 f found) c.as_slice-in-loop-round.ensures.value c.in_ok-mark_round.ensures in
    let next : suc c.loop-round.round ≡ c.loop-round.round + 1 = omega arith in (
      c.clear.ensures.items,
      r.long ∙ c.loop-round.invariant.1,
      rw c.swap.ensures.x_after (λ k d l. let p = r.from (get_or found k d) (Contains-get_or found k d l) in c.requires.inside p.0 (get_or found k d) p.2),
      rw c.swap.ensures.x_after (λ D are. subst (IsSpread D holders (is_marked c.args.own) marks2 found) next (spread_round D holders (is_marked c.args.own) are marks marks2 front found c.loop-round.round (c.loop-round.invariant.3 D are) r)),
    )
