use Rattle.std.proofs.Common.{◌≡◌, ℕ, ◌<◌, ◌+◌, ◌/◌, suc, List, length, map, Result, Ok, Err, refl, ap, ap₂, ◌∙◌, arith}
use Rattle.mir_syntax.specs.declared.OutOfMemory.{OutOfMemory}
use Rattle.std.specs.List.{All}
use Rattle.std.proofs.lemmas.List.Elements.{All-get_or}
use Rattle.std.specs.Prelude.{IfOk}
use Rattle.cfg_simplify.specs.Simple.{numbers, walk}
use Rattle.cfg_simplify.specs.Code.{at}
use Rattle.cfg_simplify.proofs.equal.Lists.{length-numbers, all-numbers, walk-below, walk_twice, walk_more}
use Rattle.cfg_simplify.proofs.gotos.+walked.Goals as goal

step-inside : (steps : List ℕ) → All (λ b. b < length steps) steps → (b : ℕ) → b < length steps → at steps b < length steps
step-inside steps h b l = All-get_or (λ b. b < length steps) steps b 0 l h

inside : (steps list : List ℕ) (k m : ℕ) → All (λ b. b < length steps) steps → list ≡ map (walk (at steps) k) (numbers (length steps)) → m ≡ length steps → All (λ b. b < m) list
inside steps list k m h e same = all-numbers (walk (at steps) k) (length steps) m list e (λ b l. omega (arith, same, walk-below (at steps) (length steps) (step-inside steps h) k b l))

pub looked_up-requires : goal.looked_up-requires
looked_up-requires t c =
    let steps = c.args.steps.now in
    let e : c.as_slice.result.now ≡ map (walk (at steps) (c.args.count / 2)) (numbers (length steps)) = c.as_slice.ensures ∙ c.in_ok-half.ensures in
    let e2 : c.as_slice-2.result.now ≡ map (walk (at steps) (c.args.count / 2)) (numbers (length steps)) = c.as_slice-2.ensures ∙ c.in_ok-half.ensures in
    inside steps c.as_slice.result.now (c.args.count / 2) (length c.as_slice-2.result.now) c.requires.inside e (ap length e2 ∙ length-numbers (walk (at steps) (c.args.count / 2)) (length steps))

twice-is : (steps half first second twice : List ℕ) (h k : ℕ) → All (λ b. b < length steps) steps → half ≡ map (walk (at steps) h) (numbers (length steps)) → first ≡ half → second ≡ half → twice ≡ map (at second) first → k ≡ h + h → twice ≡ map (walk (at steps) k) (numbers (length steps))
twice-is steps half first second twice h k inner e e1 e2 e3 same =
    e3 ∙ ap₂ (λ (xs ys : List ℕ). map (at xs) ys) e2 e1 ∙ walk_twice (at steps) (length steps) h k half (step-inside steps inner) e same

pub returns-then-count-eq0-2 : goal.returns-then-count-eq0-2
returns-then-count-eq0-2 t c =
    twice-is c.args.steps.now c.in_ok-half.half c.as_slice.result.now c.as_slice-2.result.now c.in_ok-twice.twice (c.args.count / 2) c.args.count
    c.requires.inside c.in_ok-half.ensures c.as_slice.ensures c.as_slice-2.ensures c.in_ok-twice.ensures (omega arith)

pub looked_up-requires-2 : goal.looked_up-requires-2
looked_up-requires-2 t c =
    let h = c.args.count / 2 in
    let e = twice-is c.args.steps.now c.in_ok-half.half c.as_slice.result.now c.as_slice-2.result.now c.in_ok-twice.twice h (h + h)
    c.requires.inside c.in_ok-half.ensures c.as_slice.ensures c.as_slice-2.ensures c.in_ok-twice.ensures refl in
    inside c.args.steps.now c.as_slice-3.result.now (h + h) (length c.args.steps.now) c.requires.inside (c.as_slice-3.ensures ∙ e) refl

once-more : (steps twice list : List ℕ) (h k : ℕ) (r : Result (List ℕ) OutOfMemory) → IfOk r (λ found. found ≡ map (at steps) list) → list ≡ map (walk (at steps) h) (numbers (length steps)) → k ≡ suc h → IfOk r (λ found. found ≡ map (walk (at steps) k) (numbers (length steps)))
once-more steps twice list h k (Ok found) f e more = f ∙ walk_more steps (length steps) h k list e more
once-more steps twice list h k (Err x) f e more = f

pub returns : goal.returns
returns t c =
    let h = c.args.count / 2 in
    let e = twice-is c.args.steps.now c.in_ok-half.half c.as_slice.result.now c.as_slice-2.result.now c.in_ok-twice.twice h (h + h)
    c.requires.inside c.in_ok-half.ensures c.as_slice.ensures c.as_slice-2.ensures c.in_ok-twice.ensures refl in
    once-more c.args.steps.now c.in_ok-twice.twice c.as_slice-3.result.now (h + h) c.args.count c.looked_up-2.result c.looked_up-2.ensures (c.as_slice-3.ensures ∙ e) (omega arith)
