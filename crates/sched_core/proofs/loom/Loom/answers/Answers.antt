use Rattle.std.proofs.Common.{◌≡◌, ℕ, ◌+◌, ◌-◌, ◌<◌, List, ◌++◌, length, sym, ap, ◌∙◌, arith}
use Rattle.std.specs.Prelude.{Option, Some, None, slice_get}
use Rattle.sched_core.specs.Held.{roots_answers}
use Rattle.sched_core.proofs.Listed.{item_at, set_length, set_else}
use Rattle.sched_core.proofs.Weaving.{answers_more, answers_end}
use Rattle.sched_core.proofs.loom.Loom.answers.Goals as goal

is_answer : {A : Type 0} (xs : List (Option A)) (q r : ℕ) (o : Option A) (x y : A) → slice_get xs q ≡ slice_get xs r → slice_get xs q ≡ Some o → o ≡ Some x → slice_get xs r ≡ Some (Some y) → x ≡ y
is_answer xs q r o x y a b e f = (cc)

no_answer : {A : Type 0} (xs : List (Option A)) (q r : ℕ) (o : Option A) (y : A) → slice_get xs q ≡ slice_get xs r → slice_get xs q ≡ Some o → o ≡ None → slice_get xs r ≡ Some (Some y) → ⊥
no_answer xs q r o y a b e f = (cc)

pub loop-i-init : goal.loop-i-init
loop-i-init g c =
    let p = g.J.Jobs.plan c.args.jobs.now in
    let laws = c.requires.loom.good.lawful in
    let out = g.J.Jobs.out c.args.jobs.now in
    let all : p.roots - 0 ≡ p.roots = omega arith in (
      c.requires.loom.holds.answers_long,
      λ k le lt. c.requires.loom.holds.answered (p.root k) (c.requires.done k lt),
      ap (λ (n : ℕ). roots_answers out p 0 n) (sym all) ∙ sym (ap (λ xs. xs ++ roots_answers out p 0 (p.roots - 0)) c.new-answers.ensures),
    )

pub index_mut-requires : goal.index_mut-requires
index_mut-requires g c =
    let p = g.J.Jobs.plan c.args.jobs.now in
    let laws = c.requires.loom.good.lawful in
    let inv = c.loop-i.invariant in
    let small : c.loop-i.i < p.roots = omega arith in
    let below = laws.roots_below c.loop-i.i small in
    let root = c.root.ensures in
    let long = inv.0 in
    omega (arith, below, root, long)

pub unreachable-requires : goal.unreachable-requires
unreachable-requires g c =
    let p = g.J.Jobs.plan c.args.jobs.now in
    let laws = c.requires.loom.good.lawful in
    let inv = c.loop-i.invariant in
    let small : c.loop-i.i < p.roots = omega arith in
    let root = c.root.ensures in
    let below = laws.roots_below c.loop-i.i small in
    let inside : c.root.result < length c.loop-i.places.items = (let k = inv.0 in omega (arith, k, root, below)) in
    let here = item_at c.loop-i.places.items c.root.result c.index_mut.result.now inside c.index_mut.ensures.value in
    let there = inv.1 c.loop-i.i (omega arith) small in
    let at = ap (slice_get c.loop-i.places.items) root in
    no_answer c.loop-i.places.items c.root.result (p.root c.loop-i.i) c.index_mut.result.now _ at here (sym c.take.ensures.value ∙ c.in_default.is) there

pub loop-i-preserved : goal.loop-i-preserved
loop-i-preserved g c =
    let p = g.J.Jobs.plan c.args.jobs.now in
    let laws = c.requires.loom.good.lawful in
    let out = g.J.Jobs.out c.args.jobs.now in
    let inv = c.loop-i.invariant in
    let small : c.loop-i.i < p.roots = omega arith in
    let root = c.root.ensures in
    let below = laws.roots_below c.loop-i.i small in
    let inside : c.root.result < length c.loop-i.places.items = (let k = inv.0 in omega (arith, k, root, below)) in
    let here = item_at c.loop-i.places.items c.root.result c.index_mut.result.now inside c.index_mut.ensures.value in
    let there = inv.1 c.loop-i.i (omega arith) small in
    let at = ap (slice_get c.loop-i.places.items) root in
    let is = is_answer c.loop-i.places.items c.root.result (p.root c.loop-i.i) c.index_mut.result.now c.in-Some.answer (out (p.root c.loop-i.i)) at here (sym c.in-Some.ensures.value) there in (
      set_length c.loop-i.places.items c.root.result c.take.new.self ∙ inv.0,
      λ k le lt. set_else c.loop-i.places.items c.root.result (p.root k) c.take.new.self (λ e. let same = laws.distinct_roots k c.loop-i.i lt small (e ∙ root) in omega (arith, same, le)) ∙ inv.1 k (omega (arith, le)) lt,
      answers_more out p c.loop-i.i p.roots c.loop-i.answers c.in-Some.answer is inv.2 small ∙ ap (λ xs. xs ++ roots_answers out p (c.loop-i.i + 1) (p.roots - (c.loop-i.i + 1))) (sym c.in_ok-push.ensures.ok),
    )

pub returns : goal.returns
returns g c =
    let p = g.J.Jobs.plan c.args.jobs.now in
    let laws = c.requires.loom.good.lawful in
    let out = g.J.Jobs.out c.args.jobs.now in
    answers_end out p c.loop-i.i p.roots c.loop-i.answers c.loop-i.invariant.2 (omega arith)
