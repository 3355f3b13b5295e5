use Rattle.std.proofs.Common.{◌≡◌, ℕ, ◌<◌, ◌^◌, ◌+◌, cond, ap, arith, rules}
use Rattle.std.proofs.lemmas.List.Sums.{count_by-le-length}
use Rattle.std.proofs.lemmas.List.FromFn.{length-range_with_len}
use Rattle.cfg_simplify.specs.Simple.{numbers as all_numbers, new_number}
use Rattle.cfg_simplify.specs.Code.{flag_at}
use Rattle.cfg_simplify.proofs.equal.Lists.{map_step}
use Rattle.cfg_simplify.proofs.equal.Kept.{number-step}
use Rattle.cfg_simplify.proofs.regroup.new_numbers.Goals as goal
use Rattle.cfg_simplify.proofs.regroup.new_numbers.Goals.{then-mark, else-mark}

pub overflow_add-next : goal.overflow_add-next
overflow_add-next c =
    let i = c.loop-mark.mark-index in
    let few = count_by-le-length (flag_at c.args.marks.now) (all_numbers i) in
    let long = length-range_with_len 0 i in
    let is : c.loop-mark.next ≡ new_number (flag_at c.args.marks.now) i = c.loop-mark.invariant.0 in
    let low : c.loop-mark.next + 1 < 2 ^ 32 = omega (arith, few, long, is) in
    search rules

pub loop-mark-preserved : goal.loop-mark-preserved
loop-mark-preserved c =
    let keep = flag_at c.args.marks.now in
    let i = c.loop-mark.mark-index in
    let list = map_step (new_number keep) i c.loop-mark.numbers c.push.new.self c.loop-mark.next c.loop-mark.invariant.1 c.loop-mark.invariant.0 c.in_ok-push.ensures.ok in
    let step = number-step keep i in
    let is : c.loop-mark.next ≡ new_number keep i = c.loop-mark.invariant.0 in
    elim c.if-mark.branch [
      | then-mark w ↦ (let one : ◌≡◌ {A = ℕ} (cond (keep i) 1 0) 1 = ap (λ v. cond {A = ℕ} v 1 0) w.if-mark.true in
          let after : c.if-mark.next ≡ c.loop-mark.next + 1 = w.next-is in
          (omega (arith, step, is, one, after), list))
      | else-mark w ↦ (let none : ◌≡◌ {A = ℕ} (cond (keep i) 1 0) 0 = ap (λ v. cond {A = ℕ} v 1 0) w.if-mark.false in
          let after : c.if-mark.next ≡ c.loop-mark.next = w.next-is in
          (omega (arith, step, is, none, after), list))
    ]
