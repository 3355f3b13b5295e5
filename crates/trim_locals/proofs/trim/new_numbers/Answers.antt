use Rattle.std.proofs.Common.{◌≡◌, ℕ, ◌+◌, ◌<◌, ◌++◌, ◌∷◌, [], true, false, cond, sym, ap, ◌∙◌, map, length, get_or, arith}
use Rattle.std.specs.List.{range_with_len}
use Rattle.std.proofs.lemmas.List.FromFn.{map-range_with_len_more}
use Rattle.bit_rows.specs.Rows.{row_at}
use Rattle.trim_locals.specs.Trimmed.{new_number}
use Rattle.trim_locals.proofs.equal.Same.{number_next}
use Rattle.trim_locals.proofs.trim.new_numbers.Goals as goal
use Rattle.trim_locals.proofs.trim.new_numbers.Goals.{then-get, else-get}

pub loop-local-preserved : goal.loop-local-preserved
loop-local-preserved c =
    let marks = row_at c.args.used.now 0 in
    let i = c.loop-local.local in
    let low : i < length marks = (let z = c.requires.size.bits_is 0 (omega arith) in omega arith) in
    let step = number_next marks i low in
    let is : c.loop-local.next ≡ new_number marks i = c.loop-local.invariant.0 in
    let list : c.push.new.self ≡ map (new_number marks) (range_with_len 0 (i + 1)) =
    c.in_ok-push.ensures.ok ∙ ap (λ n. c.loop-local.numbers ++ n ∷ []) is ∙ ap (λ ns. ns ++ new_number marks i ∷ []) c.loop-local.invariant.1 ∙ sym (map-range_with_len_more (new_number marks) 0 i i (omega arith)) in
    elim c.if-get.branch [
      | then-get w ↦ (let e : get_or marks i false ≡ true = cc in
          let one : ◌≡◌ {A = ℕ} (cond (get_or marks i false) 1 0) 1 = ap (λ v. cond {A = ℕ} v 1 0) e in
          let after : c.if-get.next ≡ c.loop-local.next + 1 = w.next-is in
          (omega (arith, step, is, one, after), list))
      | else-get w ↦ (let e : get_or marks i false ≡ false = cc in
          let none : ◌≡◌ {A = ℕ} (cond (get_or marks i false) 1 0) 0 = ap (λ v. cond {A = ℕ} v 1 0) e in
          let after : c.if-get.next ≡ c.loop-local.next = w.next-is in
          (omega (arith, step, is, none, after), list))
    ]
