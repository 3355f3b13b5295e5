use Rattle.std.proofs.Common.{◌≡◌, ◌<◌, ℕ, zero, suc, ◌∷◌, ◌++◌, [], List, length, sym, ap, ◌∙◌, arith}
use Rattle.std.specs.Prelude.{Option, Some, slice_get}
use Rattle.sched_core.proofs.Listed.{item_at, set_twice}
use Rattle.sched_core.proofs.loom.give_need.Goals as goal

same_work : {W : Type 0} (xs : List (Option W)) (q : ℕ) (x y : W) → slice_get xs q ≡ Some (Some x) → slice_get xs q ≡ Some (Some y) → x ≡ y
same_work xs q x y a b = (cc)

some_below : {W : Type 0} (xs : List W) (q : ℕ) (x : W) → slice_get xs q ≡ Some x → q < length xs
some_below [] q x e = absurd (cc)
some_below (y ∷ ys) zero x e = omega arith
some_below (y ∷ ys) (suc q) x e = let r = some_below ys q x e in omega arith

pub returns : goal.returns
returns g c =
    let works = c.args.works.now.items in
    let inside : c.args.q < length works = some_below works c.args.q (Some c.requires.work.0) c.requires.work.1 in
    let at : slice_get works c.args.q ≡ Some (Some c.in-Some.work) = item_at works c.args.q c.index_mut.result.now inside c.index_mut.ensures.value ∙ ap Some (sym c.in-Some.ensures.value) in (
      c.give.new.work,
      set_twice works c.args.q c.take.new.self (Some c.give.new.work),
      c.in_ok-give.ensures.0,
      λ x there. c.in_ok-give.ensures.1 ∙ ap (λ w. g.J.Jobs.given c.args.jobs.now c.args.q w ++ c.args.need ∷ []) (same_work works c.args.q c.in-Some.work x at there),
    )
