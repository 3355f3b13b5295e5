-- The turn of a worker, read off what it has on top.
use Rattle.std.proofs.Common.{◌≡◌, ℕ, ◌<◌, Bool, true, false, List, [], ◌∷◌, length, refl, sym, ap, ◌∙◌, slice_index_or}
use Rattle.std.specs.Prelude.{Option, Some, None, ◌&&◌, if◌then◌else◌}
use Rattle.sched_core.specs.declared.Event.{Event}
use Rattle.sched_core.specs.declared.Event.TheVariants.{Claim, Look, Borrow, Steal, Publish}
use Rattle.sched_core.specs.Plan.{Plan, IsLawful}
use Rattle.sched_core.specs.State.{State, Entry, next, next_of_top, is, untouched, is_stolen, all_seen}
use Rattle.sched_core.specs.Good.{Good}
use Rattle.sched_core.specs.Turn.{turn, turn_of, turn_free, turn_empty, turn_top, ending, ripe, turn_need, ended}
use Rattle.sched_core.proofs.Listed.{item_at, item_or}
use Rattle.sched_core.proofs.Ripe.{ripe_is}

pub index_is : {A : Type 0} (xs : List A) (w : ℕ) (x y d : A) → w < length xs → x ≡ slice_index_or xs w x → x ≡ y → slice_index_or xs w d ≡ y
index_is xs w x y d lt e k = item_or xs w x d (item_at xs w x lt e) ∙ k

ending_is : (c : State) (w : ℕ) (steals : Option ℕ) → ending c w steals ≡ Some (ended c w steals)
ending_is c w None = refl
ending_is c w (Some s) = go (is_stolen (c.status s))
  where
    go : (b : Bool) → ◌≡◌ {A = Option Event} (if b then Some (Publish w) else Some (Steal w s)) (Some (if b then Publish w else Steal w s))
    go true = refl
    go false = refl

some_if : (u a s : Bool) (x y z k : Event) → ◌≡◌ {A = Option Event} (if u then Some x else (if a then Some y else (if s then Some z else Some k))) (Some (if u then x else (if a then y else (if s then z else k))))
some_if true a s x y z k = refl
some_if false true s x y z k = refl
some_if false false true x y z k = refl
some_if false false false x y z k = refl

pub empty_is : (p : Plan) (c : State) (w : ℕ) → c.borrow w ≡ None → c.stack w ≡ [] → turn_empty p c w (c.root w) ≡ turn p c w
empty_is p c w b s = sym ((λ i. turn_of p c w (b i)) ∙ (λ i. turn_free p c w (s i)))

module _ (p : Plan) (c : State) (l : IsLawful p) (g : Good p c) (w : ℕ) (q : ℕ) (given : List ℕ) (es : List Entry) (top : c.stack w ≡ (q, given) ∷ es) (borrow : c.borrow w ≡ None) where
  top_is : (need : Option ℕ) → need ≡ next p c w → turn p c w ≡ turn_top p c w (q, given) need
  top_is need n =
      (λ i. turn_of p c w (borrow i)) ∙ ((λ i. turn_free p c w (top i)) ∙ ap (turn_top p c w (q, given)) (sym (ap (λ xs. next_of_top p xs (c.root w)) top) ∙ sym n))

  ripe_as : (need : Option ℕ) → need ≡ next p c w → all_seen p c w (q, given) ≡ ripe need (p.steals q) (c.seen w)
  ripe_as need n = ripe_is p c l g w (q, given) es top ∙ ap (λ o. ripe o (p.steals q) (c.seen w)) (sym (ap (λ xs. next_of_top p xs (c.root w)) top) ∙ sym n)

  pub need_is : (m : ℕ) (steals : Option ℕ) → Some m ≡ next p c w → steals ≡ p.steals q → Some (turn_need c w m steals (ended c w steals)) ≡ turn p c w
  need_is m steals n s =
      let all = ripe_as (Some m) n in
      let x : Option Event = turn_top p c w (q, given) (Some m) in
      let step : x ≡ (if untouched (c.status m) then Some (Claim w m) else (if is (p.steals q) m && c.seen w m then Some (ended c w (p.steals q)) else (if c.seen w m then Some (Borrow w m) else Some (Look w m)))) =
      λ i. if untouched (c.status m) then Some (Claim w m) else (if all i then ending_is c w (p.steals q) i else (if c.seen w m then Some (Borrow w m) else Some (Look w m))) in
      sym (top_is (Some m) n ∙ (step ∙ (some_if (untouched (c.status m)) (is (p.steals q) m && c.seen w m) (c.seen w m) (Claim w m) (ended c w (p.steals q)) (Borrow w m) (Look w m) ∙ ap (λ o. Some (turn_need c w m o (ended c w o))) (sym s))))

  pub end_is : (steals : Option ℕ) → None ≡ next p c w → steals ≡ p.steals q → Some (ended c w steals) ≡ turn p c w
  end_is steals n s =
      let all = ripe_as None n in
      let step : turn_top p c w (q, given) None ≡ ending c w (p.steals q) = λ i. if all i then ending c w (p.steals q) else None in
      sym (top_is None n ∙ (step ∙ (ending_is c w (p.steals q) ∙ ap (λ o. Some (ended c w o)) (sym s))))
