-- The stacks of the seats in the claim race.
use Rattle.std.proofs.Common.{◌≡◌, ◌≢◌, ℕ, Bool, true, false, List, [], ◌∷◌, refl, sym, ap, ◌∙◌, arith}
use Rattle.std.specs.Prelude.{if◌then◌else◌, ◌==◌, nat_lt}
use Rattle.std.proofs.lemmas.Bool.Decides.{nat_tests}
use Rattle.atomic_table.specs.Seated.{TableId}
use Rattle.sched_core.specs.State.{Entry, below_top}
use Rattle.query_table.specs.declared.view.View.{View}
use Rattle.query_table.specs.declared.table.Seat.{Seat}
use Rattle.query_table.specs.declared.token.Claim.{Claim}
use Rattle.query_table.specs.Steps.{claim_view, look_view, fail_view}
use Rattle.query_table.specs.Answers.{IsSeatOf}
use Rattle.query_table.specs.Rule.{failed_word}
use Rattle.query_table.proofs.Forcing.{either_way}
use Rattle.small_jobs.specs.Race.{HasClaimed}

-- what its second outcome has
else_way : {A : Type 0} (b : Bool) (f : View → A) (x y : View) (a : A) → b ≡ false → f y ≡ a → f (if b then x else y) ≡ a
else_way true f x y a e k = absurd (cc)
else_way false f x y a e k = k

not_nought : (n : ℕ) → n ≢ 0 → (n == 0) ≡ false
not_nought n ne = grind (arith, nat_tests)

-- after the claim of query 1 was lost
pub still : (table : TableId) (r found : ℕ) (root : Claim) (s u : Seat) → HasClaimed table r root s → IsSeatOf table u → u.token.me.0 ≡ claim_view s.token.me.0 1 found → found ≢ 0 → HasClaimed table r root u
still table r found root s u h sits step ne = record {
  of_table = sits;
  own = h.own;
  stack = ap (λ x. x.stack) step ∙ else_way (found == 0) (λ w. w.stack) _ _ s.token.me.0.stack (not_nought found ne) refl ∙ h.stack;
  free = ap (λ x. x.borrow) step ∙ either_way (found == 0) (λ w. w.borrow) _ _ s.token.me.0.borrow refl refl ∙ h.free;
  next = h.next;
  other = h.other;
}

-- after a look
pub looked : (table : TableId) (r found : ℕ) (root : Claim) (s u : Seat) → HasClaimed table r root s → IsSeatOf table u → u.token.me.0 ≡ look_view s.token.me.0 1 found → HasClaimed table r root u
looked table r found root s u h sits step =
    let v = s.token.me.0 in
    record {
      of_table = sits;
      own = h.own;
      stack = ap (λ x. x.stack) step ∙ either_way (nat_lt found 2) (λ w. w.stack) _ _ v.stack refl (either_way (found == failed_word) (λ w. w.stack) _ _ v.stack refl refl) ∙ h.stack;
      free = ap (λ x. x.borrow) step ∙ either_way (nat_lt found 2) (λ w. w.borrow) _ _ v.borrow refl (either_way (found == failed_word) (λ w. w.borrow) _ _ v.borrow refl refl) ∙ h.free;
      next = h.next;
      other = h.other;
    }

-- after the claim of query 1 was won
pub won_stack : (table : TableId) (r found : ℕ) (root one : Claim) (s u : Seat) → HasClaimed table r root s → u.token.me.0 ≡ claim_view s.token.me.0 1 found → found ≡ 0 → one.query ≡ 1
    → u.token.me.0.stack ≡ (one.query, []) ∷ (root.query, []) ∷ []
won_stack table r found root one s u h step nought is =
    let won : u.token.me.0 ≡ claim_view s.token.me.0 1 0 = step ∙ ap (claim_view s.token.me.0 1) nought in
    ap (λ x. x.stack) won ∙ ap (λ (es : List Entry). (1, []) ∷ es) h.stack ∙ ap (λ (q : ℕ). (q, []) ∷ (root.query, []) ∷ []) (sym is)

-- once query 1 is given up too
pub left_stack : (one root : Claim) (u t : Seat) → u.token.me.0.stack ≡ (one.query, []) ∷ (root.query, []) ∷ [] → t.token.me.0 ≡ fail_view u.token.me.0 one.query → t.token.me.0.stack ≡ (root.query, []) ∷ []
left_stack one root u t top step = ap (λ x. x.stack) step ∙ ap below_top top
