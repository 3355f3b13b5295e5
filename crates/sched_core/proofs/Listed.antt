-- Lists that are shown as functions.
use Rattle.std.proofs.Common.{◌≡◌, ◌≢◌, ℕ, zero, suc, ◌+◌, ◌<◌, List, [], ◌∷◌, ◌++◌, length, refl, sym, subst, ap, ◌∙◌, arith, slice_index_or, slice_set}
use Rattle.std.specs.Prelude.{Option, Some, None, slice_get, replicate, option_to_list, MatchOption}
use Rattle.sched_core.specs.declared.state.Standing.{Standing}
use Rattle.sched_core.specs.Plan.{Plan, next_need}
use Rattle.sched_core.specs.State.{upd, Entry, next_of_top, below_top, give}
use Rattle.sched_core.specs.Shown.{stack_of, has_given_room}
use Rattle.sched_core.proofs.Upd.{upd_at}

module _ {A : Type 0} where
  pub set_same : (xs : List A) (w : ℕ) (x : A) → w < length xs → slice_get (slice_set xs w x) w ≡ Some x
  set_same [] w x h = absurd (omega arith)
  set_same (y ∷ ys) zero x h = refl
  set_same (y ∷ ys) (suc w) x h = set_same ys w x (omega arith)

  pub set_else : (xs : List A) (w v : ℕ) (x : A) → v ≢ w → slice_get (slice_set xs w x) v ≡ slice_get xs v
  set_else [] w v x h = refl
  set_else (y ∷ ys) zero zero x h = absurd (h refl)
  set_else (y ∷ ys) zero (suc v) x h = refl
  set_else (y ∷ ys) (suc w) zero x h = refl
  set_else (y ∷ ys) (suc w) (suc v) x h = set_else ys w v x (λ e. h (ap suc e))

  pub index_same : (xs : List A) (w : ℕ) (x d : A) → w < length xs → slice_index_or (slice_set xs w x) w d ≡ x
  index_same [] w x d h = absurd (omega arith)
  index_same (y ∷ ys) zero x d h = refl
  index_same (y ∷ ys) (suc w) x d h = index_same ys w x d (omega arith)

  pub index_else : (xs : List A) (w v : ℕ) (x d : A) → v ≢ w → slice_index_or (slice_set xs w x) v d ≡ slice_index_or xs v d
  index_else [] w v x d h = refl
  index_else (y ∷ ys) zero zero x d h = absurd (h refl)
  index_else (y ∷ ys) zero (suc v) x d h = refl
  index_else (y ∷ ys) (suc w) zero x d h = refl
  index_else (y ∷ ys) (suc w) (suc v) x d h = index_else ys w v x d (λ e. h (ap suc e))

  -- the item at w, whatever stands in for one past the end
  pub item_at : (xs : List A) (w : ℕ) (x : A) → w < length xs → x ≡ slice_index_or xs w x → slice_get xs w ≡ Some x
  item_at [] w x h e = absurd (omega arith)
  item_at (y ∷ ys) zero x h e = ap Some (sym e)
  item_at (y ∷ ys) (suc w) x h e = item_at ys w x (omega arith) e

  pub item_or : (xs : List A) (w : ℕ) (x d : A) → slice_get xs w ≡ Some x → slice_index_or xs w d ≡ x
  item_or [] w x d e = absurd (cc)
  item_or (y ∷ ys) zero x d e = (cc)
  item_or (y ∷ ys) (suc w) x d e = item_or ys w x d e

  pub set_length : (xs : List A) (w : ℕ) (x : A) → length (slice_set xs w x) ≡ length xs
  set_length [] w x = refl
  set_length (y ∷ ys) zero x = refl
  set_length (y ∷ ys) (suc w) x = ap suc (set_length ys w x)

  module _ {B : Type 0} (f : Option A → B) (xs : List A) (w : ℕ) (x : A) (lt : w < length xs) where
    pub get_shown : (λ v. f (slice_get (slice_set xs w x) v)) ≡ upd (λ v. f (slice_get xs v)) w (f (Some x))
    get_shown = λ i v. at v i
      where
        at : (v : ℕ) → f (slice_get (slice_set xs w x) v) ≡ upd (λ u. f (slice_get xs u)) w (f (Some x)) v
        at v = upd_at (λ u. f (slice_get xs u)) w (f (Some x)) (λ b. f (slice_get (slice_set xs w x) v) ≡ b) v
            (λ e. ap f (subst (λ (k : ℕ). slice_get (slice_set xs w x) k ≡ Some x) (sym e) (set_same xs w x lt))) (λ ne. ap f (set_else xs w v x ne))

    -- where f doesn't see the difference, nothing changes
    pub get_kept : f (Some x) ≡ f (slice_get xs w) → ◌≡◌ {A = ℕ → B} (λ v. f (slice_get (slice_set xs w x) v)) (λ v. f (slice_get xs v))
    get_kept same = λ i v. at v i
      where
        at : (v : ℕ) → f (slice_get (slice_set xs w x) v) ≡ f (slice_get xs v)
        at v = upd_at (λ u. f (slice_get xs u)) w (f (Some x)) (λ b. f (slice_get (slice_set xs w x) v) ≡ f (slice_get xs v)) v
            (λ e. let here = ap f (set_same xs w x lt) ∙ same in subst (λ (k : ℕ). f (slice_get (slice_set xs w x) k) ≡ f (slice_get xs k)) (sym e) here) (λ ne. ap f (set_else xs w v x ne))

  pub index_shown : (xs : List A) (w : ℕ) (x d : A) → w < length xs → (λ v. slice_index_or (slice_set xs w x) v d) ≡ upd (λ v. slice_index_or xs v d) w x
  index_shown xs w x d lt = λ i v. at v i
    where
      at : (v : ℕ) → slice_index_or (slice_set xs w x) v d ≡ upd (λ u. slice_index_or xs u d) w x v
      at v = upd_at (λ u. slice_index_or xs u d) w x (λ b. slice_index_or (slice_set xs w x) v d ≡ b) v
          (λ e. subst (λ (k : ℕ). slice_index_or (slice_set xs w x) k d ≡ x) (sym e) (index_same xs w x d lt)) (λ ne. index_else xs w v x d ne)

pub stack_push : (xs : List Standing) (x : Standing) → stack_of (xs ++ x ∷ []) ≡ (x.query, x.given.items) ∷ stack_of xs
stack_push [] x = refl
stack_push (y ∷ ys) x = ap (λ (es : List Entry). es ++ (y.query, y.given.items) ∷ []) (stack_push ys x)

snoc_full : (es : List Entry) (x : Entry) → (e : Entry) × (fs : List Entry) × (es ++ x ∷ [] ≡ e ∷ fs)
snoc_full [] x = (x, [], refl)
snoc_full (e ∷ es) x = (e, es ++ x ∷ [], refl)

-- a row that isn't empty has a top
pub stack_full : (xs : List Standing) → 0 < length xs → (e : Entry) × (es : List Entry) × (stack_of xs ≡ e ∷ es)
stack_full [] h = absurd (omega arith)
stack_full (x ∷ xs) h = snoc_full (stack_of xs) (x.query, x.given.items)

pub next_empty : (p : Plan) (xs : List Standing) (root : Option ℕ) → length xs ≡ 0 → next_of_top p (stack_of xs) root ≡ root
next_empty p [] root h = refl
next_empty p (x ∷ xs) root h = absurd (omega arith)

pub next_full : (p : Plan) (es : List Entry) (root : Option ℕ) (told : Option (Option ℕ)) → ((e : Entry) × (fs : List Entry) × (es ≡ e ∷ fs))
    → ((e : Entry) (fs : List Entry) → es ≡ e ∷ fs → told ≡ Some (next_need (p.needs e.0) e.1)) → told ≡ Some (next_of_top p es root)
next_full p [] root told h t = absurd (let k = h.2 in (cc))
next_full p (e ∷ es) root told h t = t e es refl

-- what a pop leaves
pub popped : (xs ys : List Standing) (o : Option Standing) → ys ≡ xs ++ option_to_list o → MatchOption o (length ys ≡ 0) (λ _. Unit {0}) → stack_of xs ≡ below_top (stack_of ys)
popped xs [] None e h = nothing xs (sym e)
  where
    nothing : (xs : List Standing) → xs ++ [] ≡ [] → stack_of xs ≡ []
    nothing [] e = refl
    nothing (x ∷ xs) e = absurd (cc)
popped xs (y ∷ ys) None e h = absurd (omega arith)
popped xs ys (Some x) e h = sym (ap (λ zs. below_top (stack_of zs)) e ∙ ap below_top (stack_push xs x))

pub room_last : (xs : List Standing) (x : Standing) → has_given_room (xs ++ x ∷ []) → x.given.len < x.given.cap
room_last [] x h = h
room_last (y ∷ []) x h = h
room_last (y ∷ (z ∷ zs)) x h = room_last (z ∷ zs) x h

pub given_last : (xs ys : List Standing) (x z : Standing) (s : ℕ) → ys ≡ xs ++ x ∷ [] → z.query ≡ x.query → z.given.items ≡ x.given.items ++ s ∷ [] → stack_of (xs ++ z ∷ []) ≡ give s (stack_of ys)
given_last xs ys x z s e q g = stack_push xs z ∙ ((λ i. (q i, g i) ∷ stack_of xs) ∙ sym (ap (λ zs. give s (stack_of zs)) e ∙ ap (give s) (stack_push xs x)))

snoc_stack : (es : List Entry) (e f : Entry) (fs : List Entry) → es ≡ f ∷ fs → (gs : List Entry) × (es ++ e ∷ [] ≡ f ∷ gs)
snoc_stack es e f fs h = (fs ++ e ∷ [], ap (λ xs. xs ++ e ∷ []) h)

-- the last of the row is its top
pub top_is : (xs : List Standing) (n : ℕ) (x : Standing) → length xs ≡ n + 1 → slice_index_or xs n x ≡ x → (es : List Entry) × (stack_of xs ≡ (x.query, x.given.items) ∷ es)
top_is [] n x h e = absurd (omega arith)
top_is (y ∷ ys) zero x h e = only ys (omega arith)
  where
    only : (zs : List Standing) → length zs ≡ 0 → (es : List Entry) × (stack_of (y ∷ zs) ≡ (x.query, x.given.items) ∷ es)
    only [] k = ([], ap (λ (s : Standing). (s.query, s.given.items) ∷ []) e)
    only (z ∷ zs) k = absurd (omega arith)
top_is (y ∷ ys) (suc n) x h e = let r = top_is ys n x (omega arith) e in snoc_stack (stack_of ys) (y.query, y.given.items) (x.query, x.given.items) r.0 r.1

-- a row of which only the capacity grew
module _ (xs ys zs : List Standing) (x z : Standing) (olds : ys ≡ xs ++ x ∷ []) (news : zs ≡ xs ++ z ∷ []) (query : z.query ≡ x.query) (given : z.given.items ≡ x.given.items) where
  pub regrown : stack_of zs ≡ stack_of ys
  regrown = ap stack_of news ∙ (stack_push xs z ∙ ((λ i. (query i, given i) ∷ stack_of xs) ∙ (sym (stack_push xs x) ∙ sym (ap stack_of olds))))

  pub more_room : z.given.len < z.given.cap → has_given_room zs
  more_room h = subst has_given_room (sym news) (room_snoc xs h)
    where
      room_snoc : (xs : List Standing) → z.given.len < z.given.cap → has_given_room (xs ++ z ∷ [])
      room_snoc [] h = h
      room_snoc (y ∷ []) h = h
      room_snoc (y ∷ (u ∷ us)) h = room_snoc (u ∷ us) h

  pub old_room : has_given_room ys → x.given.len < x.given.cap
  old_room h = room_last xs x (subst has_given_room olds h)

-- each item of a list that is made by pushes
pub each_push : {A : Type 0} (P : Option A → Type 0) → P None → (xs : List A) (x : A) → ((w : ℕ) → P (slice_get xs w)) → P (Some x) → (w : ℕ) → P (slice_get (xs ++ x ∷ []) w)
each_push P none [] x h px zero = px
each_push P none [] x h px (suc w) = none
each_push P none (y ∷ ys) x h px zero = h 0
each_push P none (y ∷ ys) x h px (suc w) = each_push P none ys x (λ v. h (suc v)) px w

pub all_alike : {A : Type 0} (n : ℕ) (x : A) (k : ℕ) → slice_index_or (replicate n x) k x ≡ x
all_alike zero x k = refl
all_alike (suc n) x zero = refl
all_alike (suc n) x (suc k) = all_alike n x k

pub alike_long : {A : Type 0} (n : ℕ) (x : A) → length (replicate n x) ≡ n
alike_long zero x = refl
alike_long (suc n) x = ap suc (alike_long n x)

pub set_twice : {A : Type 0} (xs : List A) (w : ℕ) (x y : A) → slice_set (slice_set xs w x) w y ≡ slice_set xs w y
set_twice [] w x y = refl
set_twice (z ∷ zs) zero x y = refl
set_twice (z ∷ zs) (suc w) x y = ap (λ us. z ∷ us) (set_twice zs w x y)

pub alike_more : {A : Type 0} (n : ℕ) (x : A) → replicate n x ++ x ∷ [] ≡ replicate (suc n) x
alike_more zero x = refl
alike_more (suc n) x = ap (λ us. x ∷ us) (alike_more n x)
