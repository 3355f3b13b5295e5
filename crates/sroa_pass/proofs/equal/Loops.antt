-- Lists that loops make, item by item.
use Rattle.std.proofs.Common.{◌≡◌, refl, sym, ap, ap₂, ◌∙◌, ℕ, suc, ◌+◌, ◌<◌, ◌≤◌, Bool, true, ◌&&◌, List, [], ◌∷◌, ◌++◌, map, drop, length, get_or, append_assoc, drop-cons, Option, Some, None, arith}
use Rattle.std.specs.List.{list_all, range_with_len}
use Rattle.std.specs.Vec.Iter.{into_iter_items, into_iter_steps}
use Rattle.std.specs.declared.vec.IntoIter.{IntoIter}
use Rattle.std.proofs.lemmas.List.{map-append, append-nil, drop_all}
use Rattle.std.proofs.lemmas.Option.{MatchOption-at_some, MatchOption-at_none}
use Rattle.mir_syntax.proofs.Lists.{range_more}

-- one more of what numbers make
pub more_of_range : {A : Type 0} (f : ℕ → A) (old now now2 : List A) (i : ℕ) → now ≡ old ++ map f (range_with_len 0 i) → now2 ≡ now ++ f i ∷ [] → now2 ≡ old ++ map f (range_with_len 0 (i + 1))
more_of_range f old now now2 i e h =
    h ∙ ap (λ xs. xs ++ f i ∷ []) e
    ∙ append_assoc old (map f (range_with_len 0 i)) (f i ∷ [])
    ∙ ap (λ xs. old ++ xs) (sym (map-append f (range_with_len 0 i) (i ∷ [])) ∙ ap (map f) (sym (range_more i)))

-- items are taken one by one out of a list that is used up, which makes so much of it
module _ {X Z B : Type 0} (f : List X → List B) where
  pub takes_one : (old : List B) (all : List X) (s t : IntoIter X Z) (r : Option X) (x : X) (now now2 put : List B) → r ≡ Some x → into_iter_steps s r t → ((xs : List X) → f (x ∷ xs) ≡ put ++ f xs) → now ++ f (into_iter_items s) ≡ old ++ f all → now2 ≡ now ++ put
      → now2 ++ f (into_iter_items t) ≡ old ++ f all
  takes_one old all s t r x now now2 put is step first before e =
      ap (λ xs. xs ++ f (into_iter_items t)) e
      ∙ append_assoc now put (f (into_iter_items t))
      ∙ ap (λ xs. now ++ xs) (sym (first (into_iter_items t)) ∙ ap f (sym (MatchOption-at_some _ _ x is step).0))
      ∙ before

  pub takes_all : (old : List B) (all : List X) (s t : IntoIter X Z) (r : Option X) (now : List B) → r ≡ None → into_iter_steps s r t → f [] ≡ [] → now ++ f (into_iter_items s) ≡ old ++ f all → now ≡ old ++ f all
  takes_all old all s t r now is step none before =
      sym (append-nil now) ∙ ap (λ xs. now ++ xs) (sym none ∙ ap f (sym (left (into_iter_items s) (let e = sym s.rest.ok.0 ∙ (MatchOption-at_none _ _ is step).0 in omega (arith, e))))) ∙ before
    where
      left : (xs : List X) → length xs < 1 → xs ≡ []
      left [] l = refl
      left (x ∷ xs) l = absurd (omega arith)

-- ---- a test of all items

module _ {A : Type 0} (p : A → Bool) (xs : List A) where
  pub all_next : (i : ℕ) (d : A) (b : Bool) → i < length xs → list_all p (drop i xs) ≡ list_all p xs → b ≡ p (get_or xs i d) → (b && list_all p (drop (i + 1) xs)) ≡ list_all p xs
  all_next i d b l e h =
      ap₂ (λ b n. b && list_all p (drop n xs)) h (let z : i + 1 ≡ suc i = omega arith in z) ∙ ap (list_all p) (sym (drop-cons xs i d l)) ∙ e

  pub all_hold : (i : ℕ) → length xs ≤ i → list_all p (drop i xs) ≡ list_all p xs → true ≡ list_all p xs
  all_hold i l e = ap (list_all p) (sym (drop_all i xs l)) ∙ e
