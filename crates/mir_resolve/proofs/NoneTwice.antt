-- Whether a text stands twice, asked text by text.
use Rattle.std.proofs.Common.{◌≡◌, ℕ, suc, ◌+◌, ◌<◌, ◌&&◌, ◌||◌, not, Bool, true, false, cond, List, [], ◌∷◌, ◌++◌, map, length, Option, Some, None, is_some, refl, sym, ap, ap₂, ◌∙◌, arith}
use Rattle.std.specs.Str.{bytes_eq}
use Rattle.mir_text.specs.Words.{place_from, place_in}
use Rattle.mir_text.specs.NamedBodies.{or_else}
use Rattle.mir_text.specs.NameFaults.{stands_in, none_twice}
use Rattle.mir_resolve.specs.Once.{SameTexts}
use Rattle.mir_resolve.proofs.FirstPlaces.{place-snoc, place_if, same-text}

stands-from : (k n : ℕ) (xs : List (List ℕ)) (t : List ℕ) → is_some (place_from k xs t) ≡ is_some (place_from n xs t)
stands-from k n [] t = refl
stands-from k n (x ∷ xs) t =
    elim (bytes_eq x t) as (λ b. is_some (cond b (Some k) (place_from (suc k) xs t)) ≡ is_some (cond b (Some n) (place_from (suc n) xs t)))
    [ true ↦ refl | false ↦ stands-from (suc k) (suc n) xs t ]

some-cond : (b : Bool) (k : ℕ) (p : Option ℕ) → is_some (cond b (Some k) p) ≡ (b || is_some p)
some-cond true k p = refl
some-cond false k p = refl

some-else : (p : Option ℕ) (b : Bool) (n : ℕ) → is_some (or_else p (place_if b n)) ≡ (b || is_some p)
some-else None true n = refl
some-else None false n = refl
some-else (Some x) true n = refl
some-else (Some x) false n = refl

pub stands-first : (x : List ℕ) (xs : List (List ℕ)) (t : List ℕ) → stands_in (x ∷ xs) t ≡ (bytes_eq x t || stands_in xs t)
stands-first x xs t = some-cond (bytes_eq x t) 0 (place_from 1 xs t) ∙ ap (λ b. bytes_eq x t || b) (stands-from 1 0 xs t)

pub seen_new : (seen : List (List ℕ)) (x : List ℕ) → SameTexts (seen ++ x ∷ []) (x ∷ seen)
seen_new seen x = record {
  same = λ t. ap is_some (place-snoc 0 seen x t) ∙ some-else (place_in seen t) (bytes_eq x t) (0 + length seen) ∙ sym (stands-first x seen t);
}

stands-already : (b : Bool) (s : Bool) → (b ≡ true → s ≡ true) → s ≡ (b || s)
stands-already true s h = h refl
stands-already false s h = refl

pub seen_again : (seen : List (List ℕ)) (x : List ℕ) (n : ℕ) → place_in seen x ≡ Some n → SameTexts seen (x ∷ seen)
seen_again seen x n some = record {
  same = λ t. stands-already (bytes_eq x t) (stands_in seen t) (λ e. ap (stands_in seen) (sym (same-text x t e)) ∙ ap is_some some) ∙ sym (stands-first x seen t);
}

same-first : (x : List ℕ) (xs ys : List (List ℕ)) → SameTexts xs ys → SameTexts (x ∷ xs) (x ∷ ys)
same-first x xs ys h = record { same = λ t. stands-first x xs t ∙ ap (λ b. bytes_eq x t || b) (h.same t) ∙ sym (stands-first x ys t) }

pub none_twice-same : (some others texts : List (List ℕ)) → SameTexts some others → none_twice some texts ≡ none_twice others texts
none_twice-same some others [] h = refl
none_twice-same some others (x ∷ xs) h = ap₂ (λ a b. not a && b) (h.same x) (none_twice-same (x ∷ some) (x ∷ others) xs (same-first x some others h))

and-step : (a b c d : Bool) → a && (b && c) ≡ d → (a && b) && c ≡ d
and-step true b c d h = h
and-step false b c d h = h

-- one text more
pub once_step : (once new all : Bool) (seen later : List (List ℕ)) (x : List ℕ) (texts : List (List ℕ)) → once && none_twice seen (x ∷ texts) ≡ all
    → new ≡ not (stands_in seen x) → SameTexts later (x ∷ seen) → (once && new) && none_twice later texts ≡ all
once_step once new all seen later x texts h is same =
    ap₂ (λ a b. (once && a) && b) is (none_twice-same later (x ∷ seen) texts same) ∙ and-step once (not (stands_in seen x)) (none_twice (x ∷ seen) texts) all h

pub once_ended : {Z : Type 0} (f : Z → List ℕ) (once all : Bool) (seen : List (List ℕ)) (left : List Z) → length left < 1 → once && none_twice seen (map f left) ≡ all → once ≡ all
once_ended f true all seen [] short h = h
once_ended f false all seen [] short h = h
once_ended f once all seen (x ∷ left) short h = absurd (omega arith)
