-- An index finds the first place of a text also after a text was added.
use Rattle.std.proofs.Common.{IsTrue, ◌≡◌, ℕ, zero, suc, ◌+◌, ◌<◌, ◌≤◌, ◌^◌, Bool, true, false, cond, List, [], ◌∷◌, ◌++◌, length, get_or, slice_get, Option, Some, None, is_some, refl, sym, ap, ap₂, ◌∙◌, arith, rules, lit≤}
use Rattle.std.proofs.lemmas.List.{get_or_append_left, get_or_at, map-append, length-map}
use Rattle.std.proofs.lemmas.Slice.Eq.{bytes_eq-Decides}
use Rattle.std.specs.List.{list_all}
use Rattle.std.specs.Str.{bytes_eq}
use Rattle.mir_syntax.specs.Shapes.{◌>>=◌}
use Rattle.mir_syntax.proofs.Growth.{map-same, all-weaker, lt-more}
use Rattle.mir_text.specs.Words.{place_from, place_in}
use Rattle.mir_text.specs.Names.{string_at}
use Rattle.mir_text.specs.NamedBodies.{or_else}
use Rattle.mir_text.specs.NameFaults.{stands_in}
use Rattle.mir_resolve.specs.Index.{texts_of, is_below, IsIndexed}

-- ---- places

abbrev pub place_if : Bool → ℕ → Option ℕ
place_if b n = cond b (Some n) None

pub place-snoc : (k : ℕ) (xs : List (List ℕ)) (t u : List ℕ) → place_from k (xs ++ t ∷ []) u ≡ or_else (place_from k xs u) (place_if (bytes_eq t u) (k + length xs))
place-snoc k [] t u = let z : k ≡ k + 0 = omega arith in ap (place_if (bytes_eq t u)) z
place-snoc k (x ∷ xs) t u =
    let z : suc k + length xs ≡ k + suc (length xs) = omega arith in
    elim (bytes_eq x u) as (λ b. cond b (Some k) (place_from (suc k) (xs ++ t ∷ []) u) ≡ or_else (cond b (Some k) (place_from (suc k) xs u)) (place_if (bytes_eq t u) (k + suc (length xs)))) [
      | true ↦ refl
      | false ↦ place-snoc (suc k) xs t u ∙ ap (λ n. or_else (place_from (suc k) xs u) (place_if (bytes_eq t u) n)) z
    ]

-- what a place tells
record Stands (k : ℕ) (xs : List (List ℕ)) (t : List ℕ) (n : ℕ) : Type 0 where
  at : ℕ
  counted : n ≡ k + at
  inside : at < length xs
  there : get_or xs at [] ≡ t

pub same-text : (x t : List ℕ) → bytes_eq x t ≡ true → x ≡ t
same-text x t e = (bytes_eq-Decides x t).0 e

stands-next : (k : ℕ) (x : List ℕ) (xs : List (List ℕ)) (t : List ℕ) (n : ℕ) → Stands (suc k) xs t n → Stands k (x ∷ xs) t n
stands-next k x xs t n s = record { at = suc s.at; counted = omega (arith, s.counted); inside = omega (arith, s.inside); there = s.there }

some-inj : (a b : ℕ) → Some a ≡ Some b → a ≡ b
some-inj a b e = cc

place-tells : (k : ℕ) (xs : List (List ℕ)) (t : List ℕ) (n : ℕ) → place_from k xs t ≡ Some n → Stands k xs t n
place-tells k [] t n h = absurd cc
place-tells k (x ∷ xs) t n h =
    let P : Bool → Type 0 = λ b. bytes_eq x t ≡ b → cond b (Some k) (place_from (suc k) xs t) ≡ Some n → Stands k (x ∷ xs) t n in
    let cases : (b : Bool) → P b = λ b. elim b as P [
      | true ↦ λ e g. let same : k ≡ n = some-inj k n g in record { at = 0; counted = omega (arith, same); inside = omega arith; there = same-text x t e }
      | false ↦ λ e g. stands-next k x xs t n (place-tells (suc k) xs t n g)
    ] in
    cases (bytes_eq x t) refl h

-- ---- values of lists

at_end : (f : List ℕ) (n m : ℕ) → m ≡ length f → slice_get (f ++ n ∷ []) m ≡ Some n
at_end [] n zero e = refl
at_end [] n (suc m) e = absurd (omega arith)
at_end (x ∷ f) n zero e = absurd (omega arith)
at_end (x ∷ f) n (suc m) e = at_end f n m (omega arith)

at_front : (f : List ℕ) (n k : ℕ) (other : Option ℕ) → k < length f → slice_get (f ++ n ∷ []) k ≡ or_else (slice_get f k) other
at_front [] n k other h = absurd (omega arith)
at_front (x ∷ f) n zero other h = refl
at_front (x ∷ f) n (suc k) other h = at_front f n k other (omega arith)

is_there : (f : List ℕ) (k : ℕ) → k < length f → is_some (slice_get f k) ≡ true
is_there [] k h = absurd (omega arith)
is_there (x ∷ f) zero h = refl
is_there (x ∷ f) (suc k) h = is_there f k (omega arith)

fresh-at : (f : List ℕ) (m n : ℕ) (b : Bool) (a : Option ℕ) → ((k : ℕ) → a ≡ Some k → k < length f) → m ≡ length f
    → (or_else a (place_if b m) >>= slice_get (f ++ n ∷ [])) ≡ or_else (a >>= slice_get f) (place_if b n)
unfolding ◌>>=◌
fresh-at f m n true None h e = at_end f n m e
fresh-at f m n false None h e = refl
fresh-at f m n b (Some k) h e = at_front f n k (place_if b n) (h k refl)

still-at : (b : Bool) (n : ℕ) (p : Option ℕ) → (b ≡ true → is_some p ≡ true) → p ≡ or_else p (place_if b n)
still-at true n None h = absurd (let no = h refl in cc)
still-at false n None h = refl
still-at b n (Some x) h = refl

-- ---- an index

inside-length : (d : List (List ℕ)) (t : List ℕ) (n : ℕ) → place_in d t ≡ Some n → n < length d
inside-length d t n h = let s = place-tells 0 d t n h in omega (arith, s.inside, s.counted)

texts-more : (d : List (List ℕ)) (t : List ℕ) (ns : List ℕ) → IsTrue (list_all (is_below (length d)) ns) → texts_of (d ++ t ∷ []) ns ≡ texts_of d ns
texts-more d t ns h =
    map-same (is_below (length d)) (string_at (d ++ t ∷ [])) (string_at d)
    (λ n k. let lt : n < length d = search rules in get_or_append_left d (t ∷ []) [] n lt) ns h

length-snoc : {X : Type 0} (xs : List X) (x : X) → length (xs ++ x ∷ []) ≡ suc (length xs)
length-snoc [] x = refl
length-snoc (y ∷ xs) x = ap suc (length-snoc xs x)

below-snoc : (m : ℕ) (ns : List ℕ) (n : ℕ) → IsTrue (list_all (is_below m) ns) → n < m → IsTrue (list_all (is_below m) (ns ++ n ∷ []))
below-snoc m [] n h lt = search rules
below-snoc m (x ∷ ns) n h lt =
    let both : IsTrue (is_below m x) × IsTrue (list_all (is_below m) ns) = search rules in
    let rest = below-snoc m ns n both.1 lt in
    search rules

pub fresh_view : (d : List (List ℕ)) (f ns : List ℕ) (t : List ℕ) → IsIndexed d f ns → texts_of (d ++ t ∷ []) (ns ++ length d ∷ []) ≡ texts_of d ns ++ t ∷ []
fresh_view d f ns t h =
    map-append (string_at (d ++ t ∷ [])) ns (length d ∷ [])
    ∙ ap₂ (λ a b. a ++ b ∷ []) (texts-more d t ns h.inside) (get_or_at d t [] [] (length d) refl)

pub fresh_index : (d : List (List ℕ)) (f ns : List ℕ) (t : List ℕ) → IsIndexed d f ns → place_in d t ≡ None → length ns < 2 ^ 30
    → IsIndexed (d ++ t ∷ []) (f ++ length ns ∷ []) (ns ++ length d ∷ [])
fresh_index d f ns t h none small =
    let wide : length d ≤ length (d ++ t ∷ []) = omega (arith, length-snoc d t) in
    record {
      found = λ u.
          ap (λ p. p >>= slice_get (f ++ length ns ∷ [])) (place-snoc 0 d t u)
          ∙ fresh-at f (0 + length d) (length ns) (bytes_eq t u) (place_in d u) (λ k e. let lt = inside-length d u k e in omega (arith, h.paired, lt)) (omega (arith, h.paired))
          ∙ ap (λ p. or_else p (place_if (bytes_eq t u) (length ns))) (h.found u)
          ∙ ap (λ n. or_else (place_in (texts_of d ns) u) (place_if (bytes_eq t u) n)) (let long = length-map ns (string_at d) in let z : length ns ≡ 0 + length (texts_of d ns) = omega (arith, long) in z)
          ∙ sym (place-snoc 0 (texts_of d ns) t u)
          ∙ sym (ap (λ l. place_in l u) (fresh_view d f ns t h));
      paired = length-snoc f (length ns) ∙ ap suc h.paired ∙ sym (length-snoc d t);
      small = omega (arith, length-snoc ns (length d));
      inside = below-snoc (length (d ++ t ∷ [])) ns (length d) (all-weaker (is_below (length d)) (is_below (length (d ++ t ∷ []))) (λ n k. lt-more (length d) (length (d ++ t ∷ [])) n wide k) ns h.inside) (omega (arith, length-snoc d t));
    }

pub fresh_stood : (d : List (List ℕ)) (f ns : List ℕ) (t : List ℕ) → IsIndexed d f ns → place_in d t ≡ None → false ≡ stands_in (texts_of d ns) t
unfolding ◌>>=◌
fresh_stood d f ns t h none = sym (ap is_some (sym (h.found t) ∙ ap (λ p. p >>= slice_get f) none))

pub again_stood : (d : List (List ℕ)) (f ns : List ℕ) (t : List ℕ) (n : ℕ) → IsIndexed d f ns → place_in d t ≡ Some n → true ≡ stands_in (texts_of d ns) t
unfolding ◌>>=◌
again_stood d f ns t n h some =
    sym (ap is_some (sym (h.found t) ∙ ap (λ p. p >>= slice_get f) some)
    ∙ is_there f n (let lt = inside-length d t n some in omega (arith, h.paired, lt)))

pub again_view : (d : List (List ℕ)) (ns : List ℕ) (t : List ℕ) (n : ℕ) → place_in d t ≡ Some n → texts_of d (ns ++ n ∷ []) ≡ texts_of d ns ++ t ∷ []
again_view d ns t n some =
    let s = place-tells 0 d t n some in
    let same : n ≡ s.at = omega (arith, s.counted) in
    map-append (string_at d) ns (n ∷ []) ∙ ap (λ b. texts_of d ns ++ b ∷ []) (ap (string_at d) same ∙ s.there)

pub again_index : (d : List (List ℕ)) (f ns : List ℕ) (t : List ℕ) (n : ℕ) → IsIndexed d f ns → place_in d t ≡ Some n → length ns < 2 ^ 30 → IsIndexed d f (ns ++ n ∷ [])
again_index d f ns t n h some small =
    record {
      found = λ u.
          h.found u
          ∙ still-at (bytes_eq t u) (0 + length (texts_of d ns)) (place_in (texts_of d ns) u) (λ e. ap (λ v. is_some (place_in (texts_of d ns) v)) (sym (same-text t u e)) ∙ sym (again_stood d f ns t n h some))
          ∙ sym (place-snoc 0 (texts_of d ns) t u)
          ∙ sym (ap (λ l. place_in l u) (again_view d ns t n some));
      paired = h.paired;
      small = omega (arith, length-snoc ns n);
      inside = below-snoc (length d) ns n h.inside (inside-length d t n some);
    }

pub no_texts : IsIndexed [] [] []
unfolding ◌>>=◌
no_texts = record { found = λ t. refl; paired = refl; small = lit≤ tt; inside = refl }

pub find_some : (d : List (List ℕ)) (f ns : List ℕ) (t : List ℕ) (n : ℕ) → IsIndexed d f ns → Some n ≡ place_in d t → slice_get f n ≡ place_in (texts_of d ns) t
unfolding ◌>>=◌
find_some d f ns t n h some = ap (λ p. p >>= slice_get f) some ∙ h.found t

pub find_none : (d : List (List ℕ)) (f ns : List ℕ) (t : List ℕ) → IsIndexed d f ns → None ≡ place_in d t → None ≡ place_in (texts_of d ns) t
unfolding ◌>>=◌
find_none d f ns t h none = ap (λ p. p >>= slice_get f) none ∙ h.found t
