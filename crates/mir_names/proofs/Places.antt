-- A name's place among keys that hold names.
use Rattle.std.proofs.Common.{◌≡◌, ℕ, suc, Bool, true, false, cond, nat_eq, List, [], ◌∷◌, ◌++◌, map, length, Option, Some, None, refl, ap, ◌∙◌, add-one, is_some, position, if◌then◌else◌, true≢false}
use Rattle.std.specs.List.{position_from, list_any}
use Rattle.std.specs.Str.{bytes_eq}
use Rattle.std.specs.Cmp.Lexicographic.{pointwise}
use Rattle.std.proofs.lemmas.Cmp.{nat_list_eq_equiv}
use Rattle.std.proofs.lemmas.Iterator.Adapters.{position_from-zero}
use Rattle.mir_text.specs.Words.{place_from, place_in}

module _ {K : Type 0} (text : K → List ℕ) (name : List ℕ) where
  abbrev pub is_name : K → Bool
  is_name k = pointwise nat_eq name (text k)

  place_of : (ks : List K) (n : ℕ) → position_from is_name n ks ≡ place_from n (map text ks) name
  place_of [] n = refl
  place_of (k ∷ ks) n = rw (nat_list_eq_equiv.symm name (text k), add-one n) (ap (λ p. cond (bytes_eq (text k) name) (Some n) p) (place_of ks (suc n)))

  pub found_place : (ks : List K) → position is_name ks ≡ place_in (map text ks) name
  found_place ks = position_from-zero is_name ks ∙ place_of ks 0

  some_place : (b : Bool) (n : ℕ) (p : Option ℕ) → cond b (Some n) p ≡ None → (b ≡ false) × (p ≡ None)
  some_place true n p h = absurd (true≢false (ap is_some h))
  some_place false n p h = (refl, h)

  absent : (ks : List K) (n : ℕ) → place_from n (map text ks) name ≡ None → list_any is_name ks ≡ false
  absent [] n h = refl
  absent (k ∷ ks) n h =
      let here = some_place (bytes_eq (text k) name) n (place_from (suc n) (map text ks) name) h in
      rw (nat_list_eq_equiv.symm name (text k), here.0, absent ks (suc n) here.1) refl

  pub absent_name : (ks : List K) → place_in (map text ks) name ≡ None → list_any is_name ks ≡ false
  absent_name ks h = absent ks 0 h

pub names_length : {K : Type 0} (text : K → List ℕ) (ks : List K) → length (map text ks) ≡ length ks
names_length text [] = refl
names_length text (k ∷ ks) = ap suc (names_length text ks)

names_push : {K : Type 0} (text : K → List ℕ) (ks : List K) (key : K) → map text (ks ++ key ∷ []) ≡ map text ks ++ text key ∷ []
names_push text [] key = refl
names_push text (k ∷ ks) key = ap (λ l. text k ∷ l) (names_push text ks key)

-- a key whose name doesn't stand yet goes last
pub appended : {K : Type 0} (text : K → List ℕ) (key : K) (ks new : List K) (name : List ℕ) (names : List (List ℕ))
    → text key ≡ name → map text ks ≡ names → place_in names name ≡ None
    → new ≡ (if list_any (is_name text (text key)) ks then ks else ks ++ key ∷ []) → map text new ≡ names ++ name ∷ []
appended text key ks new name names same view none is =
    let there : place_in (map text ks) (text key) ≡ None = rw (same, view) none in
    let last : new ≡ ks ++ key ∷ [] = is ∙ ap (λ b. if b then ks else ks ++ key ∷ []) (absent_name text (text key) ks there) in
    ap (map text) last ∙ names_push text ks key ∙ ap (λ n. map text ks ++ n ∷ []) same ∙ ap (λ l. l ++ name ∷ []) view
