-- Paths by their first name.
use Rattle.std.proofs.Common.{◌≡◌, ℕ, false, List, [], ◌∷◌, ◌++◌, ◌⊎◌, length, arith, inl, inr, refl, sym, ap, subst, ◌∙◌}
use Rattle.std.proofs.lemmas.List.{append-nil}
use Rattle.mir_text.specs.Bytes.{begins, is_name_byte}
use Rattle.pipe_words.specs.Paths.{IsName, AreNames, IsPath, path_text}

pub path_one : (bytes n : List ℕ) → IsName n → bytes ≡ n ++ [] → IsPath bytes
path_one bytes n is e = record { first = n; others = []; names = (is, tt); whole = e ∙ append-nil n }

pub path_more : (bytes n more : List ℕ) → IsName n → bytes ≡ n ++ 58 ∷ 58 ∷ more → IsPath more → IsPath bytes
path_more bytes n more is e p = record { first = n; others = p.first ∷ p.others; names = (is, p.names); whole = e ∙ ap (λ x. n ++ 58 ∷ 58 ∷ x) p.whole }

-- Where what follows a first name that stands apart is known, a path is that name alone, or a path follows behind colons.
pub path_past : (bytes : List ℕ) (R : List ℕ → Type 0) → ((n rest : List ℕ) → IsName n → begins is_name_byte rest ≡ false → bytes ≡ n ++ rest → R rest) → IsPath bytes → R [] ⊎ ((more : List ℕ) × IsPath more × R (58 ∷ 58 ∷ more))
path_past bytes R known p =
    elim p.others as (λ others. (bytes ≡ path_text p.first others) → AreNames (p.first ∷ others) → R [] ⊎ ((more : List ℕ) × IsPath more × R (58 ∷ 58 ∷ more))) [
      | [] ↦ λ e names. inl (known p.first [] names.0 refl (e ∙ sym (append-nil p.first)))
      | m ∷ ms ↦ λ e names. inr (path_text m ms, record { first = m; others = ms; names = names.1; whole = refl }, known p.first (58 ∷ 58 ∷ path_text m ms) names.0 refl e)
    ] p.whole p.names

-- what the scanner says of a text before a first name
abbrev pub Knows : List ℕ → (List ℕ → Type 0) → Type 0
Knows bytes R = (n rest : List ℕ) → IsName n → begins is_name_byte rest ≡ false → bytes ≡ n ++ rest → R rest

pub path_behind : (bytes past more : List ℕ) → Knows bytes (λ r. past ≡ r) → past ≡ 58 ∷ 58 ∷ more → IsPath bytes → IsPath more
path_behind bytes past more known e p =
    elim (path_past bytes (λ r. past ≡ r) known p) [
      | inl none ↦ absurd cc
      | inr other ↦ let same : other.0 ≡ more = cc in subst IsPath same other.1
    ]

none_left : (past : List ℕ) → length past ≡ 0 → past ≡ []
none_left [] e = refl
none_left (b ∷ bs) e = absurd (omega arith)

pub path_ended : (bytes n past : List ℕ) → IsName n → bytes ≡ n ++ past → length past ≡ 0 → IsPath bytes
path_ended bytes n past is e none = path_one bytes n is (e ∙ ap (λ x. n ++ x) (none_left past none))

pub ends_there : (bytes past : List ℕ) → Knows bytes (λ r. past ≡ r) → ((more : List ℕ) → past ≡ 58 ∷ 58 ∷ more → ⊥) → IsPath bytes → length past ≡ 0
ends_there bytes past known none p =
    elim (path_past bytes (λ r. past ≡ r) known p) [
      | inl e ↦ ap length e
      | inr other ↦ absurd (none other.0 other.2)
    ]

pub no_path : (bytes : List ℕ) → Knows bytes (λ r. ⊥) → IsPath bytes → ⊥
no_path bytes known p = elim (path_past bytes (λ r. ⊥) known p) [ inl e ↦ e | inr other ↦ other.2 ]
