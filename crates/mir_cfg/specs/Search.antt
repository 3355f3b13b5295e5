-- What holds while blocks are found from bb0. No promise of a public call rests on these.
use Rattle.std.specs.Prelude.{◌≡◌, ◌⊎◌, ℕ, ◌+◌, ◌*◌, ◌<◌, ◌≤◌, Bool, true, false, List, length, get_or, cond, sum_by}
use Rattle.std.specs.List.{All, Contains}
use Rattle.mir_syntax.specs.declared.body.Term.{Term}
use Rattle.mir_cfg.specs.Paths.{exits, Reached}

abbrev pub is_found : List Bool → ℕ → Bool
is_found found b = get_or found b false

-- blocks were found along paths; those whose edges weren't gone over are open
pub record IsSearch (terms : List Term) (found : List Bool) (opened : List ℕ) : Type 0 where
  pub long : length found ≡ length terms
  pub first : is_found found 0 ≡ true
  pub path : (b : ℕ) → is_found found b ≡ true → Reached terms b
  pub within : All (λ b. b < length terms) opened
  pub open_found : (b : ℕ) → Contains opened b → is_found found b ≡ true
  pub closed : (a : ℕ) → is_found found a ≡ true → Contains opened a ⊎ All (λ b. is_found found b ≡ true) (exits terms a)

abbrev pub one_if_not : Bool → ℕ
one_if_not b = cond b 0 1

-- how many blocks weren't found
abbrev pub missing : List Bool → ℕ
missing found = sum_by one_if_not found

-- what finding some blocks does
pub record Finds (found found2 : List Bool) (opened opened2 blocks : List ℕ) : Type 0 where
  pub long : length found2 ≡ length found
  pub kept : (b : ℕ) → is_found found b ≡ true → is_found found2 b ≡ true
  pub marked : All (λ b. is_found found2 b ≡ true) blocks
  pub only : (b : ℕ) → is_found found2 b ≡ true → (is_found found b ≡ true) ⊎ (Contains blocks b × Contains opened2 b)
  pub stay : (b : ℕ) → Contains opened b → Contains opened2 b
  pub from : (b : ℕ) → Contains opened2 b → Contains opened b ⊎ Contains blocks b
  pub fewer : 2 * missing found2 + length opened2 ≤ 2 * missing found + length opened
