-- Paths: their names, the rule that writes them, and back.
use Rattle.mir_round_trip.specs.Names.{PathNames, one, more, joined, names_of_path, split, AllNames, IsPath}
use Rattle.std.proofs.Common.{◌≡◌, ℕ, List, ◌∷◌, ◌++◌, codes, refl, sym, ap, subst, ◌∙◌, append_assoc, Some}
use Rattle.mir_text.specs.declared.symbol.Symbol.{Symbol}
use Rattle.mir_text.specs.declared.symbol.Symbol.TheVariants as s
use Rattle.mir_text.specs.Symbols.{number_in}
use Rattle.mir_text.specs.Grammar.{AllOf}
use Rattle.mir_text.specs.GrammarTypes.{PathRule, name, name_in, path_put}
use Rattle.mir_text.specs.Names.{Strings, string_at, path_bytes, last_name, within, without_last}
use Rattle.mir_round_trip.proofs.Spelling.{Spelt, after, and_then}
use Rattle.mir_round_trip.proofs.Atoms.{name_spelt}
use Rattle.mir_round_trip.proofs.Literals.{colons_sign}

abbrev pub path_rule_of : Strings → PathNames → PathRule
path_rule_of strings (one b) = name (number_in strings b)
path_rule_of strings (more b p) = name_in (number_in strings b) (path_rule_of strings p)

-- the rule that writes a path
unfoldable pub path_rule : Strings → List ℕ → PathRule
path_rule strings bytes = path_rule_of strings (split bytes)

unfoldable pub path_names : List ℕ → List (List ℕ)
path_names bytes = names_of_path (split bytes)

-- ---- the text of a path

joined-spelt : (p : PathNames) → AllNames p → Spelt (joined p) (λ strings. path_put (path_rule_of strings p)) (names_of_path p)
joined-spelt (one b) h = name_spelt b h
joined-spelt (more b p) h = and_then (name_spelt b h.0) (λ left clear. refl) (after colons_sign (joined-spelt p h.1))

pub path_spelt : (bytes : List ℕ) → IsPath bytes → Spelt bytes (λ strings. path_put (path_rule strings bytes)) (path_names bytes)
unfolding path_rule path_names
path_spelt bytes is = subst (λ l. Spelt l (λ strings. path_put (path_rule_of strings (split bytes))) (names_of_path (split bytes))) is.whole (joined-spelt (split bytes) is.names)

-- ---- back

-- a byte string is read back by its number
abbrev pub Back : Strings → List ℕ → Type 0
Back strings bytes = string_at strings (number_in strings bytes) ≡ bytes

joined-back : (strings : Strings) (p : PathNames) → AllOf (Back strings) (names_of_path p) → path_bytes strings (path_rule_of strings p) ≡ joined p
joined-back strings (one b) h = h.0
joined-back strings (more b p) h =
    ap (λ l. l ++ codes "::" ++ path_bytes strings (path_rule_of strings p)) h.0 ∙ append_assoc b (codes "::") (path_bytes strings (path_rule_of strings p))
    ∙ ap (λ l. b ++ (codes "::" ++ l)) (joined-back strings p h.1)

pub path_back : (strings : Strings) (bytes : List ℕ) → IsPath bytes → AllOf (Back strings) (path_names bytes) → path_bytes strings (path_rule strings bytes) ≡ bytes
unfolding path_rule path_names
path_back strings bytes is h = joined-back strings (split bytes) h ∙ is.whole

-- ---- a path and one more name

abbrev pub with_last : PathRule → ℕ → PathRule
with_last (name n) k = name_in n (name k)
with_last (name_in n p) k = name_in n (with_last p k)

pub last-name : (p : PathRule) (k : ℕ) → last_name (with_last p k) ≡ k
last-name (name n) k = refl
last-name (name_in n p) k = last-name p k

-- behind a name, what stands before the last one goes on
within-last : (n : ℕ) (p : PathRule) (k : ℕ) → without_last (name_in n (with_last p k)) ≡ within n (without_last (with_last p k))
within-last n (name m) k = refl
within-last n (name_in m p) k = refl

pub without-last : (p : PathRule) (k : ℕ) → without_last (with_last p k) ≡ Some p
without-last (name n) k = refl
without-last (name_in n p) k = within-last n p k ∙ ap (within n) (without-last p k)

pub last-bytes : (strings : Strings) (p : PathRule) (k : ℕ) → path_bytes strings (with_last p k) ≡ path_bytes strings p ++ (codes "::" ++ string_at strings k)
last-bytes strings (name n) k = append_assoc (string_at strings n) (codes "::") (string_at strings k)
last-bytes strings (name_in n p) k =
    ap (λ l. string_at strings n ++ codes "::" ++ l) (last-bytes strings p k)
    ∙ sym (append_assoc (string_at strings n ++ codes "::") (path_bytes strings p) (codes "::" ++ string_at strings k))

pub put-last : (p : PathRule) (k : ℕ) (rest : List Symbol) → path_put (with_last p k) rest ≡ path_put p (s.Colons ∷ s.Name k ∷ rest)
put-last (name n) k rest = refl
put-last (name_in n p) k rest = ap (λ l. s.Name n ∷ s.Colons ∷ l) (put-last p k rest)
