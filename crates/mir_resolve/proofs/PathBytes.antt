-- The bytes of a path, name by name.
use Rattle.std.proofs.Common.{◌≡◌, ◌<◌, ℕ, zero, suc, length, arith, None, slice_get, List, [], ◌∷◌, ◌++◌, codes, refl, sym, ap, ◌∙◌, append_assoc}
use Rattle.mir_text.specs.Names.{Strings, string_at, path_bytes}
use Rattle.mir_tree.specs.Types.{path_of}
use Rattle.mir_resolve.specs.Paths.{path_after}

path_after-front : (strings : Strings) (front bytes : List ℕ) (ns : List ℕ) → path_after strings (front ++ bytes) ns ≡ front ++ path_after strings bytes ns
path_after-front strings front bytes [] = refl
path_after-front strings front bytes (n ∷ ns) =
    ap (λ b. path_after strings b ns) (append_assoc front bytes (codes "::" ++ string_at strings n))
    ∙ path_after-front strings front (bytes ++ (codes "::" ++ string_at strings n)) ns

pub path_after_bytes : (strings : Strings) (n : ℕ) (ns : List ℕ) → path_after strings (string_at strings n) ns ≡ path_bytes strings (path_of n ns)
path_after_bytes strings n [] = refl
path_after_bytes strings n (k ∷ ns) =
    ap (λ b. path_after strings b ns) (sym (append_assoc (string_at strings n) (codes "::") (string_at strings k)))
    ∙ path_after-front strings (string_at strings n ++ codes "::") (string_at strings k) ns
    ∙ ap (λ b. string_at strings n ++ codes "::" ++ b) (path_after_bytes strings k ns)

-- where no names are left the bytes are whole
pub path_ended : (strings : Strings) (bytes ns whole : List ℕ) → length ns < 1 → path_after strings bytes ns ≡ whole → bytes ≡ whole
path_ended strings bytes [] whole short h = h
path_ended strings bytes (n ∷ ns) whole short h = absurd (omega arith)

pub no_string : (strings : Strings) (n : ℕ) → None ≡ slice_get strings n → [] ≡ string_at strings n
no_string [] n h = refl
no_string (x ∷ xs) zero h = absurd cc
no_string (x ∷ xs) (suc n) h = no_string xs n h
