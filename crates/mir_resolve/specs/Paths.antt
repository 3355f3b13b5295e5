-- The bytes of a path, put together from its first name on. It helps the proofs alone; no contract of a public call speaks of it.
use Rattle.std.specs.Prelude.{ℕ, List, [], ◌∷◌, ◌++◌, codes}
use Rattle.mir_text.specs.Names.{Strings, string_at}

-- the bytes of a path's front, and then `::` and a name for each further name
abbrev pub path_after : Strings → List ℕ → List ℕ → List ℕ
path_after strings bytes [] = bytes
path_after strings bytes (n ∷ ns) = path_after strings (bytes ++ (codes "::" ++ string_at strings n)) ns
