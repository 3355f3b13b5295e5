-- What a piece of text found at the front of a word is. No public promise rests on these.
use Rattle.std.specs.Prelude.{ℕ, Bool, true, false, Option, Some, None}
use Rattle.mir_lex.specs.declared.kind.Kind.TheVariants as k
use Rattle.mir_lex.specs.declared.scan.Found.{Found}
use Rattle.mir_lex.specs.declared.scan.Found.TheVariants as f

-- the number of a token without a suffix
abbrev pub number_found : Found → Option ℕ
number_found (f.Token (k.Number n None)) = Some n
number_found found = None

abbrev pub is_name_found : Found → Bool
is_name_found (f.Token k.Name) = true
is_name_found found = false
