-- What a parser promises in the grammar's words.
use Rattle.std.specs.Prelude.{◌≡◌, Bool, true, false, List, [], ◌∷◌, Result, Ok, Err}
use Rattle.mir_text.specs.declared.symbol.Symbol.{Symbol}
use Rattle.mir_text.specs.declared.symbol.Symbol.TheVariants as s
use Rattle.mir_text.specs.Grammar.{Put}
use Rattle.mir_parse.specs.declared.fault.ParseRefused.{ParseRefused}
use Rattle.mir_parse.specs.declared.fault.ParseRefused.TheVariants as refused

-- the rule of a tree is good, and stands at the front of the symbols
pub record IsParsed {R A : Type 0} (put : Put R) (rule : A → R) (Good : R → Type 0) (ts : List Symbol) (x : A) (rest : List Symbol) : Type 0 where
  pub stands : ts ≡ put (rule x) rest
  pub good : Good (rule x)

-- a fault is answered only where no good rule stands at the front of the symbols, before what may follow it
abbrev pub NoneStands : {X R : Type 0} → Put R → (R → Type 0) → (List Symbol → Type 0) → List Symbol → Result X ParseRefused → Type 0
NoneStands put Good Follows ts (Ok x) = Unit {0}
NoneStands put Good Follows ts (Err refused.OutOfMemory) = Unit {0}
NoneStands {R = R} put Good Follows ts (Err (refused.Fault e)) = (r : R) (rest : List Symbol) → Good r → Follows rest → ts ≡ put r rest → ⊥

-- ---- what may follow

abbrev pub Any : List Symbol → Type 0
Any rest = Unit {0}

abbrev pub starts_colons : List Symbol → Bool
starts_colons [] = false
starts_colons (s.Colons ∷ ts) = true
starts_colons (x ∷ ts) = false

-- what may follow a path, and a type that ends in one: anything but `::`
abbrev pub NoColons : List Symbol → Type 0
NoColons rest = starts_colons rest ≡ false

abbrev pub starts_semicolon : List Symbol → Bool
starts_semicolon [] = false
starts_semicolon (s.Semicolon ∷ ts) = true
starts_semicolon (x ∷ ts) = false

-- what follows an rvalue, a statement and a terminator
abbrev pub Semicolon : List Symbol → Type 0
Semicolon rest = starts_semicolon rest ≡ true
