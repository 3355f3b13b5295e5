-- Texts that stand twice in a list.
use Rattle.std.specs.Prelude.{◌≡◌, ℕ, List}
use Rattle.mir_text.specs.NameFaults.{stands_in}

-- the same texts stand in both lists
pub record SameTexts (some others : List (List ℕ)) : Type 0 where
  pub same : (text : List ℕ) → stands_in some text ≡ stands_in others text
