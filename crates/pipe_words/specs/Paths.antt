-- Paths as they stand in words: without spaces.
use Rattle.std.specs.Prelude.{◌≡◌, ℕ, List, [], ◌∷◌, ◌++◌, codes}
use Rattle.mir_text.specs.Pieces.{Piece, spelled, IsPiece}
use Rattle.mir_text.specs.Symbols.{token_of, name}

-- a name of the language of bodies: one piece of text, and no reserved word and no block
pub record IsName (text : List ℕ) : Type 0 where
  pub piece : Piece
  pub is : IsPiece piece
  pub whole : spelled piece ≡ text
  pub means : token_of piece ≡ name text

-- names with `::` between two
abbrev pub path_text : List ℕ → List (List ℕ) → List ℕ
path_text first [] = first
path_text first (next ∷ others) = first ++ (codes "::" ++ path_text next others)

abbrev pub AreNames : List (List ℕ) → Type 0
AreNames [] = Unit {0}
AreNames (n ∷ ns) = IsName n × AreNames ns

-- one or more names with `::` between two
pub record IsPath (text : List ℕ) : Type 0 where
  pub first : List ℕ
  pub others : List (List ℕ)
  pub names : AreNames (first ∷ others)
  pub whole : text ≡ path_text first others
