-- Names, paths and types that a text writes.
use Rattle.std.specs.Prelude.{◌≡◌, ◌<◌, ◌≤◌, ℕ, suc, max, false, ◌==◌, ◌&&◌, List, [], ◌∷◌, ◌++◌, map, length, codes, Some, if◌then◌else◌}
use Rattle.mir_syntax.specs.Tree.{Tree, scalar, empty, more as more_types, ref, ref_mut, named}
use Rattle.mir_syntax.specs.Crate.{Crate}
use Rattle.mir_text.specs.Bytes.{begins, is_name_byte}
use Rattle.mir_text.specs.Pieces.{Piece, spelled, IsPiece, Ends}
use Rattle.mir_text.specs.Symbols.{name, token_of}
use Rattle.mir_text.specs.Words.{place_in}
use Rattle.mir_text.specs.TypeText.{def_at}

-- what follows begins with no byte of a name
abbrev pub Clear : List ℕ → Type 0
Clear left = begins is_name_byte left ≡ false

-- letters, digits and `_` that are no word of the language
pub record IsName (bytes : List ℕ) : Type 0 where
  pub piece : Piece
  pub spells : spelled piece ≡ bytes
  pub is : IsPiece piece
  pub ends : (left : List ℕ) → Clear left → Ends piece left
  pub token : token_of piece ≡ name bytes

-- the names of a path, at least one
pub data PathNames : Type 0 where
  one : List ℕ → PathNames
  more : List ℕ → PathNames → PathNames

abbrev pub joined : PathNames → List ℕ
joined (one b) = b
joined (more b p) = b ++ (codes "::" ++ joined p)

abbrev pub names_of_path : PathNames → List (List ℕ)
names_of_path (one b) = b ∷ []
names_of_path (more b p) = b ∷ names_of_path p

abbrev pub in_front : ℕ → PathNames → PathNames
in_front b (one n) = one (b ∷ n)
in_front b (more n p) = more (b ∷ n) p

-- `::` stands between two names
abbrev pub split : List ℕ → PathNames
split [] = one []
split (b ∷ []) = one (b ∷ [])
split (b ∷ a ∷ bs) = if (b == 58) && (a == 58) then more [] (split bs) else in_front b (split (a ∷ bs))

abbrev pub AllNames : PathNames → Type 0
AllNames (one b) = IsName b
AllNames (more b p) = IsName b × AllNames p

pub record IsPath (bytes : List ℕ) : Type 0 where
  pub whole : joined (split bytes) ≡ bytes
  pub names : AllNames (split bytes)

abbrev pub crate_paths : Crate → List (List ℕ)
crate_paths c = map (λ d. d.path) c.defs

-- a number is that of a struct or enum, which its path names
pub record IsDef (c : Crate) (d : ℕ) : Type 0 where
  pub there : d < length c.defs
  pub path : IsPath (def_at c d).path
  pub place : place_in (crate_paths c) (def_at c d).path ≡ Some d

unfoldable mutual
  pub Proper : Crate → Tree → Type 0
  Proper c (scalar x) = Unit {0}
  Proper c empty = Unit {0}
  Proper c (more_types u us) = Proper c u × AreProper c us
  Proper c (ref u) = Proper c u
  Proper c (ref_mut u) = Proper c u
  Proper c (named d) = IsDef c d

  -- the tuple of proper types
  pub AreProper : Crate → Tree → Type 0
  AreProper c (more_types u us) = Proper c u × AreProper c us
  AreProper c empty = Unit {0}
  AreProper c u = ⊥

abbrev mutual
  pub tree_depth : Tree → ℕ
  tree_depth (scalar x) = 1
  tree_depth empty = 1
  tree_depth (more_types u us) = suc (max (tree_depth u) (parts_depth us))
  tree_depth (ref u) = suc (tree_depth u)
  tree_depth (ref_mut u) = suc (tree_depth u)
  tree_depth (named d) = 1

  pub parts_depth : Tree → ℕ
  parts_depth (more_types u us) = max (tree_depth u) (parts_depth us)
  parts_depth u = 0

-- a type that nests no deeper than a text may
pub record IsTy (c : Crate) (t : Tree) : Type 0 where
  pub proper : Proper c t
  pub depth : tree_depth t ≤ 65
