-- The canonical text of types and constants, and what all texts are made with.
use Rattle.std.specs.Prelude.{ℕ, Bool, true, false, List, [], ◌∷◌, ◌++◌, get_or, codes, decimal}
use Rattle.mir_syntax.specs.declared.types.IntTy.{IntTy}
use Rattle.mir_syntax.specs.declared.types.IntTy.TheVariants as i
use Rattle.mir_syntax.specs.declared.types.ScalarTy.{ScalarTy}
use Rattle.mir_syntax.specs.declared.types.ScalarTy.TheVariants as scalar_ty
use Rattle.mir_syntax.specs.declared.body.Const.{Const}
use Rattle.mir_syntax.specs.declared.body.Const.TheVariants as const
use Rattle.mir_syntax.specs.Tree.{Tree, scalar, empty, more, ref, ref_mut, named}
use Rattle.mir_syntax.specs.Crate.{TypedDef, Crate}
use Rattle.mir_text.specs.Numbers.{is_negative, size_of}

-- a text that stands for itself, and is not taken apart
unfoldable pub piece : List ℕ → List ℕ
piece text = text

-- the items after the first one: a comma and a space before each
unfoldable pub more_items : {A : Type 0} → (A → List ℕ) → List A → List ℕ
more_items text [] = []
more_items text (x ∷ xs) = piece (codes ", ") ++ (text x ++ more_items text xs)

-- items with a comma and a space between two
unfoldable pub comma_list : {A : Type 0} → (A → List ℕ) → List A → List ℕ
comma_list text [] = []
comma_list text (x ∷ xs) = text x ++ more_items text xs

-- ---- types

unfoldable pub int_name : IntTy → List ℕ
int_name i.I8 = codes "i8"
int_name i.I16 = codes "i16"
int_name i.I32 = codes "i32"
int_name i.I64 = codes "i64"
int_name i.I128 = codes "i128"
int_name i.Isize = codes "isize"
int_name i.U8 = codes "u8"
int_name i.U16 = codes "u16"
int_name i.U32 = codes "u32"
int_name i.U64 = codes "u64"
int_name i.U128 = codes "u128"
int_name i.Usize = codes "usize"

unfoldable pub scalar_text : ScalarTy → List ℕ
scalar_text scalar_ty.Bool = piece (codes "bool")
scalar_text (scalar_ty.Int t) = piece (int_name t)

abbrev pub no_def : TypedDef
no_def = record { path = []; is_enum = false; variants = [] }

-- the struct or enum with a number
abbrev pub def_at : Crate → ℕ → TypedDef
def_at c d = get_or c.defs d no_def

unfoldable mutual
  pub type_text : Crate → Tree → List ℕ
  type_text c (scalar s) = scalar_text s
  type_text c empty = piece (codes "()")
  type_text c (more t ts) = piece (codes "(") ++ (type_text c t ++ rest_text c ts)
  type_text c (ref t) = piece (codes "&") ++ type_text c t
  type_text c (ref_mut t) = piece (codes "&mut ") ++ type_text c t
  type_text c (named d) = piece (def_at c d).path

  -- what follows the first part of a tuple; a lone part has a comma
  pub rest_text : Crate → Tree → List ℕ
  rest_text c (more t ts) = piece (codes ", ") ++ (type_text c t ++ parts_text c ts)
  rest_text c _ = piece (codes ",)")

  -- what follows a later part
  pub parts_text : Crate → Tree → List ℕ
  parts_text c (more t ts) = piece (codes ", ") ++ (type_text c t ++ parts_text c ts)
  parts_text c _ = piece (codes ")")

-- ---- constants

unfoldable pub minus_text : Bool → List ℕ
minus_text true = piece (codes "-")
minus_text false = []

-- a number is written with its sign and its type
unfoldable pub const_text : Const → List ℕ
const_text (const.Int t n) = piece (codes "const ") ++ (minus_text (is_negative t n) ++ (piece (decimal (size_of t n)) ++ (piece (codes "_") ++ piece (int_name t))))
const_text (const.Bool true) = piece (codes "const true")
const_text (const.Bool false) = piece (codes "const false")
const_text const.Unit = piece (codes "const ()")
