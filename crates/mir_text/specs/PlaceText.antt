-- The canonical text of places and operands.
use Rattle.std.specs.Prelude.{ℕ, List, [], ◌∷◌, ◌++◌, get_or, Option, Some, None, codes, decimal}
use Rattle.mir_syntax.specs.declared.types.Form.TheVariants as form
use Rattle.mir_syntax.specs.declared.body.Proj.{Proj}
use Rattle.mir_syntax.specs.declared.body.Proj.TheVariants.{Field, Downcast, Deref}
use Rattle.mir_syntax.specs.declared.body.Place.{Place}
use Rattle.mir_syntax.specs.declared.body.Operand.{Operand}
use Rattle.mir_syntax.specs.declared.body.Operand.TheVariants as operand
use Rattle.mir_syntax.specs.Tree.{Tree, empty, named}
use Rattle.mir_syntax.specs.Crate.{TypedVariant, Crate}
use Rattle.mir_syntax.specs.Shapes.{shapes_of, proj_ty}
use Rattle.mir_text.specs.TypeText.{piece, def_at, type_text, const_text}

unfoldable pub local_text : ℕ → List ℕ
local_text x = piece (codes "_") ++ piece (decimal x)

-- ---- places

abbrev pub or_unit : Option Tree → Tree
or_unit None = empty
or_unit (Some t) = t

-- the type of a local
unfoldable pub local_ty : List Tree → ℕ → Tree
local_ty locals x = get_or locals x empty

-- what a projection makes of a type
unfoldable pub type_after : Crate → Tree → Proj → Tree
type_after c t p = or_unit (proj_ty (shapes_of c) t p)

abbrev pub no_variant : TypedVariant
no_variant = record { name = []; form = form.Unit; fields = [] }

-- a variant of the struct or enum with a number; a struct has one
abbrev pub variant_at : Crate → ℕ → ℕ → TypedVariant
variant_at c d k = get_or (def_at c d).variants k no_variant

unfoldable pub variant_name : Crate → Tree → ℕ → List ℕ
variant_name c (named d) k = (variant_at c d k).name
variant_name c _ k = []

-- what a projection puts before the place that it goes on from
unfoldable pub opening : Proj → List ℕ
opening Deref = piece (codes "(*")
opening (Downcast k) = piece (codes "(")
opening (Field n) = piece (codes "(")

-- the openings of projections: the last one is the outermost
unfoldable pub openings : List Proj → List ℕ
openings [] = []
openings (p ∷ ps) = openings ps ++ opening p

-- what a projection puts after a place of a type; a field is written with its type
unfoldable pub closing : Crate → Tree → Proj → List ℕ
closing c t Deref = piece (codes ")")
closing c t (Downcast k) = piece (codes " as ") ++ (piece (variant_name c t k) ++ piece (codes ")"))
closing c t (Field n) = piece (codes ".") ++ (piece (decimal n) ++ (piece (codes ": ") ++ (type_text c (type_after c t (Field n)) ++ piece (codes ")"))))

unfoldable pub closings : Crate → Tree → List Proj → List ℕ
closings c t [] = []
closings c t (p ∷ ps) = closing c t p ++ closings c (type_after c t p) ps

unfoldable pub place_text : Crate → List Tree → Place → List ℕ
place_text c locals p = openings p.proj ++ (local_text p.local ++ closings c (local_ty locals p.local) p.proj)

-- ---- operands

unfoldable pub operand_text : Crate → List Tree → Operand → List ℕ
operand_text c locals (operand.Copy p) = piece (codes "copy ") ++ place_text c locals p
operand_text c locals (operand.Move p) = piece (codes "move ") ++ place_text c locals p
operand_text c locals (operand.Const x) = const_text x
