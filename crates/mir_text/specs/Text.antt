-- The canonical text of a crate.
use Rattle.std.specs.Prelude.{ℕ, suc, Bool, true, false, List, [], ◌∷◌, ◌++◌, take, drop, codes}
use Rattle.mir_syntax.specs.declared.types.Form.{Form}
use Rattle.mir_syntax.specs.declared.types.Form.TheVariants as form
use Rattle.mir_syntax.specs.declared.body.Inline.{Inline}
use Rattle.mir_syntax.specs.declared.body.Inline.TheVariants as inlining
use Rattle.mir_syntax.specs.Tree.{Tree}
use Rattle.mir_syntax.specs.Crate.{TypedField, TypedVariant, TypedDef, TypedOutside, TypedBody, TypedFunction, Crate}
use Rattle.mir_text.specs.TypeText.{piece, more_items, comma_list, type_text}
use Rattle.mir_text.specs.PlaceText.{local_text, local_ty}
use Rattle.mir_text.specs.TermText.{blocks_text}

-- ---- bodies

-- a local and its type
unfoldable pub local_decl : Crate → ℕ → Tree → List ℕ
local_decl c x t = local_text x ++ (piece (codes ": ") ++ type_text c t)

-- the arguments after the first one, which has a number
unfoldable pub more_args : Crate → ℕ → List Tree → List ℕ
more_args c x [] = []
more_args c x (t ∷ ts) = piece (codes ", ") ++ (local_decl c x t ++ more_args c (suc x) ts)

unfoldable pub args_text : Crate → List Tree → List ℕ
args_text c [] = []
args_text c (t ∷ ts) = local_decl c 1 t ++ more_args c 2 ts

unfoldable pub let_line : Crate → ℕ → Tree → List ℕ
let_line c x t = piece (codes "    let mut ") ++ (local_decl c x t ++ piece (codes ";\n"))

-- the lines of locals, the first of which has a number
unfoldable pub lets_text : Crate → ℕ → List Tree → List ℕ
lets_text c x [] = []
lets_text c x (t ∷ ts) = let_line c x t ++ lets_text c (suc x) ts

-- the types of the arguments: they stand behind that of `_0`
abbrev pub args_of : TypedBody → List Tree
args_of b = take b.args (drop 1 b.locals)

-- the types of the locals after the arguments
abbrev pub others_of : TypedBody → List Tree
others_of b = drop (suc b.args) b.locals

unfoldable pub body_text : Crate → TypedBody → List ℕ
body_text c b = let_line c 0 (local_ty b.locals 0) ++ (lets_text c (suc b.args) (others_of b) ++ blocks_text c b.locals 0 b.blocks)

-- ---- functions

unfoldable pub inline_text : Inline → List ℕ
inline_text inlining.Plain = []
inline_text inlining.Hint = piece (codes "#[inline]\n")
inline_text inlining.Always = piece (codes "#[inline(always)]\n")
inline_text inlining.Never = piece (codes "#[inline(never)]\n")

unfoldable pub drop_text : Bool → List ℕ
drop_text true = piece (codes "drop ")
drop_text false = []

unfoldable pub header_text : Crate → List ℕ → TypedBody → List ℕ
header_text c path b =
    piece (codes "fn ") ++ (piece path ++ (piece (codes "(") ++ (args_text c (args_of b) ++ (piece (codes ") -> ") ++ (type_text c (local_ty b.locals 0) ++ piece (codes " {\n"))))))

unfoldable pub function_text : Crate → TypedFunction → List ℕ
function_text c f = inline_text f.inlining ++ (drop_text f.is_drop ++ (header_text c f.path f.body ++ (body_text c f.body ++ piece (codes "}\n"))))

-- an empty line, where anything stands before
unfoldable pub gap_text : Bool → List ℕ
gap_text true = piece (codes "\n")
gap_text false = []

-- functions, where anything stands before the first one or not
unfoldable pub functions_text : Crate → Bool → List TypedFunction → List ℕ
functions_text c before [] = []
functions_text c before (f ∷ fs) = gap_text before ++ (function_text c f ++ functions_text c true fs)

-- ---- structs, enums and outside functions

unfoldable pub field_ty_text : Crate → TypedField → List ℕ
field_ty_text c f = type_text c f.ty

unfoldable pub field_text : Crate → TypedField → List ℕ
field_text c f = piece f.name ++ (piece (codes ": ") ++ type_text c f.ty)

-- fields with names, in braces
unfoldable pub braced_text : Crate → List TypedField → List ℕ
braced_text c [] = piece (codes " {}")
braced_text c (f ∷ fs) = piece (codes " { ") ++ (field_text c f ++ (more_items (field_text c) fs ++ piece (codes " }")))

-- the fields of a form, and then a text that braces do without
unfoldable pub fields_text : Crate → Form → List TypedField → List ℕ → List ℕ
fields_text c form.Unit fields end = end
fields_text c form.Tuple fields end = piece (codes "(") ++ (comma_list (field_ty_text c) fields ++ (piece (codes ")") ++ end))
fields_text c form.Named fields end = braced_text c fields

unfoldable pub variant_text : Crate → TypedVariant → List ℕ
variant_text c v = piece v.name ++ fields_text c v.form v.fields []

-- the variants of an enum, in braces
unfoldable pub variants_text : Crate → List TypedVariant → List ℕ
variants_text c [] = piece (codes " {}")
variants_text c (v ∷ vs) = piece (codes " { ") ++ (variant_text c v ++ (more_items (variant_text c) vs ++ piece (codes " }")))

-- the fields of a struct: those of its one variant
unfoldable pub struct_text : Crate → List TypedVariant → List ℕ
struct_text c [] = []
struct_text c (v ∷ vs) = fields_text c v.form v.fields (piece (codes ";"))

-- what follows the path of a struct or enum
unfoldable pub shape_text : Crate → Bool → List TypedVariant → List ℕ
shape_text c true variants = variants_text c variants
shape_text c false variants = struct_text c variants

unfoldable pub def_word : Bool → List ℕ
def_word true = codes "enum "
def_word false = codes "struct "

unfoldable pub def_text : Crate → TypedDef → List ℕ
def_text c d = piece (def_word d.is_enum) ++ (piece d.path ++ (shape_text c d.is_enum d.variants ++ piece (codes "\n")))

unfoldable pub defs_text : Crate → List TypedDef → List ℕ
defs_text c [] = []
defs_text c (d ∷ ds) = def_text c d ++ defs_text c ds

unfoldable pub outside_text : Crate → TypedOutside → List ℕ
outside_text c o =
    piece (codes "extern fn ") ++ (piece o.path ++ (piece (codes "(") ++ (comma_list (type_text c) o.args ++ (piece (codes ") -> ") ++ (type_text c o.result ++ piece (codes ";\n"))))))

unfoldable pub outsides_text : Crate → List TypedOutside → List ℕ
outsides_text c [] = []
outsides_text c (o ∷ os) = outside_text c o ++ outsides_text c os

-- ---- crates

-- a struct, an enum or an outside function stands before the functions
abbrev pub others_stand : List TypedDef → List TypedOutside → Bool
others_stand [] [] = false
others_stand _ _ = true

-- the definitions, then the outside functions, then the functions
unfoldable pub text : Crate → List ℕ
text c = defs_text c c.defs ++ (outsides_text c c.outsides ++ functions_text c (others_stand c.defs c.outsides) c.functions)
