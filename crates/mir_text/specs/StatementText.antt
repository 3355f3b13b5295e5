-- The canonical text of rvalues and statements.
use Rattle.std.specs.Prelude.{ℕ, Bool, true, false, List, [], ◌∷◌, ◌++◌, codes, decimal}
use Rattle.mir_syntax.specs.declared.types.Form.{Form}
use Rattle.mir_syntax.specs.declared.types.Form.TheVariants as form
use Rattle.mir_syntax.specs.declared.body.BinOp.{BinOp}
use Rattle.mir_syntax.specs.declared.body.BinOp.TheVariants as bin
use Rattle.mir_syntax.specs.declared.body.OverOp.{OverOp}
use Rattle.mir_syntax.specs.declared.body.OverOp.TheVariants as over
use Rattle.mir_syntax.specs.declared.body.UnOp.{UnOp}
use Rattle.mir_syntax.specs.declared.body.UnOp.TheVariants as un
use Rattle.mir_syntax.specs.declared.body.Operand.{Operand}
use Rattle.mir_syntax.specs.Tree.{Tree}
use Rattle.mir_syntax.specs.Crate.{TypedField, TypedVariant, TypedDef, Crate, TypedRvalue, «use», binary, overflow, unary, cast, ref, ref_mut, discriminant, tuple, build, TypedStmt, assign, storage_live, storage_dead, set_discriminant}
use Rattle.mir_text.specs.TypeText.{piece, more_items, comma_list, def_at, type_text}
use Rattle.mir_text.specs.PlaceText.{local_text, variant_at, place_text, operand_text}

-- ---- operators

unfoldable pub binary_name : BinOp → List ℕ
binary_name bin.Add = codes "Add"
binary_name bin.Sub = codes "Sub"
binary_name bin.Mul = codes "Mul"
binary_name bin.Div = codes "Div"
binary_name bin.Rem = codes "Rem"
binary_name bin.BitXor = codes "BitXor"
binary_name bin.BitAnd = codes "BitAnd"
binary_name bin.BitOr = codes "BitOr"
binary_name bin.Shl = codes "Shl"
binary_name bin.Shr = codes "Shr"
binary_name bin.Eq = codes "Eq"
binary_name bin.Ne = codes "Ne"
binary_name bin.Lt = codes "Lt"
binary_name bin.Le = codes "Le"
binary_name bin.Gt = codes "Gt"
binary_name bin.Ge = codes "Ge"
binary_name bin.AddUnchecked = codes "AddUnchecked"
binary_name bin.SubUnchecked = codes "SubUnchecked"
binary_name bin.MulUnchecked = codes "MulUnchecked"

unfoldable pub over_name : OverOp → List ℕ
over_name over.Add = codes "AddWithOverflow"
over_name over.Sub = codes "SubWithOverflow"
over_name over.Mul = codes "MulWithOverflow"

unfoldable pub unary_name : UnOp → List ℕ
unary_name un.Not = codes "Not"
unary_name un.Neg = codes "Neg"

-- ---- builds

-- behind the path of an enum stands the variant's name
unfoldable pub variant_path : Bool → List ℕ → List ℕ
variant_path true name = piece (codes "::") ++ piece name
variant_path false name = []

-- operands by name, after the first one
unfoldable pub more_named : Crate → List Tree → List TypedField → List Operand → List ℕ
more_named c locals (f ∷ fs) (x ∷ xs) = piece (codes ", ") ++ (piece f.name ++ (piece (codes ": ") ++ (operand_text c locals x ++ more_named c locals fs xs)))
more_named c locals _ _ = []

-- operands by name, in braces
unfoldable pub named_text : Crate → List Tree → List TypedField → List Operand → List ℕ
named_text c locals (f ∷ fs) (x ∷ xs) =
    piece (codes " { ") ++ (piece f.name ++ (piece (codes ": ") ++ (operand_text c locals x ++ (more_named c locals fs xs ++ piece (codes " }")))))
named_text c locals _ _ = piece (codes " {}")

-- what follows the path of a build
unfoldable pub build_parts : Crate → List Tree → Form → List TypedField → List Operand → List ℕ
build_parts c locals form.Unit fields xs = []
build_parts c locals form.Tuple fields xs = piece (codes "(") ++ (comma_list (operand_text c locals) xs ++ piece (codes ")"))
build_parts c locals form.Named fields xs = named_text c locals fields xs

unfoldable pub build_text : Crate → List Tree → TypedDef → TypedVariant → List Operand → List ℕ
build_text c locals d v xs = piece d.path ++ (variant_path d.is_enum v.name ++ build_parts c locals v.form v.fields xs)

-- ---- rvalues

-- the operands of a tuple; a lone one has a comma
unfoldable pub tuple_text : Crate → List Tree → List Operand → List ℕ
tuple_text c locals [] = piece (codes "()")
tuple_text c locals (x ∷ []) = piece (codes "(") ++ (operand_text c locals x ++ piece (codes ",)"))
tuple_text c locals (x ∷ y ∷ ys) = piece (codes "(") ++ (operand_text c locals x ++ (more_items (operand_text c locals) (y ∷ ys) ++ piece (codes ")")))

-- two operands in a parenthesis
unfoldable pub pair_text : Crate → List Tree → Operand → Operand → List ℕ
pair_text c locals x y = piece (codes "(") ++ (operand_text c locals x ++ (piece (codes ", ") ++ (operand_text c locals y ++ piece (codes ")"))))

unfoldable pub rvalue_text : Crate → List Tree → TypedRvalue → List ℕ
rvalue_text c locals («use» x) = operand_text c locals x
rvalue_text c locals (binary op x y) = piece (binary_name op) ++ pair_text c locals x y
rvalue_text c locals (overflow op x y) = piece (over_name op) ++ pair_text c locals x y
rvalue_text c locals (unary op x) = piece (unary_name op) ++ (piece (codes "(") ++ (operand_text c locals x ++ piece (codes ")")))
rvalue_text c locals (cast x t) = operand_text c locals x ++ (piece (codes " as ") ++ (type_text c t ++ piece (codes " (IntToInt)")))
rvalue_text c locals (ref p) = piece (codes "&") ++ place_text c locals p
rvalue_text c locals (ref_mut p) = piece (codes "&mut ") ++ place_text c locals p
rvalue_text c locals (discriminant p) = piece (codes "discriminant(") ++ (place_text c locals p ++ piece (codes ")"))
rvalue_text c locals (tuple xs) = tuple_text c locals xs
rvalue_text c locals (build d k xs) = build_text c locals (def_at c d) (variant_at c d k) xs

-- ---- statements

unfoldable pub stmt_text : Crate → List Tree → TypedStmt → List ℕ
stmt_text c locals (assign p r) = place_text c locals p ++ (piece (codes " = ") ++ rvalue_text c locals r)
stmt_text c locals (storage_live x) = piece (codes "StorageLive(") ++ (local_text x ++ piece (codes ")"))
stmt_text c locals (storage_dead x) = piece (codes "StorageDead(") ++ (local_text x ++ piece (codes ")"))
stmt_text c locals (set_discriminant p k) = piece (codes "discriminant(") ++ (place_text c locals p ++ (piece (codes ") = ") ++ piece (decimal k)))

-- a statement has a line of its own
unfoldable pub stmt_line : Crate → List Tree → TypedStmt → List ℕ
stmt_line c locals s = piece (codes "        ") ++ (stmt_text c locals s ++ piece (codes ";\n"))

unfoldable pub stmts_text : Crate → List Tree → List TypedStmt → List ℕ
stmts_text c locals [] = []
stmts_text c locals (s ∷ ss) = stmt_line c locals s ++ stmts_text c locals ss
