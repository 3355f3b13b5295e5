-- The canonical text of terminators and blocks.
use Rattle.std.specs.Prelude.{ℕ, suc, Bool, true, false, List, [], ◌∷◌, ◌++◌, get_or, codes, decimal}
use Rattle.mir_syntax.specs.declared.body.Callee.{Callee}
use Rattle.mir_syntax.specs.declared.body.Callee.TheVariants as callee
use Rattle.mir_syntax.specs.declared.body.Arm.{Arm}
use Rattle.mir_syntax.specs.declared.body.Term.{Term}
use Rattle.mir_syntax.specs.declared.body.Term.TheVariants as term
use Rattle.mir_syntax.specs.Tree.{Tree}
use Rattle.mir_syntax.specs.Crate.{TypedOutside, TypedFunction, TypedBlock, Crate}
use Rattle.mir_text.specs.TypeText.{piece, more_items, comma_list}
use Rattle.mir_text.specs.PlaceText.{place_text, operand_text}
use Rattle.mir_text.specs.StatementText.{stmts_text}

unfoldable pub block_name : ℕ → List ℕ
block_name b = piece (codes "bb") ++ piece (decimal b)

-- ---- callees

abbrev pub path_or_none : List (List ℕ) → ℕ → List ℕ
path_or_none paths k = get_or paths k []

abbrev pub function_paths : List TypedFunction → List (List ℕ)
function_paths [] = []
function_paths (f ∷ fs) = f.path ∷ function_paths fs

abbrev pub outside_paths : List TypedOutside → List (List ℕ)
outside_paths [] = []
outside_paths (o ∷ os) = o.path ∷ outside_paths os

unfoldable pub callee_path : Crate → Callee → List ℕ
callee_path c (callee.Local f) = path_or_none (function_paths c.functions) f.0
callee_path c (callee.Outside o) = path_or_none (outside_paths c.outsides) o.0

-- ---- terminators

-- where a terminator that may unwind goes on
unfoldable pub return_text : ℕ → List ℕ
return_text b = piece (codes " -> [return: ") ++ (block_name b ++ piece (codes ", unwind unreachable]"))

unfoldable pub success_text : ℕ → List ℕ
success_text b = piece (codes ") -> [success: ") ++ (block_name b ++ piece (codes ", unwind unreachable]"))

unfoldable pub arms_text : List Arm → List ℕ
arms_text [] = []
arms_text (a ∷ others) = piece (decimal a.value) ++ (piece (codes ": ") ++ (block_name a.block ++ (piece (codes ", ") ++ arms_text others)))

-- an assert that expects false says so
unfoldable pub expected_text : Bool → List ℕ
expected_text true = []
expected_text false = piece (codes "!")

unfoldable pub term_text : Crate → List Tree → Term → List ℕ
term_text c locals (term.Goto b) = piece (codes "goto -> ") ++ block_name b
term_text c locals (term.Switch x arms b) =
    piece (codes "switchInt(") ++ (operand_text c locals x ++ (piece (codes ") -> [") ++ (arms_text arms ++ (piece (codes "otherwise: ") ++ (block_name b ++ piece (codes "]"))))))
term_text c locals term.Return = piece (codes "return")
term_text c locals term.Unreachable = piece (codes "unreachable")
term_text c locals (term.Drop p b) = piece (codes "drop(") ++ (place_text c locals p ++ (piece (codes ")") ++ return_text b))
term_text c locals (term.Call p f xs b) =
    place_text c locals p ++ (piece (codes " = ") ++ (piece (callee_path c f) ++ (piece (codes "(") ++ (comma_list (operand_text c locals) xs ++ (piece (codes ")") ++ return_text b)))))
term_text c locals (term.Assert x expected message xs b) =
    piece (codes "assert(") ++ (expected_text expected ++ (operand_text c locals x ++ (piece (codes ", \"") ++ (piece message ++ (piece (codes "\"") ++ (more_items (operand_text c locals) xs ++ success_text b))))))

unfoldable pub term_line : Crate → List Tree → Term → List ℕ
term_line c locals t = piece (codes "        ") ++ (term_text c locals t ++ piece (codes ";\n"))

-- ---- blocks

unfoldable pub block_text : Crate → List Tree → ℕ → TypedBlock → List ℕ
block_text c locals n b =
    piece (codes "    ") ++ (block_name n ++ (piece (codes ": {\n") ++ (stmts_text c locals b.stmts ++ (term_line c locals b.term ++ piece (codes "    }\n")))))

-- blocks, the first of which has a number; an empty line stands before each
unfoldable pub blocks_text : Crate → List Tree → ℕ → List TypedBlock → List ℕ
blocks_text c locals n [] = []
blocks_text c locals n (b ∷ bs) = piece (codes "\n") ++ (block_text c locals n b ++ blocks_text c locals (suc n) bs)
