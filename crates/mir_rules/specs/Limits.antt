-- The limits on the size of a crate, and all that passes one.
use Rattle.std.specs.Prelude.{ℕ, ◌+◌, ◌*◌, Bool, true, false, ◌||◌, nat_lt, List, [], ◌∷◌, ◌++◌, map, length, take, drop, Option, Some, None, sum_by, count_by}
use Rattle.std.specs.List.{list_any}
use Rattle.mir_syntax.specs.declared.body.Term.{Term}
use Rattle.mir_syntax.specs.declared.body.Term.TheVariants as term
use Rattle.mir_syntax.specs.Tree.{Tree, named}
use Rattle.mir_syntax.specs.Crate.{TypedStmt, TypedBlock, TypedBody, TypedDef, TypedOutside, TypedFunction, Crate}
use Rattle.mir_syntax.specs.Shapes.{Shape, shapes_of, place_ty}
use Rattle.mir_rules.specs.Broken.{Spot, definition, outside, header, local, statement, gather, if_broken, at_spot}
use Rattle.mir_rules.specs.Weights.{nodes, units, drop_weight}

abbrev pub most_functions : ℕ
most_functions = 10000

abbrev pub most_nodes : ℕ
most_nodes = 1024

abbrev pub most_units : ℕ
most_units = 16

-- of a body: of `blocks + calls + 4 W`, and of `locals + 4 W`; and of the blocks and of the locals of a body that a pass makes
abbrev pub most_in_body : ℕ
most_in_body = 10000

abbrev pub most_statements : ℕ
most_statements = 2000000

-- ---- what is counted

-- too many nodes or units of drop
unfoldable pub is_large_type : List Shape → Tree → Bool
is_large_type D t = nat_lt most_nodes (nodes D t) || nat_lt most_units (length (units D t))

abbrev pub weight_of : List Shape → Option Tree → ℕ
weight_of D None = 0
weight_of D (Some t) = drop_weight D t

abbrev pub term_weight : List Shape → List Tree → Term → ℕ
term_weight D locals (term.Drop p next) = weight_of D (place_ty D locals p)
term_weight D locals _ = 0

abbrev pub block_weight : List Shape → List Tree → TypedBlock → ℕ
block_weight D locals block = term_weight D locals block.term

-- W: the sum of the drop weights of what a body's `drop` terminators drop
unfoldable pub body_weight : List Shape → TypedBody → ℕ
body_weight D b = sum_by (block_weight D b.locals) b.blocks

abbrev pub is_call : Term → Bool
is_call (term.Call p callee args next) = true
is_call _ = false

abbrev pub ends_in_call : TypedBlock → Bool
ends_in_call block = is_call block.term

unfoldable pub blocks_count : List Shape → TypedBody → ℕ
blocks_count D b = length b.blocks + count_by ends_in_call b.blocks + 4 * body_weight D b

unfoldable pub locals_count : List Shape → TypedBody → ℕ
locals_count D b = length b.locals + 4 * body_weight D b

-- ---- all that passes a limit

-- the first of the spots that the limit leaves out
abbrev pub first_past : ℕ → List Spot → List Spot
first_past limit spots = take 1 (drop limit spots)

abbrev pub header_spot : ℕ → TypedFunction → List Spot
header_spot f g = header f ∷ []

abbrev pub statement_spot : ℕ → ℕ → ℕ → TypedStmt → List Spot
statement_spot f block i s = statement f block i ∷ []

abbrev pub block_spots : ℕ → ℕ → TypedBlock → List Spot
block_spots f block k = gather (statement_spot f block) 0 k.stmts

abbrev pub function_spots : ℕ → TypedFunction → List Spot
function_spots f g = gather (block_spots f) 0 g.body.blocks

-- the statements of a crate, in order
unfoldable pub statement_spots : Crate → List Spot
statement_spots C = gather function_spots 0 C.functions

abbrev pub with_code : ℕ → Spot → Spot × ℕ
with_code code spot = (spot, code)

unfoldable pub functions_passed : ℕ → Crate → List (Spot × ℕ)
functions_passed limit C = map (with_code 2) (first_past limit (gather header_spot 0 C.functions))

abbrev pub definition_passed : List Shape → ℕ → TypedDef → List (Spot × ℕ)
definition_passed D d def = map (at_spot (definition d)) (if_broken (is_large_type D (named d)) 3)

abbrev pub outside_passed : List Shape → ℕ → TypedOutside → List (Spot × ℕ)
outside_passed D o out = map (at_spot (outside o)) (if_broken (list_any (is_large_type D) out.args || is_large_type D out.result) 3)

abbrev pub local_passed : List Shape → ℕ → ℕ → Tree → List (Spot × ℕ)
local_passed D f x t = map (at_spot (local f x)) (if_broken (is_large_type D t) 3)

abbrev pub locals_passed : List Shape → ℕ → TypedFunction → List (Spot × ℕ)
locals_passed D f g = gather (local_passed D f) 0 g.body.locals

unfoldable pub types_passed : Crate → List (Spot × ℕ)
types_passed C = gather (definition_passed (shapes_of C)) 0 C.defs ++ (gather (outside_passed (shapes_of C)) 0 C.outsides ++ gather (locals_passed (shapes_of C)) 0 C.functions)

abbrev pub count_passed : ℕ → (TypedBody → ℕ) → ℕ → TypedFunction → List (Spot × ℕ)
count_passed code count f g = map (at_spot (header f)) (if_broken (nat_lt most_in_body (count g.body)) code)

unfoldable pub bodies_passed : Crate → List (Spot × ℕ)
bodies_passed C = gather (count_passed 4 (blocks_count (shapes_of C))) 0 C.functions ++ gather (count_passed 5 (locals_count (shapes_of C))) 0 C.functions

unfoldable pub statements_passed : ℕ → Crate → List (Spot × ℕ)
statements_passed limit C = map (with_code 6) (first_past limit (statement_spots C))

-- each spot at which a limit is passed, with the limit's number
unfoldable pub passed : Crate → List (Spot × ℕ)
passed C = functions_passed most_functions C ++ (types_passed C ++ (bodies_passed C ++ statements_passed most_statements C))
