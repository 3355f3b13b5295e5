-- What the limits count, and the fault that is answered, on small crates.
use Rattle.std.proofs.Common.{◌≡◌, refl, true, false, List, [], ◌∷◌}
use Rattle.mir_syntax.specs.declared.body.Proj.TheVariants.{Field}
use Rattle.mir_syntax.specs.declared.body.Term.TheVariants as term
use Rattle.mir_syntax.specs.Tree.{Tree, empty, more, ref}
use Rattle.mir_syntax.specs.Crate.{storage_live, Crate}
use Rattle.mir_syntax.specs.Shapes.{Shape, shapes_of, needs_drop}
use Rattle.mir_rules.specs.Broken.{header, local, statement}
use Rattle.mir_rules.specs.Weights.{nodes, units, drop_weight}
use Rattle.mir_rules.specs.Limits.{is_large_type, blocks_count, locals_count, functions_passed, types_passed, statements_passed, passed}
use Rattle.mir_rules.proofs.Examples.{Open, u8, bool, pair, l, function, block, body, fun, guard, choice, holder, both, add, with_function}

abbrev D : List Shape
D = shapes_of (with_function add)

-- ---- what needs drop

only_what_holds_a_destructor_needs_drop : (needs_drop D (pair u8 both) ≡ true) × (needs_drop D (pair choice (ref guard)) ≡ false)
unfolding Open
only_what_holds_a_destructor_needs_drop = (refl, refl)

-- ---- nodes

unit_and_scalars_are_one_node : (nodes D empty ≡ 1) × (nodes D u8 ≡ 1) × (nodes D (ref both) ≡ 1)
unfolding Open
unit_and_scalars_are_one_node = (refl, refl, refl)

tuple_is_one_with_its_parts : nodes D (pair u8 (pair u8 bool)) ≡ 5
unfolding Open
tuple_is_one_with_its_parts = refl

-- a struct has no node for its variant; the enum is one, its two variants are two and the field is one
struct_and_enum_nodes : (nodes D guard ≡ 2) × (nodes D choice ≡ 4) × (nodes D both ≡ 4)
unfolding Open
struct_and_enum_nodes = (refl, refl, refl)

-- ---- units of drop

-- inside a type with a destructor, and inside an enum, no unit is looked for
units_stop_at_destructors_and_enums : (units D guard ≡ [] ∷ []) × (units D holder ≡ [] ∷ []) × (units D choice ≡ [])
unfolding Open
units_stop_at_destructors_and_enums = (refl, refl, refl)

units_come_in_order : units D (more u8 (more both (more holder empty))) ≡ (Field 1 ∷ Field 0 ∷ []) ∷ (Field 2 ∷ []) ∷ []
unfolding Open
units_come_in_order = refl

-- ---- drop weights

-- the struct alone; the struct and the guard in it; the enum, its second variant and the guard in it
weights_of_structs_and_enums : (drop_weight D guard ≡ 1) × (drop_weight D both ≡ 2) × (drop_weight D holder ≡ 3) × (drop_weight D choice ≡ 0)
unfolding Open
weights_of_structs_and_enums = (refl, refl, refl, refl)

-- the tuple, the struct in it with its guard, and the enum with its variant and guard
weight_of_a_tuple : drop_weight D (more u8 (more both (more holder empty))) ≡ 6
unfolding Open
weight_of_a_tuple = refl

-- ---- L02

third_function_passes_a_limit_of_two : functions_passed 2 (with_function add) ≡ (header 2, 2) ∷ []
unfolding Open
third_function_passes_a_limit_of_two = refl

three_functions_are_within_three : functions_passed 3 (with_function add) ≡ []
unfolding Open
three_functions_are_within_three = refl

-- ---- L03

abbrev twice : Tree → Tree
twice t = pair t t

-- 2 to the power n of them, and one less tuples: for scalars 2^(n+1) - 1 nodes
abbrev sixteen : Tree → Tree
sixteen t = twice (twice (twice (twice t)))

abbrev many : Tree → Tree
many t = sixteen (sixteen (twice t))

-- 1,023 nodes, and three more
nodes_are_limited : (nodes D (many u8) ≡ 1023) × (is_large_type D (many u8) ≡ false) × (is_large_type D (pair (many u8) u8) ≡ true)
unfolding Open
nodes_are_limited = (refl, refl, refl)

units_are_limited : (is_large_type D (sixteen guard) ≡ false) × (is_large_type D (pair (sixteen guard) guard) ≡ true)
unfolding Open
units_are_limited = (refl, refl)

-- in the local, and not behind the reference
large_local_passes_the_limit : types_passed (with_function (fun 0 (u8 ∷ ref (pair (sixteen guard) guard) ∷ pair (sixteen guard) guard ∷ []) (block [] term.Return ∷ []))) ≡ (local 1 2, 3) ∷ []
unfolding Open
large_local_passes_the_limit = refl

-- ---- L04 and L05

-- two blocks, one call and a drop of weight 3; two locals
counts_of_a_body : (blocks_count D (body 0 (u8 ∷ holder ∷ []) (block [] (term.Call (l 0) (function 2) [] 1) ∷ block [] (term.Drop (l 1) 2) ∷ block [] term.Return ∷ [])) ≡ 16) × (locals_count D (body 0 (u8 ∷ holder ∷ []) (block [] (term.Drop (l 1) 1) ∷ block [] term.Return ∷ [])) ≡ 14)
unfolding Open
counts_of_a_body = (refl, refl)

-- ---- L06

three_statements : Crate
three_statements = with_function (fun 0 (u8 ∷ u8 ∷ []) (block (storage_live 1 ∷ []) (term.Goto 1) ∷ block (storage_live 1 ∷ storage_live 1 ∷ []) term.Return ∷ []))

third_statement_passes_a_limit_of_two : (statements_passed 2 three_statements ≡ (statement 1 1 1, 6) ∷ []) × (statements_passed 3 three_statements ≡ [])
unfolding Open three_statements
third_statement_passes_a_limit_of_two = (refl, refl)

-- ---- small crates are within the limits

small_crate_is_within_the_limits : passed (with_function add) ≡ []
unfolding Open
small_crate_is_within_the_limits = refl
