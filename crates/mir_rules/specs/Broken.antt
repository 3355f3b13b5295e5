-- All that breaks a rule in a crate, each with the place where it stands.
use Rattle.std.specs.Prelude.{ℕ, suc, Bool, true, false, List, [], ◌∷◌, ◌++◌, map}
use Rattle.mir_syntax.specs.declared.body.Operand.{Operand}
use Rattle.mir_syntax.specs.declared.body.Term.{Term}
use Rattle.mir_syntax.specs.declared.body.Term.TheVariants as term
use Rattle.mir_syntax.specs.Tree.{Tree}
use Rattle.mir_syntax.specs.Crate.{TypedRvalue, binary, overflow, unary, cast, discriminant, build, TypedStmt, assign, storage_live, storage_dead, set_discriminant, TypedBlock, TypedBody, TypedDef, TypedOutside, TypedFunction, Crate}
use Rattle.mir_syntax.specs.Shapes.{Shape, shapes_of}
use Rattle.mir_syntax.specs.Parts.{rvalue_operands, rvalue_places, term_operands, term_places}
use Rattle.mir_rules.specs.Typing.{binary_ty, overflow_ty}
use Rattle.mir_rules.specs.DefinitionRules.{breaks_v01, breaks_v02, breaks_v03, breaks_v04}
use Rattle.mir_rules.specs.BodyRules.{breaks_v05, breaks_v06, breaks_v08, breaks_v09, breaks_v10, breaks_v11, breaks_v12, breaks_v13, breaks_v14, breaks_v15, breaks_v16, breaks_v17, breaks_v18, breaks_v19, breaks_v20, breaks_v21, breaks_v22, breaks_v23, breaks_v24, breaks_v25}

-- where something stands in a crate
pub data Spot : Type 0 where
  definition : (d : ℕ) → Spot
  outside : (o : ℕ) → Spot
  header : (f : ℕ) → Spot
  local : (f x : ℕ) → Spot
  statement : (f block i : ℕ) → Spot
  terminator : (f block : ℕ) → Spot

-- what is found at each item, the items being counted from a number
abbrev pub gather : {A B : Type 0} → (ℕ → A → List B) → ℕ → List A → List B
gather find i [] = []
gather find i (x ∷ xs) = find i x ++ gather find (suc i) xs

-- the code, where the rule is broken
abbrev pub if_broken : Bool → ℕ → List ℕ
if_broken true code = code ∷ []
if_broken false code = []

abbrev pub at_spot : Spot → ℕ → Spot × ℕ
at_spot spot code = (spot, code)

-- ---- the codes of the rules that are broken, spot by spot

abbrev pub operands_broken : List Shape → List Tree → List Operand → List ℕ
operands_broken D locals operands = if_broken (breaks_v21 D locals operands) 21 ++ if_broken (breaks_v22 D locals operands) 22

unfoldable pub rvalue_broken : List Shape → List Tree → TypedRvalue → List ℕ
rvalue_broken D locals (binary op a b) = if_broken (breaks_v09 D locals (binary_ty op) a b) 9
rvalue_broken D locals (overflow op a b) = if_broken (breaks_v09 D locals overflow_ty a b) 9
rvalue_broken D locals (unary op a) = if_broken (breaks_v10 D locals op a) 10
rvalue_broken D locals (cast a ty) = if_broken (breaks_v11 D locals a ty) 11
rvalue_broken D locals (build d v parts) = if_broken (breaks_v12 D locals d v parts) 12
rvalue_broken D locals (discriminant p) = if_broken (breaks_v13 D locals p) 13
rvalue_broken D locals _ = []

unfoldable pub statement_broken : List Shape → ℕ → List Tree → TypedStmt → List ℕ
statement_broken D args locals (assign p r) = if_broken (breaks_v06 D locals (p ∷ rvalue_places r)) 6 ++ (rvalue_broken D locals r ++ (if_broken (breaks_v14 D locals p r) 14 ++ operands_broken D locals (rvalue_operands r)))
statement_broken D args locals (storage_live x) = if_broken (breaks_v08 args x) 8
statement_broken D args locals (storage_dead x) = if_broken (breaks_v08 args x) 8
statement_broken D args locals (set_discriminant p k) = if_broken (breaks_v06 D locals (p ∷ [])) 6 ++ (if_broken (breaks_v24 D locals p) 24 ++ if_broken (breaks_v25 D locals p k) 25)

-- the rules on one kind of terminator
abbrev pub own_broken : Crate → List Shape → List Tree → Term → List ℕ
own_broken C D locals (term.Switch a arms other) = if_broken (breaks_v17 D locals a) 17 ++ if_broken (breaks_v18 D locals a arms) 18
own_broken C D locals (term.Call p callee args next) = if_broken (breaks_v15 C D locals callee args) 15 ++ if_broken (breaks_v16 C D locals callee p) 16
own_broken C D locals (term.Assert a expected text args next) = if_broken (breaks_v19 D locals a) 19 ++ if_broken (breaks_v20 D locals args) 20
own_broken C D locals (term.Drop p next) = if_broken (breaks_v23 D locals p) 23
own_broken C D locals _ = []

unfoldable pub terminator_broken : Crate → List Shape → List Tree → Term → List ℕ
terminator_broken C D locals t = if_broken (breaks_v05 t) 5 ++ (if_broken (breaks_v06 D locals (term_places t)) 6 ++ (own_broken C D locals t ++ operands_broken D locals (term_operands t)))

-- ---- the walk

abbrev pub statement_found : List Shape → TypedBody → ℕ → ℕ → ℕ → TypedStmt → List (Spot × ℕ)
statement_found D b f block i s = map (at_spot (statement f block i)) (statement_broken D b.args b.locals s)

abbrev pub block_found : Crate → List Shape → TypedBody → ℕ → ℕ → TypedBlock → List (Spot × ℕ)
block_found C D b f block k = gather (statement_found D b f block) 0 k.stmts ++ map (at_spot (terminator f block)) (terminator_broken C D b.locals k.term)

unfoldable pub body_found : Crate → List Shape → ℕ → TypedBody → List (Spot × ℕ)
body_found C D f b = gather (block_found C D b f) 0 b.blocks

abbrev pub header_broken : List Shape → ℕ → TypedFunction → List ℕ
header_broken D f g = if_broken (breaks_v03 g) 3 ++ if_broken (breaks_v04 D f g) 4

abbrev pub function_found : Crate → List Shape → ℕ → TypedFunction → List (Spot × ℕ)
function_found C D f g = map (at_spot (header f)) (header_broken D f g) ++ body_found C D f g.body

abbrev pub definition_found : List Shape → ℕ → TypedDef → List (Spot × ℕ)
definition_found D d def = map (at_spot (definition d)) (if_broken (breaks_v01 D d) 1)

abbrev pub outside_found : ℕ → TypedOutside → List (Spot × ℕ)
outside_found o out = map (at_spot (outside o)) (if_broken (breaks_v02 out) 2)

-- each spot at which a rule is broken, with the rule's number
unfoldable pub broken : Crate → List (Spot × ℕ)
broken C = gather (definition_found (shapes_of C)) 0 C.defs ++ (gather outside_found 0 C.outsides ++ gather (function_found C (shapes_of C)) 0 C.functions)
