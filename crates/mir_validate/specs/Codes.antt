-- Forms of the rules in the shape of the code. No public promise rests on these.
use Rattle.std.specs.Prelude.{ℕ, Bool, true, false, ◌&&◌, ◌||◌, List, [], ◌∷◌, ◌++◌, length, Option, Some, None, is_none}
use Rattle.std.specs.List.{list_any}
use Rattle.mir_syntax.specs.declared.body.Place.{Place}
use Rattle.mir_syntax.specs.declared.body.Operand.{Operand}
use Rattle.mir_syntax.specs.declared.body.BinOp.{BinOp}
use Rattle.mir_syntax.specs.declared.body.UnOp.{UnOp}
use Rattle.mir_syntax.specs.declared.body.Rvalue.{Rvalue}
use Rattle.mir_syntax.specs.declared.body.Rvalue.TheVariants as rvalue
use Rattle.mir_syntax.specs.declared.types.Field.{Field}
use Rattle.mir_syntax.specs.Tree.{Tree, ref, ref_mut, at_id}
use Rattle.mir_syntax.specs.Crate.{TypedRvalue, tuple}
use Rattle.mir_syntax.specs.Shapes.{Shape, place_ty, ◌>>=◌}
use Rattle.mir_syntax.specs.Parts.{rvalue_places}
use Rattle.mir_rules.specs.Same.{same_tree}
use Rattle.mir_rules.specs.BodyRules.{differ}
use Rattle.mir_rules.specs.Broken.{if_broken, rvalue_broken}
use Rattle.mir_rules.specs.Typing.{operand_ty, operands_ty, rvalue_ty, binary_ty, overflow_ty, unary_ty, cast_ty, discriminant_ty, build_ty}

-- ---- places without a type

abbrev pub place_untyped : List Shape → List Tree → Place → Bool
place_untyped D locals p = is_none (place_ty D locals p)

abbrev pub operand_untyped : List Shape → List Tree → Operand → Bool
operand_untyped D locals a = is_none (operand_ty D locals a)

abbrev pub rvalue_untyped : List Shape → List Tree → TypedRvalue → Bool
rvalue_untyped D locals r = list_any (place_untyped D locals) (rvalue_places r)

-- the same for an rvalue with its ids
abbrev pub parts_untyped : List Shape → List Tree → Rvalue → Bool
parts_untyped D locals (rvalue.Use a) = operand_untyped D locals a
parts_untyped D locals (rvalue.Binary op a b) = operand_untyped D locals a || operand_untyped D locals b
parts_untyped D locals (rvalue.Overflow op a b) = operand_untyped D locals a || operand_untyped D locals b
parts_untyped D locals (rvalue.Unary op a) = operand_untyped D locals a
parts_untyped D locals (rvalue.Cast a ty) = operand_untyped D locals a
parts_untyped D locals (rvalue.Ref p) = place_untyped D locals p
parts_untyped D locals (rvalue.RefMut p) = place_untyped D locals p
parts_untyped D locals (rvalue.Discriminant p) = place_untyped D locals p
parts_untyped D locals (rvalue.Tuple parts) = list_any (operand_untyped D locals) parts
parts_untyped D locals (rvalue.Build d v parts) = list_any (operand_untyped D locals) parts

-- the types of what each kind of rvalue makes
abbrev pub binary_made : List Shape → List Tree → BinOp → Operand → Operand → Option Tree
binary_made D locals op a b = operand_ty D locals a >>= λ t. operand_ty D locals b >>= binary_ty op t

abbrev pub overflow_made : List Shape → List Tree → Operand → Operand → Option Tree
overflow_made D locals a b = operand_ty D locals a >>= λ t. operand_ty D locals b >>= overflow_ty t

abbrev pub unary_made : List Shape → List Tree → UnOp → Operand → Option Tree
unary_made D locals op a = operand_ty D locals a >>= unary_ty op

abbrev pub cast_made : List Shape → List Tree → Operand → Tree → Option Tree
cast_made D locals a ty = operand_ty D locals a >>= cast_ty ty

abbrev pub ref_made : List Shape → List Tree → Place → Option Tree
ref_made D locals p = place_ty D locals p >>= λ t. Some (ref t)

abbrev pub ref_mut_made : List Shape → List Tree → Place → Option Tree
ref_mut_made D locals p = place_ty D locals p >>= λ t. Some (ref_mut t)

abbrev pub discriminant_made : List Shape → List Tree → Place → Option Tree
discriminant_made D locals p = place_ty D locals p >>= discriminant_ty D

abbrev pub build_made : List Shape → List Tree → ℕ → ℕ → List Operand → Option Tree
build_made D locals d v parts = operands_ty D locals parts >>= build_ty D d v

-- the type of an rvalue that isn't a tuple
abbrev pub untupled_ty : List Shape → List Tree → TypedRvalue → Option Tree
untupled_ty D locals (tuple parts) = None
untupled_ty D locals r = rvalue_ty D locals r

-- ---- parts and their types

-- an operand has a type, and it is that type
abbrev pub has_type : Option Tree → Tree → Bool
has_type None t = false
has_type (Some u) t = same_tree u t

-- operands have these types, one after another
abbrev pub have_types : List Shape → List Tree → List Operand → List Tree → Bool
have_types D locals [] [] = true
have_types D locals (a ∷ others) (t ∷ ts) = has_type (operand_ty D locals a) t && have_types D locals others ts
have_types D locals _ _ = false

-- the type of a field
abbrev pub field_tree : List Tree → Field → Tree
field_tree trees f = at_id trees f.ty

-- ---- codes

-- the first of the codes that are found
abbrev pub first_code : List ℕ → Option ℕ
first_code [] = None
first_code (code ∷ others) = Some code

-- ---- tests of each operand of an rvalue

abbrev pub rvalue_any : (Operand → Bool) → Rvalue → Bool
rvalue_any test (rvalue.Use a) = test a
rvalue_any test (rvalue.Binary op a b) = test a || test b
rvalue_any test (rvalue.Overflow op a b) = test a || test b
rvalue_any test (rvalue.Unary op a) = test a
rvalue_any test (rvalue.Cast a ty) = test a
rvalue_any test (rvalue.Ref p) = false
rvalue_any test (rvalue.RefMut p) = false
rvalue_any test (rvalue.Discriminant p) = false
rvalue_any test (rvalue.Tuple parts) = list_any test parts
rvalue_any test (rvalue.Build d v parts) = list_any test parts

-- the rule that an rvalue without a type breaks where its operands have types
abbrev pub own_rule : Rvalue → ℕ
own_rule (rvalue.Binary op a b) = 9
own_rule (rvalue.Overflow op a b) = 9
own_rule (rvalue.Unary op a) = 10
own_rule (rvalue.Cast a ty) = 11
own_rule (rvalue.Build d v parts) = 12
own_rule (rvalue.Discriminant p) = 13
own_rule r = 14

-- what an rvalue breaks of its own, and as a value of a type
abbrev pub value_broken : List Shape → List Tree → TypedRvalue → Tree → List ℕ
value_broken D locals r t = rvalue_broken D locals r ++ if_broken (differ (rvalue_ty D locals r) (Some t)) 14

abbrev pub variant_count : Shape → ℕ
variant_count s = length s.variants

-- the code of what moves break
abbrev pub moves_code : Bool → Bool → Option ℕ
moves_code true indirectly = Some 21
moves_code false true = Some 22
moves_code false false = None
