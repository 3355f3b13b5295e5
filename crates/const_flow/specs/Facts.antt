-- What is known of the tracked scalars along a body: what statements and terminators make of it, and where it leads. This is constant
-- propagation as in rustc's DataflowConstProp.
use Rattle.std.specs.Prelude.{ℕ, zero, suc, Bool, true, false, ◌&&◌, ◌||◌, nat_eq, if◌then◌else◌, List, [], ◌∷◌, map, Option, Some, None}
use Rattle.mir_syntax.specs.declared.body.Proj.{Proj}
use Rattle.mir_syntax.specs.declared.body.Proj.TheVariants.{Field}
use Rattle.mir_syntax.specs.declared.body.Place.{Place}
use Rattle.mir_syntax.specs.declared.body.Const.TheVariants as constant
use Rattle.mir_syntax.specs.declared.body.Operand.{Operand}
use Rattle.mir_syntax.specs.declared.body.Operand.TheVariants as operand
use Rattle.mir_syntax.specs.declared.body.BinOp.{BinOp}
use Rattle.mir_syntax.specs.declared.body.OverOp.{OverOp}
use Rattle.mir_syntax.specs.declared.body.UnOp.{UnOp}
use Rattle.mir_syntax.specs.declared.body.Arm.{Arm}
use Rattle.mir_syntax.specs.declared.body.Term.{Term}
use Rattle.mir_syntax.specs.declared.body.Term.TheVariants.{Goto, Switch, Return, Unreachable, Drop, Call, Assert}
use Rattle.mir_syntax.specs.Tree.{Tree}
use Rattle.mir_syntax.specs.Crate.{TypedRvalue, «use», binary, overflow, unary, cast, tuple, build, TypedStmt, assign, storage_live, storage_dead, set_discriminant}
use Rattle.mir_syntax.specs.Shapes.{◌>>=◌}
use Rattle.mir_num.specs.Numbers as num
use Rattle.mir_syntax.specs.Parts.{rvalue_operands}
use Rattle.mir_semantics.specs.Step.{Here, scalar_in, scalar_ty_of, take_arm}
use Rattle.place_map.specs.Tracked.{way, beyond}
use Rattle.const_flow.specs.declared.cell.Cell.{Cell}
use Rattle.const_flow.specs.declared.cell.Cell.TheVariants.{Nothing, Num, Many}

-- a tracked place and what is known of it
pub record Fact : Type 0 where
  pub place : Place
  pub known : Cell

abbrev pub Facts : Type 0
Facts = List Fact

-- the least that says both
abbrev pub join : Cell → Cell → Cell
join Nothing k = k
join (Num a) Nothing = Num a
join (Num a) (Num b) = if nat_eq a b then Num a else Many
join (Num a) Many = Many
join Many k = Many

abbrev pub is_end : Option (List Proj) → Bool
is_end (Some []) = true
is_end _ = false

abbrev pub whole_local : ℕ → Place
whole_local x = record { local = x; proj = [] }

-- what is known of a place
unfoldable pub look : Facts → Place → Cell
look [] p = Many
look (e ∷ fs) p = if is_end (way e.place p) then e.known else look fs p

-- from now on this is known of what is at or under a place, by the way to it
abbrev pub put_known : (List Proj → Cell) → Fact → Option (List Proj) → Fact
put_known new e None = e
put_known new e (Some r) = record { place = e.place; known = new r }

abbrev pub put_fact : Place → (List Proj → Cell) → Fact → Fact
put_fact q new e = put_known new e (way q e.place)

unfoldable pub learn : Place → (List Proj → Cell) → Facts → Facts
learn q new fs = map (put_fact q new) fs

abbrev pub always : Cell → List Proj → Cell
always k r = k

-- what is known of a part of an operand
unfoldable pub part_known : Facts → Operand → List Proj → Cell
part_known fs (operand.Copy p) r = look fs (beyond p r)
part_known fs (operand.Move p) r = look fs (beyond p r)
part_known fs (operand.Const (constant.Int t n)) [] = Num n
part_known fs (operand.Const (constant.Bool b)) [] = Num (num.flag b)
part_known fs (operand.Const c) r = Many

unfoldable pub known : Facts → Operand → Cell
known fs o = part_known fs o []

unfoldable pub nth_known : Facts → List Operand → ℕ → List Proj → Cell
nth_known fs [] i r = Many
nth_known fs (o ∷ os) zero r = part_known fs o r
nth_known fs (o ∷ os) (suc i) r = nth_known fs os i r

-- a number, or none: then the run is undefined
abbrev pub outcome : Option ℕ → Cell
outcome None = Nothing
outcome (Some n) = Num n

abbrev pub one : (ℕ → Option ℕ) → Cell → Cell
one f Nothing = Nothing
one f (Num a) = outcome (f a)
one f Many = Many

abbrev pub both : (ℕ → ℕ → Option ℕ) → Cell → Cell → Cell
both f Nothing k = Nothing
both f (Num a) k = one (f a) k
both f Many Nothing = Nothing
both f Many k = Many

-- what rvalues make of numbers
unfoldable pub binary_of : Here → BinOp → Operand → ℕ → ℕ → Option ℕ
binary_of h op a x y = scalar_ty_of h a >>= λ t. num.binop op t x y

unfoldable pub wrapped_of : Here → OverOp → Operand → ℕ → ℕ → Option ℕ
wrapped_of h op a x y = scalar_ty_of h a >>= λ t. Some (num.over op t x y).0

unfoldable pub flag_of : Here → OverOp → Operand → ℕ → ℕ → Option ℕ
flag_of h op a x y = scalar_ty_of h a >>= λ t. Some (num.flag (num.over op t x y).1)

unfoldable pub unary_of : Here → UnOp → Operand → ℕ → Option ℕ
unary_of h op a x = scalar_ty_of h a >>= λ t. Some (num.unary op t x)

unfoldable pub cast_of : Here → Operand → Tree → ℕ → Option ℕ
cast_of h a t x = scalar_ty_of h a >>= λ from. scalar_in t >>= λ to. Some (num.cast from to x)

-- what is known of a part of an rvalue
unfoldable pub value_known : Here → Facts → TypedRvalue → List Proj → Cell
value_known h fs («use» o) r = part_known fs o r
value_known h fs (binary op a b) [] = both (binary_of h op a) (known fs a) (known fs b)
value_known h fs (overflow op a b) (Field zero ∷ []) = both (wrapped_of h op a) (known fs a) (known fs b)
value_known h fs (overflow op a b) (Field (suc zero) ∷ []) = both (flag_of h op a) (known fs a) (known fs b)
value_known h fs (unary op a) [] = one (unary_of h op a) (known fs a)
value_known h fs (cast a t) [] = one (cast_of h a t) (known fs a)
value_known h fs (tuple os) (Field i ∷ r) = nth_known fs os i r
value_known h fs (build d k os) (Field i ∷ r) = nth_known fs os i r
value_known h fs x r = Many

-- moves
unfoldable pub moved : Operand → Facts → Facts
moved (operand.Move p) fs = learn p (always Nothing) fs
moved o fs = fs

abbrev pub moved_all : List Operand → Facts → Facts
moved_all [] fs = fs
moved_all (o ∷ os) fs = moved_all os (moved o fs)

-- after a statement
unfoldable pub after_stmt : Here → TypedStmt → Facts → Facts
after_stmt h (assign p x) fs = learn p (value_known h fs x) (moved_all (rvalue_operands x) fs)
after_stmt h (storage_live x) fs = learn (whole_local x) (always Nothing) fs
after_stmt h (storage_dead x) fs = learn (whole_local x) (always Nothing) fs
after_stmt h (set_discriminant p k) fs = fs

abbrev pub after_all : Here → List TypedStmt → Facts → Facts
after_all h [] fs = fs
after_all h (s ∷ ss) fs = after_all h ss (after_stmt h s fs)

unfoldable pub after_term : Term → Facts → Facts
after_term (Drop p b) fs = learn p (always Nothing) fs
after_term (Call p g os b) fs = learn p (always Many) (moved_all os fs)
after_term t fs = fs

-- whether a terminator can lead to a block
abbrev pub any_arm : ℕ → List Arm → ℕ → Bool
any_arm b [] other = nat_eq other b
any_arm b (a ∷ arms) other = nat_eq a.block b || any_arm b arms other

abbrev pub switch_to : ℕ → Cell → List Arm → ℕ → Bool
switch_to b Nothing arms other = false
switch_to b (Num n) arms other = nat_eq (take_arm n arms other) b
switch_to b Many arms other = any_arm b arms other

-- a condition that can be as expected
abbrev pub can_be : Bool → Cell → Bool
can_be e Nothing = false
can_be e (Num n) = nat_eq n (num.flag e)
can_be e Many = true

unfoldable pub leads : Facts → Term → ℕ → Bool
leads fs (Goto t) b = nat_eq t b
leads fs (Switch o arms other) b = switch_to b (known fs o) arms other
leads fs Return b = false
leads fs Unreachable b = false
leads fs (Drop p t) b = nat_eq t b
leads fs (Call p g os t) b = nat_eq t b
leads fs (Assert o e x os t) b = can_be e (known fs o) && nat_eq t b
