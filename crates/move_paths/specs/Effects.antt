-- The units of drop of a body, and what statements and terminators do to them (rustc-dev-guide, drop elaboration).
use Rattle.std.specs.Prelude.{ℕ, suc, Bool, true, false, ◌&&◌, ◌||◌, nat_eq, List, [], ◌∷◌, ◌++◌, map, Option, Some, None}
use Rattle.mir_syntax.specs.declared.body.Proj.{Proj}
use Rattle.mir_syntax.specs.declared.body.Proj.TheVariants.{Field}
use Rattle.mir_syntax.specs.declared.body.Place.{Place}
use Rattle.mir_syntax.specs.declared.body.Operand.{Operand}
use Rattle.mir_syntax.specs.declared.body.Operand.TheVariants as operand
use Rattle.mir_syntax.specs.declared.body.Term.{Term}
use Rattle.mir_syntax.specs.declared.body.Term.TheVariants as term
use Rattle.mir_syntax.specs.Tree.{Tree}
use Rattle.mir_syntax.specs.Crate.{TypedStmt, assign, storage_live, storage_dead, set_discriminant, TypedBody}
use Rattle.mir_syntax.specs.Shapes.{Shape}
use Rattle.mir_syntax.specs.Parts.{rvalue_operands, term_operands}
use Rattle.mir_rules.specs.Weights.{units}

-- ---- the units of a body

abbrev pub in_local : ℕ → List Proj → Place
in_local x path = record { local = x; proj = path }

-- those of locals that are numbered from here on
abbrev pub units_of_locals : List Shape → ℕ → List Tree → List Place
units_of_locals D x [] = []
units_of_locals D x (t ∷ ts) = map (in_local x) (units D t) ++ units_of_locals D (suc x) ts

-- in the order of locals, and within a local in the order of declaration
abbrev pub units_of_body : List Shape → TypedBody → List Place
units_of_body D b = units_of_locals D 0 b.locals

-- ---- at or under a place

abbrev pub same_field : Proj → Proj → Bool
same_field (Field i) (Field j) = nat_eq i j
same_field _ _ = false

-- a path of fields goes on from another; from one with a dereference or a downcast none does
abbrev pub goes_on : List Proj → List Proj → Bool
goes_on [] path = true
goes_on (p ∷ ps) [] = false
goes_on (p ∷ ps) (q ∷ path) = same_field p q && goes_on ps path

-- a unit stands at a place or under it
abbrev pub is_under : Place → Place → Bool
is_under p unit = nat_eq p.local unit.local && goes_on p.proj unit.proj

abbrev pub moved_by_operand : Operand → Place → Bool
moved_by_operand (operand.Move p) unit = is_under p unit
moved_by_operand (operand.Copy p) unit = false
moved_by_operand (operand.Const c) unit = false

abbrev pub moved_by : List Operand → Place → Bool
moved_by [] unit = false
moved_by (o ∷ os) unit = moved_by_operand o unit || moved_by os unit

-- ---- statements

abbrev pub ended_if : Bool → Option Bool
ended_if true = Some false
ended_if false = None

abbrev pub begun_or_ended : Bool → Bool → Option Bool
begun_or_ended true moved = Some true
begun_or_ended false moved = ended_if moved

-- whether a unit is initialised after the statement; none where the statement doesn't change it. What is assigned comes after the moves.
abbrev pub effect : Place → TypedStmt → Option Bool
effect unit (assign p r) = begun_or_ended (is_under p unit) (moved_by (rvalue_operands r) unit)
effect unit (storage_live x) = ended_if (nat_eq x unit.local)
effect unit (storage_dead x) = ended_if (nat_eq x unit.local)
effect unit (set_discriminant p k) = None

-- ---- terminators

-- the terminator ends the unit
abbrev pub moved : Place → Term → Bool
moved unit (term.Drop p next) = is_under p unit
moved unit t = moved_by (term_operands t) unit

-- a call's result initialises the unit
abbrev pub begun : Place → Term → Bool
begun unit (term.Call p callee args next) = is_under p unit
begun unit t = false

-- along the edges that leave it; a result comes after the moves
abbrev pub term_effect : Place → Term → Option Bool
term_effect unit t = begun_or_ended (begun unit t) (moved unit t)
