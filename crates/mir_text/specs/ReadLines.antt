-- What a reading tells beside the crate: the lines of its parts, and the first place whose written field type isn't the definition's.
use Rattle.std.specs.Prelude.{ℕ, zero, suc, Bool, true, false, ◌||◌, not, nat_eq, List, [], ◌∷◌, ◌++◌, map, length, Option, Some, None, if◌then◌else◌}
use Rattle.mir_syntax.specs.declared.lines.BlockLines.{BlockLines}
use Rattle.mir_syntax.specs.declared.lines.FnLines.{FnLines}
use Rattle.mir_syntax.specs.declared.lines.Lines.{Lines}
use Rattle.mir_syntax.specs.Tree.{Tree}
use Rattle.mir_text.specs.GrammarPlaces as p
use Rattle.mir_text.specs.GrammarPlaces.{PlaceRule, OperandRule}
use Rattle.mir_text.specs.GrammarStatements as r
use Rattle.mir_text.specs.GrammarStatements.{BuildRule, RvalueRule, StmtRule}
use Rattle.mir_text.specs.GrammarTerms as g
use Rattle.mir_text.specs.GrammarTerms.{TermRule}
use Rattle.mir_text.specs.GrammarItems as m
use Rattle.mir_text.specs.GrammarItems.{ArgRule}
use Rattle.mir_text.specs.Names.{Names, ty_of, same_type}
use Rattle.mir_text.specs.NamedBodies.{Declared, place_ty_of}
use Rattle.mir_text.specs.Naming.{declared}
use Rattle.mir_text.specs.NameFaults.{each, each_item}
use Rattle.mir_text.specs.PartLines.{Lined, LinedBlock, LinedFn, LinedItem, other, function}

-- ---- the lines of parts

-- `nop` is no statement of the body
abbrev pub stmt_line_in : Lined StmtRule → List ℕ
stmt_line_in (n, r.nop) = []
stmt_line_in (n, r.assign q x) = n ∷ []
stmt_line_in (n, r.live x) = n ∷ []
stmt_line_in (n, r.dead x) = n ∷ []
stmt_line_in (n, r.set q k) = n ∷ []

abbrev pub block_lines : LinedBlock → BlockLines
block_lines b = record { stmts = each stmt_line_in b.stmts; term = b.term.0 }

-- the line of the first declaration of a local
abbrev pub local_line : List (Lined ArgRule) → ℕ → ℕ
local_line [] x = 0
local_line (a ∷ others) x = if nat_eq a.1.0 x then a.0 else local_line others x

-- the lines of so many locals from a number on
abbrev pub local_lines : List (Lined ArgRule) → ℕ → ℕ → List ℕ
local_lines found x zero = []
local_lines found x (suc n) = local_line found x ∷ local_lines found (suc x) n

abbrev pub fn_lines : LinedFn → FnLines
fn_lines f = record { head = f.head; locals = local_lines (f.args ++ f.lets) 0 (length (f.args ++ f.lets)); blocks = map block_lines f.blocks }

abbrev pub def_line_in : LinedItem → List ℕ
def_line_in (other n (m.struct path fs)) = n ∷ []
def_line_in (other n (m.enum path vs)) = n ∷ []
def_line_in (other n (m.extern path us u)) = []
def_line_in (other n (m.function f)) = []
def_line_in (function f) = []

abbrev pub outside_line_in : LinedItem → List ℕ
outside_line_in (other n (m.extern path us u)) = n ∷ []
outside_line_in (other n (m.struct path fs)) = []
outside_line_in (other n (m.enum path vs)) = []
outside_line_in (other n (m.function f)) = []
outside_line_in (function f) = []

abbrev pub fn_lines_in : LinedItem → List FnLines
fn_lines_in (other n item) = []
fn_lines_in (function f) = fn_lines f ∷ []

-- ---- places

abbrev pub operand_places : OperandRule → List PlaceRule
operand_places (p.copy q) = q ∷ []
operand_places (p.move q) = q ∷ []
operand_places (p.bare q) = q ∷ []
operand_places (p.const x) = []

abbrev pub parts_places : BuildRule → List PlaceRule
parts_places r.plain = []
parts_places (r.tupled xs) = each_item operand_places xs
parts_places (r.labelled xs) = each_item (λ x. operand_places x.1) xs

abbrev pub rvalue_places : RvalueRule → List PlaceRule
rvalue_places (r.«use» x) = operand_places x
rvalue_places (r.cast x u) = operand_places x
rvalue_places (r.binary op x y) = operand_places x ++ operand_places y
rvalue_places (r.overflow op x y) = operand_places x ++ operand_places y
rvalue_places (r.unary op x) = operand_places x
rvalue_places (r.reference mutable q) = q ∷ []
rvalue_places (r.discriminant q) = q ∷ []
rvalue_places r.nothing = []
rvalue_places (r.tuple_of x xs) = operand_places x ++ each_item operand_places xs
rvalue_places (r.build path parts) = parts_places parts

abbrev pub stmt_places : StmtRule → List PlaceRule
stmt_places (r.assign q x) = q ∷ rvalue_places x
stmt_places (r.set q k) = q ∷ []
stmt_places r.nop = []
stmt_places (r.live x) = []
stmt_places (r.dead x) = []

abbrev pub term_places : TermRule → List PlaceRule
term_places (g.goto b) = []
term_places g.returns = []
term_places g.never = []
term_places (g.switch x arms b) = operand_places x
term_places (g.call q path xs b u) = q ∷ each_item operand_places xs
term_places (g.drop q b u) = q ∷ []
term_places (g.assert expected x message xs b u) = operand_places x ++ each operand_places xs

-- ---- the type that is written with a field

abbrev pub differs : Option Tree → Tree → Bool
differs None u = false
differs (Some t) u = not (same_type t u)

-- a field of the place is written with another type than the definition's; where a projection doesn't fit there is none
abbrev pub is_wrong : Names → Declared → PlaceRule → Bool
is_wrong names locals (p.local x) = false
is_wrong names locals (p.deref q) = is_wrong names locals q
is_wrong names locals (p.field q n u) = is_wrong names locals q || differs (place_ty_of names locals (p.field q n u)) (ty_of names u)
is_wrong names locals (p.variant_field q v n u) =
    is_wrong names locals q || differs (place_ty_of names locals (p.variant_field q v n u)) (ty_of names u)

abbrev pub any_wrong : Names → Declared → List PlaceRule → Bool
any_wrong names locals [] = false
any_wrong names locals (q ∷ qs) = is_wrong names locals q || any_wrong names locals qs

abbrev pub line_if : Bool → ℕ → List ℕ
line_if true n = n ∷ []
line_if false n = []

abbrev pub wrong_stmt : Names → Declared → Lined StmtRule → List ℕ
wrong_stmt names locals x = line_if (any_wrong names locals (stmt_places x.1)) x.0

abbrev pub wrong_in_block : Names → Declared → LinedBlock → List ℕ
wrong_in_block names locals b = each (wrong_stmt names locals) b.stmts ++ line_if (any_wrong names locals (term_places b.term.1)) b.term.0

abbrev pub wrong_in_item : Names → LinedItem → List ℕ
wrong_in_item names (other n item) = []
wrong_in_item names (function f) = each (wrong_in_block names (declared names f.rule)) f.blocks

abbrev pub first_of : List ℕ → Option ℕ
first_of [] = None
first_of (n ∷ ns) = Some n

-- the line of the first place whose written field type isn't the definition's
abbrev pub wrong_field_in : Names → List LinedItem → Option ℕ
wrong_field_in names items = first_of (each (wrong_in_item names) items)

-- ---- a file

abbrev pub lines_named : Names → List LinedItem → Lines
lines_named names items = record {
  defs = each def_line_in items;
  outsides = each outside_line_in items;
  functions = each fn_lines_in items;
  wrong_field = wrong_field_in names items;
}
