-- What is wrong with the names of a derivation: its faults S10 to S15, each with its line.
use Rattle.std.specs.Prelude.{ℕ, zero, suc, Bool, true, false, ◌&&◌, ◌||◌, not, nat_eq, nat_lt, List, [], ◌∷◌, ◌++◌, map, Option, Some, None, is_some, codes, if◌then◌else◌}
use Rattle.std.specs.Str.{bytes_eq}
use Rattle.mir_syntax.specs.declared.types.Form.{Form}
use Rattle.mir_syntax.specs.declared.types.Form.TheVariants as form
use Rattle.mir_syntax.specs.Tree.{Tree}
use Rattle.mir_syntax.specs.Crate.{TypedField, TypedVariant, TypedDef}
use Rattle.mir_syntax.specs.Shapes.{◌>>=◌}
use Rattle.mir_text.specs.Words.{place_in}
use Rattle.mir_text.specs.Grammar.{Items, items_of}
use Rattle.mir_text.specs.GrammarTypes.{PathRule, TypeRule}
use Rattle.mir_text.specs.GrammarPlaces as p
use Rattle.mir_text.specs.GrammarPlaces.{PlaceRule, OperandRule}
use Rattle.mir_text.specs.GrammarStatements as r
use Rattle.mir_text.specs.GrammarStatements.{NamedRule, BuildRule, RvalueRule, StmtRule}
use Rattle.mir_text.specs.GrammarTerms as g
use Rattle.mir_text.specs.GrammarTerms.{ArmRule, TermRule}
use Rattle.mir_text.specs.GrammarItems as m
use Rattle.mir_text.specs.GrammarItems.{ArgRule, FieldsRule, VariantRule, ItemRule}
use Rattle.mir_text.specs.Names.{Names, string_at, path_bytes, is_known, are_known, ty_of, same_type}
use Rattle.mir_text.specs.NamedBodies.{Declared, declared_ty, variant_at_place, built_by, called_by}
use Rattle.mir_text.specs.Naming.{declared}
use Rattle.mir_text.specs.PartLines.{Lined, LinedBlock, LinedFn, LinedItem, other, function}

-- a line and a code
abbrev pub Fault : Type 0
Fault = ℕ × ℕ

-- the codes of a part, each on its line
abbrev pub on_line : ℕ → List ℕ → List Fault
on_line n found = map (λ code. (n, code)) found

-- a code, where something isn't so
abbrev pub unless : Bool → ℕ → List ℕ
unless true code = []
unless false code = code ∷ []

abbrev pub concat : {A : Type 0} → List (List A) → List A
concat [] = []
concat (xs ∷ xss) = xs ++ concat xss

abbrev pub each : {A B : Type 0} → (A → List B) → List A → List B
each f xs = concat (map f xs)

abbrev pub each_item : {R B : Type 0} → (R → List B) → Items R → List B
each_item f xs = concat (items_of f xs)

-- a text stands in a list of texts
abbrev pub stands_in : List (List ℕ) → List ℕ → Bool
stands_in texts text = is_some (place_in texts text)

-- a number stands in a list of numbers
abbrev pub is_among : List ℕ → ℕ → Bool
is_among [] n = false
is_among (k ∷ ks) n = nat_eq k n || is_among ks n

-- ---- what a place, an operand, a statement or a terminator breaks

-- S12: each path names a struct or enum
abbrev pub type_codes : Names → TypeRule → List ℕ
type_codes names u = unless (is_known names.strings names.paths u) 12

-- S14: the local is declared
abbrev pub local_codes : Declared → ℕ → List ℕ
local_codes locals x = unless (is_some (declared_ty locals x)) 14

-- S13: a downcast names a variant of its place's type
abbrev pub place_codes : Names → Declared → PlaceRule → List ℕ
place_codes names locals (p.local x) = local_codes locals x
place_codes names locals (p.deref q) = place_codes names locals q
place_codes names locals (p.field q n u) = place_codes names locals q ++ type_codes names u
place_codes names locals (p.variant_field q v n u) =
    place_codes names locals q ++ unless (is_some (variant_at_place names locals q v)) 13 ++ type_codes names u

abbrev pub operand_codes : Names → Declared → OperandRule → List ℕ
operand_codes names locals (p.copy q) = place_codes names locals q
operand_codes names locals (p.move q) = place_codes names locals q
operand_codes names locals (p.bare q) = place_codes names locals q
operand_codes names locals (p.const x) = []

abbrev pub named_operand_codes : Names → Declared → NamedRule → List ℕ
named_operand_codes names locals x = operand_codes names locals x.1

abbrev pub parts_codes : Names → Declared → BuildRule → List ℕ
parts_codes names locals r.plain = []
parts_codes names locals (r.tupled xs) = each_item (operand_codes names locals) xs
parts_codes names locals (r.labelled xs) = each_item (named_operand_codes names locals) xs

-- the same texts in the same order
abbrev pub same_texts : List (List ℕ) → List (List ℕ) → Bool
same_texts [] [] = true
same_texts (a ∷ more) (b ∷ others) = bytes_eq a b && same_texts more others
same_texts a b = false

abbrev pub field_names : List TypedField → List (List ℕ)
field_names fields = map (λ f. f.name) fields

-- a build has the form of the definition, and its fields by their names in their order
abbrev pub has_form : Names → Form → List TypedField → BuildRule → Bool
has_form names form.Unit fields r.plain = true
has_form names form.Tuple fields (r.tupled xs) = true
has_form names form.Named fields (r.labelled xs) = same_texts (items_of (λ x. string_at names.strings x.0) xs) (field_names fields)
has_form names form.Unit fields parts = false
has_form names form.Tuple fields parts = false
has_form names form.Named fields parts = false

abbrev pub variant_fits : Names → BuildRule → Option TypedVariant → Bool
variant_fits names parts None = false
variant_fits names parts (Some v) = has_form names v.form v.fields parts

abbrev pub variant_number : List TypedVariant → ℕ → Option TypedVariant
variant_number [] k = None
variant_number (v ∷ vs) zero = Some v
variant_number (v ∷ vs) (suc k) = variant_number vs k

abbrev pub def_number : List TypedDef → ℕ → Option TypedDef
def_number [] d = None
def_number (x ∷ xs) zero = Some x
def_number (x ∷ xs) (suc d) = def_number xs d

abbrev pub built_variant : Names → ℕ × ℕ → Option TypedVariant
built_variant names x = def_number names.defs x.0 >>= λ d. variant_number d.variants x.1

-- S13: a build names a struct or variant, in its form
abbrev pub build_codes : Names → PathRule → BuildRule → List ℕ
build_codes names path parts = unless (variant_fits names parts (built_by names path >>= built_variant names)) 13

abbrev pub rvalue_codes : Names → Declared → RvalueRule → List ℕ
rvalue_codes names locals (r.«use» x) = operand_codes names locals x
rvalue_codes names locals (r.cast x u) = operand_codes names locals x ++ type_codes names u
rvalue_codes names locals (r.binary op x y) = operand_codes names locals x ++ operand_codes names locals y
rvalue_codes names locals (r.overflow op x y) = operand_codes names locals x ++ operand_codes names locals y
rvalue_codes names locals (r.unary op x) = operand_codes names locals x
rvalue_codes names locals (r.reference mutable q) = place_codes names locals q
rvalue_codes names locals (r.discriminant q) = place_codes names locals q
rvalue_codes names locals r.nothing = []
rvalue_codes names locals (r.tuple_of x xs) = operand_codes names locals x ++ each_item (operand_codes names locals) xs
rvalue_codes names locals (r.build path parts) = build_codes names path parts ++ parts_codes names locals parts

abbrev pub stmt_codes : Names → Declared → StmtRule → List ℕ
stmt_codes names locals (r.assign q x) = place_codes names locals q ++ rvalue_codes names locals x
stmt_codes names locals r.nop = []
stmt_codes names locals (r.live x) = local_codes locals x
stmt_codes names locals (r.dead x) = local_codes locals x
stmt_codes names locals (r.set q k) = place_codes names locals q

-- S15: the block is there
abbrev pub target_codes : List ℕ → ℕ → List ℕ
target_codes labels b = unless (is_among labels b) 15

-- S11: the call names a function or an outside function
abbrev pub call_codes : Names → PathRule → List ℕ
call_codes names path = unless (is_some (called_by names path)) 11

abbrev pub arm_codes : List ℕ → ArmRule → List ℕ
arm_codes labels a = target_codes labels a.1

abbrev pub term_codes : Names → Declared → List ℕ → TermRule → List ℕ
term_codes names locals labels (g.goto b) = target_codes labels b
term_codes names locals labels g.returns = []
term_codes names locals labels g.never = []
term_codes names locals labels (g.switch x arms b) = operand_codes names locals x ++ each (arm_codes labels) arms ++ target_codes labels b
term_codes names locals labels (g.call q path xs b u) =
    place_codes names locals q ++ call_codes names path ++ each_item (operand_codes names locals) xs ++ target_codes labels b
term_codes names locals labels (g.drop q b u) = place_codes names locals q ++ target_codes labels b
term_codes names locals labels (g.assert expected x message xs b u) =
    operand_codes names locals x ++ each (operand_codes names locals) xs ++ target_codes labels b

-- ---- the faults of a function

abbrev pub stmt_faults : Names → Declared → Lined StmtRule → List Fault
stmt_faults names locals x = on_line x.0 (stmt_codes names locals x.1)

abbrev pub block_faults : Names → Declared → List ℕ → LinedBlock → List Fault
block_faults names locals labels b = each (stmt_faults names locals) b.stmts ++ on_line b.term.0 (term_codes names locals labels b.term.1)

-- S14: each argument stands at its place, the first one being `_1`
abbrev pub args_in_place : ℕ → List (Lined ArgRule) → List Fault
args_in_place x [] = []
args_in_place x (a ∷ others) = on_line a.0 (unless (nat_eq a.1.0 x) 14) ++ args_in_place (suc x) others

-- S14: no local is declared again, those of some numbers being declared before
abbrev pub declared_once : List ℕ → List (Lined ArgRule) → List Fault
declared_once before [] = []
declared_once before (a ∷ others) = on_line a.0 (unless (not (is_among before a.1.0)) 14) ++ declared_once (a.1.0 ∷ before) others

abbrev pub below_declared : Declared → ℕ → Bool
below_declared locals zero = true
below_declared locals (suc x) = is_some (declared_ty locals x)

-- `_0` is declared, and with each local the one below it
abbrev pub none_missing_in : Declared → Declared → Bool
none_missing_in locals [] = true
none_missing_in locals (d ∷ ds) = below_declared locals d.0 && none_missing_in locals ds

abbrev pub none_missing : Declared → Bool
none_missing locals = is_some (declared_ty locals 0) && none_missing_in locals locals

-- the first declaration of `_0` has the type of the result
abbrev pub result_faults : Names → Tree → List (Lined ArgRule) → List Fault
result_faults names result [] = []
result_faults names result (a ∷ others) =
    if nat_eq a.1.0 0 then on_line a.0 (unless (same_type (ty_of names a.1.1) result) 14) else result_faults names result others

-- the labels are the numbers in order, from a given one on
abbrev pub in_order : ℕ → List ℕ → Bool
in_order n [] = true
in_order n (b ∷ bs) = nat_eq b n && in_order (suc n) bs

-- the blocks are bb0, bb1 and so on, at least bb0
abbrev pub blocks_in_order : List ℕ → Bool
blocks_in_order [] = false
blocks_in_order (b ∷ bs) = in_order 0 (b ∷ bs)

abbrev pub declaration_faults : Names → Lined ArgRule → List Fault
declaration_faults names a = on_line a.0 (type_codes names a.1.1)

abbrev pub labels_of : LinedFn → List ℕ
labels_of f = map (λ b. b.label) f.blocks

abbrev pub fn_faults : Names → LinedFn → List Fault
fn_faults names f =
    on_line f.head (type_codes names f.rule.result ++ unless (none_missing (declared names f.rule)) 14 ++ unless (blocks_in_order (labels_of f)) 15)
    ++ each (declaration_faults names) (f.args ++ f.lets)
    ++ args_in_place 1 f.args
    ++ declared_once [] (f.args ++ f.lets)
    ++ result_faults names (ty_of names f.rule.result) (f.args ++ f.lets)
    ++ each (block_faults names (declared names f.rule) (labels_of f)) f.blocks

-- ---- the faults of other items

-- no text stands twice, those of some texts having stood before
abbrev pub none_twice : List (List ℕ) → List (List ℕ) → Bool
none_twice before [] = true
none_twice before (x ∷ xs) = not (stands_in before x) && none_twice (x ∷ before) xs

-- S10: no field name stands twice; S12: the types are known
abbrev pub fields_codes : Names → FieldsRule → List ℕ
fields_codes names m.plain = []
fields_codes names (m.tupled us) = unless (are_known names.strings names.paths us) 12
fields_codes names (m.labelled fs) = unless (none_twice [] (items_of (λ f. string_at names.strings f.0) fs)) 10 ++ each_item (λ f. type_codes names f.1) fs

-- S10: no variant name stands twice
abbrev pub variants_codes : Names → Items VariantRule → List ℕ
variants_codes names vs = unless (none_twice [] (items_of (λ v. string_at names.strings v.0) vs)) 10 ++ each_item (λ v. fields_codes names v.1) vs

abbrev pub other_codes : Names → ItemRule → List ℕ
other_codes names (m.struct path fs) = fields_codes names fs
other_codes names (m.enum path vs) = variants_codes names vs
other_codes names (m.extern path us u) = unless (are_known names.strings names.paths us) 12 ++ type_codes names u
other_codes names (m.function f) = []

abbrev pub item_faults : Names → LinedItem → List Fault
item_faults names (other n item) = on_line n (other_codes names item)
item_faults names (function f) = fn_faults names f

-- ---- paths that are defined twice

-- an item's line, its path among structs and enums or among functions, and the paths of its variants
pub record Defined : Type 0 where
  pub line : ℕ
  pub is_type : Bool
  pub is_struct : Bool
  pub path : List ℕ
  pub variants : List (List ℕ)

abbrev pub variant_paths : Names → List ℕ → Items VariantRule → List (List ℕ)
variant_paths names path vs = items_of (λ v. path ++ codes "::" ++ string_at names.strings v.0) vs

abbrev pub defined_by : Names → LinedItem → Defined
defined_by names (other n (m.struct path fs)) = record { line = n; is_type = true; is_struct = true; path = path_bytes names.strings path; variants = [] }
defined_by names (other n (m.enum path vs)) =
    record { line = n; is_type = true; is_struct = false; path = path_bytes names.strings path; variants = variant_paths names (path_bytes names.strings path) vs }
defined_by names (other n (m.extern path us u)) = record { line = n; is_type = false; is_struct = false; path = path_bytes names.strings path; variants = [] }
defined_by names (other n (m.function f)) = record { line = n; is_type = false; is_struct = false; path = path_bytes names.strings f.path; variants = [] }
defined_by names (function f) = record { line = f.head; is_type = false; is_struct = false; path = path_bytes names.strings f.rule.path; variants = [] }

abbrev pub same_flag : Bool → Bool → Bool
same_flag true b = b
same_flag false b = not b

-- two items of one name space have one path
abbrev pub same_path : Defined → Defined → Bool
same_path a b = same_flag a.is_type b.is_type && bytes_eq a.path b.path

-- a struct's path is that of an enum's variant
abbrev pub is_variant_path : Defined → Defined → Bool
is_variant_path a b = a.is_struct && stands_in b.variants a.path

-- S10: an item clashes with none that stands before it
abbrev pub clashes : Defined → Defined → Bool
clashes a b = same_path a b || (is_variant_path a b || is_variant_path b a)

abbrev pub any_clashes : Defined → List Defined → Bool
any_clashes a [] = false
any_clashes a (b ∷ bs) = clashes a b || any_clashes a bs

abbrev pub path_faults : List Defined → List Defined → List Fault
path_faults before [] = []
path_faults before (a ∷ others) = on_line a.line (unless (not (any_clashes a before)) 10) ++ path_faults (a ∷ before) others

-- ---- the faults of a file

abbrev pub name_faults : Names → List LinedItem → List Fault
name_faults names items = path_faults [] (map (defined_by names) items) ++ each (item_faults names) items

-- the first line, and then the least code
abbrev pub comes_first : Fault → Fault → Bool
comes_first a b = nat_lt a.0 b.0 || (nat_eq a.0 b.0 && nat_lt a.1 b.1)

abbrev pub earlier : Fault → Option Fault → Fault
earlier a None = a
earlier a (Some b) = if comes_first b a then b else a

abbrev pub first_fault : List Fault → Option Fault
first_fault [] = None
first_fault (a ∷ others) = Some (earlier a (first_fault others))
