-- The items of a file's tree by their kinds, and what is wrong with those of one kind.
use Rattle.std.specs.Prelude.{◌≡◌, ℕ, List, [], map, Option, None}
use Rattle.mir_text.specs.GrammarItems as m
use Rattle.mir_text.specs.GrammarItems.{ItemRule, FileRule}
use Rattle.mir_text.specs.Names.{Names, Strings, path_bytes, def_path, def_in}
use Rattle.mir_text.specs.PartLines.{LinedItem, other, function}
use Rattle.mir_text.specs.NameFaults.{Fault, on_line, other_codes, fn_faults, each, path_faults}
use Rattle.mir_tree.specs.declared.Lined.{Lined}
use Rattle.mir_tree.specs.declared.item.ItemText.{ItemText}
use Rattle.mir_tree.specs.Rules.{lined_item, item_of}
use Rattle.mir_resolve.specs.declared.draft.Draft.{Draft}
use Rattle.mir_resolve.specs.Types.{Grown}
use Rattle.mir_resolve.specs.Faults.{noted}
use Rattle.mir_resolve.specs.Definitions.{before_defs}
use Rattle.mir_file.specs.Clashes.{defined_as}

-- the rule of an item
abbrev pub rule_of : Lined ItemText → ItemRule
rule_of x = item_of (lined_item x)

abbrev pub rules_of : List (Lined ItemText) → FileRule
rules_of items = map rule_of items

-- the path of a struct or an enum, where an item is one
abbrev pub def_path_in : Strings → ItemRule → List (List ℕ)
def_path_in strings item = map (λ d. path_bytes strings (def_path d)) (def_in item)

-- S10 and S12 of structs and enums
abbrev pub def_codes : Names → ItemRule → List ℕ
def_codes names (m.struct path fs) = other_codes names (m.struct path fs)
def_codes names (m.enum path vs) = other_codes names (m.enum path vs)
def_codes names (m.extern path us u) = []
def_codes names (m.function f) = []

abbrev pub def_faults : Names → Lined ItemText → List Fault
def_faults names x = on_line x.line (def_codes names (rule_of x))

-- S12 of outside functions
abbrev pub outside_codes : Names → ItemRule → List ℕ
outside_codes names (m.struct path fs) = []
outside_codes names (m.enum path vs) = []
outside_codes names (m.extern path us u) = other_codes names (m.extern path us u)
outside_codes names (m.function f) = []

abbrev pub outside_faults : Names → Lined ItemText → List Fault
outside_faults names x = on_line x.line (outside_codes names (rule_of x))

-- a draft after parts of a file: its table has grown, and their faults are noted
pub record Noticed (old new : Draft) (faults : List Fault) : Type 0 where
  pub grown : Grown old.program new.program
  pub notes : new.notes ≡ noted old.notes faults

-- the faults of functions
abbrev pub fn_faults_in : Names → LinedItem → List Fault
fn_faults_in names (other line item) = []
fn_faults_in names (function f) = fn_faults names f

abbrev pub fn_text_faults : Names → Lined ItemText → List Fault
fn_text_faults names x = fn_faults_in names (lined_item x)

-- the faults of paths, definitions and outside functions
abbrev pub noted_before_functions : Names → List (Lined ItemText) → Option Fault
noted_before_functions names items =
    noted (noted (noted None (path_faults [] (map (defined_as names.strings) items)))
    (each (def_faults (before_defs names.strings names.paths)) items))
    (each (outside_faults (before_defs names.strings names.paths)) items)
