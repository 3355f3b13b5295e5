-- The locals that the head of a function declares, and what is wrong with their declarations.
use Rattle.std.specs.Prelude.{ℕ, zero, suc, Bool, nat_lt, not, List, [], ◌∷◌, ◌++◌, Option, Some, None, is_some}
use Rattle.mir_syntax.specs.declared.types.TyId.{TyId}
use Rattle.mir_syntax.specs.Tree.{Tree, at_id}
use Rattle.mir_text.specs.GrammarItems.{ArgRule}
use Rattle.std.specs.Option.{unwrap_or}
use Rattle.mir_text.specs.Names.{Names, ty_of, same_type}
use Rattle.mir_text.specs.NamedBodies.{Declared, declared_ty}
use Rattle.mir_text.specs.Naming.{declares, declared}
use Rattle.mir_text.specs.PartLines.{Lined, LinedFn}
use Rattle.mir_text.specs.NameFaults.{Fault, on_line, unless, each, type_codes, none_missing, blocks_in_order, labels_of, declaration_faults, args_in_place, declared_once, result_faults}
use Rattle.mir_bodies.specs.Locals.{first_ty}
use Rattle.mir_tree.specs.declared.body.BlockText.{BlockText}

abbrev pub declared_below : ℕ → ℕ × TyId → Bool
declared_below n d = nat_lt d.1.0 n

-- a declaration with its id replaced by what this stands for
abbrev pub declared_as : List Tree → ℕ × TyId → ℕ × Tree
declared_as trees d = (d.0, at_id trees d.1)

-- S12 of the type, and S14 where the local is declared before
abbrev pub declaration_codes : Names → Declared → ArgRule → List ℕ
declaration_codes names before a = type_codes names a.1 ++ unless (not (is_some (declared_ty before a.0))) 14

-- the faults of declarations, some locals being declared before
abbrev pub declarations_faults : Names → Declared → List (Lined ArgRule) → List Fault
declarations_faults names before [] = []
declarations_faults names before (a ∷ others) =
    on_line a.0 (declaration_codes names before a.1) ++ declarations_faults names (before ++ declares names a.1 ∷ []) others

abbrev pub label_in : BlockText → ℕ
label_in b = b.label

-- S14: the declared type isn't that of the result
abbrev pub result_fault : Option Tree → Tree → ℕ → List Fault
result_fault None result line = []
result_fault (Some t) result line = on_line line (unless (same_type t result) 14)

-- the ids of so many locals from a number on, with that of `()` for those that aren't declared
abbrev pub ids_from : List (ℕ × TyId) → TyId → ℕ → ℕ → List TyId
ids_from ds unit x zero = []
ids_from ds unit x (suc n) = unwrap_or (first_ty ds x) unit ∷ ids_from ds unit (suc x) n

-- the faults of a function but for those of its blocks
abbrev pub head_faults : Names → LinedFn → List Fault
head_faults names f =
    on_line f.head (type_codes names f.rule.result ++ unless (none_missing (declared names f.rule)) 14 ++ unless (blocks_in_order (labels_of f)) 15)
    ++ each (declaration_faults names) (f.args ++ f.lets)
    ++ args_in_place 1 f.args
    ++ declared_once [] (f.args ++ f.lets)
    ++ result_faults names (ty_of names f.rule.result) (f.args ++ f.lets)
