-- The crate that a text names is formed.
use Rattle.std.proofs.Common.{◌≡◌, ◌∙◌, ℕ, true, ◌&&◌, List, [], ◌∷◌, map, refl, ap, subst}
use Rattle.std.specs.List.{list_all}
use Rattle.std.proofs.lemmas.Bool.{and_from}
use Rattle.std.proofs.lemmas.List.{map-append}
use Rattle.mir_syntax.specs.declared.lines.Lines.{Lines}
use Rattle.mir_syntax.specs.Crate.{Crate}
use Rattle.mir_text.specs.GrammarItems as m
use Rattle.mir_text.specs.GrammarItems.{ItemRule, item_put, FileRule}
use Rattle.mir_text.specs.Symbols.{strings_of}
use Rattle.mir_text.specs.Nesting.{FileGood}
use Rattle.mir_text.specs.Names.{Strings, Names, names_of, def_in, defs_in, def_named}
use Rattle.mir_text.specs.Naming.{outside_in, outsides_in, functions_in, function_named, crate_named}
use Rattle.mir_text.specs.PartLines.{LinesFrom, past, item_lined, file_lined}
use Rattle.mir_text.specs.NameFaults.{each, other_codes, item_faults, path_faults, defined_by, name_faults}
use Rattle.mir_text.specs.Reads.{ReadsWith, symbol_lines}
use Rattle.mir_text.proofs.Codes.{no_codes}
use Rattle.mir_rules.specs.Formed.{def_formed, outside_formed, function_formed, is_formed}
use Rattle.mir_rules.proofs.Lists.{append_empty-left, append_empty-right}
use Rattle.read_formed.proofs.Tests.{all_append}
use Rattle.read_formed.proofs.Types.{def_item_formed, outside_item_formed}
use Rattle.read_formed.proofs.Knows.{Knows, named_knows}
use Rattle.read_formed.proofs.Functions.{function_is_formed}

module _ (C : Crate) (N : Names) (knows : Knows C N) where
  -- an item that is no function
  no-other-codes : (item : ItemRule) (lines : LinesFrom) → item_faults N (item_lined item lines) ≡ [] → other_codes N item ≡ []
  no-other-codes (m.struct q fs) lines h = no_codes _ _ h
  no-other-codes (m.enum q vs) lines h = no_codes _ _ h
  no-other-codes (m.extern q us u) lines h = no_codes _ _ h
  no-other-codes (m.function f) lines h = refl

  first-faultless : (item : ItemRule) (items : FileRule) (lines : LinesFrom) → each (item_faults N) (file_lined (item ∷ items) lines) ≡ [] → item_faults N (item_lined item lines) ≡ []
  first-faultless item items lines h = append_empty-left (item_faults N (item_lined item lines)) (each (item_faults N) (file_lined items (past item_put item lines))) h

  rest-faultless : (item : ItemRule) (items : FileRule) (lines : LinesFrom) → each (item_faults N) (file_lined (item ∷ items) lines) ≡ [] → each (item_faults N) (file_lined items (past item_put item lines)) ≡ []
  rest-faultless item items lines h = append_empty-right (item_faults N (item_lined item lines)) (each (item_faults N) (file_lined items (past item_put item lines))) h

  defs-formed : (items : FileRule) (lines : LinesFrom) → each (item_faults N) (file_lined items lines) ≡ [] → list_all (def_formed C) (map (def_named N.strings N.paths) (defs_in items)) ≡ true
  defs-formed [] lines h = refl
  defs-formed (item ∷ items) lines h =
      let here = def_item_formed C N knows.paths item (no-other-codes item lines (first-faultless item items lines h)) in
      let others = defs-formed items (past item_put item lines) (rest-faultless item items lines h) in
      ap (list_all (def_formed C)) (map-append (def_named N.strings N.paths) (def_in item) (defs_in items))
      ∙ all_append (def_formed C) (map (def_named N.strings N.paths) (def_in item)) (map (def_named N.strings N.paths) (defs_in items)) here others

  outsides-formed : (items : FileRule) (lines : LinesFrom) → each (item_faults N) (file_lined items lines) ≡ [] → list_all (outside_formed C) (outsides_in N items) ≡ true
  outsides-formed [] lines h = refl
  outsides-formed (item ∷ items) lines h =
      let here = outside_item_formed C N knows.paths item (no-other-codes item lines (first-faultless item items lines h)) in
      all_append (outside_formed C) (outside_in N item) (outsides_in N items) here (outsides-formed items (past item_put item lines) (rest-faultless item items lines h))

  functions-formed : (items : FileRule) (lines : LinesFrom) → FileGood items → each (item_faults N) (file_lined items lines) ≡ [] → list_all (function_formed C) (functions_in N items) ≡ true
  functions-formed [] lines good h = refl
  functions-formed (m.struct q fs ∷ items) lines good h = functions-formed items _ good.1 (rest-faultless (m.struct q fs) items lines h)
  functions-formed (m.enum q vs ∷ items) lines good h = functions-formed items _ good.1 (rest-faultless (m.enum q vs) items lines h)
  functions-formed (m.extern q us u ∷ items) lines good h = functions-formed items _ good.1 (rest-faultless (m.extern q us u) items lines h)
  functions-formed (m.function f ∷ items) lines good h =
      and_from (function_formed C (function_named N f)) (list_all (function_formed C) (functions_in N items)) (function_is_formed C N knows f lines good.0 (first-faultless (m.function f) items lines h))
      (functions-formed items _ good.1 (rest-faultless (m.function f) items lines h))

file-formed : (strings : Strings) (file : FileRule) (lines : LinesFrom) → FileGood file → name_faults (names_of strings file) (file_lined file lines) ≡ [] → is_formed (crate_named strings file) ≡ true
unfolding is_formed
file-formed strings file lines good h =
    let N = names_of strings file in
    let C = crate_named strings file in
    let knows = named_knows strings file in
    let faultless = append_empty-right (path_faults [] (map (defined_by N) (file_lined file lines))) (each (item_faults N) (file_lined file lines)) h in
    and_from (list_all (def_formed C) C.defs) (list_all (outside_formed C) C.outsides && list_all (function_formed C) C.functions) (defs-formed C N knows file lines faultless)
    (and_from (list_all (outside_formed C) C.outsides) (list_all (function_formed C) C.functions) (outsides-formed C N knows file lines faultless) (functions-formed C N knows file lines good faultless))

pub reading_formed : (bytes : List ℕ) (C : Crate) (lines : Lines) → ReadsWith bytes C lines → is_formed C ≡ true
reading_formed bytes C lines r =
    let d = r.derivation in
    subst (λ c. is_formed c ≡ true) r.named (file-formed (strings_of d.pieces) d.file (symbol_lines d.pieces) d.good d.faultless)
