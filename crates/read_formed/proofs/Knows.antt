-- A crate has the definitions that names mean, and as many functions and outside functions.
use Rattle.std.proofs.Common.{◌≡◌, ◌∙◌, suc, [], ◌∷◌, length, refl, sym, ap}
use Rattle.std.proofs.lemmas.List.{length-map}
use Rattle.mir_syntax.specs.Crate.{Crate}
use Rattle.mir_text.specs.GrammarItems as m
use Rattle.mir_text.specs.GrammarItems.{FileRule}
use Rattle.mir_text.specs.Names.{Strings, Names, names_of, path_bytes, def_path, defs_in, def_paths, def_named, function_paths_in, outside_paths_in}
use Rattle.mir_text.specs.Naming.{functions_in, outsides_in, crate_named}

pub record Knows (C : Crate) (N : Names) : Type 0 where
  pub defs : N.defs ≡ C.defs
  pub paths : length N.paths ≡ length C.defs
  pub functions : length N.functions ≡ length C.functions
  pub outsides : length N.outsides ≡ length C.outsides

functions-many : (N : Names) (items : FileRule) → length (function_paths_in N.strings items) ≡ length (functions_in N items)
functions-many N [] = refl
functions-many N (m.struct q fs ∷ items) = functions-many N items
functions-many N (m.enum q vs ∷ items) = functions-many N items
functions-many N (m.extern q us u ∷ items) = functions-many N items
functions-many N (m.function f ∷ items) = ap suc (functions-many N items)

outsides-many : (N : Names) (items : FileRule) → length (outside_paths_in N.strings items) ≡ length (outsides_in N items)
outsides-many N [] = refl
outsides-many N (m.struct q fs ∷ items) = outsides-many N items
outsides-many N (m.enum q vs ∷ items) = outsides-many N items
outsides-many N (m.extern q us u ∷ items) = ap suc (outsides-many N items)
outsides-many N (m.function f ∷ items) = outsides-many N items

pub named_knows : (strings : Strings) (file : FileRule) → Knows (crate_named strings file) (names_of strings file)
named_knows strings file = record {
  defs = refl;
  paths = length-map (defs_in file) (λ d. path_bytes strings (def_path d)) ∙ sym (length-map (defs_in file) (def_named strings (def_paths strings file)));
  functions = functions-many (names_of strings file) file;
  outsides = outsides-many (names_of strings file) file;
}
