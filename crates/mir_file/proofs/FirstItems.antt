-- The items of a kind, the first one and then the others.
use Rattle.std.proofs.Common.{◌≡◌, ℕ, List, ◌∷◌, ◌++◌, map}
use Rattle.std.proofs.lemmas.List.{map-append}
use Rattle.mir_text.specs.Names.{Strings, path_bytes, def_path, def_in, defs_in, def_paths, def_named}
use Rattle.mir_tree.specs.declared.Lined.{Lined}
use Rattle.mir_tree.specs.declared.item.ItemText.{ItemText}
use Rattle.mir_file.specs.Items.{rule_of, rules_of, def_path_in}

pub def_paths_first : (strings : Strings) (x : Lined ItemText) (xs : List (Lined ItemText)) → def_paths strings (rules_of (x ∷ xs)) ≡ def_path_in strings (rule_of x) ++ def_paths strings (rules_of xs)
def_paths_first strings x xs = map-append (λ d. path_bytes strings (def_path d)) (def_in (rule_of x)) (defs_in (rules_of xs))

pub defs_first : (strings : Strings) (paths : List (List ℕ)) (x : Lined ItemText) (xs : List (Lined ItemText))
    → map (def_named strings paths) (defs_in (rules_of (x ∷ xs))) ≡ map (def_named strings paths) (def_in (rule_of x)) ++ map (def_named strings paths) (defs_in (rules_of xs))
defs_first strings paths x xs = map-append (def_named strings paths) (def_in (rule_of x)) (defs_in (rules_of xs))
