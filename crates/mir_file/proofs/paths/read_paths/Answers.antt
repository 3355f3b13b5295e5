use Rattle.std.proofs.Common.{◌≡◌, ◌∷◌, ◌∙◌, ◌++◌, ap, refl, sym}
use Rattle.mir_text.specs.Names.{def_paths, function_path_in, function_paths_in, outside_path_in, outside_paths_in}
use Rattle.mir_resolve.proofs.Making.{later_of, first_left}
use Rattle.mir_file.specs.Items.{rule_of, rules_of, def_path_in}
use Rattle.mir_file.proofs.Steps.{append_step, append_ended}
use Rattle.mir_file.proofs.FirstItems.{def_paths_first}
use Rattle.mir_file.proofs.paths.read_paths.Goals as goal

pub items-preserved : goal.items-preserved
items-preserved c =
    let left = c.items.left.now in
    let item = c.item-item.result in
    let first : left ≡ item ∷ later_of left = first_left left item c.in-len1-up.len_at_least c.item-item.is in
    let strings = c.args.strings.now in
    let old = c.items.paths in
    let new = c.in_ok-paths.ensures in
    record {
      defs = append_step old.defs _ (def_path_in strings (rule_of item)) (def_paths strings (rules_of (later_of left))) _ new.defs
          (ap (λ l. old.defs ++ l) (sym (def_paths_first strings item (later_of left))) ∙ ap (λ l. old.defs ++ def_paths strings (rules_of l)) (sym first) ∙ c.items.invariant.defs);
      functions = append_step old.functions _ (function_path_in strings (rule_of item)) (function_paths_in strings (rules_of (later_of left))) _ new.functions
          (ap (λ l. old.functions ++ function_paths_in strings (rules_of l)) (sym first) ∙ c.items.invariant.functions);
      outsides = append_step old.outsides _ (outside_path_in strings (rule_of item)) (outside_paths_in strings (rules_of (later_of left))) _ new.outsides
          (ap (λ l. old.outsides ++ outside_paths_in strings (rules_of l)) (sym first) ∙ c.items.invariant.outsides);
    }

pub returns-clause-defs : goal.returns-clause-defs
returns-clause-defs c = append_ended (λ l. def_paths c.args.strings.now (rules_of l)) c.items.left.now _ _ c.in_default.len_below refl c.items.invariant.defs

pub returns-clause-functions : goal.returns-clause-functions
returns-clause-functions c = append_ended (λ l. function_paths_in c.args.strings.now (rules_of l)) c.items.left.now _ _ c.in_default.len_below refl c.items.invariant.functions

pub returns-clause-outsides : goal.returns-clause-outsides
returns-clause-outsides c = append_ended (λ l. outside_paths_in c.args.strings.now (rules_of l)) c.items.left.now _ _ c.in_default.len_below refl c.items.invariant.outsides
