use Rattle.std.proofs.Common.{IsTrue, List, length, map, ap, refl, sym, subst, ◌∙◌}
use Rattle.std.specs.List.{list_all}
use Rattle.mir_syntax.specs.declared.types.Def.{Def}
use Rattle.mir_syntax.specs.declared.body.Function.{Function}
use Rattle.mir_syntax.specs.Tree.{trees_of}
use Rattle.mir_syntax.specs.Crate.{def_of}
use Rattle.mir_syntax.specs.Ids.{def_below, function_below}
use Rattle.mir_syntax.proofs.Growth.{map-same, all-weaker, def-more, length-extends}
use Rattle.mir_text.specs.Names.{names_of, defs_in, def_named}
use Rattle.mir_text.specs.Naming.{outsides_in}
use Rattle.mir_resolve.specs.Definitions.{before_defs}
use Rattle.mir_file.specs.Items.{rules_of}
use Rattle.mir_file.proofs.Steps.{defs_keep}
use Rattle.mir_file.proofs.AllFaults.{outsides_same}
use Rattle.mir_file.proofs.front.read_front.Goals as goal

pub returns-clause-defs : goal.returns-clause-defs
returns-clause-defs c =
    let strings = c.args.strings.now in
    let rules = rules_of c.args.items.now in
    let old = c.read_defs.new.draft.program.types in
    let new = c.read_outsides.new.draft.program.types in
    let grown = c.in_ok-outsides.ensures.went.grown in
    ap (map (def_of (trees_of new))) grown.defs
    ∙ map-same (def_below (length old)) (def_of (trees_of new)) (def_of (trees_of old)) (defs_keep.same old new grown.types) c.in_ok-defs.defs.defs c.in_ok-defs.ensures.inside
    ∙ c.in_ok-defs.ensures.defs
    ∙ ap (λ p. map (def_named strings p) (defs_in rules)) c.in_ok-paths.ensures.defs

pub returns-clause-outsides : goal.returns-clause-outsides
returns-clause-outsides c =
    let strings = c.args.strings.now in
    let rules = rules_of c.args.items.now in
    c.in_ok-outsides.ensures.outsides
    ∙ ap (λ p. outsides_in (before_defs strings p) rules) c.in_ok-paths.ensures.defs
    ∙ outsides_same (names_of strings rules) rules

pub returns-clause-in_table : goal.returns-clause-in_table
returns-clause-in_table c =
    let old = c.read_defs.new.draft.program.types in
    let new = c.read_outsides.new.draft.program.types in
    let grown = c.in_ok-outsides.ensures.went.grown in
    let D : List Def → Type 0 = λ l. IsTrue (list_all (def_below (length new)) l) in
    let F : List Function → Type 0 = λ l. IsTrue (list_all (function_below (length new)) l) in
    record {
      defs = subst D (sym grown.defs)
          (all-weaker (def_below (length old)) (def_below (length new)) (def-more (length old) (length new) (length-extends old new grown.types)) c.in_ok-defs.defs.defs c.in_ok-defs.ensures.inside);
      outsides = c.in_ok-outsides.ensures.inside;
      functions = subst F (sym (grown.functions ∙ c.in_ok-defs.ensures.went.grown.functions ∙ c.new_draft-draft.ensures.functions)) refl;
    }
