use Rattle.std.proofs.Common.{[], ◌∙◌, ◌++◌, map, ap, ap₂, sym}
use Rattle.mir_syntax.specs.Tree.{trees_of}
use Rattle.mir_text.specs.Naming.{declares}
use Rattle.mir_tree.specs.Bodies.{lined}
use Rattle.mir_tree.specs.Rules.{arg_rule, part_arg}
use Rattle.mir_resolve.specs.Faults.{noted}
use Rattle.mir_resolve.specs.Definitions.{before_defs}
use Rattle.mir_bodies.specs.Locals.{declared_in}
use Rattle.mir_file.specs.Declarations.{declarations_faults}
use Rattle.mir_file.proofs.Declaring.{head_declared, declared_lined, noticed_then, declarations_append}
use Rattle.mir_file.proofs.declarations.read_locals.Goals as goal

pub returns-clause-declared : goal.returns-clause-declared
returns-clause-declared c =
    let names = before_defs c.args.strings.now c.args.paths.now in
    let x = c.args.function.now in
    let old = c.args.draft.now.program.types in
    c.in_ok-locals.ensures.declared
    ∙ ap₂ (λ a b. a ++ map (λ p. declares names (part_arg p)) b)
    (c.in_ok-args.ensures.declared ∙ ap₂ (λ n b. declared_in (trees_of old) n ++ map (λ p. declares names (part_arg p)) b) c.new-none.ensures c.as_slice.ensures)
    c.as_slice-2.ensures
    ∙ sym (head_declared names x)

pub returns-clause-went : goal.returns-clause-went
returns-clause-went c =
    let names = before_defs c.args.strings.now c.args.paths.now in
    let x = c.args.function.now in
    let args = map (lined arg_rule) x.args.items in
    let lets = map (lined arg_rule) x.lets in
    let old = c.args.draft.now in
    let mid = c.read_declarations.new.draft in
    let first = c.in_ok-args.ensures in
    let second = c.in_ok-locals.ensures in
    let is = ap₂ (λ n b. declared_in (trees_of old.program.types) n ++ map (λ p. declares names (part_arg p)) b) c.new-none.ensures c.as_slice.ensures in
    let both = noticed_then old mid c.read_declarations-2.new.draft _ _ first.went second.went in
    record {
      grown = both.grown;
      notes = both.notes
          ∙ ap (noted old.notes)
          (ap₂ (λ n b. declarations_faults names (declared_in (trees_of old.program.types) n) (map (lined arg_rule) b) ++ declarations_faults names (declared_in (trees_of mid.program.types) c.in_ok-args.args) (map (lined arg_rule) c.as_slice-2.result.now)) c.new-none.ensures c.as_slice.ensures
          ∙ ap₂ (λ d b. declarations_faults names [] args ++ declarations_faults names d (map (lined arg_rule) b)) (first.declared ∙ is ∙ sym (declared_lined names x.args.items)) c.as_slice-2.ensures
          ∙ sym (declarations_append names [] args lets));
    }
