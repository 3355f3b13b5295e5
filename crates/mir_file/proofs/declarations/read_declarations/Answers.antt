use Rattle.std.proofs.Common.{◌≡◌, ◌∷◌, [], ◌∙◌, ◌++◌, map, ap, refl, sym}
use Rattle.mir_syntax.specs.Tree.{trees_of}
use Rattle.mir_text.specs.Naming.{declares}
use Rattle.mir_text.specs.NameFaults.{on_line}
use Rattle.mir_tree.specs.Bodies.{lined}
use Rattle.mir_tree.specs.Rules.{arg_rule, part_arg}
use Rattle.mir_resolve.specs.Faults.{noted}
use Rattle.mir_resolve.specs.Definitions.{before_defs}
use Rattle.mir_resolve.proofs.Growing.{grown_then}
use Rattle.mir_resolve.proofs.Making.{later_of, first_left}
use Rattle.mir_bodies.specs.Locals.{declared_in}
use Rattle.mir_file.specs.Declarations.{declaration_codes, declarations_faults}
use Rattle.mir_file.proofs.Steps.{append_step, append_ended, faults_step, faults_ended}
use Rattle.mir_file.proofs.declarations.read_declarations.Goals as goal

pub texts-preserved : goal.texts-preserved
texts-preserved c =
    let left = c.texts.left.now in
    let item = c.text-item.result in
    let later = later_of left in
    let first : left ≡ item ∷ later = first_left left item c.in-len1-up.len_at_least c.text-item.is in
    let names = before_defs c.args.strings.now c.args.paths.now in
    let old = declared_in (trees_of c.texts.draft.program.types) c.texts.locals in
    let is = c.in_ok-locals.ensures in
    let a = arg_rule item.part in
    record {
      told = append_step old _ (declares names a ∷ []) (map (λ x. declares names (part_arg x)) later) _ is.declared
          (ap (λ l. old ++ map (λ x. declares names (part_arg x)) l) (sym first) ∙ c.texts.invariant.told);
      notes = ap (λ b. noted c.read_declaration.new.draft.notes (declarations_faults names b (map (lined arg_rule) later))) is.declared
          ∙ faults_step c.texts.draft.notes c.read_declaration.new.draft.notes _ (on_line item.line (declaration_codes names old a)) (declarations_faults names (old ++ declares names a ∷ []) (map (lined arg_rule) later)) is.went.notes
          (ap (λ l. noted c.texts.draft.notes (declarations_faults names old (map (lined arg_rule) l))) (sym first) ∙ c.texts.invariant.notes);
      inside = is.inside;
      grown = grown_then c.texts.invariant.grown is.went.grown;
    }

pub returns-clause-declared : goal.returns-clause-declared
returns-clause-declared c =
    let names = before_defs c.args.strings.now c.args.paths.now in
    append_ended (map (λ x. declares names (part_arg x))) c.texts.left.now _ _ c.in_default.len_below refl c.texts.invariant.told

pub returns-clause-went : goal.returns-clause-went
returns-clause-went c =
    let names = before_defs c.args.strings.now c.args.paths.now in
    let all = declared_in (trees_of c.texts.draft.program.types) c.texts.locals in
    record {
      grown = c.texts.invariant.grown;
      notes = faults_ended (λ l. declarations_faults names all (map (lined arg_rule) l)) c.texts.left.now c.texts.draft.notes _ c.in_default.len_below refl c.texts.invariant.notes;
    }
