use Rattle.std.proofs.Common.{IsTrue, sym, ap, subst, ◌∙◌}
use Rattle.mir_syntax.specs.Crate.{Crate}
use Rattle.mir_rules.specs.Formed.{is_formed}
use Rattle.mir_rules.specs.Faults.{lines_fit, first_rule}
use Rattle.mir_validate.specs.Complete.{mutable}
use Rattle.mir_validate.proofs.Completing.{grown_on, has_on, same_crate, ids_stay, kept_drops}
use Rattle.mir_validate.proofs.judge.judge.Goals as goal

pub drop_facts-requires-clause-ids : goal.drop_facts-requires-clause-ids
drop_facts-requires-clause-ids c = ids_stay c.args.program.now c.complete_types.new.program c.in_ok-complete_types.ensures.grown c.requires.ids

pub new-requires : goal.new-requires
new-requires c = record { ids = ids_stay c.args.program.now c.complete_types.new.program c.in_ok-complete_types.ensures.grown c.requires.ids }

pub first_rule-requires-clause-ids : goal.first_rule-requires-clause-ids
first_rule-requires-clause-ids c =
    let kept = kept_drops c.complete_types.new.program c.keep_drops.new.self c.keep_drops.ensures.defs c.keep_drops.ensures.outsides c.keep_drops.ensures.functions c.keep_drops.ensures.types in
    ids_stay c.args.program.now c.keep_drops.new.self (grown_on c.args.program.now c.complete_types.new.program c.keep_drops.new.self c.in_ok-complete_types.ensures.grown kept) c.requires.ids

pub first_rule-requires-clause-formed : goal.first_rule-requires-clause-formed
first_rule-requires-clause-formed c =
    let kept = kept_drops c.complete_types.new.program c.keep_drops.new.self c.keep_drops.ensures.defs c.keep_drops.ensures.outsides c.keep_drops.ensures.functions c.keep_drops.ensures.types in
    let same = same_crate c.args.program.now c.keep_drops.new.self (grown_on c.args.program.now c.complete_types.new.program c.keep_drops.new.self c.in_ok-complete_types.ensures.grown kept) c.requires.ids in
    subst (λ (C : Crate). IsTrue (is_formed C)) (sym same) c.requires.formed

pub first_rule-requires-clause-fit : goal.first_rule-requires-clause-fit
first_rule-requires-clause-fit c =
    let kept = kept_drops c.complete_types.new.program c.keep_drops.new.self c.keep_drops.ensures.defs c.keep_drops.ensures.outsides c.keep_drops.ensures.functions c.keep_drops.ensures.types in
    let same = same_crate c.args.program.now c.keep_drops.new.self (grown_on c.args.program.now c.complete_types.new.program c.keep_drops.new.self c.in_ok-complete_types.ensures.grown kept) c.requires.ids in
    subst (λ (C : Crate). IsTrue (lines_fit c.args.lines.now C)) (sym same) c.requires.fit

pub returns-clause-first : goal.returns-clause-first
returns-clause-first c =
    let kept = kept_drops c.complete_types.new.program c.keep_drops.new.self c.keep_drops.ensures.defs c.keep_drops.ensures.outsides c.keep_drops.ensures.functions c.keep_drops.ensures.types in
    let same = same_crate c.args.program.now c.keep_drops.new.self (grown_on c.args.program.now c.complete_types.new.program c.keep_drops.new.self c.in_ok-complete_types.ensures.grown kept) c.requires.ids in
    c.in_ok-broken.ensures ∙ ap (first_rule c.args.lines.now) same

pub returns-clause-references : goal.returns-clause-references
returns-clause-references c = λ k below.
    let kept = kept_drops c.complete_types.new.program c.keep_drops.new.self c.keep_drops.ensures.defs c.keep_drops.ensures.outsides c.keep_drops.ensures.functions c.keep_drops.ensures.types in
    has_on c.complete_types.new.program.types c.keep_drops.new.self.types (mutable k) kept.types (c.in_ok-complete_types.ensures.references k below)
