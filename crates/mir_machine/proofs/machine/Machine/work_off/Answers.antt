use Rattle.std.proofs.Common.{◌∙◌, sym, ap}
use Rattle.mir_meaning.specs.Views.{part_of}
use Rattle.mir_meaning.proofs.Binds.{gives_same}
use Rattle.mir_machine.specs.Seen.{code_in, dropping_in, visit_in, items_in, state_in}
use Rattle.mir_machine.proofs.Visiting.{item_first}
use Rattle.mir_machine.proofs.DropsOn.{off_nothing, off_plain, off_nowhere, off_hole, off_visit}
use Rattle.mir_machine.proofs.machine.Machine.work_off.Goals as goal

pub returns-in_default-clause-goes : goal.returns-in_default-clause-goes
returns-in_default-clause-goes c = off_nothing (code_in c.args.program.now) (state_in c.args.program.now c.args.self.now) (dropping_in c.args.program.now c.args.dropping) (items_in c.args.program.now c.args.dropping.items) (ap (items_in c.args.program.now) c.in_default.ensures.0)

pub returns-then-not-needs_drop-clause-goes : goal.returns-then-not-needs_drop-clause-goes
returns-then-not-needs_drop-clause-goes c = gives_same _ _ _ _ (off_plain (code_in c.args.program.now) (state_in c.args.program.now c.args.self.now) (dropping_in c.args.program.now c.args.dropping) (visit_in c.args.program.now c.in-Some.item) (items_in c.args.program.now c.pop.new.self) (items_in c.args.program.now c.args.dropping.items) c.needs_drop.result (ap (items_in c.args.program.now) c.in-Some.ensures ∙ item_first c.args.program.now c.pop.new.self c.in-Some.item) c.needs_drop.ensures c.if-not-needs_drop.true) c.work_on.ensures.goes

pub returns-in_default-behind-clause-goes : goal.returns-in_default-behind-clause-goes
returns-in_default-behind-clause-goes c = off_nowhere (code_in c.args.program.now) (state_in c.args.program.now c.args.self.now) (dropping_in c.args.program.now c.args.dropping) (visit_in c.args.program.now c.in-Some.item) (items_in c.args.program.now c.pop.new.self) (items_in c.args.program.now c.args.dropping.items) c.needs_drop.result (ap (items_in c.args.program.now) c.in-Some.ensures ∙ item_first c.args.program.now c.pop.new.self c.in-Some.item) c.needs_drop.ensures c.if-not-needs_drop.false c.in_default-behind.ensures

pub returns-then-is_hole-clause-goes : goal.returns-then-is_hole-clause-goes
returns-then-is_hole-clause-goes c =
    gives_same _ _ _ _ (off_hole (code_in c.args.program.now) (state_in c.args.program.now c.args.self.now) (dropping_in c.args.program.now c.args.dropping) (visit_in c.args.program.now c.in-Some.item) (items_in c.args.program.now c.pop.new.self) (items_in c.args.program.now c.args.dropping.items) c.needs_drop.result c.is_hole.result (part_of c.in-Some-behind.part) (ap (items_in c.args.program.now) c.in-Some.ensures ∙ item_first c.args.program.now c.pop.new.self c.in-Some.item) c.needs_drop.ensures c.if-not-needs_drop.false c.in-Some-behind.ensures c.is_hole.ensures c.if-is_hole.true) c.work_on-then-is_hole.ensures.goes

pub returns-clause-goes : goal.returns-clause-goes
returns-clause-goes c =
    gives_same _ _ _ _ (off_visit (code_in c.args.program.now) (state_in c.args.program.now c.args.self.now) (dropping_in c.args.program.now c.args.dropping) (visit_in c.args.program.now c.in-Some.item) (items_in c.args.program.now c.pop.new.self) (items_in c.args.program.now c.args.dropping.items) c.needs_drop.result c.is_hole.result (part_of c.in-Some-behind.part) (ap (items_in c.args.program.now) c.in-Some.ensures ∙ item_first c.args.program.now c.pop.new.self c.in-Some.item) c.needs_drop.ensures c.if-not-needs_drop.false c.in-Some-behind.ensures c.is_hole.ensures c.if-is_hole.false) (c.visit.ensures.goes (part_of c.in-Some-behind.part) (sym c.variant-active.ensures))
