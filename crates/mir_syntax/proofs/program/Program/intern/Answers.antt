use Rattle.std.proofs.Common.{rules, refl}
use Rattle.mir_syntax.specs.declared.program.Program.{Program}
use Rattle.mir_syntax.specs.Table.{IsTable}
use Rattle.mir_syntax.proofs.Growth.{Grows-Extends, at_id-extends, at_id-grown, crate_of-extends, IdsInTable-extends}
use Rattle.mir_syntax.proofs.program.Program.intern.Goals as goal
use Rattle.std.proofs.lemmas.Option.{slice_get_within}

pub returns-clause-stands : goal.returns-clause-stands
returns-clause-stands c =
    let old = c.args.self.now.types in
    let table : IsTable c.place.new.self = search rules in
    at_id-grown old c.place.new.self _ c.args.ty table (Grows-Extends old c.place.new.self c.args.ty c.place.ensures.types) c.requires.made c.in_ok-place.ensures.found

pub returns-clause-kept : goal.returns-clause-kept
returns-clause-kept c = λ id h. at_id-extends c.args.self.now.types c.place.new.self id (Grows-Extends c.args.self.now.types c.place.new.self c.args.ty c.place.ensures.types) h

pub returns-clause-within : goal.returns-clause-within
returns-clause-within c = slice_get_within c.place.new.self c.in_ok-place.field-0 c.args.ty c.in_ok-place.ensures.found

pub returns-clause-same_crate : goal.returns-clause-same_crate
returns-clause-same_crate c = λ h.
    let old = c.args.self.now in
    let table : IsTable c.place.new.self = search rules in
    let new : Program = record { defs = old.defs; outsides = old.outsides; functions = old.functions; types = c.place.new.self; drops = old.drops; table = table } in
    crate_of-extends old new (Grows-Extends c.args.self.now.types c.place.new.self c.args.ty c.place.ensures.types) refl refl refl h

pub returns-clause-in_table : goal.returns-clause-in_table
returns-clause-in_table c = λ h.
    IdsInTable-extends c.args.self.now _ (Grows-Extends c.args.self.now.types c.place.new.self c.args.ty c.place.ensures.types) refl refl refl h
