use Rattle.mir_syntax.specs.Crate.{outside_of}
use Rattle.mir_syntax.specs.Ids.{outside_below}
use Rattle.mir_resolve.proofs.PartNotes.{nothing_went}
use Rattle.mir_file.proofs.Steps.{outsides_keep, one_more, more_inside}
use Rattle.mir_file.proofs.outsides.read_extern.Goals as goal

pub returns-in-Struct-clause-went : goal.returns-in-Struct-clause-went
returns-in-Struct-clause-went c = rw c.in-Struct.is (nothing_went c.args.draft.now c.args.line)

pub returns-in-Enum-clause-went : goal.returns-in-Enum-clause-went
returns-in-Enum-clause-went c = rw c.in-Enum.is (nothing_went c.args.draft.now c.args.line)

pub returns-in_ok-push-in-Extern-clause-outsides : goal.returns-in_ok-push-in-Extern-clause-outsides
returns-in_ok-push-in-Extern-clause-outsides c =
    let is = c.in_ok-outside-in-Extern.ensures in
    rw c.in-Extern.is (one_more outside_of outside_below outsides_keep c.args.draft.now.program.types c.read_outside.new.draft.program.types is.went.grown.types
    c.args.found.now.outsides c.push.new.self.outsides c.in_ok-outside-in-Extern.outside _ c.requires c.in_ok-push-in-Extern.ensures.outsides is.outside)

pub returns-in_ok-push-in-Extern-clause-inside : goal.returns-in_ok-push-in-Extern-clause-inside
returns-in_ok-push-in-Extern-clause-inside c =
    let is = c.in_ok-outside-in-Extern.ensures in
    more_inside outside_of outside_below outsides_keep c.args.draft.now.program.types c.read_outside.new.draft.program.types is.went.grown.types
    c.args.found.now.outsides c.push.new.self.outsides c.in_ok-outside-in-Extern.outside c.requires c.in_ok-push-in-Extern.ensures.outsides is.inside

pub returns-in-Function-clause-went : goal.returns-in-Function-clause-went
returns-in-Function-clause-went c = rw c.in-Function.is (nothing_went c.args.draft.now c.args.line)
