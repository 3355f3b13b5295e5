use Rattle.mir_syntax.specs.Crate.{def_of}
use Rattle.mir_syntax.specs.Ids.{def_below}
use Rattle.mir_resolve.proofs.PartNotes.{nothing_went}
use Rattle.mir_file.proofs.Steps.{defs_keep, one_more, more_inside}
use Rattle.mir_file.proofs.defs.read_def.Goals as goal

pub returns-in_ok-push-in-Struct-clause-defs : goal.returns-in_ok-push-in-Struct-clause-defs
returns-in_ok-push-in-Struct-clause-defs c =
    let is = c.in_ok-def-in-Struct.ensures in
    rw c.in-Struct.is (one_more def_of def_below defs_keep c.args.draft.now.program.types c.read_struct.new.draft.program.types is.went.grown.types
    c.args.found.now.defs c.push.new.self.defs c.in_ok-def-in-Struct.def _ c.requires c.in_ok-push-in-Struct.ensures.defs is.def)

pub returns-in_ok-push-in-Struct-clause-inside : goal.returns-in_ok-push-in-Struct-clause-inside
returns-in_ok-push-in-Struct-clause-inside c =
    let is = c.in_ok-def-in-Struct.ensures in
    more_inside def_of def_below defs_keep c.args.draft.now.program.types c.read_struct.new.draft.program.types is.went.grown.types
    c.args.found.now.defs c.push.new.self.defs c.in_ok-def-in-Struct.def c.requires c.in_ok-push-in-Struct.ensures.defs is.inside

pub returns-in_ok-push-in-Enum-clause-defs : goal.returns-in_ok-push-in-Enum-clause-defs
returns-in_ok-push-in-Enum-clause-defs c =
    let is = c.in_ok-def-in-Enum.ensures in
    rw c.in-Enum.is (one_more def_of def_below defs_keep c.args.draft.now.program.types c.read_enum.new.draft.program.types is.went.grown.types
    c.args.found.now.defs c.push-in-Enum.new.self.defs c.in_ok-def-in-Enum.def _ c.requires c.in_ok-push-in-Enum.ensures.defs is.def)

pub returns-in_ok-push-in-Enum-clause-inside : goal.returns-in_ok-push-in-Enum-clause-inside
returns-in_ok-push-in-Enum-clause-inside c =
    let is = c.in_ok-def-in-Enum.ensures in
    more_inside def_of def_below defs_keep c.args.draft.now.program.types c.read_enum.new.draft.program.types is.went.grown.types
    c.args.found.now.defs c.push-in-Enum.new.self.defs c.in_ok-def-in-Enum.def c.requires c.in_ok-push-in-Enum.ensures.defs is.inside

pub returns-in-Extern-clause-went : goal.returns-in-Extern-clause-went
returns-in-Extern-clause-went c = rw c.in-Extern.is (nothing_went c.args.draft.now c.args.line)

pub returns-in-Function-clause-went : goal.returns-in-Function-clause-went
returns-in-Function-clause-went c = rw c.in-Function.is (nothing_went c.args.draft.now c.args.line)
