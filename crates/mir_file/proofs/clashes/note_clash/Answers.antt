use Rattle.std.proofs.Common.{not, ◌∙◌, ap}
use Rattle.mir_text.specs.NameFaults.{on_line, unless}
use Rattle.mir_resolve.specs.Faults.{noted}
use Rattle.mir_file.proofs.Clashing.{meets_enum, saw_enum}
use Rattle.mir_file.proofs.clashes.note_clash.Goals as goal

pub returns-in_ok-taken-in-Enum-clause-notes : goal.returns-in_ok-taken-in-Enum-clause-notes
returns-in_ok-taken-in-Enum-clause-notes c =
    rw c.in-Enum.is
    (c.note_unless-in-Enum.ensures
    ∙ ap (λ b. noted c.args.notes.now (on_line c.args.line (unless (not b) 10)))
    (c.in_ok-taken-in-Enum.ensures.taken
    ∙ meets_enum c.args.strings.now c.args.line c.in-Enum.path c.in-Enum.variants c.args.seen.now c.put_path-in-Enum.new.buffer c.as_slice-in-Enum.result.now
    c.in_ok-put_path-in-Enum.ensures c.as_slice-in-Enum.ensures))

pub returns-in_ok-taken-in-Enum-clause-saw : goal.returns-in_ok-taken-in-Enum-clause-saw
returns-in_ok-taken-in-Enum-clause-saw c =
    let is = c.in_ok-taken-in-Enum.ensures in
    rw c.in-Enum.is
    (saw_enum c.args.strings.now c.args.line c.in-Enum.path c.in-Enum.variants c.args.seen.now c.see_enum.new.seen c.put_path-in-Enum.new.buffer c.as_slice-in-Enum.result.now
    c.in_ok-put_path-in-Enum.ensures c.as_slice-in-Enum.ensures is.types is.functions is.structs is.variants)
