use Rattle.std.proofs.Common.{◌∙◌, map, ap, sym}
use Rattle.std.specs.List.{list_all}
use Rattle.mir_text.specs.Names.{part_named}
use Rattle.mir_text.specs.NameFaults.{on_line, unless}
use Rattle.mir_tree.specs.Types.{type_rule}
use Rattle.mir_resolve.specs.Faults.{noted}
use Rattle.mir_resolve.specs.Definitions.{is_known_text}
use Rattle.mir_resolve.proofs.Listed.{types_each, known_each}
use Rattle.mir_resolve.proofs.definitions.tupled.Goals as goal

pub returns-clause-fields : goal.returns-clause-fields
returns-clause-fields c =
    let types = c.args.types.now in
    c.in_ok-fields.ensures.fields
    ∙ ap (map (λ u. part_named c.args.strings.now c.args.paths.now (type_rule u))) c.as_slice.ensures
    ∙ sym (types_each (part_named c.args.strings.now c.args.paths.now) types.items types.trailing)

pub returns-clause-went : goal.returns-clause-went
returns-clause-went c =
    let types = c.args.types.now in
    record {
      grown = c.in_ok-fields.ensures.grown;
      notes = c.note_unless.ensures
          ∙ ap (λ k. noted c.args.draft.now.notes (on_line c.args.line (unless k 12)))
          (c.in_ok-fields.ensures.known ∙ ap (list_all (is_known_text c.args.strings.now c.args.paths.now)) c.as_slice.ensures
          ∙ sym (known_each c.args.strings.now c.args.paths.now types.items types.trailing));
    }
