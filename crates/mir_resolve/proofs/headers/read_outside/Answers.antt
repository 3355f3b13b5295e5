use Rattle.std.proofs.Common.{ℕ, List, ◌∙◌, ◌++◌, map, ap, ap₂, sym}
use Rattle.std.specs.List.{list_all}
use Rattle.mir_syntax.specs.Tree.{Tree, at_id, trees_of}
use Rattle.mir_syntax.specs.Crate.{TypedOutside}
use Rattle.mir_syntax.proofs.Growth.{at_id-extends}
use Rattle.mir_text.specs.Names.{path_bytes, type_named}
use Rattle.mir_text.specs.NameFaults.{on_line, unless}
use Rattle.mir_tree.specs.Types.{path_rule, type_rule}
use Rattle.mir_resolve.specs.Faults.{noted}
use Rattle.mir_resolve.specs.Definitions.{is_known_text}
use Rattle.mir_resolve.proofs.Growing.{grown_then}
use Rattle.mir_resolve.proofs.Listed.{types_each, known_each}
use Rattle.mir_resolve.proofs.Noting.{noted_on}
use Rattle.mir_resolve.proofs.headers.read_outside.Goals as goal

pub returns-clause-outside : goal.returns-clause-outside
returns-clause-outside c =
    let strings = c.args.strings.now in
    let paths = c.args.paths.now in
    let args = c.args.args.now in
    let old = c.read_type.new.program.types in
    let new = c.read_ids.new.program.types in
    let id = c.in_ok-answer.answer.id in
    let make : List ℕ → List Tree → Tree → TypedOutside = λ path args result. record { path = path; args = args; result = result } in
    ap (λ q. make q (map (at_id (trees_of new)) c.in_ok-args.args) (at_id (trees_of new) id)) c.in_ok-path.ensures
    ∙ ap₂ (make (path_bytes strings (path_rule c.args.path.now)))
    (c.in_ok-args.ensures.ids ∙ ap (map (λ u. type_named strings paths (type_rule u))) c.as_slice.ensures ∙ sym (types_each (type_named strings paths) args.items args.trailing))
    (at_id-extends old new id c.in_ok-args.ensures.grown.types c.in_ok-answer.ensures.inside ∙ c.in_ok-answer.ensures.stands)

pub returns-clause-went : goal.returns-clause-went
returns-clause-went c =
    let strings = c.args.strings.now in
    let paths = c.args.paths.now in
    let args = c.args.args.now in
    let notes = c.args.draft.now.notes in
    let line = c.args.line in
    record {
      grown = grown_then c.in_ok-answer.ensures.grown c.in_ok-args.ensures.grown;
      notes = c.note_unless-2.ensures
          ∙ ap (λ k. noted k (on_line line (unless c.in_ok-answer.answer.known 12))) c.note_unless.ensures
          ∙ sym (noted_on notes line (unless c.in_ok-args.known 12) (unless c.in_ok-answer.answer.known 12))
          ∙ ap₂ (λ a b. noted notes (on_line line (unless a 12 ++ unless b 12)))
          (c.in_ok-args.ensures.known ∙ ap (list_all (is_known_text strings paths)) c.as_slice.ensures ∙ sym (known_each strings paths args.items args.trailing))
          c.in_ok-answer.ensures.known;
    }
