use Rattle.std.proofs.Common.{◌≡◌, ◌++◌, map, length, get_or, option_map, ap, ap₂, sym, ◌∙◌}
use Rattle.std.proofs.lemmas.List.{length-map}
use Rattle.std.proofs.lemmas.Simd.{map-map}
use Rattle.mir_syntax.specs.Tree.{at_id, trees_of}
use Rattle.mir_syntax.proofs.Growth.{map-same, all-weaker, length-extends, at_id-extends}
use Rattle.mir_text.specs.NamedBodies.{declared_ty}
use Rattle.mir_text.specs.Naming.{locals_from}
use Rattle.mir_text.specs.PartLines.{LinedBlock}
use Rattle.mir_text.specs.NameFaults.{none_missing, blocks_in_order}
use Rattle.mir_text.specs.ReadLines.{local_lines}
use Rattle.mir_tree.specs.Bodies.{lined, lined_block}
use Rattle.mir_tree.specs.Rules.{arg_rule}
use Rattle.mir_resolve.specs.Definitions.{before_defs}
use Rattle.mir_resolve.proofs.Growing.{grown_then}
use Rattle.mir_bodies.proofs.TellsOn.{first_declared, first_inside}
use Rattle.mir_file.specs.Declarations.{declared_below, declared_as, label_in}
use Rattle.mir_file.proofs.Declaring.{declared_keep}
use Rattle.mir_file.proofs.HeadFaults.{first_lined, head_length, head_went}
use Rattle.mir_file.proofs.heads.read_head.Goals as goal

pub note_result-requires-clause-inside : goal.note_result-requires-clause-inside
note_result-requires-clause-inside c =
    first_inside (length c.read_locals.new.draft.program.types) c.in_ok-locals.locals 0 _ c.in_ok-locals.ensures.inside c.get.ensures

pub returns-clause-declared : goal.returns-clause-declared
returns-clause-declared c =
    let mid = c.read_locals.new.draft.program.types in
    let new = c.local_types.new.program.types in
    map-same (declared_below (length mid)) (declared_as (trees_of new)) (declared_as (trees_of mid)) (declared_keep.same mid new c.in_ok-types.ensures.grown.types) c.in_ok-locals.locals c.in_ok-locals.ensures.inside
    ∙ c.in_ok-locals.ensures.declared

pub returns-clause-inside : goal.returns-clause-inside
returns-clause-inside c =
    let mid = c.read_locals.new.draft.program.types in
    let new = c.local_types.new.program.types in
    all-weaker (declared_below (length mid)) (declared_below (length new)) (declared_keep.wider (length mid) (length new) (length-extends mid new c.in_ok-types.ensures.grown.types)) c.in_ok-locals.locals c.in_ok-locals.ensures.inside

pub returns-clause-types : goal.returns-clause-types
returns-clause-types c =
    let mid = c.read_locals.new.draft.program.types in
    let locals = c.in_ok-locals.locals in
    c.in_ok-types.ensures.types
    ∙ ap₂ (λ ds n. locals_from ds 0 n) (returns-clause-declared c)
    (sym (length-map locals (declared_as (trees_of mid))) ∙ ap length c.in_ok-locals.ensures.declared)

pub returns-clause-lines : goal.returns-clause-lines
returns-clause-lines c =
    let mid = c.read_locals.new.draft.program.types in
    let locals = c.in_ok-locals.locals in
    let x = c.args.function.now in
    let names = before_defs c.args.strings.now c.args.paths.now in
    let all = map (lined arg_rule) x.args.items ++ map (lined arg_rule) x.lets in
    let size : length c.as_slice-3.result.now ≡ length all =
    ap length c.as_slice-3.ensures ∙ sym (length-map locals (declared_as (trees_of mid))) ∙ ap length c.in_ok-locals.ensures.declared ∙ head_length names x in
    c.in_ok-lines.ensures ∙ ap (local_lines all 0) size

pub returns-clause-went : goal.returns-clause-went
returns-clause-went c =
    let old = c.read_noted.new.draft.program.types in
    let mid = c.read_locals.new.draft.program.types in
    let trees = trees_of mid in
    let locals = c.in_ok-locals.locals in
    let x = c.args.function.now in
    let names = before_defs c.args.strings.now c.args.paths.now in
    let all = map (lined arg_rule) x.args.items ++ map (lined arg_rule) x.lets in
    let first = c.in_ok-answer.ensures in
    let second = c.in_ok-locals.ensures in
    let size : length c.as_slice-3.result.now ≡ length all =
    ap length c.as_slice-3.ensures ∙ sym (length-map locals (declared_as trees)) ∙ ap length second.declared ∙ head_length names x in
    record {
      grown = grown_then (grown_then first.went.grown second.went.grown) c.in_ok-types.ensures.grown;
      notes = head_went names x c.args.line c.args.draft.now.notes c.read_noted.new.draft.notes c.read_locals.new.draft.notes c.note_unless.new.self c.note_unless-2.new.self c.note_places.new.notes c.note_result.new.notes
          c.none_missing.result c.are_in_order.result c.as_slice-2.result.now (option_map (at_id trees) c.get.result) (at_id trees c.in_ok-answer.answer) c.first_line-first.result
          first.went.notes second.went.notes c.note_unless.ensures c.note_unless-2.ensures c.note_places.ensures c.note_result.ensures
          (c.none_missing.ensures trees ∙ ap none_missing second.declared)
          (c.are_in_order.ensures ∙ ap (λ l. blocks_in_order (map label_in l)) c.as_slice.ensures ∙ ap blocks_in_order (sym (map-map (λ (b : LinedBlock). b.label) lined_block x.blocks)))
          c.as_slice-2.ensures
          (at_id-extends old mid c.in_ok-answer.answer second.went.grown.types first.inside ∙ first.stands)
          (ap (option_map (at_id trees)) c.get.ensures ∙ first_declared trees locals 0 ∙ ap (λ ds. declared_ty ds 0) second.declared)
          (c.first_line-first.ensures ∙ ap (λ l. get_or l 0 0) (c.as_slice-4.ensures ∙ c.in_ok-lines.ensures ∙ ap (local_lines all 0) size) ∙ first_lined all);
    }
