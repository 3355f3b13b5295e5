use Rattle.std.proofs.Common.{◌≡◌, ◌∙◌, ◌++◌, Some, length, slice_get, refl, sym, ap, arith}
use Rattle.std.specs.List.{flat_map}
use Rattle.std.proofs.lemmas.Option.{slice_get_read}
use Rattle.drop_tables.specs.Marks.{ids_of}
use Rattle.drop_tables.proofs.Noting.{gathered_more, gathered_all}
use Rattle.drop_tables.proofs.holders.holders_of.Goals as goal

pub loop-from-preserved : goal.loop-from-preserved
loop-from-preserved c =
    let p = c.args.program.now in
    let slice = c.as_slice-defs.result.now in
    let def = c.index-defs-from.result in
    let at = c.loop-from.from in
    let there : slice_get p.defs at ≡ Some def = ap (λ l. slice_get l at) (sym c.as_slice-defs.ensures) ∙ slice_get_read slice (length slice) at def refl (omega arith) c.index-defs-from.is in
    let ids : c.push_all_types.new.ids.items ≡ flat_map ids_of def.variants = c.in_ok-push_all_types.ensures ∙ ap (λ l. l ++ flat_map ids_of def.variants) c.loop-from.invariant.0 in (
      c.in_ok-note_all.ensures.none,
      gathered_more p c.loop-from.lists.items c.note_all.new.holders.items c.push_all_types.new.ids.items at def c.loop-from.invariant.1 there ids c.in_ok-note_all.ensures.noted,
    )

pub returns-clause-holders : goal.returns-clause-holders
returns-clause-holders c =
    let p = c.args.program.now in
    let all : c.loop-from.from ≡ length p.defs = omega (arith, ap length c.as_slice-defs.ensures) in
    rw c.from_vec.ensures (gathered_all p c.loop-from.lists.items c.loop-from.from all c.loop-from.invariant.1)
