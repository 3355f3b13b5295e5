use Rattle.std.proofs.Common.{◌<◌, List, Option, sym, subst, length, ◌+◌, arith}
use Rattle.bit_rows.specs.Rows.{row_at}
use Rattle.mir_syntax.specs.declared.types.TyId.{TyId}
use Rattle.mir_syntax.proofs.Lists.{id_below}
use Rattle.sroa_pass.specs.declared.parts.Parts.{Parts}
use Rattle.sroa_pass.proofs.equal.Chosen.{Going, going_none, more, same_id, all_tried}
use Rattle.sroa_pass.proofs.chosen.split_locals.Goals as goal

pub loop-local-init : goal.loop-local-init
loop-local-init c = subst (λ (t : List (Option Parts)). Going c.args.program.now c.args.args (row_at c.args.held.now 0) c.args.locals.now c.args.locals.now t 0) (sym c.in_ok-table.ensures) (going_none c.args.program.now c.args.args (row_at c.args.held.now 0) c.args.locals.now c.requires.few)

pub split_local-requires-clause-in_table : goal.split_local-requires-clause-in_table
split_local-requires-clause-in_table c =
    let n = length c.args.program.now.types in
    let old = c.args.locals.now in
    let i = c.loop-local.local in
    let l : i < length old = omega arith in
    let same = same_id c.args.program.now c.args.args (row_at c.args.held.now 0) old c.loop-local.locals c.loop-local.locals c.loop-local.table i l c.loop-local.invariant in
    subst (λ (id : TyId). id.0 < n) (sym same) (id_below n old i (record { 0 = 0 }) c.requires.in_table l)

pub loop-local-preserved : goal.loop-local-preserved
loop-local-preserved c =
    let p = c.args.program.now in
    let held = row_at c.args.held.now 0 in
    let old = c.args.locals.now in
    let i = c.loop-local.local in
    let next = c.split_local.new.locals in
    let few = c.requires.few in
    subst (λ (t : List (Option Parts)). Going p c.args.args held old next t (i + 1)) (sym c.in_ok-push.ensures.ok)
    (more p c.args.args held old c.loop-local.locals next c.loop-local.table i (omega arith) c.loop-local.invariant c.in_ok-split_local.field-0 (omega (arith, few)) c.requires.ids c.requires.in_table c.in_ok-split_local.ensures)

pub returns : goal.returns
returns c = all_tried c.args.program.now c.args.args (row_at c.args.held.now 0) c.args.locals.now c.loop-local.locals c.loop-local.table c.loop-local.local (omega arith) c.loop-local.invariant
