use Rattle.std.proofs.Common.{◌∙◌, ap, slice_get}
use Rattle.inline_pass.specs.Takes.{taken_in}
use Rattle.inline_pass.proofs.equal.Step.{none_is, large_is, few_blocks, few_locals, few_args, done_is, done_grows, done_caller}
use Rattle.inline_pass.proofs.splice.inline_at.Goals as goal

pub returns-in_default-clause-body : goal.returns-in_default-clause-body
returns-in_default-clause-body g c = none_is c.args.program.now (taken_in c.args.program.now c.args.large (g.C.CalleeBodies.lent c.args.bodies.now) (g.C.CalleeBodies.qualifies c.args.bodies.now)) c.args.caller.now c.args.block c.requires.caller c.requires.block c.callee_at.result c.in_default.is (λ k at. c.callee_at.ensures.taken k (ap (λ ks. slice_get ks c.args.block) c.as_slice-blocks.ensures ∙ at))

pub returns-in_default-room-clause-body : goal.returns-in_default-room-clause-body
returns-in_default-room-clause-body g c = large_is c.args.program.now (taken_in c.args.program.now c.args.large (g.C.CalleeBodies.lent c.args.bodies.now) (g.C.CalleeBodies.qualifies c.args.bodies.now)) c.args.caller.now c.args.block c.requires.caller c.requires.block c.in-Some.callee.now c.in-Some.ensures.inlinable (λ k at. c.in-Some.ensures.taken k (ap (λ ks. slice_get ks c.args.block) c.as_slice-blocks.ensures ∙ at)) c.room.result c.in_default-room.is c.room.ensures

pub replace-requires-clause-few_blocks : goal.replace-requires-clause-few_blocks
replace-requires-clause-few_blocks g c = few_blocks c.args.program.now (taken_in c.args.program.now c.args.large (g.C.CalleeBodies.lent c.args.bodies.now) (g.C.CalleeBodies.qualifies c.args.bodies.now)) c.args.caller.now c.args.block c.requires.caller c.requires.block c.in-Some.callee.now c.in-Some.ensures.inlinable (λ k at. c.in-Some.ensures.taken k (ap (λ ks. slice_get ks c.args.block) c.as_slice-blocks.ensures ∙ at)) c.in-Some-room.stmts c.in-Some-room.ensures

pub replace-requires-clause-few_locals : goal.replace-requires-clause-few_locals
replace-requires-clause-few_locals g c = few_locals c.args.program.now (taken_in c.args.program.now c.args.large (g.C.CalleeBodies.lent c.args.bodies.now) (g.C.CalleeBodies.qualifies c.args.bodies.now)) c.args.caller.now c.args.block c.requires.caller c.requires.block c.in-Some.callee.now c.in-Some.ensures.inlinable (λ k at. c.in-Some.ensures.taken k (ap (λ ks. slice_get ks c.args.block) c.as_slice-blocks.ensures ∙ at)) c.in-Some-room.stmts c.in-Some-room.ensures

pub replace-requires-clause-few_args : goal.replace-requires-clause-few_args
replace-requires-clause-few_args g c = few_args c.args.program.now (taken_in c.args.program.now c.args.large (g.C.CalleeBodies.lent c.args.bodies.now) (g.C.CalleeBodies.qualifies c.args.bodies.now)) c.args.caller.now c.args.block c.requires.caller c.requires.block c.in-Some.callee.now c.in-Some.ensures.inlinable (λ k at. c.in-Some.ensures.taken k (ap (λ ks. slice_get ks c.args.block) c.as_slice-blocks.ensures ∙ at)) c.in-Some-room.stmts c.in-Some-room.ensures

pub returns-clause-body : goal.returns-clause-body
returns-clause-body g c = done_is c.args.program.now (taken_in c.args.program.now c.args.large (g.C.CalleeBodies.lent c.args.bodies.now) (g.C.CalleeBodies.qualifies c.args.bodies.now)) c.args.caller.now c.args.block c.requires.caller c.requires.block c.in-Some.callee.now c.in-Some.ensures.inlinable (λ k at. c.in-Some.ensures.taken k (ap (λ ks. slice_get ks c.args.block) c.as_slice-blocks.ensures ∙ at)) c.in-Some-room.stmts c.in-Some-room.ensures c.replace.new.body c.in_ok-replace.ensures.body

pub returns-clause-caller : goal.returns-clause-caller
returns-clause-caller g c = done_caller c.args.program.now (taken_in c.args.program.now c.args.large (g.C.CalleeBodies.lent c.args.bodies.now) (g.C.CalleeBodies.qualifies c.args.bodies.now)) c.args.caller.now c.args.block c.requires.caller c.requires.block c.in-Some.callee.now c.in-Some.ensures.inlinable (λ k at. c.in-Some.ensures.taken k (ap (λ ks. slice_get ks c.args.block) c.as_slice-blocks.ensures ∙ at)) c.in-Some-room.stmts c.in-Some-room.ensures c.replace.new.body c.in_ok-replace.ensures.body c.in_ok-replace.ensures.in_table

pub returns-clause-grows : goal.returns-clause-grows
returns-clause-grows g c = done_grows c.args.program.now (taken_in c.args.program.now c.args.large (g.C.CalleeBodies.lent c.args.bodies.now) (g.C.CalleeBodies.qualifies c.args.bodies.now)) c.args.caller.now c.args.block c.requires.caller c.requires.block c.in-Some.callee.now c.in-Some.ensures.inlinable (λ k at. c.in-Some.ensures.taken k (ap (λ ks. slice_get ks c.args.block) c.as_slice-blocks.ensures ∙ at)) c.in-Some-room.stmts c.in-Some-room.ensures c.replace.new.body c.in_ok-replace.ensures.body
