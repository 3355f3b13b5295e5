use Rattle.std.proofs.Common.{◌≡◌, ◌∙◌, length, take, sym, ap, subst, arith}
use Rattle.std.proofs.Math.Seq.{take-length}
use Rattle.drop_tables.specs.Holders.{Looked}
use Rattle.drop_tables.proofs.Numbering.{looked_none, looked_more}
use Rattle.drop_tables.proofs.cycles.look_over.Goals as goal

pub loop-def-init : goal.loop-def-init
loop-def-init c = looked_none c.args.numbers.now c.args.held c.args.marks.now.items

pub loop-def-preserved : goal.loop-def-preserved
loop-def-preserved c =
    looked_more c.args.numbers.now c.args.held c.args.holders.now c.args.marks.now.items c.loop-def.marks.items c.look_at.new.marks.items c.loop-def.def-index 0 (omega arith) c.loop-def.invariant
    c.look_at.ensures.marks (sym c.look_at.ensures.rising ∙ c.if-not-look_at.false)

pub returns : goal.returns
returns c = λ _.
    let all : take c.loop-def.def-index c.args.holders.now ≡ c.args.holders.now = ap (λ n. take n c.args.holders.now) (let z : c.loop-def.def-index ≡ length c.args.holders.now = omega arith in z) ∙ take-length c.args.holders.now in
    subst (λ xs. Looked c.args.numbers.now c.args.held xs c.args.marks.now.items c.loop-def.marks.items) all c.loop-def.invariant
