use Rattle.std.proofs.Common.{◌∙◌, sym}
use Rattle.mir_syntax.specs.Tree.{trees_of}
use Rattle.mir_meaning.specs.Programs.{shapes_in}
use Rattle.mir_entry.proofs.Referring.{any_on, any_stop, any_end}
use Rattle.mir_entry.proofs.refers.types_refer_any.Goals as goal

pub returns-then-holds_reference : goal.returns-then-holds_reference
returns-then-holds_reference c =
    any_stop (shapes_in c.args.program.now) (trees_of c.args.program.now.types) c.args.types.now c.loop-ty.ty-index (record { 0 = 0 }) c.loop-ty-test.true (sym c.holds_reference.ensures ∙ c.if-holds_reference.true) ∙ sym c.loop-ty.invariant

pub loop-ty-preserved : goal.loop-ty-preserved
loop-ty-preserved c =
    c.loop-ty.invariant ∙ any_on (shapes_in c.args.program.now) (trees_of c.args.program.now.types) c.args.types.now c.loop-ty.ty-index (record { 0 = 0 }) c.loop-ty-test.true (sym c.holds_reference.ensures ∙ c.if-holds_reference.false)

pub returns : goal.returns
returns c = any_end (shapes_in c.args.program.now) (trees_of c.args.program.now.types) c.args.types.now c.loop-ty.ty-index c.loop-ty-test.false ∙ sym c.loop-ty.invariant
