use Rattle.std.proofs.Common.{◌≡◌, ◌∙◌, ap}
use Rattle.mir_syntax.specs.Tree.{trees_of}
use Rattle.mir_tree.specs.Types.{type_rule}
use Rattle.mir_resolve.specs.Types.{told, read_in, stack_in, top_told}
use Rattle.mir_resolve.proofs.TypeSteps.{type_read, parts_ended}
use Rattle.mir_resolve.proofs.types.read_type.Goals as goal

pub returns-clause-stands : goal.returns-clause-stands
returns-clause-stands c =
    let strings = c.args.strings.now in
    let paths = c.args.paths.now in
    let whole : read_in (trees_of c.top.new.program.types) c.in_ok-read.read ≡ told strings paths (type_rule c.args.text.now) =
    c.in_ok-read.ensures.read
    ∙ ap top_told (parts_ended strings paths c.parts.left.now (stack_in (trees_of c.parts.program.types) c.parts.scratch.types) _ c.in_default.len_below c.parts.invariant.told)
    ∙ type_read strings paths c.args.text.now.parts in
    ap (λ q. q.0) whole

pub returns-clause-known : goal.returns-clause-known
returns-clause-known c =
    let strings = c.args.strings.now in
    let paths = c.args.paths.now in
    let whole : read_in (trees_of c.top.new.program.types) c.in_ok-read.read ≡ told strings paths (type_rule c.args.text.now) =
    c.in_ok-read.ensures.read
    ∙ ap top_told (parts_ended strings paths c.parts.left.now (stack_in (trees_of c.parts.program.types) c.parts.scratch.types) _ c.in_default.len_below c.parts.invariant.told)
    ∙ type_read strings paths c.args.text.now.parts in
    ap (λ q. q.1) whole
