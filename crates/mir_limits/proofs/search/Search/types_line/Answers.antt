use Rattle.std.proofs.Common.{ap₂, ◌∙◌}
use Rattle.mir_syntax.specs.Crate.{crate_of}
use Rattle.mir_syntax.specs.Shapes.{shapes_of}
use Rattle.mir_rules.specs.Broken.{gather}
use Rattle.mir_rules.specs.Faults.{by_code}
use Rattle.mir_rules.specs.Limits.{definition_passed, outside_passed, locals_passed, types_passed}
use Rattle.mir_limits.specs.Answer.{either}
use Rattle.mir_limits.proofs.Gathered.{three_walks}
use Rattle.mir_limits.proofs.search.Search.types_line.Goals as goal

pub returns : goal.returns
unfolding types_passed
returns c =
    let s = c.args.self.now in
    let C = crate_of s.program.now in
    let D = shapes_of C in
    let defs = gather (definition_passed D) 0 C.defs in
    let outsides = gather (outside_passed D) 0 C.outsides in
    let locals = gather (locals_passed D) 0 C.functions in
    c.earlier.ensures 3 ∙ (ap₂ either (c.earlier-signatures.ensures 3 ∙ ap₂ either c.definitions_line.ensures c.outsides_line.ensures) c.locals_line.ensures ∙ three_walks (by_code s.lines.now) defs outsides locals)
