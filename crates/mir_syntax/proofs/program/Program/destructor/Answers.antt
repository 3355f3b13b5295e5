use Rattle.std.proofs.Common.{◌≡◌, ◌∙◌, ap, rules, slice_get, Some, None}
use Rattle.std.specs.Option.{option_map}
use Rattle.mir_syntax.specs.Crate.{crate_of}
use Rattle.mir_syntax.specs.Drops.{fn_number}
use Rattle.mir_syntax.specs.Shapes.{shapes_of}
use Rattle.mir_syntax.specs.Tree.{at_id, named, trees_of}
use Rattle.mir_syntax.proofs.KeptDrops.{destructor-read, destructor-past, destructor-none}
use Rattle.mir_syntax.proofs.program.Program.destructor.Goals as goal

pub returns-in_err-get-in-Named : goal.returns-in_err-get-in-Named
returns-in_err-get-in-Named c =
    let p = c.args.self.now in
    let past : slice_get p.drops.destructors c.in-Named.def ≡ None = search rules in
    let is : at_id (trees_of p.types) c.args.id ≡ named c.in-Named.def = search rules in
    ap (option_map fn_number) c.from_residual.ensures
    ∙ destructor-past (shapes_of (crate_of p)) p.drops.destructors (at_id (trees_of p.types) c.args.id) c.in-Named.def c.requires.knows.destructors is past

pub returns-in_ok-get-in-Named : goal.returns-in_ok-get-in-Named
returns-in_ok-get-in-Named c =
    let p = c.args.self.now in
    let there : slice_get p.drops.destructors c.in-Named.def ≡ Some c.in_ok-get-in-Named.field-0.now = search rules in
    let is : at_id (trees_of p.types) c.args.id ≡ named c.in-Named.def = search rules in
    destructor-read (shapes_of (crate_of p)) p.drops.destructors (at_id (trees_of p.types) c.args.id) c.in-Named.def c.in_ok-get-in-Named.field-0.now c.requires.knows.destructors is there

pub returns-in_default : goal.returns-in_default
returns-in_default c =
    let p = c.args.self.now in
    destructor-none (shapes_of (crate_of p)) (trees_of p.types) (at_id (trees_of p.types) c.args.id) c.ty.result.now (λ d is. c.in_default.not-Named d is) c.ty.ensures.stands
