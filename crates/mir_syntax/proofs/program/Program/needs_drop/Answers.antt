use Rattle.std.proofs.Common.{slice_index_or, false, ap, ◌∙◌, arith}
use Rattle.mir_syntax.specs.Crate.{crate_of}
use Rattle.mir_syntax.specs.Shapes.{shapes_of}
use Rattle.mir_syntax.proofs.KeptDrops.{needs-length, needs-read}
use Rattle.mir_syntax.proofs.program.Program.needs_drop.Goals as goal

pub bounds-as_slice-id : goal.bounds-as_slice-id
bounds-as_slice-id c =
    let p = c.args.self.now in
    let long = needs-length (shapes_of (crate_of p)) p.types p.drops.needs_drop c.requires.knows.needs in
    rw c.as_slice.ensures (omega (arith, long, c.requires.in_table))

pub returns : goal.returns
returns c =
    let p = c.args.self.now in
    ap (λ l. slice_index_or l c.args.id.0 false) c.as_slice.ensures
    ∙ needs-read (shapes_of (crate_of p)) p.types p.drops.needs_drop c.args.id c.requires.knows.needs c.requires.in_table
