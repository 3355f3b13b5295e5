use Rattle.std.proofs.Common.{map, sum_by}
use Rattle.mir_syntax.specs.Tree.{trees_of}
use Rattle.mir_syntax.specs.Crate.{crate_of, variant_of}
use Rattle.mir_syntax.specs.Shapes.{shapes_of, fields_tuple}
use Rattle.type_sizes.specs.Measures.{variant_size, enum_size}
use Rattle.type_sizes.proofs.sizing.Sizing.def_size.Goals as goal

pub returns-then-def-clause-tells : goal.returns-then-def-clause-tells
returns-then-def-clause-tells c = λ g t.
    let p = c.args.self.now.program.now in
    let m = c.args.self.now.measure in
    let n = sum_by (variant_size (shapes_of (crate_of p)) m g) (map fields_tuple (map (variant_of (trees_of p.types)) c.args.def.now.variants)) in
    rw c.if-def.true (c.with_destructor.ensures.tells (enum_size m c.args.needs n) (c.enum_size-inside.ensures.tells n (rw c.as_slice-variants.ensures at (c.variants_size.ensures.tells g t))))
