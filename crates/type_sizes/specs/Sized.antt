-- What is known of the sizes of a program's types.
use Rattle.std.specs.Prelude.{◌≡◌, length}
use Rattle.mir_syntax.specs.declared.program.Program.{Program}
use Rattle.mir_syntax.specs.Tree.{trees_of}
use Rattle.mir_syntax.specs.Crate.{crate_of}
use Rattle.mir_syntax.specs.Shapes.{shapes_of}
use Rattle.type_sizes.specs.declared.measure.Measure.{Measure}
use Rattle.type_sizes.specs.declared.measure.Measure.TheVariants.{Nodes, Units, Inside}
use Rattle.type_sizes.specs.declared.weights.Measured.{Measured}
use Rattle.type_sizes.specs.declared.weights.Sizes.{Sizes}
use Rattle.type_sizes.specs.Measures.{level, Told, TypesTold}

-- of each definition and of each type of the table it is told what is measured
pub record IsMeasured (p : Program) (m : Measure) (x : Measured) : Type 0 where
  pub defs : Told m x.defs (level (shapes_of (crate_of p)) m (length p.defs))
  pub types : TypesTold (shapes_of (crate_of p)) (trees_of p.types) m x.types (level (shapes_of (crate_of p)) m (length p.defs))
  pub long : length x.types ≡ length p.types

pub record IsSized (p : Program) (s : Sizes) : Type 0 where
  pub nodes : IsMeasured p Nodes s.nodes
  pub units : IsMeasured p Units s.units
  pub inside : IsMeasured p Inside s.inside
