-- Addresses that writes go to.
use Rattle.std.specs.Prelude.{List}
use Rattle.mir_syntax.specs.declared.body.Proj.{Proj}
use Rattle.mir_semantics.specs.Values.{Addr}
use Rattle.mir_meaning.specs.declared.target.Path.{Path}
use Rattle.mir_meaning.specs.declared.target.Path.TheVariants.{Given, Made}
use Rattle.mir_meaning.specs.declared.target.Target.{Target}
use Rattle.mir_meaning.specs.Views.{address}

abbrev pub path_in : Path → List Proj
path_in (Given path) = path.now
path_in (Made path) = path

abbrev pub target_of : Target → Addr
target_of t = address t.frame t.local (path_in t.path)
