-- What a program keeps of its drops: which of its types need drop, and which function is the destructor of each definition.
use Rattle.std.specs.Prelude.{◌≡◌, ℕ, map, Option, option_map}
use Rattle.mir_syntax.specs.declared.types.FnId.{FnId}
use Rattle.mir_syntax.specs.declared.program.Program.{Program}
use Rattle.mir_syntax.specs.Tree.{trees_of}
use Rattle.mir_syntax.specs.Crate.{crate_of}
use Rattle.mir_syntax.specs.Shapes.{Shape, shapes_of, needs_drop}

abbrev pub fn_number : FnId → ℕ
fn_number f = f.0

abbrev pub own_destructor : Shape → Option ℕ
own_destructor s = s.destructor

-- what is kept is what the definitions and functions say
pub record KnowsDrops (p : Program) : Type 0 where
  pub needs : p.drops.needs_drop ≡ map (needs_drop (shapes_of (crate_of p))) (trees_of p.types)
  pub destructors : map (option_map fn_number) p.drops.destructors ≡ map own_destructor (shapes_of (crate_of p))
