-- What a machine stands for, for a program.
use Rattle.std.specs.Prelude.{ℕ, suc, List, [], ◌∷◌, ◌++◌, map, reverse, drop, Option, None, Some, option_map}
use Rattle.mir_syntax.specs.declared.body.Proj.TheVariants.{Downcast}
use Rattle.mir_semantics.specs.Values.{Addr}
use Rattle.mir_syntax.specs.declared.body.Proj.{Proj}
use Rattle.mir_syntax.specs.declared.program.Program.{Program}
use Rattle.mir_syntax.specs.Crate.{crate_of}
use Rattle.mir_syntax.specs.declared.body.Place.{Place}
use Rattle.mir_syntax.specs.Shapes.{◌>>=◌}
use Rattle.mir_semantics.specs.Memory.{Memory}
use Rattle.mir_semantics.specs.Step as sem
use Rattle.mir_meaning.specs.Programs.{type_in}
use Rattle.mir_meaning.specs.Views.{addr_of, memory_of}
use Rattle.mir_machine.specs.declared.control.Dest.{Dest}
use Rattle.mir_machine.specs.declared.control.Visit.{Visit}
use Rattle.mir_machine.specs.declared.control.Dropping.{Dropping}
use Rattle.mir_machine.specs.declared.control.Control.{Control}
use Rattle.mir_machine.specs.declared.machine.Called.{Called}
use Rattle.mir_machine.specs.declared.machine.Machine.{Machine}

abbrev pub code_in : Program → sem.Code
code_in p = sem.code_of (crate_of p)

abbrev pub dest_in : Program → Dest → sem.Dest
dest_in p d = record { addr = addr_of d.at; guard = option_map (type_in p) d.guard }

abbrev pub visit_in : Program → Visit → sem.Visit
visit_in p v = record { addr = addr_of v.at; ty = type_in p v.ty }

-- the next item, which comes last here, stands first there
abbrev pub items_in : Program → List Visit → List sem.Visit
items_in p items = map (visit_in p) (reverse items)

abbrev pub dropping_in : Program → Dropping → sem.Dropping
dropping_in p d = record { place = visit_in p d.place; target = d.target; items = items_in p d.items }

abbrev pub control_in : Program → Control → sem.Control
control_in p c = record { function = c.function.0; frame = c.frame; block = c.block; at = c.at; dropping = option_map (dropping_in p) c.dropping; dest = option_map (dest_in p) c.dest }

abbrev pub called_as : Called → sem.Called
called_as c = record { outside = c.out.0; args = c.args; answer = c.answer }

-- the newest caller and the newest call stand first there
abbrev pub state_in : Program → Machine → sem.State
state_in p m = record { memory = memory_of m.memory; top = control_in p m.top; callers = map (control_in p) (reverse m.callers); next = suc m.last; answers = drop m.asked m.answers; trace = map called_as (reverse m.trace) }

-- the variant of what stands at an address, where one is named
abbrev pub path_inside : List Proj → Option ℕ → List Proj
path_inside ps None = ps
path_inside ps (Some k) = ps ++ Downcast k ∷ []

abbrev pub inside : Addr → Option ℕ → Addr
inside a k = record a { path = path_inside a.path k }

-- a drop that begins: a drop that has begun goes on instead
abbrev pub begun : sem.Here → Memory → Place → ℕ → Option sem.Dropping
begun h m p b = do
  a ← sem.resolve h m p
  t ← sem.type_of h p
  Some (record { place = record { addr = a; ty = t }; target = b; items = record { addr = a; ty = t } ∷ [] })

-- a step of the drop of a place
abbrev pub dropped : sem.Code → sem.Here → sem.State → Place → ℕ → Option sem.Next
dropped C h s p b = sem.begun h s p b s.top.dropping >>= λ d. sem.work_off C s d d.items
