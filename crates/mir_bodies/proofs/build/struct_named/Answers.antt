use Rattle.std.proofs.Common.{Some, None, ap, sym, ◌∙◌}
use Rattle.mir_syntax.specs.Tree.{trees_of}
use Rattle.mir_text.specs.Words.{place_in}
use Rattle.mir_text.specs.NamedBodies.{struct_at}
use Rattle.mir_bodies.proofs.Building.{none_on, some_on, struct_none, struct_is, struct_not}
use Rattle.mir_bodies.proofs.build.struct_named.Goals as goal

pub returns-in_err-def : goal.returns-in_err-def
returns-in_err-def g c =
    rw c.from_residual.ensures
    (none_on (struct_at g.sense.names) (place_in g.sense.names.paths c.args.path.now)
    (c.in_err-def.ensures ∙ ap (λ ps. place_in ps c.args.path.now) (sym c.requires.paths)))

pub returns-in_err-found : goal.returns-in_err-found
returns-in_err-found g c =
    rw c.from_residual-in_err-found.ensures
    (some_on (struct_at g.sense.names) (place_in g.sense.names.paths c.args.path.now) c.in_ok-def.def None
    (c.in_ok-def.ensures ∙ ap (λ ps. place_in ps c.args.path.now) (sym c.requires.paths))
    (struct_none g.sense.names (trees_of c.args.program.now.types) c.args.program.now.defs c.in_ok-def.def c.requires.defs c.in_err-found.ensures))

pub returns-then-found : goal.returns-then-found
returns-then-found g c =
    some_on (struct_at g.sense.names) (place_in g.sense.names.paths c.args.path.now) c.in_ok-def.def None
    (c.in_ok-def.ensures ∙ ap (λ ps. place_in ps c.args.path.now) (sym c.requires.paths))
    (struct_not g.sense.names (trees_of c.args.program.now.types) c.args.program.now.defs c.in_ok-def.def c.in_ok-found.found.now c.requires.defs c.in_ok-found.ensures c.if-found.true)

pub returns-else-found : goal.returns-else-found
returns-else-found g c =
    some_on (struct_at g.sense.names) (place_in g.sense.names.paths c.args.path.now) c.in_ok-def.def (Some (c.in_ok-def.def, 0))
    (c.in_ok-def.ensures ∙ ap (λ ps. place_in ps c.args.path.now) (sym c.requires.paths))
    (struct_is g.sense.names (trees_of c.args.program.now.types) c.args.program.now.defs c.in_ok-def.def c.in_ok-found.found.now c.requires.defs c.in_ok-found.ensures c.if-found.false)
