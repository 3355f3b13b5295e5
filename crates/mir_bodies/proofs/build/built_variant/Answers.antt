use Rattle.std.proofs.Common.{◌≡◌, None, Some, option_copied}
use Rattle.mir_syntax.specs.Tree.{trees_of}
use Rattle.mir_bodies.specs.Builds.{pair_of}
use Rattle.mir_bodies.proofs.Building.{none_built, built_at, nothing_built, pair_built}
use Rattle.mir_bodies.proofs.build.built_variant.Goals as goal

pub returns-in_err-built : goal.returns-in_err-built
returns-in_err-built c = λ names is.
    let none : c.args.built ≡ None = c.in_err-built.was in
    rw (c.from_residual.ensures, none) (nothing_built names)

pub returns-in_err-def : goal.returns-in_err-def
returns-in_err-def c = λ names is.
    let b = c.in_ok-built.built in
    let some : c.args.built ≡ Some b = c.in_ok-built.was in
    rw (c.from_residual-in_err-def.ensures, some)
    (pair_built names (pair_of b) None (none_built names (trees_of c.args.program.now.types) c.args.program.now.defs b.def b.variant is c.in_err-def.ensures))

pub returns : goal.returns
returns c = λ names is.
    let b = c.in_ok-built.built in
    let some : c.args.built ≡ Some b = c.in_ok-built.was in
    rw some
    (pair_built names (pair_of b) _
    (built_at names (trees_of c.args.program.now.types) c.args.program.now.defs b.def b.variant c.in_ok-def.def.now (option_copied c.get-2.result) is c.in_ok-def.ensures c.get-2.ensures))
