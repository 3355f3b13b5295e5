use Rattle.std.proofs.Common.{◌≡◌, None, sym, arith}
use Rattle.std.proofs.lemmas.Grind.{common_steps}
use Rattle.mir_syntax.specs.Tree.{trees_of, at_id}
use Rattle.mir_syntax.specs.Crate.{crate_of}
use Rattle.mir_syntax.specs.Shapes.{shapes_of, whole_path_ty}
use Rattle.mir_syntax.proofs.Places.{place-none, place-some, path-end}
use Rattle.std.proofs.Common.{refl}
use Rattle.mir_syntax.proofs.InTable.{local-in-table}
use Rattle.mir_syntax.proofs.program.Program.place_ty.Goals as goal

pub returns-in_err-id-clause-ty : goal.returns-in_err-id-clause-ty
returns-in_err-id-clause-ty c = rw c.from_residual.ensures (sym (place-none (shapes_of (crate_of c.args.self.now)) (trees_of c.args.self.now.types) c.args.body.now.locals c.args.place.now (sym c.in_err-id.ensures)))

pub returns-in_err-next-clause-ty : goal.returns-in_err-next-clause-ty
returns-in_err-next-clause-ty c =
    let none : whole_path_ty (shapes_of (crate_of c.args.self.now)) (at_id (trees_of c.args.self.now.types) c.loop-projs.id) c.loop-projs.projs.now ≡ None = grind (arith, common_steps) in
    rw (c.from_residual-in_err-next.ensures, place-some (shapes_of (crate_of c.args.self.now)) (trees_of c.args.self.now.types) c.args.body.now.locals c.args.place.now c.in_ok-id.field-0.now (sym c.in_ok-id.ensures), ← c.loop-projs.invariant.0) (sym none)

pub returns-clause-ty : goal.returns-clause-ty
returns-clause-ty c =
    rw (place-some (shapes_of (crate_of c.args.self.now)) (trees_of c.args.self.now.types) c.args.body.now.locals c.args.place.now c.in_ok-id.field-0.now (sym c.in_ok-id.ensures), ← c.loop-projs.invariant.0)
    (sym (path-end (shapes_of (crate_of c.args.self.now)) (at_id (trees_of c.args.self.now.types) c.loop-projs.id) c.loop-projs.projs.now c.in_default.len_below))

pub loop-projs-init : goal.loop-projs-init
loop-projs-init c =
    (rw c.as_slice-projs.ensures refl, λ h b. local-in-table c.args.self.now.types c.args.body.now c.args.place.now.local c.in_ok-id.field-0.now b (sym c.in_ok-id.ensures))
