use Rattle.std.proofs.Common.{◌≡◌, ◌<◌, sym, ap, ◌∙◌, false, length, arith}
use Rattle.std.proofs.lemmas.Option.{slice_get_within}
use Rattle.mir_syntax.specs.Tree.{trees_of}
use Rattle.mir_syntax.specs.Crate.{body_of}
use Rattle.bit_rows.specs.Rows.{flag}
use Rattle.move_paths.specs.Inits.{Comes}
use Rattle.move_paths.proofs.Statuses.{other_bit}
use Rattle.move_paths.proofs.rows.inits.Goals as goal

pub returns-clause-maybe : goal.returns-clause-maybe
returns-clause-maybe c = λ i k u l at. c.in_ok-maybe.ensures.comes (trees_of c.args.program.now.types) i k u l at

pub returns-clause-sure : goal.returns-clause-sure
returns-clause-sure c = λ i k u l at.
    let us = c.in_ok-units.units.places in
    let low = slice_get_within us k u at in
    let other = c.in_ok-sure.ensures.flags i k (omega (arith, l, c.len.ensures)) (omega (arith, low, c.len-2.ensures)) in
    other_bit (flag c.in_ok-sure.sure i k) (flag c.in_ok-unsure.unsure i k) (Comes (body_of (trees_of c.args.program.now.types) c.args.body.now) u i false) other (c.in_ok-unsure.ensures.comes (trees_of c.args.program.now.types) i k u l at)
