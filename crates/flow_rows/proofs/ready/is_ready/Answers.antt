use Rattle.std.proofs.Common.{arith}
use Rattle.flow_rows.proofs.Fits.{ready_if}
use Rattle.flow_rows.proofs.ready.is_ready.Goals as goal

pub returns : goal.returns
returns c = ready_if c.args.program.now.types c.args.body.now c.types.result c.fits.result (omega (arith, c.if-len.false, c.len.ensures)) (omega (arith, c.if-len-2.false, c.len-else-len.ensures)) c.types.ensures c.fits.ensures
