-- The scan of all bytes ends with the symbols found.
use Rattle.std.proofs.Common.{refl, sym}
use Rattle.mir_symbols.specs.Scan.{scan}
use Rattle.mir_symbols.proofs.GoesOn.{begins-with}
use Rattle.mir_symbols.proofs.scan.scan.Goals as goal

pub returns : goal.returns
returns c = sym (c.in_ok-_rest.ensures.ends refl (scan c.args.bytes.now) (begins-with c.in_ok-found.found c.args.bytes.now c.in_ok-found.ensures))
