use Rattle.const_rewrite.proofs.equal.Found.{fits_is}
use Rattle.const_rewrite.proofs.constant.fits.Goals as goal

pub returns : goal.returns
returns c = fits_is c.args.ty c.args.bits c.wrap.result c.wrap.ensures
