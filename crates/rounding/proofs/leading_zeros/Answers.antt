-- `rounding::leading_zeros` meets its contract: the machine's count is the definition's.
use Rattle.rounding.proofs.Zeros.{counted}
use Rattle.rounding.proofs.leading_zeros.Goals as goal

pub returns : goal.returns
returns c = counted 32 c.args.x c.ranges.x.fits
