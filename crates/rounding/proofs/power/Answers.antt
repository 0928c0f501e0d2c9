-- `rounding::power` meets its contract: the code's tables have the power for each count from 0 to 32.
use Rattle.rounding.proofs.ByZeros.{powers_first, powers_second}
use Rattle.rounding.proofs.power.Goals as goal

-- these stand first, so that a wrong entry is refused here
pub returns-then-edition-eq0 : goal.returns-then-edition-eq0
returns-then-edition-eq0 c = let e = c in powers_first e.args.edition e.args.zeros e.requires c.if-edition-eq0.true

pub returns : goal.returns
returns c = let e = c in powers_second e.args.edition e.args.zeros e.requires c.if-edition-eq0.false
