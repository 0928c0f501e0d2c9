-- `holding::quarantined_size` meets its contract: the test of the definition.
use mathlib.Core.Path.{refl}
use borrow.Author.Tests.{eq-eqb, ne_eqb}
use Rattle.layout.specs.Blocks.{QUARANTINED}
use Rattle.holding.specs.Sweeping.{quarantined_size}
use Rattle.holding.proofs.sweeping.quarantined_size.Goals as goal

pub returns-then-serial-eq-QUARANTINED : goal.returns-then-serial-eq-QUARANTINED
unfolding quarantined_size
returns-then-serial-eq-QUARANTINED c = rw (eq-eqb c.args.serial QUARANTINED c.if-serial-eq-QUARANTINED.true) refl

pub returns : goal.returns
unfolding quarantined_size
returns c = rw (ne_eqb c.args.serial QUARANTINED c.if-serial-eq-QUARANTINED.false) refl
