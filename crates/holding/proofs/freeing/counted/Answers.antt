-- `holding::counted` meets its contract: the tests of the definition.
use mathlib.Core.Path.{refl}
use borrow.Author.Tests.{eq-eqb, ne_eqb}
use Rattle.layout.specs.Blocks.{QUARANTINED}
use Rattle.holding.specs.Emptying.{counted}
use Rattle.holding.proofs.freeing.counted.Goals as goal

pub returns-then-serial-eq0 : goal.returns-then-serial-eq0
unfolding counted
returns-then-serial-eq0 c = rw (eq-eqb c.args.serial 0 c.if-serial-eq0.true) refl

pub returns-then-serial-eq-QUARANTINED : goal.returns-then-serial-eq-QUARANTINED
unfolding counted
returns-then-serial-eq-QUARANTINED c = rw (ne_eqb c.args.serial 0 c.if-serial-eq0.false, eq-eqb c.args.serial QUARANTINED c.if-serial-eq-QUARANTINED.true) refl

pub returns : goal.returns
unfolding counted
returns c = rw (ne_eqb c.args.serial 0 c.if-serial-eq0.false, ne_eqb c.args.serial QUARANTINED c.if-serial-eq-QUARANTINED.false) refl
