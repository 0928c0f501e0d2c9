-- `writer::carving::units_after` meets its contract: the units are those of what is left, or where nothing is left those before.
use Rattle.writer.proofs.Writes.{units_some, units_none}
use Rattle.writer.proofs.carving.units_after.Goals as goal

pub returns-then-count-gt0 : goal.returns-then-count-gt0
returns-then-count-gt0 c = units_some c.args.back c.args.count c.if-count-gt0.true

pub returns : goal.returns
returns c = units_none c.args.back c.args.count c.if-count-gt0.false
