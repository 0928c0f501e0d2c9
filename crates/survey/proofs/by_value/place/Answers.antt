-- `survey::place` meets its contract.
use Rattle.std.proofs.Common.{sym, arith}
use Rattle.survey.proofs.Told.{place_at, place_nothing}
use Rattle.survey.proofs.by_value.place.Goals as goal

pub returns-then-number-ge-HOLDS : goal.returns-then-number-ge-HOLDS
returns-then-number-ge-HOLDS c = sym (place_nothing c.args.number (omega (arith, c.if-number-ge-HOLDS.true)))

pub returns : goal.returns
returns c = sym (place_at c.args.number (omega (arith, c.if-number-ge-HOLDS.false)))
