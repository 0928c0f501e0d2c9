-- A digit's character by the definition's test.
use borrow.Author.Tests.{lt-ltb, le-ltb}
use Rattle.report.specs.Words.{digit}
use Rattle.report.proofs.digits.digit_of.Goals as goal

pub returns-then-value-lt10 : goal.returns-then-value-lt10
unfolding digit
returns-then-value-lt10 c = rw (lt-ltb c.args.value 10 c.if-value-lt10.true)

pub returns : goal.returns
unfolding digit
returns c = rw (le-ltb c.args.value 10 c.if-value-lt10.false)
