-- The test of the value that `value_of` gives.
use mathlib.Core.Path.{ap}
use Prim.Native.Nat.{ℕ}
use lib.Dec.{ltb}
use Rattle.report.specs.Words.{is_digit}
use Rattle.report.proofs.digits.is_digit.Goals as goal

pub returns : goal.returns
unfolding is_digit
returns c = ap (λ (n : ℕ). ltb n 16) c.value_of.ensures
