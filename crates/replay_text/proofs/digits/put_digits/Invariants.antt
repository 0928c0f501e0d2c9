-- The invariant: the digits of what is left and those that are written behind them are all of them (`Spelling`). Each turn writes the last digit of what
-- is left, in front of those that are written.
use Rattle.replay_text.proofs.Spelling.{Spelling}
use Rattle.replay_text.proofs.digits.put_digits.Given as goal

abbrev pub invariant-loop-left : goal.invariant-loop-left
invariant-loop-left l = Spelling l.n l.initial.place l.left l.rest l.place
