-- `statistics::counting::used_records` meets its contract. The loop's invariant: the records before place `i` were counted.
use Rattle.accounts.specs.Accounts.{zero_hold, used}
use Rattle.words.specs.Words.{holds_of}
use Rattle.survey.proofs.Counting.{Counted}
use Rattle.statistics.proofs.counting.used_records.Given as goal

abbrev pub invariant-loop-i : goal.invariant-loop-i
invariant-loop-i l = Counted used (holds_of l.words) zero_hold l.i l.count
