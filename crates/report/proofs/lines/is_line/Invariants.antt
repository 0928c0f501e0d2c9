-- The invariant: whether the words from the `k`-th on are right is whether all are. A turn stops (`right_stops`) or passes one more
-- (`right_goes_on`).
use mathlib.Core.Path.{◌≡◌}
use Rattle.report.specs.Words.{words_right}
use Rattle.report.proofs.Loops.{right_from}
use Rattle.report.proofs.lines.is_line.Given as goal

abbrev pub invariant-loop-k : goal.invariant-loop-k
invariant-loop-k l = words_right 6 l.text ≡ right_from l.text l.k
