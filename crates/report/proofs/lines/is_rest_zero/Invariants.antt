-- The invariant: whether the words from the `k`-th on are zero is whether all behind the first are. A turn stops (`zero_stops`) or passes one more
-- (`zero_goes_on`).
use mathlib.Core.Path.{◌≡◌}
use lib.ListN.{drop}
use Rattle.report.specs.Words.{words, all_zero}
use Rattle.report.proofs.Loops.{zero_from}
use Rattle.report.proofs.lines.is_rest_zero.Given as goal

abbrev pub invariant-loop-k : goal.invariant-loop-k
invariant-loop-k l = all_zero (words 5 (drop 9 l.text)) ≡ zero_from l.text l.k
