-- The invariant: the first `i` characters are digits. A turn stops (`word_stops`) or passes one more (`word_goes_on`).
use mathlib.Core.Path.{◌≡◌}
use mathlib.Core.Bool.{true}
use lib.ListN.{take}
use Rattle.report.specs.Words.{all_digits}
use Rattle.report.proofs.lines.is_word.Given as goal

abbrev pub invariant-loop-i : goal.invariant-loop-i
invariant-loop-i l = all_digits (take l.i l.text) ≡ true
