-- The invariant: `n` is the number of the first `i` digits (`read_more`).
use mathlib.Core.Path.{◌≡◌}
use lib.ListN.{take}
use Rattle.report.specs.Words.{number}
use Rattle.report.proofs.digits.read_word.Given as goal

abbrev pub invariant-loop-i : goal.invariant-loop-i
invariant-loop-i l = l.n ≡ number (take l.i l.text)
