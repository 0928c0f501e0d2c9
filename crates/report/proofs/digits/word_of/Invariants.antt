-- The invariant: the first `i` digits stand in front (`put_more`), each by its shift (`shifted`).
use mathlib.Core.Path.{◌≡◌}
use mathlib.Core.List.{replicate}
use lib.ListN.{take}
use Rattle.layout.specs.Bytes.{overwrite}
use Rattle.report.specs.Words.{digits}
use Rattle.report.proofs.digits.word_of.Given as goal

abbrev pub invariant-loop-i : goal.invariant-loop-i
invariant-loop-i l = l.word ≡ overwrite 0 (take l.i (digits 8 l.n)) (replicate 8 0)
