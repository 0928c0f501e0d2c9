-- The invariant: what is found of the records from `i` on is found of all from the first one on (`Zeros`).
use mathlib.Core.Path.{◌≡◌}
use lib.ListN.{drop}
use Rattle.accounts.specs.Accounts.{unused}
use Rattle.words.specs.Words.{holds_of}
use Rattle.lists.specs.Lists.{all}
use Rattle.image.proofs.records.none_used.Given as goal

abbrev pub invariant-loop-i : goal.invariant-loop-i
invariant-loop-i l = all unused (drop l.i (holds_of l.words)) ≡ all unused (drop l.from (holds_of l.words))
