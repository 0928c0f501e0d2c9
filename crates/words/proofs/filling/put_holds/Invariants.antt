-- `words::put_holds` meets its contract. The loop's invariant: the records before place `i` are written, and the words before the records are as they were.
use Prim.Native.Nat.{ℕ, ◌<◌}
use mathlib.Core.Path.{◌≡◌}
use lib.ListN.{length, get_or}
use Rattle.accounts.specs.Accounts.{zero_hold}
use Rattle.words.specs.Words.{WORDS, FIRST}
use Rattle.words.specs.Filling.{HasRecord}
use Rattle.words.proofs.filling.put_holds.Given as goal

abbrev pub invariant-loop-i : goal.invariant-loop-i
invariant-loop-i l =
    (length l.words ≡ WORDS) × ((p : ℕ) → p < l.i → HasRecord l.words p (get_or l.hold-items p zero_hold))
    × ((j : ℕ) → j < FIRST → get_or l.words j 0 ≡ get_or l.initial.words j 0)
