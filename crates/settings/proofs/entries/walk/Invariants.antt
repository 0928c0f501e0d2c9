-- The invariant: the entries so far are read (`Walked`), the number is how many they are, and what is told is what
-- `take` gave of the last of which it gave something. The measure is how many bytes are left.
use Prim.Native.Nat.{ℕ, ◌-◌, ◌≤◌}
use mathlib.Core.Path.{◌≡◌}
use mathlib.Core.List.{List}
use lib.ListN.{length}
use Rattle.std.specs.Prelude.{Option}
use Rattle.settings.specs.declared.Entry.{Entry}
use Rattle.settings.specs.Walks.{Acts, last_given}
use Rattle.settings.proofs.Walks.{Walked}
use Rattle.settings.proofs.entries.walk.Given as goal

abbrev pub invariant-loop-at : goal.invariant-loop-at
invariant-loop-at g l =
    (read : List Entry) × (Walked l.store read l.last l.at
    × ((l.number ≡ length read) × ((l.number ≤ l.at)
    × ((h : ℕ → Entry → Option _) → Acts (goal.F-post g l.take) h → l.told ≡ last_given h 0 read))))

abbrev pub decreases-loop-at : goal.decreases-loop-at
decreases-loop-at g l = length l.store - l.at
