-- The loop's invariant: what is still to be passed from the position on leads to the difference that was asked for.
use Rattle.std.specs.Prelude.{slice_get}
use mathlib.Core.Path.{◌≡◌}
use Prim.Native.Nat.{◌-◌}
use Rattle.comparison.specs.Differences.{state_in, differences}
use Rattle.comparison.specs.Positions.{differences_from}
use Rattle.comparison.proofs.comparing.nth_difference.Given as goal

abbrev pub invariant-loop : goal.invariant-loop
invariant-loop l =
    let s = state_in l.first in
    let t = state_in l.second in
    slice_get (differences_from l.from s t) (l.n - l.counter) ≡ slice_get (differences s t) l.n
