-- `statistics::reaching::reach` meets its contract: the units that there is room for, or none where they are too few.
use Prim.Native.Nat.{ℕ, ◌*◌}
use mathlib.Core.Path.{◌≡◌, ap, sym, ◌∙◌}
use mathlib.Core.Bool.{not, ◌&&◌}
use lib.Dec.{leb, eqb}
use Rattle.statistics.specs.Tallies.{units_in, reach}
use Rattle.statistics.proofs.reaching.reach.Goals as goal
use Rattle.statistics.proofs.reaching.reach.Goals.{After-is_short}

-- the test, of the units that there is room for
tests : (c : After-is_short)
    → let a = c.args in let k = units_in a.room a.unit a.units in
    c.is_short.result ≡ (not (eqb a.unit 8) && leb (2 * k) a.units)
tests c =
    let a = c.args in
    c.is_short.ensures ∙ ap (λ (k : ℕ). not (eqb a.unit 8) && leb (2 * k) a.units) c.units_in-count.ensures.0

pub returns-then-is_short : goal.returns-then-is_short
unfolding reach
returns-then-is_short c = rw (sym (tests (goal.at.returns-then-is_short c).After-is_short) ∙ c.if-is_short.true)

pub returns : goal.returns
unfolding reach
returns c =
    let u = c in
    let a = u.args in
    rw (sym (tests (goal.at.returns c).After-is_short) ∙ c.if-is_short.false) (ap (λ (k : ℕ). k * a.unit) u.units_in-count.ensures.0)
