-- Each step passes the first difference from a position on; the one behind the loop is what was asked for (`Compared`).
use Rattle.std.specs.Prelude.{slice_get}
use mathlib.Core.Path.{◌≡◌, ap, sym, ◌∙◌}
use native.Mathlib.Omega.{arith}
use Prim.Native.Nat.{◌+◌, ◌-◌}
use Rattle.comparison.specs.Differences.{state_in, differences}
use Rattle.comparison.specs.Positions.{differences_from}
use Rattle.comparison.proofs.Positions.{next_nothing, next_first, next_later}
use Rattle.comparison.proofs.Compared.{none_given, one_given}
use Rattle.comparison.proofs.comparing.nth_difference.Goals as goal

pub loop-init : goal.loop-init
unfolding differences_from
loop-init c =
    let a = c.args in
    let z : a.n - 0 ≡ a.n = omega arith in
    ap (slice_get (differences (state_in a.first.now) (state_in a.second.now))) z

pub returns-in_err-behind : goal.returns-in_err-behind
returns-in_err-behind c =
    let a = c.args in
    let l = c.loop in
    rw c.from_residual.ensures
    (none_given a.first.now a.second.now a.n
    (sym l.invariant
    ∙ next_nothing (state_in a.first.now) (state_in a.second.now) l.from (sym c.step_from.ensures ∙ c.in_err-behind.was) (a.n - l.counter)))

pub loop-preserved : goal.loop-preserved
loop-preserved c =
    let a = c.args in
    let l = c.loop in
    let w = c.in_ok-behind in
    let s = state_in a.first.now in
    let t = state_in a.second.now in
    let z : a.n - (l.counter + 1) ≡ a.n - l.counter - 1 = omega arith in
    ap (slice_get (differences_from w.behind s t)) z
    ∙ sym (next_later s t l.from w.behind w.field-0-0 (sym c.step_from.ensures ∙ w.was) (a.n - l.counter) (λ e. omega arith))
    ∙ l.invariant

pub returns-in_err-difference : goal.returns-in_err-difference
returns-in_err-difference c =
    let a = c.args in
    let l = c.loop in
    rw c.from_residual-in_err-difference.ensures
    (none_given a.first.now a.second.now a.n
    (sym l.invariant
    ∙ next_nothing (state_in a.first.now) (state_in a.second.now) l.from (sym c.step_from-2.ensures ∙ c.in_err-difference.was) (a.n - l.counter)))

pub returns : goal.returns
returns c =
    let a = c.args in
    let l = c.loop in
    let w = c.in_ok-difference in
    let s = state_in a.first.now in
    let t = state_in a.second.now in
    let z : a.n - l.counter ≡ 0 = omega arith in
    one_given a.first.now a.second.now a.n w.difference
    (sym l.invariant ∙ ap (slice_get (differences_from l.from s t)) z
    ∙ next_first s t l.from w.field-0-1 w.difference (sym c.step_from-2.ensures ∙ w.was))
