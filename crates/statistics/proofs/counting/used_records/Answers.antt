use Prim.Native.Nat.{◌+◌}
use native.Mathlib.Omega.{arith}
use mathlib.Core.Path.{ap, sym, ◌∙◌}
use Rattle.accounts.specs.declared.Hold.{Hold}
use Rattle.accounts.specs.Accounts.{zero_hold, used}
use Rattle.words.specs.Words.{holds_of}
use Rattle.words.proofs.Words.{holds_long, holds_at}
use Rattle.words.proofs.Readings.{hold_is}
use Rattle.survey.specs.Shares.{one_if}
use Rattle.survey.proofs.Counting.{Counted, counted_next, counted_all}
use Rattle.statistics.proofs.counting.used_records.Goals as goal
use Rattle.statistics.proofs.counting.used_records.Goals.{After-used_at-count}

-- one record more is counted
next : (c : After-used_at-count)
    → let l = c in
    Counted used (holds_of l.args.words.now) zero_hold (l.loop-i.i + 1) (l.loop-i.count + c.used_at-count.result)
next c =
    let l = c in
    let w = l.args.words.now in
    let t = c.loop-i-test.true in
    counted_next used (holds_of w) zero_hold l.loop-i.invariant (omega (arith, holds_long w, t)) c.used_at-count.result
    (c.used_at-count.ensures ∙ ap (λ (h : Hold). one_if (used h)) (sym (hold_is w l.loop-i.i t) ∙ sym (holds_at w l.loop-i.i t)))

pub loop-i-preserved : goal.loop-i-preserved
loop-i-preserved c = next c

pub returns : goal.returns
returns c =
    let l = c in
    let w = l.args.words.now in
    counted_all used (holds_of w) zero_hold l.loop-i.invariant (omega (arith, holds_long w, c.loop-i-test.false))
