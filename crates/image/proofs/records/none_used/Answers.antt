use native.Mathlib.Omega.{arith}
use mathlib.Core.Path.{ap, sym, ◌∙◌}
use mathlib.Core.Bool.{not}
use Rattle.accounts.specs.Accounts.{zero_hold, unused, hold_at}
use Rattle.words.specs.Words.{holds_of}
use Rattle.words.proofs.Words.{holds_long}
use Rattle.image.proofs.Zeros.{all_stop, all_go_on, all_end}
use Rattle.image.proofs.records.none_used.Goals as goal

pub returns-then-is_used : goal.returns-then-is_used
unfolding unused hold_at
returns-then-is_used c =
    let u = c in
    let h = u in
    let l = h in
    let a = l.args in
    all_stop unused zero_hold (holds_of a.words.now) a.from l.loop-i.i l.loop-i.invariant (omega (arith, holds_long a.words.now))
    (ap unused (sym h.hold_at.ensures) ∙ ap not (sym u.is_used.ensures ∙ c.if-is_used.true))

pub loop-i-preserved : goal.loop-i-preserved
unfolding unused hold_at
loop-i-preserved c =
    let u = c in
    let h = u in
    let l = h in
    let a = l.args in
    all_go_on unused zero_hold (holds_of a.words.now) a.from l.loop-i.i l.loop-i.invariant (omega (arith, holds_long a.words.now))
    (ap unused (sym h.hold_at.ensures) ∙ ap not (sym u.is_used.ensures ∙ c.if-is_used.false))

pub returns : goal.returns
returns c =
    let l = c in
    let a = l.args in
    all_end unused zero_hold (holds_of a.words.now) a.from l.loop-i.i l.loop-i.invariant (omega (arith, holds_long a.words.now))
