use native.Mathlib.Omega.{arith}
use borrow.Author.Tests.{eq-eqb, ne_eqb}
use mathlib.Core.Path.{ap, sym, ◌∙◌}
use Rattle.accounts.specs.Accounts.{zero_quota}
use Rattle.words.specs.Words.{quotas_of}
use Rattle.words.proofs.Words.{quotas_long}
use Rattle.image_model.specs.Stream.{no_grant}
use Rattle.image.proofs.Zeros.{all_stop, all_go_on, all_end}
use Rattle.image.proofs.entries.no_grants.Goals as goal

pub returns-then-quota-ne0 : goal.returns-then-quota-ne0
returns-then-quota-ne0 c =
    let q = c in
    let l = q in
    let a = l.args in
    all_stop no_grant zero_quota (quotas_of a.words.now) a.from l.loop-i.i l.loop-i.invariant (omega (arith, quotas_long a.words.now))
    (ap no_grant (sym q.quota_at-quota.ensures) ∙ ne_eqb _ 0 c.if-quota-ne0.true)

pub loop-i-preserved : goal.loop-i-preserved
loop-i-preserved c =
    let q = c in
    let l = q in
    let a = l.args in
    all_go_on no_grant zero_quota (quotas_of a.words.now) a.from l.loop-i.i l.loop-i.invariant (omega (arith, quotas_long a.words.now))
    (ap no_grant (sym q.quota_at-quota.ensures) ∙ eq-eqb _ 0 c.if-quota-ne0.false)

pub returns : goal.returns
returns c =
    let l = c in
    let a = l.args in
    all_end no_grant zero_quota (quotas_of a.words.now) a.from l.loop-i.i l.loop-i.invariant (omega (arith, quotas_long a.words.now))
