use Rattle.std.proofs.Common.{◌≡◌, ℕ, ◌%◌, ◌≤◌, Bool, not, ◌&&◌, ◌||◌, ltb, leb, get_or, sym, ap, ◌∙◌, arith}
use lib.Bits.{bit_or, or_mod}
use Rattle.accounts.specs.declared.Quota.{Quota}
use Rattle.accounts.specs.Accounts.{QUOTAS, zero_quota}
use Rattle.words.specs.Words.{quotas_of}
use Rattle.words.proofs.Words.{quotas_long, quotas_at}
use Rattle.survey.proofs.Debts.{tallied_more, tallied_end, tallied_dues}
use Rattle.survey.proofs.paying.owing.Goals as goal

pub loop-i-preserved : goal.loop-i-preserved
loop-i-preserved c =
    let w = c in
    let p = w in
    let r = p in
    let g = r in
    let t = c in
    let l = t in
    let ws = l.args.words.now in
    let x = get_or (quotas_of ws) l.loop-i.i zero_quota in
    let q = quotas_at ws l.loop-i.i (omega (arith, t.loop-i-test.true)) in
    let grant : g.grant_in-grant.result ≡ x.grant = g.grant_in-grant.ensures ∙ sym (ap (λ (y : Quota). y.grant) q) in
    let remainder : r.remainder_in-remainder.result ≡ x.remainder = r.remainder_in-remainder.ensures ∙ sym (ap (λ (y : Quota). y.remainder) q) in
    let permissions : p.spare_in-spare.result % 256 ≡ x.permissions =
    ap (λ (y : ℕ). y % 256) p.spare_in-spare.ensures ∙ sym (ap (λ (y : Quota). y.permissions) q) in
    tallied_more l.loop-i.invariant (quotas_long ws) t.loop-i-test.true
    (λ j. l.loop-i.short || ltb (grant j) (remainder j))
    (or_mod l.loop-i.bits p.spare_in-spare.result 8 ∙ ap (bit_or (l.loop-i.bits % 256)) permissions)
    (λ h. omega (arith, w.saturating_sub-due.ensures, grant, remainder))

pub returns : goal.returns
returns c =
    let l = c in
    let ws = l.args.words.now in
    let short = c.if-short.false in
    let h : QUOTAS ≤ l.loop-i.i = omega (arith, c.loop-i-test.false) in (
      sym (tallied_end l.loop-i.invariant (quotas_long ws) h ∙ ap (λ (b : Bool). not b && leb (l.loop-i.bits % 256) 7) short),
      λ e. tallied_dues l.loop-i.invariant (quotas_long ws) h short,
    )
