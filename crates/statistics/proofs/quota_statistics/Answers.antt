-- `statistics::quota_statistics` meets its contract: the check decides first, then the quota's number, and else the
-- numbers are those of the accounts.
use mathlib.Core.Path.{ap, ◌∙◌}
use mathlib.Core.List.{[], ◌∷◌}
use Rattle.accounts.specs.declared.Quota.{Quota}
use Rattle.rounding.specs.Rounding.{table}
use Rattle.words.specs.Words.{edition_of, accounts_of}
use Rattle.words.proofs.Readings.{quota_is}
use Rattle.model.specs.Refusals.{first_refusal, line_3, row_lines}
use Rattle.model.specs.declared.Refusal.TheVariants.{QuotaNumber}
use Rattle.results.proofs.Lines.{check_refuses, check_accepts, check_accounted, line_3_refuses, line_3_passes}
use Rattle.statistics.specs.Statistics.{quota_statistics, quota_counted}
use Rattle.statistics.proofs.Laws.{quota_refused, quota_accepted, held_all}
use Rattle.statistics.proofs.quota_statistics.Goals as goal

pub returns-in-Err : goal.returns-in-Err
unfolding quota_statistics row_lines
returns-in-Err c =
    let n = c in
    let x = n in
    let e = x in
    let a = e.args in
    let s = a.heap.now in
    let w = a.words.now in
    let k = accounts_of w in
    let u = table (edition_of w) in
    let r = x in
    c.no_quota_statistics.ensures
    ∙ quota_refused _ (quota_counted k a.quota) r.in-Err.refusal
    (check_refuses u s k e.check.result e.check.ensures (line_3 a.quota ∷ []) r.in-Err.refusal r.in-Err.is)

pub returns-then-quota-ge-QUOTAS : goal.returns-then-quota-ge-QUOTAS
unfolding quota_statistics row_lines
returns-then-quota-ge-QUOTAS c =
    let n = c in
    let i = n in
    let o = i in
    let e = o in
    let a = e.args in
    let s = a.heap.now in
    let w = a.words.now in
    let k = accounts_of w in
    let u = table (edition_of w) in
    c.no_quota_statistics-then-quota-ge-QUOTAS.ensures
    ∙ quota_refused _ (quota_counted k a.quota) QuotaNumber
    (check_accepts u s k e.check.result e.check.ensures (line_3 a.quota ∷ []) o.in_default.is
    ∙ line_3_refuses a.quota [] i.if-quota-ge-QUOTAS.true)

pub returns : goal.returns
unfolding quota_statistics quota_counted row_lines first_refusal
returns c =
    let g = c in
    let h = g in
    let i = h in
    let o = i in
    let e = o in
    let a = e.args in
    let s = a.heap.now in
    let w = a.words.now in
    let k = accounts_of w in
    let u = table (edition_of w) in
    let t = o.in_default.is in
    let ok = (check_accounted u s k e.check.result e.check.ensures t).1 in
    let held = h.held_by-held.ensures ∙ held_all s k ok a.quota in
    (λ j. record {
      refusal = 0;
      grant = (g.grant_in.ensures ∙ ap (λ (x : Quota). x.grant) (quota_is w a.quota i.if-quota-ge-QUOTAS.false)) j;
      remaining = c.remaining.ensures j;
      objects = (held j).objects;
      shared = (held j).shared;
    })
    ∙ quota_accepted _ (quota_counted k a.quota)
    (check_accepts u s k e.check.result e.check.ensures (line_3 a.quota ∷ []) t ∙ line_3_passes a.quota [] i.if-quota-ge-QUOTAS.false)
