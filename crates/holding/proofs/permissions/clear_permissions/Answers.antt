-- `holding::clear_permissions` meets its contract: the survey decides first, then the quota's number, and else the accounts are the definition's.
use Rattle.std.proofs.lemmas.Result.{err_from_is_err_and}
use mathlib.Core.Path.{refl, ap}
use Rattle.rounding.specs.Rounding.{table}
use Rattle.words.specs.Words.{edition_of, accounts_of}
use Rattle.survey.specs.Survey.{verdict_in}
use Rattle.holding.proofs.Barred.{clear_checked, clear_numbered, clear_gives}
use Rattle.holding.proofs.permissions.clear_permissions.Goals as goal

pub returns-in_err-survey-clause-holds : goal.returns-in_err-survey-clause-holds
returns-in_err-survey-clause-holds c =
    let a = c.args in
    let w = a.words.now in
    let p = err_from_is_err_and c.from_residual.result c.from_residual.ensures.1 in
    rw (p.1, p.2) (clear_checked (table (edition_of w)) a.heap.now (accounts_of w) a.quota a.bits (verdict_in c.survey.result) c.survey.ensures.told _
    (ap verdict_in c.in_err-survey.was) _ refl)

pub returns-then-quota-ge-QUOTAS-clause-holds : goal.returns-then-quota-ge-QUOTAS-clause-holds
returns-then-quota-ge-QUOTAS-clause-holds c =
    let a = c.args in
    let w = a.words.now in
    clear_numbered (table (edition_of w)) a.heap.now (accounts_of w) a.quota a.bits (verdict_in c.survey.result) c.survey.ensures.told
    (ap verdict_in c.in_ok-survey.was) c.if-quota-ge-QUOTAS.true _ refl

pub returns-clause-holds : goal.returns-clause-holds
returns-clause-holds c =
    let a = c.args in
    let w = a.words.now in
    clear_gives (table (edition_of w)) a.heap.now (accounts_of w) a.quota a.bits (verdict_in c.survey.result) c.survey.ensures.told
    (ap verdict_in c.in_ok-survey.was) c.if-quota-ge-QUOTAS.false _ c.left_permissions-left.result c.clear_permissions.ensures.holds
    c.left_permissions-left.ensures _ refl
