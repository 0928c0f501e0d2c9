-- `allocation::release` meets its contract: the survey, the quota's number, the object and the quota's record are the lines of release, and past them the hold
-- that is dropped is the definition's.
use mathlib.Core.Path.{refl, ◌∙◌}
use Rattle.std.proofs.lemmas.Result.{err_from_is_err_and}
use Rattle.words.specs.Words.{accounts_of}
use Rattle.allocation.proofs.Releases.{released_checked, released_numbered, released_missed, released_unheld, released_droppable, released_is}
use Rattle.allocation.proofs.releasing.release.Goals as goal

pub returns-in_err-known-clause-holds : goal.returns-in_err-known-clause-holds
returns-in_err-known-clause-holds c =
    let a = c.args in
    let p = err_from_is_err_and c.from_residual.result c.from_residual.ensures.1 in
    rw (p.1, p.2) (released_checked a.heap.now (accounts_of a.words.now) a.quota a.handle c.asked.result c.survey.result c.asked.ensures c.survey.ensures _
    c.in_err-known.was _ refl)

pub returns-then-quota-ge-QUOTAS-clause-holds : goal.returns-then-quota-ge-QUOTAS-clause-holds
returns-then-quota-ge-QUOTAS-clause-holds c =
    let a = c.args in
    released_numbered a.heap.now (accounts_of a.words.now) a.quota a.handle c.asked.result c.survey.result c.asked.ensures c.survey.ensures
    c.in_ok-known.known c.in_ok-known.was c.if-quota-ge-QUOTAS.true _ refl

pub returns-in_default-clause-holds : goal.returns-in_default-clause-holds
returns-in_default-clause-holds c =
    let a = c.args in
    released_missed a.heap.now (accounts_of a.words.now) a.quota a.handle c.asked.result c.survey.result c.asked.ensures c.survey.ensures
    c.in_ok-known.known c.in_ok-known.was c.if-quota-ge-QUOTAS.false c.in_default.is _ refl

pub returns-in_default-holder-clause-holds : goal.returns-in_default-holder-clause-holds
returns-in_default-holder-clause-holds c =
    let a = c.args in
    released_unheld a.heap.now (accounts_of a.words.now) a.quota a.handle c.asked.result c.survey.result c.asked.ensures c.survey.ensures
    c.in_ok-known.known c.in_ok-known.was c.if-quota-ge-QUOTAS.false c.in-Some.block c.in-Some.is c.in_default-holder.is _ refl

pub drop_claim-back-requires : goal.drop_claim-back-requires
drop_claim-back-requires c =
    let a = c.args in
    released_droppable a.heap.now (accounts_of a.words.now) a.quota a.handle c.asked.result c.survey.result c.asked.ensures c.survey.ensures
    c.in_ok-known.known c.in_ok-known.was c.if-quota-ge-QUOTAS.false c.in-Some.block c.in-Some.is c.in-Some-holder.place c.in-Some-holder.is

pub returns-clause-holds : goal.returns-clause-holds
returns-clause-holds c =
    let a = c.args in
    c.drop_claim-back.ensures.holds
    ∙ released_is a.heap.now (accounts_of a.words.now) a.quota a.handle c.asked.result c.survey.result c.asked.ensures c.survey.ensures
    c.in_ok-known.known c.in_ok-known.was c.if-quota-ge-QUOTAS.false c.in-Some.block c.in-Some.is c.in-Some-holder.place c.in-Some-holder.is
