-- `holding::free_all` meets its contract. Each refusal is the first line that holds: the survey's, the quota's number, and its permission. Past them the
-- accounts are those that the definition leaves, and the blocks that the records left do not hold are freed (`all_freed`).
use Rattle.std.specs.Prelude.{Ok}
use Rattle.std.proofs.lemmas.Result.{err_from_is_err_and}
use Prim.Native.Nat.{ℕ, ◌/◌, ◌%◌}
use mathlib.Core.Path.{◌≡◌, refl, ap, sym, ◌∙◌}
use mathlib.Core.List.{List}
use Rattle.rounding.specs.Rounding.{table}
use Rattle.accounts.specs.Accounts.{FREE_ALL}
use Rattle.layout.specs.Bytes.{Octets}
use Rattle.model.specs.Calls.{free_all}
use Rattle.model.specs.declared.Refusal.TheVariants.{QuotaNumber, NotPermitted}
use Rattle.invariant.proofs.Laid.{allowed_most}
use Rattle.results.specs.Results.{AmountResult}
use Rattle.results.specs.Results.{amount_outcome, amount_result}
use Rattle.results.proofs.Lines.{check_accounted, permitted}
use Rattle.words.specs.Words.{edition_of, holds_of, accounts_of}
use Rattle.words.proofs.Readings.{sized}
use Rattle.survey.specs.Survey.{verdict_in}
use Rattle.holding.specs.Emptying.{flags_of, Emptiable, Emptied}
use Rattle.holding.proofs.FreedAll.{all_by_check, all_by_quota, all_by_permission, all_passes, all_refuses, all_freed}
use Rattle.holding.proofs.freeing.free_all.Goals as goal
use Rattle.holding.proofs.freeing.free_all.Goals.{After-drop_holds}

pub returns-in_err-survey-clause-holds : goal.returns-in_err-survey-clause-holds
returns-in_err-survey-clause-holds c =
    let a = c.args in
    let w = a.words.now in
    let u = table (edition_of w) in
    let p = err_from_is_err_and c.from_residual.result c.from_residual.ensures.1 in
    let by = all_by_check u a.heap.now (accounts_of w) a.quota (verdict_in c.survey.result) c.survey.ensures.told _ (ap verdict_in c.in_err-survey.was) in
    rw (p.1, p.2) (all_refuses u a.heap.now (accounts_of w) a.quota _ _ refl by)

pub returns-then-quota-ge-QUOTAS-clause-holds : goal.returns-then-quota-ge-QUOTAS-clause-holds
returns-then-quota-ge-QUOTAS-clause-holds c =
    let a = c.args in
    let k = accounts_of a.words.now in
    let u = table (edition_of a.words.now) in
    all_refuses u a.heap.now k a.quota _ QuotaNumber refl
    (all_by_quota u a.heap.now k a.quota (verdict_in c.survey.result) c.survey.ensures.told (ap verdict_in c.in_ok-survey.was) c.if-quota-ge-QUOTAS.true)

pub returns-then-permissions-eq0-clause-holds : goal.returns-then-permissions-eq0-clause-holds
returns-then-permissions-eq0-clause-holds c =
    let a = c.args in
    let k = accounts_of a.words.now in
    let u = table (edition_of a.words.now) in
    let no = ap (λ (z : ℕ). z / FREE_ALL % 2) (sym c.permissions.ensures) ∙ c.if-permissions-eq0.true in
    all_refuses u a.heap.now k a.quota _ NotPermitted refl
    (all_by_permission u a.heap.now k a.quota (verdict_in c.survey.result) c.survey.ensures.told (ap verdict_in c.in_ok-survey.was)
    c.if-quota-ge-QUOTAS.false no)

-- the heap's bytes are bytes
octets : (c : After-drop_holds) → Octets c.args.heap.now
octets c i = (c.slice_known-1.given i).fits

-- the walk may start, and what it leaves is the definition's
walked : (c : After-drop_holds)
    → let a = c.args in let flags = flags_of (holds_of c.drop_holds.new.words) a.heap.now in
    Emptiable (accounts_of c.drop_holds.new.words).kind flags a.heap.now
    × ((s : List ℕ) → Emptied (accounts_of c.drop_holds.new.words).kind flags a.heap.now s
    → (r : AmountResult) → r ≡ amount_result c.drop_holds.new.words (Ok c.spent-back.result)
    → amount_outcome s r ≡ free_all (table (edition_of a.words.now)) a.heap.now (accounts_of a.words.now) a.quota)
walked c =
    let a = c.args in
    let y = c in
    let w = a.words.now in
    let k = accounts_of w in
    let u = table (edition_of w) in
    let n = verdict_in y.survey.result in
    let ok = ap verdict_in c.in_ok-survey.was in
    let consistent = check_accounted u a.heap.now k n y.survey.ensures.told ok in
    let e = c in
    let few = e.if-quota-ge-QUOTAS.false in
    let able = permitted FREE_ALL a.quota k (λ z. e.if-permissions-eq0.false (ap (λ (x : ℕ). x / FREE_ALL % 2) e.permissions.ensures ∙ z)) in
    all_freed u a.heap.now k (octets c) (allowed_most _ consistent.0) consistent.1 (sized w) a.quota few
    c.spent-back.result c.spent-back.ensures
    (accounts_of c.refund.new.words) (accounts_of c.drop_holds.new.words) c.refund.ensures.holds c.drop_holds.ensures.holds
    (holds_of c.drop_holds.new.words) refl (accounts_of c.drop_holds.new.words).kind refl
    (all_passes u a.heap.now k a.quota n y.survey.ensures.told ok few able)

pub free_unheld-requires : goal.free_unheld-requires
free_unheld-requires c = (walked (goal.at.free_unheld-requires c).After-drop_holds).0

pub returns-clause-holds : goal.returns-clause-holds
returns-clause-holds c = (walked (goal.at.returns-clause-holds c).After-drop_holds).1 _ c.free_unheld.ensures _ refl
