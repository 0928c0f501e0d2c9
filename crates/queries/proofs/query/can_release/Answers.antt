-- `queries::can_release` meets its contract: it decides as release does, by the same lines.
use Rattle.std.specs.Prelude.{Some, Result}
use mathlib.Core.Path.{◌≡◌, ap, sym, subst, ◌∙◌}
use Prim.Native.Nat.{ℕ, ◌%◌}
use mathlib.Core.List.{List}
use Rattle.std.proofs.lemmas.Result.{err_from_is_err_and}
use Rattle.rounding.specs.Rounding.{table}
use Rattle.words.specs.Words.{edition_of, accounts_of}
use Rattle.accounts.specs.Accounts.{find_hold}
use Rattle.model.specs.Answers.{verdict_values}
use Rattle.model.specs.Calls.{can_release}
use Rattle.model.specs.declared.Refusal.TheVariants.{QuotaNumber, NoSuchObject, NotHeld}
use Rattle.results.proofs.Lines.{refused_is, accepted_is}
use Rattle.results.proofs.Lookups.{byte_quota, release_passes}
use Rattle.lookup.specs.declared.Met.{Met}
use Rattle.lookup.specs.Walk.{find_object}
use Rattle.accounts.specs.declared.Accounts.{Accounts}
use Rattle.model.specs.declared.Handle.{Handle}
use Rattle.model.specs.declared.Refusal.{Refusal}
use Rattle.allocation.proofs.Releases.{asked_of}
use Rattle.allocation.proofs.Ready.{checked_is}
use Rattle.allocation.proofs.ReleaseAnswers.{by_check, by_quota, by_object, by_record}
use Rattle.survey.specs.declared.Wanted.{Wanted}
use Rattle.survey.specs.declared.Known.{Known}
use Rattle.survey.specs.Survey.{verdict_in, known_of, Survey}
use Rattle.survey.proofs.Told.{is_serial}
use Rattle.queries.proofs.query.can_release.Goals as goal

-- the survey is asked for the handle and the quota
surveyed : (s : List ℕ) (k : Accounts) (q : ℕ) (h : Handle) {w : Wanted} {r : Result Known Refusal} → w ≡ asked_of q h → Survey s k w r
    → Survey s k (asked_of q h) r
surveyed s k q h {r = r} e g = subst (λ (x : Wanted). Survey s k x r) e g

pub returns-in_err-known : goal.returns-in_err-known
unfolding can_release verdict_values
returns-in_err-known c =
    let a = c.args in
    let s = a.heap.now in
    let k = accounts_of a.words.now in
    let u = table (edition_of a.words.now) in
    let p = err_from_is_err_and c.from_residual.result c.from_residual.ensures.1 in
    rw (p.1, p.2) (refused_is _ s k _ _ (by_check u s k a.quota a.handle (verdict_in c.survey.result) c.survey.ensures.told _
    (ap verdict_in c.in_err-known.was)))

pub returns-then-quota-ge-QUOTAS : goal.returns-then-quota-ge-QUOTAS
unfolding can_release verdict_values
returns-then-quota-ge-QUOTAS c =
    let a = c.args in
    let s = a.heap.now in
    let k = accounts_of a.words.now in
    refused_is _ s k _ QuotaNumber (by_quota (table (edition_of a.words.now)) s k a.quota a.handle (verdict_in c.survey.result) c.survey.ensures.told
    (ap verdict_in c.in_ok-known.was) c.if-quota-ge-QUOTAS.true)

pub returns-in_default : goal.returns-in_default
unfolding can_release verdict_values
returns-in_default c =
    let a = c.args in
    let s = a.heap.now in
    let k = accounts_of a.words.now in
    let u = table (edition_of a.words.now) in
    let n = c.in_ok-known in
    let g = surveyed s k a.quota a.handle c.asked.ensures c.survey.ensures in
    let e = checked_is u s k (verdict_in c.survey.result) c.survey.ensures.told (ap verdict_in n.was) a.quota c.if-quota-ge-QUOTAS.false in
    refused_is _ s k _ NoSuchObject
    (by_object u s k a.quota a.handle e (sym (ap (λ (y : Known). y.object) (g.known n.known n.was)) ∙ c.in_default.is))

-- the quota's record, by what the survey knows
record_is : (s : List ℕ) (k : Accounts) (q : ℕ) (h : Handle) (x : Known) (m : Met) → x ≡ known_of s k (asked_of q h) → x.object ≡ Some m
    → (find_object h s ≡ Some m) × (x.holder ≡ find_hold m.serial q k)
record_is s k q h x m e o =
    let f = sym (ap (λ (y : Known). y.object) e) ∙ o in
    (f, ap (λ (y : Known). y.holder) e ∙ ap (λ (i : ℕ). find_hold i q k) (is_serial s (asked_of q h) m f))

pub returns-in_default-holder : goal.returns-in_default-holder
unfolding can_release verdict_values
returns-in_default-holder c =
    let a = c.args in
    let s = a.heap.now in
    let k = accounts_of a.words.now in
    let u = table (edition_of a.words.now) in
    let n = c.in_ok-known in
    let g = surveyed s k a.quota a.handle c.asked.ensures c.survey.ensures in
    let e = checked_is u s k (verdict_in c.survey.result) c.survey.ensures.told (ap verdict_in n.was) a.quota c.if-quota-ge-QUOTAS.false in
    let r = record_is s k a.quota a.handle n.known _ (g.known n.known n.was) c.in-Some.is in
    refused_is _ s k _ NotHeld (by_record u s k a.quota a.handle e _ r.0 (sym r.1 ∙ c.in_default-holder.is))

pub returns : goal.returns
unfolding can_release verdict_values
returns c =
    let a = c.args in
    let s = a.heap.now in
    let k = accounts_of a.words.now in
    let u = table (edition_of a.words.now) in
    let n = c.in_ok-known in
    let v = verdict_in c.survey.result in
    let g = surveyed s k a.quota a.handle c.asked.ensures c.survey.ensures in
    let ok = ap verdict_in n.was in
    let e = checked_is u s k v c.survey.ensures.told ok a.quota c.if-quota-ge-QUOTAS.false in
    let r = record_is s k a.quota a.handle n.known _ (g.known n.known n.was) c.in-Some.is in
    let at : find_hold c.in-Some.field-0.serial (a.quota % 256) k ≡ Some c.in-Some-holder.field-0 = rw (byte_quota a.quota e.exists) (sym r.1
    ∙ c.in-Some-holder.is) in
    accepted_is _ s k _ (release_passes u s k v c.survey.ensures.told ok a.handle _ r.0 a.quota e.exists _ at)
