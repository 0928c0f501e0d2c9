-- `queries::remaining` meets its contract: the check decides first, then the quota's number, and else the accounts' remainder is the definition's.
use Prim.Native.Nat.{ℕ}
use mathlib.Core.Path.{ap, ◌∙◌}
use mathlib.Core.List.{[], ◌∷◌}
use Rattle.std.proofs.lemmas.Result.{err_from_is_err_and}
use Rattle.rounding.specs.Rounding.{table}
use Rattle.words.specs.Words.{edition_of, accounts_of}
use Rattle.model.specs.Answers.{amount_of, amount_values}
use Rattle.model.specs.Refusals.{first_refusal, line_3, row_lines}
use Rattle.model.specs.Calls.{unchanged, remaining_of}
use Rattle.model.specs.declared.Refusal.TheVariants.{QuotaNumber}
use Rattle.results.proofs.Lines.{check_refuses, check_accepts, refused_is, accepted_is, line_3_refuses, line_3_passes}
use Rattle.queries.proofs.query.remaining.Goals as goal

pub returns-in_err-check : goal.returns-in_err-check
unfolding remaining_of amount_values row_lines
returns-in_err-check c =
    let a = c.args in
    let s = a.heap.now in
    let k = accounts_of a.words.now in
    let e = c.check in
    let p = err_from_is_err_and c.from_residual.result c.from_residual.ensures.1 in
    rw (p.1, p.2) (refused_is _ s k _ _ (check_refuses (table (edition_of a.words.now)) s k e.result e.ensures (line_3 a.quota ∷ []) _ c.in_err-check.was))

pub returns-then-quota-ge-QUOTAS : goal.returns-then-quota-ge-QUOTAS
unfolding remaining_of amount_values row_lines
returns-then-quota-ge-QUOTAS c =
    let a = c.args in
    let s = a.heap.now in
    let w = a.words.now in
    let k = accounts_of w in
    let u = table (edition_of w) in
    let e = c.check in
    let t = c.in_ok-check.was in
    refused_is _ s k _ QuotaNumber (check_accepts u s k e.result e.ensures (line_3 a.quota ∷ []) t ∙ line_3_refuses a.quota [] c.if-quota-ge-QUOTAS.true)

pub returns : goal.returns
unfolding remaining_of amount_values row_lines first_refusal
returns c =
    let a = c.args in
    let s = a.heap.now in
    let w = a.words.now in
    let k = accounts_of w in
    let u = table (edition_of w) in
    let e = c.check in
    let t = c.in_ok-check.was in
    ap (λ (x : ℕ). unchanged s k (amount_of x)) c.remaining.ensures
    ∙ accepted_is _ s k _ (check_accepts u s k e.result e.ensures (line_3 a.quota ∷ []) t ∙ line_3_passes a.quota [] c.if-quota-ge-QUOTAS.false)
