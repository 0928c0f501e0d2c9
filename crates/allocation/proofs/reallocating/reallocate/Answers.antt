-- `allocation::reallocate` meets its contract: the first lines of reallocate refuse, or `exchange` gives the definition's outcome.
use Prim.Native.Nat.{ℕ}
use mathlib.Core.Path.{refl, sym, subst}
use Rattle.std.proofs.lemmas.Result.{err_from_is_err_and}
use Rattle.rounding.specs.Rounding.{table}
use Rattle.words.specs.Words.{accounts_of}
use Rattle.model.specs.Refusals.{row_lines}
use Rattle.allocation.specs.Asked.{Rounded, Requested}
use Rattle.allocation.proofs.Grants.{requested_by}
use Rattle.allocation.proofs.ReallocateAnswers.{from_5, refuses}
use Rattle.allocation.proofs.reallocating.reallocate.Goals as goal
use Rattle.allocation.proofs.reallocating.reallocate.Goals.{In_ok-known}

pub returns-in_err-known-clause-holds : goal.returns-in_err-known-clause-holds
unfolding row_lines
returns-in_err-known-clause-holds c =
    let a = c.args in
    let s = a.heap.now in
    let k = accounts_of a.words.now in
    let u = table k.edition in
    let p = err_from_is_err_and c.from_residual.result c.from_residual.ensures.1 in
    rw (p.1, p.2) (refuses u s k a.quota a.handle a.length _ _ refl
    (c.admitted.ensures.refuses _ c.in_err-known.was u s c.survey-surveyed.ensures.told (from_5 u s k a.quota a.handle a.length)))

requested : (c : In_ok-known) → let a = c.args in let k = accounts_of a.words.now in let w = c.request-wanted.result in
    Rounded k.edition a.length w.need w.unit × Requested a.heap.now k a.quota w.need w.unit
requested c =
    let a = c.args in
    requested_by a.heap.now (accounts_of a.words.now) a.quota a.length _ c.request-wanted.result c.survey-surveyed.result c.admitted.result
    c.survey-surveyed.ensures.told c.admitted.ensures c.in_ok-known.known c.in_ok-known.was c.edition.result c.edition.ensures c.request-wanted.ensures

pub exchange-requires : goal.exchange-requires
exchange-requires c =
    let a = c.args in
    let w = c.request-wanted in
    let n = c.in_ok-known in
    record {
      requested =
          subst (λ (q : ℕ). Requested a.heap.now (accounts_of a.words.now) q w.result.need w.result.unit) (sym w.ensures.quota)
          (requested (goal.at.exchange-requires c).In_ok-known).1;
      known = c.survey-surveyed.ensures.known n.known (c.admitted.ensures.accepts n.known n.was).0;
    }
