-- `queries::is_lent` meets its contract: the check decides first, then the object, whose block lies in the heap.
use Prim.Native.Nat.{ℕ}
use native.Mathlib.Omega.{arith}
use mathlib.Core.Path.{◌≡◌, ap, sym, subst, ◌∙◌}
use Rattle.std.proofs.lemmas.Result.{err_from_is_err_and}
use Rattle.rounding.specs.Rounding.{table}
use Rattle.words.specs.Words.{edition_of, accounts_of}
use Rattle.model.specs.Answers.{verdict_values}
use Rattle.queries.proofs.Lent.{lend_refused, lend_missing, lend_accepted, lend_inside}
use Rattle.survey.specs.declared.Known.{Known}
use Rattle.survey.specs.declared.Wanted.{Wanted}
use Rattle.survey.specs.Survey.{verdict_in, Survey}
use Rattle.queries.proofs.lending.is_lent.Goals as goal

pub returns-in_err-known : goal.returns-in_err-known
unfolding verdict_values
returns-in_err-known c =
    let a = c.args in
    let p = err_from_is_err_and c.from_residual.result c.from_residual.ensures.1 in
    rw (p.1, p.2) (
      lend_refused (table (edition_of a.words.now)) a.heap.now (accounts_of a.words.now) a.handle (verdict_in c.survey.result) c.survey.ensures.told _
          (ap verdict_in c.in_err-known.was),
      λ e. let z : ◌≡◌ {A = ℕ} 0 1 = cc in absurd (omega arith),
    )

pub returns-in_default : goal.returns-in_default
unfolding verdict_values
returns-in_default c =
    let a = c.args in
    let s = a.heap.now in
    let k = accounts_of a.words.now in
    let n = c.in_ok-known in
    let g = subst (λ (x : Wanted). Survey s k x c.survey.result) c.asked.ensures c.survey.ensures in
    let none = sym (ap (λ (y : Known). y.object) (g.known n.known n.was)) ∙ c.in_default.is in (
      lend_missing (table (edition_of a.words.now)) s k a.handle (verdict_in c.survey.result) g.told (ap verdict_in n.was) none,
      λ e. let z : ◌≡◌ {A = ℕ} 0 1 = cc in absurd (omega arith),
    )

pub returns : goal.returns
unfolding verdict_values
returns c =
    let a = c.args in
    let s = a.heap.now in
    let k = accounts_of a.words.now in
    let u = table (edition_of a.words.now) in
    let n = c.in_ok-known in
    let g = subst (λ (x : Wanted). Survey s k x c.survey.result) c.asked.ensures c.survey.ensures in
    let v = verdict_in c.survey.result in
    let f = sym (ap (λ (y : Known). y.object) (g.known n.known n.was)) ∙ c.in-Some.is in
    (lend_accepted u s k a.handle v g.told (ap verdict_in n.was) _ f, λ e. lend_inside u s k a.handle v g.told (ap verdict_in n.was) _ f)
