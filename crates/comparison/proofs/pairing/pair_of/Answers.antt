-- The first image's refusal comes before all, the second's before those of both (`Compared`).
use mathlib.Core.Path.{ap, ◌∙◌}
use Rattle.std.specs.Prelude.{Err}
use Rattle.std.proofs.lemmas.Result.{err_from_is_err_and, MatchResult-at_ok, MatchResult-at_err}
use Rattle.comparison.specs.declared.Which.{Which}
use Rattle.comparison.specs.Compare.{paired}
use Rattle.comparison.proofs.Compared.{first_bad, first_good, second_bad, second_good}
use Rattle.comparison.proofs.pairing.pair_of.Goals as goal

pub returns-in_err-accepted : goal.returns-in_err-accepted
returns-in_err-accepted c =
    let a = c.args in
    let p = err_from_is_err_and c.from_residual.result c.from_residual.ensures.1 in
    let e = c.in_err-accepted in
    let w = MatchResult-at_err _ _ e.field-0.0 e.was c.accepted.ensures in
    rw (p.1, p.2)
    (ap (λ (v : Which). paired (Err (e.field-0.0.0, v))) w.1 ∙ first_bad a.first.now a.second.now e.field-0.0.0 w.0)

pub returns-in_err-accepted-2 : goal.returns-in_err-accepted-2
returns-in_err-accepted-2 c =
    let a = c.args in
    let p = err_from_is_err_and c.from_residual-in_err-accepted-2.result c.from_residual-in_err-accepted-2.ensures.1 in
    let e = c.in_err-accepted-2 in
    let w = MatchResult-at_err _ _ e.field-0.0 e.was c.accepted-2.ensures in
    let g = MatchResult-at_ok _ _ _ c.in_ok-accepted.was c.accepted.ensures in
    rw (p.1, p.2)
    (ap (λ (v : Which). paired (Err (e.field-0.0.0, v))) w.1
    ∙ second_bad a.first.now a.second.now e.field-0.0.0 w.0 ∙ first_good a.first.now a.second.now g)

pub returns : goal.returns
returns c =
    let a = c.args in
    let g = MatchResult-at_ok _ _ _ c.in_ok-accepted.was c.accepted.ensures in
    let h = MatchResult-at_ok _ _ _ c.in_ok-accepted-2.was c.accepted-2.ensures in
    c.both.ensures ∙ second_good a.first.now a.second.now h ∙ first_good a.first.now a.second.now g
