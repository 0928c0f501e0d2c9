-- Two images that are not compared, and the difference of two that are (`Compared`).
use mathlib.Core.Path.{ap, sym, ◌∙◌}
use Rattle.std.proofs.lemmas.Result.{err_from_is_err_and}
use Rattle.comparison.specs.Compare.{paired}
use Rattle.comparison.proofs.Compared.{compared_nth, compared_refused}
use Rattle.comparison.proofs.comparing.compare.Goals as goal

pub returns-in_err-pair_of : goal.returns-in_err-pair_of
returns-in_err-pair_of c =
    let a = c.args in
    let p = err_from_is_err_and c.from_residual.result c.from_residual.ensures.1 in
    let w = c.in_err-pair_of in
    let e = sym (ap paired w.was) ∙ c.pair_of.ensures in
    rw (p.1, p.2) (compared_refused a.first.now a.second.now w.field-0.0.0 w.field-0.0.1 e a.n)

pub returns : goal.returns
returns c =
    let a = c.args in
    let e = sym (ap paired c.in_ok-pair_of.was) ∙ c.pair_of.ensures in
    c.nth_difference.ensures ∙ compared_nth a.first.now a.second.now e a.n
