-- The search over the offsets gives the first at which the bytes are the same, or not the same, as it is wanted.
use Rattle.std.specs.Prelude.{not}
use Rattle.std.proofs.Common.{◌≡◌, arith, rules, tests}
use Rattle.std.proofs.lemmas.Iterator.{first_from_Range}
use Rattle.comparison.specs.Finding.{same_byte}
use Rattle.comparison.proofs.finding.find_byte.Goals as goal

pub returns : goal.returns
returns c =
    let a = c.args in
    let test = same_byte a.first.now a.second.now a.start a.other in
    first_from_Range _ _ _ c.find.result (λ k. test k ≡ a.same) (λ k. test k ≡ not a.same) c.find.ensures.ran
    (λ x q h. grind (arith, tests))
    (λ x q h. (search rules, grind (arith, tests)))
