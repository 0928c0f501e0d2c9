-- The search finds the first that is not the same, or passes them all (`Found`).
use Rattle.std.proofs.Common.{◌≡◌, ℕ, Bool, true, false, arith, rules, tests, ◌∙◌}
use Rattle.std.proofs.lemmas.Iterator.{first_from_Range}
use Rattle.std.proofs.lemmas.List.{get_or_read}
use Rattle.std.proofs.lemmas.Option.{MatchOption-at_none, MatchOption-at_some}
use Rattle.accounts.specs.Accounts.{QUOTAS, zero_quota}
use Rattle.comparison.specs.Differences.{same_quota}
use Rattle.comparison.specs.Finding.{Finds}
use Rattle.comparison.proofs.Found.{alike, quota_found, quotas_none}
use Rattle.comparison.proofs.going.from_quota.Goals as goal
use Rattle.comparison.proofs.going.from_quota.Goals.{After-find}

-- the first that is not the same
found : (c : After-find)
    → Finds (alike same_quota zero_quota c.accounts_in-one.result.quotas c.accounts_in-two.result.quotas) false c.args.number QUOTAS c.find.result
unfolding same_quota
found c =
    let test : ℕ → Bool = alike same_quota zero_quota c.accounts_in-one.result.quotas c.accounts_in-two.result.quotas in
    first_from_Range _ _ _ c.find.result (λ k. test k ≡ false) (λ k. test k ≡ true) c.find.ensures.ran
    (λ x q h. grind (arith, tests, get_or_read))
    (λ x q h. (search rules, grind (arith, tests, get_or_read)))

pub returns-in_default : goal.returns-in_default
returns-in_default c =
    let a = c.args in
    c.from_record.ensures
    ∙ quotas_none a.first.now a.second.now c.accounts_in-one.result c.accounts_in-two.result c.accounts_in-one.ensures
    c.accounts_in-two.ensures a.number (MatchOption-at_none _ _ c.in_default.is (found (goal.at.returns-in_default c).After-find))

pub returns : goal.returns
returns c =
    let a = c.args in
    quota_found a.first.now a.second.now c.accounts_in-one.result c.accounts_in-two.result c.accounts_in-one.ensures
    c.accounts_in-two.ensures a.number c.in-Some.q
    (MatchOption-at_some _ _ c.in-Some.q c.in-Some.is (found (goal.at.returns c).After-find))
