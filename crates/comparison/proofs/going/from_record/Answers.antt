-- The search finds the first that is not the same, or passes them all (`Found`).
use Rattle.std.proofs.Common.{◌≡◌, ℕ, Bool, true, false, arith, rules, tests, ◌∙◌}
use Rattle.std.proofs.lemmas.Iterator.{first_from_Range}
use Rattle.std.proofs.lemmas.List.{get_or_read}
use Rattle.std.proofs.lemmas.Option.{MatchOption-at_none, MatchOption-at_some}
use Rattle.accounts.specs.Accounts.{HOLDS, zero_hold}
use Rattle.comparison.specs.Differences.{same_record}
use Rattle.comparison.specs.Finding.{Finds}
use Rattle.comparison.proofs.Found.{alike, record_found, records_none}
use Rattle.comparison.proofs.going.from_record.Goals as goal
use Rattle.comparison.proofs.going.from_record.Goals.{After-find}

-- the first that is not the same
found : (c : After-find)
    → Finds (alike same_record zero_hold c.accounts_in-one.result.holds c.accounts_in-two.result.holds) false c.args.place HOLDS c.find.result
unfolding same_record
found c =
    let test : ℕ → Bool = alike same_record zero_hold c.accounts_in-one.result.holds c.accounts_in-two.result.holds in
    first_from_Range _ _ _ c.find.result (λ k. test k ≡ false) (λ k. test k ≡ true) c.find.ensures.ran
    (λ x q h. grind (arith, tests, get_or_read))
    (λ x q h. (search rules, grind (arith, tests, get_or_read)))

pub returns-in_default : goal.returns-in_default
returns-in_default c =
    let a = c.args in
    c.from_byte.ensures
    ∙ records_none a.first.now a.second.now c.accounts_in-one.result c.accounts_in-two.result c.accounts_in-one.ensures
    c.accounts_in-two.ensures a.place (MatchOption-at_none _ _ c.in_default.is (found (goal.at.returns-in_default c).After-find))

pub returns : goal.returns
returns c =
    let a = c.args in
    record_found a.first.now a.second.now c.accounts_in-one.result c.accounts_in-two.result c.accounts_in-one.ensures
    c.accounts_in-two.ensures a.place c.in-Some.p
    (MatchOption-at_some _ _ c.in-Some.p c.in-Some.is (found (goal.at.returns c).After-find))
