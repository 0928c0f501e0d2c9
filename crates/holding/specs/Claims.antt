-- The two ways of a claim, by the place of the record: what each leaves of the accounts, and its answer.
use Rattle.std.specs.Prelude.{ℕ, ◌+◌, cond, ltb, eqb, Option, Some, None, Ok, Err}
use Rattle.accounts.specs.declared.Accounts.{Accounts}
use Rattle.accounts.specs.declared.Hold.{Hold}
use Rattle.accounts.specs.Accounts.{remaining, charge, hold_at, put_hold, lowest_unused}
use Rattle.model.specs.Holds.{with_count}
use Rattle.model.specs.Consistent.{charge_of}
use Rattle.model.specs.Refusals.{greatest_count}
use Rattle.model.specs.declared.Refusal.{Refusal}
use Rattle.model.specs.declared.Refusal.TheVariants.{CountLimit, QuotaExceeded, HoldsExhausted}
use Rattle.results.specs.Results.{AmountResult}

-- a refusal leaves the accounts as they are
abbrev pub not_claimed : Refusal → Accounts → AmountResult
not_claimed x k = record { accounts = k; answer = Err x }

-- the length of the object is answered
abbrev pub claimed_length : ℕ → Accounts → AmountResult
claimed_length n k = record { accounts = k; answer = Ok n }

-- the count of the record at a place is raised, unless it is the greatest
unfoldable pub claim_again : ℕ → ℕ → Accounts → AmountResult
claim_again at n k =
    let raised = claimed_length n (put_hold at (with_count ((hold_at at k).count + 1) (hold_at at k)) k) in
    cond (eqb (hold_at at k).count greatest_count) (not_claimed CountLimit k) raised

-- a record is stored in the unused place, if there is one, and the quota pays
unfoldable pub claim_in : Option ℕ → ℕ → Hold → ℕ → Accounts → AmountResult
claim_in None q h n k = not_claimed HoldsExhausted k
claim_in (Some i) q h n k = claimed_length n (put_hold i h (charge q (charge_of n) k))

unfoldable pub claim_first : ℕ → Hold → ℕ → Accounts → AmountResult
claim_first q h n k = cond (ltb (remaining q k) (charge_of n)) (not_claimed QuotaExceeded k) (claim_in (lowest_unused k) q h n k)
