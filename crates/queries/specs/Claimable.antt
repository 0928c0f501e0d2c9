-- Whether a quota can claim an object (rule 8.37).
use Rattle.std.specs.Prelude.{ℕ, List}
use Rattle.accounts.specs.declared.Accounts.{Accounts}
use Rattle.model.specs.Answers.{Values, refused, amount_values}
use Rattle.model.specs.Calls.{Outcome, unchanged, claim}
use Rattle.model.specs.declared.Handle.{Handle}
use Rattle.results.specs.Results.{AmountResult}

-- rule 8.37: the refusal that a claim would give, 0 where it would be accepted; nothing changes
abbrev pub can_claim : (ℕ → ℕ) → List ℕ → Accounts → ℕ → Handle → Outcome
can_claim unit s k q h = unchanged s k (refused (claim unit s k q h).values.refusal)

-- of a claim's result, its refusal alone
abbrev pub refusal_in : AmountResult → Values
refusal_in a = refused (amount_values a.answer).refusal
