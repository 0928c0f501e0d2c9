-- What an accepted release leaves and answers.
use Rattle.std.specs.Prelude.{ℕ, List}
use Rattle.accounts.specs.declared.Accounts.{Accounts}
use Rattle.model.specs.Answers.{amount_of}
use Rattle.model.specs.Calls.{Outcome, leaves, state_of, released, given_back}
use Rattle.model.specs.declared.Handle.{Handle}

-- one hold of the quota on the object is given up
abbrev pub claim_dropped : List ℕ → Accounts → ℕ → Handle → Outcome
claim_dropped s k q o = leaves (released q o (state_of s k)) (amount_of (given_back q o k))
