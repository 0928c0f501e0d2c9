-- An amount as a result makes the outcome with that amount.
use Rattle.std.specs.Prelude.{Ok}
use Prim.Native.Nat.{ℕ}
use mathlib.Core.Path.{◌≡◌, ap}
use mathlib.Core.List.{List}
use Rattle.accounts.specs.declared.Accounts.{Accounts}
use Rattle.model.specs.Answers.{amount_of, amount_values}
use Rattle.results.specs.Results.{outcome}
use Rattle.results.specs.Results.{AmountResult}
use Rattle.results.specs.Results.{amount_outcome}

pub gives : (s : List ℕ) (k : Accounts) (n : ℕ) (r : AmountResult) → r ≡ record { accounts = k; answer = Ok n }
    → amount_outcome s r ≡ outcome s k (amount_of n)
unfolding amount_values
gives s k n r e = ap (amount_outcome s) e
