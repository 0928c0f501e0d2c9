-- What a change of a quota's remainder does.
use Rattle.std.specs.Prelude.{ℕ, ◌^◌, ◌<◌, ◌≡◌, List}
use Rattle.accounts.specs.Accounts.{with_remainder, change_quota}
use Rattle.words.specs.Words.{accounts_of, Padded}

-- where Gives says that f of a remainder of 32 bits is given, the remainder of that quota becomes f of it, and padding is as it was
abbrev pub Makes : (ℕ → ℕ → Type 0) → ℕ → List ℕ → List ℕ → Type 0
Makes Gives q words words' = (f : ℕ → ℕ) → ((r r' : ℕ) → r < 2 ^ 32 → Gives r r' → r' ≡ f r)
    → (accounts_of words' ≡ change_quota q (λ x. with_remainder (f x.remainder) x) (accounts_of words)) × Padded words words'
