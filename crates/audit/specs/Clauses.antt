-- What the debts of quotas and the settlement of a live block promise.
use Rattle.std.specs.Prelude.{ℕ, ◌-◌, ◌<◌, ◌≤◌, ◌≡◌, List, map, Bool, true, false, ◌⊎◌, length, get_or, set, Some, None}
use Rattle.accounts.specs.declared.Quota.{Quota}
use Rattle.accounts.specs.Accounts.{QUOTAS}
use Rattle.lists.specs.Lists.{all}
use Rattle.audit.specs.Keys.{strike, struck, Payment, pay, unpaid}
use Rattle.audit.specs.Audit.{owes, entry_valid, begin, settled}

-- whether every quota is solvent and has a number that is permissions, and what each owes
abbrev pub Owing : List Quota → Bool → List ℕ → Type 0
Owing qs r owed = (r ≡ all entry_valid qs) × (r ≡ true → owed ≡ map owes qs)

-- whether a quota owes the charge, which is taken off
abbrev pub Charged : ℕ → ℕ → List ℕ → Bool → List ℕ → Type 0
Charged charge q owed true owed' = (charge ≤ get_or owed q 0) × (owed' ≡ set owed q (get_or owed q 0 - charge))
Charged charge q owed false owed' = get_or owed q 0 < charge

-- the settlement of a serial leaves the other keys, and what is owed once those of the serial are paid for
pub record Left (serial charge : ℕ) (keys : List ℕ) (p : Payment) (keys' owed' : List ℕ) : Type 0 where
  pub struck_all : keys' ≡ strike serial keys
  pub rest : settled (strike serial keys) (pay serial charge keys (Some p)) ≡ Some (begin keys' owed')
  pub owed_long : length owed' ≡ QUOTAS

-- or a quota cannot pay
abbrev pub Paid : ℕ → ℕ → List ℕ → Payment → Bool → List ℕ → List ℕ → Type 0
Paid serial charge keys p true keys' owed' = Left serial charge keys p keys' owed'
Paid serial charge keys p false keys' owed' = pay serial charge keys (Some p) ≡ None

-- where no quota has paid yet: there is a key, or none
abbrev pub Settled : ℕ → ℕ → List ℕ → List ℕ → Bool → List ℕ → List ℕ → Type 0
Settled serial charge keys owed true keys' owed' = (struck serial keys ≡ 0 → ⊥) × Paid serial charge keys (unpaid owed) true keys' owed'
Settled serial charge keys owed false keys' owed' = (struck serial keys ≡ 0) ⊎ Paid serial charge keys (unpaid owed) false keys' owed'
