-- What the accounts that words hold say, by the words.
use Prim.Native.Nat.{ℕ, ◌-◌, ◌≤◌, ◌<◌}
use mathlib.Core.Path.{◌≡◌, ap, sym}
use mathlib.Core.List.{List}
use native.Mathlib.Omega.{arith}
use lib.ListN.{get_or-eq_default}
use Rattle.accounts.specs.declared.Quota.{Quota}
use Rattle.accounts.specs.Accounts.{QUOTAS, HOLDS, zero_hold, zero_quota, quota_at, remaining, spent, hold_at}
use Rattle.accounts.proofs.Laws.{Sized, hold_at_out}
use Rattle.words.specs.Words.{hold_in, grant_in, remainder_in, permissions_in, entry_in, quotas_of, accounts_of}
use Rattle.words.proofs.Words.{holds_long, holds_at, quotas_long, quotas_at}

module _ (words : List ℕ) where
  pub sized : Sized (accounts_of words)
  sized = record { quotas_long = quotas_long words; holds_long = holds_long words }

  -- the record at a place
  pub hold_is : (p : ℕ) → p < HOLDS → hold_in words p ≡ hold_at p (accounts_of words)
  unfolding hold_at
  hold_is p l = sym (holds_at words p l)

  pub hold_none : (p : ℕ) → HOLDS ≤ p → zero_hold ≡ hold_at p (accounts_of words)
  hold_none p l = sym (hold_at_out p (accounts_of words) (omega (arith, holds_long words)))

  -- the quota with a number
  pub quota_is : (q : ℕ) → q < QUOTAS → entry_in words q ≡ quota_at q (accounts_of words)
  quota_is q l = sym (quotas_at words q l)

  pub quota_none : (q : ℕ) → QUOTAS ≤ q → zero_quota ≡ quota_at q (accounts_of words)
  quota_none q l = sym (get_or-eq_default (quotas_of words) zero_quota (omega (arith, quotas_long words)))

  pub remaining_is : (q : ℕ) → q < QUOTAS → remainder_in words q ≡ remaining q (accounts_of words)
  unfolding remaining
  remaining_is q l = ap (λ (x : Quota). x.remainder) (quota_is q l)

  pub remaining_none : (q : ℕ) → QUOTAS ≤ q → 0 ≡ remaining q (accounts_of words)
  unfolding remaining
  remaining_none q l = ap (λ (x : Quota). x.remainder) (quota_none q l)

  pub spent_is : (q : ℕ) → q < QUOTAS → grant_in words q - remainder_in words q ≡ spent q (accounts_of words)
  unfolding spent remaining
  spent_is q l = ap (λ (x : Quota). x.grant - x.remainder) (quota_is q l)

  pub spent_none : (q : ℕ) → QUOTAS ≤ q → 0 ≡ spent q (accounts_of words)
  unfolding spent remaining
  spent_none q l = ap (λ (x : Quota). x.grant - x.remainder) (quota_none q l)

  pub permissions_is : (q : ℕ) → q < QUOTAS → permissions_in words q ≡ (quota_at q (accounts_of words)).permissions
  permissions_is q l = ap (λ (x : Quota). x.permissions) (quota_is q l)

  pub permissions_none : (q : ℕ) → QUOTAS ≤ q → 0 ≡ (quota_at q (accounts_of words)).permissions
  permissions_none q l = ap (λ (x : Quota). x.permissions) (quota_none q l)
