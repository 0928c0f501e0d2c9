-- What the types of the accounts say of them, by value and as words: so many quotas, and every grant fits 32 bits.
-- The type of an array says of each element what the element's type says, so it goes along the list.
use Prim.Native.Nat.{ℕ, zero, suc, ◌*◌, ◌<◌, ◌^◌}
use native.Mathlib.Omega.{arith}
use mathlib.Core.Path.{◌≡◌, refl, subst}
use mathlib.Core.List.{List, [], ◌∷◌}
use mathlib.Core.Bool.{Bool, true, false}
use borrow.Author.Tests.{ltb-true, ltb-false}
use lib.Dec.{ltb}
use lib.ListN.{get_or}
use mir.Val.{Val}
use denote.Array.{each}
use denote.Shadow.{shadow}
use Rattle.rounding.specs.Rounding.{table}
use Rattle.accounts.specs.declared.Quota.{Quota}
use Rattle.accounts.specs.Accounts.{QUOTAS, zero_quota, quota_at}
use Rattle.accounts.specs.contracts.Quota as Q
use Rattle.invariant.proofs.Recorded.{Limits}
use Rattle.words.specs.Words.{edition_of, accounts_of, Narrow}
use Rattle.words.proofs.Words.{quotas_long}
use Rattle.words.proofs.Readings.{quota_is, quota_none}
use Rattle.allocation.specs.Ready.{Checked}
use Rattle.allocation.proofs.Ready.{checked_serial}

-- the grants of an array of quotas fit 32 bits
pub grants_narrow : (qs : List Quota) (us : List Val) → shadow (each (Q.the_row).Denot (Q.the_row).own_val qs us)
    → (i : ℕ) → (get_or qs i zero_quota).grant < 2 ^ 32
grants_narrow [] us s i = omega arith
grants_narrow (q ∷ qs) [] s i = absurd s
grants_narrow (q ∷ qs) (u ∷ us) s zero = omega (arith, s.0.1.1.0.1)
grants_narrow (q ∷ qs) (u ∷ us) s (suc i) = grants_narrow qs us s.1 i

-- accounts of words are as narrow as the words
pub limits_of : (s words : List ℕ) (q : ℕ) → Checked (table (edition_of words)) s (accounts_of words) q → Narrow words → Limits (accounts_of words)
limits_of s words q c n =
    record { quotas = quotas_long words; narrow = narrow; serial = checked_serial (table (edition_of words)) s (accounts_of words) q c }
  where
    go : (i : ℕ) (t : Bool) → ltb i QUOTAS ≡ t → (quota_at i (accounts_of words)).grant < 2 ^ 32
    go i true e = subst (λ (x : Quota). x.grant < 2 ^ 32) (quota_is words i (ltb-true i QUOTAS e)) (n (3 * i))
    go i false e = subst (λ (x : Quota). x.grant < 2 ^ 32) (quota_none words i (ltb-false i QUOTAS e)) (omega arith)

    narrow : (i : ℕ) → (quota_at i (accounts_of words)).grant < 2 ^ 32
    narrow i = go i (ltb i QUOTAS) refl
