-- What the type of the accounts says of them. The type of an array says of each element what the element's type says, so it goes along the list.
use Prim.Native.Nat.{ℕ, zero, suc, ◌<◌, ◌^◌}
use native.Mathlib.Omega.{arith}
use mathlib.Core.List.{List, [], ◌∷◌}
use lib.ListN.{get_or}
use mir.Val.{Val}
use denote.Array.{each}
use denote.Shadow.{shadow}
use Rattle.accounts.specs.declared.Quota.{Quota}
use Rattle.accounts.specs.declared.Hold.{Hold}
use Rattle.accounts.specs.Accounts.{zero_quota, zero_hold}
use Rattle.accounts.specs.contracts.Quota as Q
use Rattle.accounts.specs.contracts.Hold as H

-- the numbers of a quota, and of a record, fit their fields
abbrev pub NarrowQuota : Quota → Type 0
NarrowQuota x = (x.grant < 2 ^ 32) × (x.remainder < 2 ^ 32) × (x.permissions < 2 ^ 8)

abbrev pub NarrowHold : Hold → Type 0
NarrowHold h = (h.serial < 2 ^ 32) × (h.quota < 2 ^ 8) × (h.count < 2 ^ 8)

pub quotas_narrow : (qs : List Quota) (us : List Val) → shadow (each (Q.the_row).Denot (Q.the_row).own_val qs us)
    → (i : ℕ) → NarrowQuota (get_or qs i zero_quota)
quotas_narrow [] us s i = (omega arith, omega arith, omega arith)
quotas_narrow (x ∷ qs) [] s i = absurd s
quotas_narrow (x ∷ qs) (u ∷ us) s zero = (omega (arith, s.0.1.1.0.1), omega (arith, s.0.1.1.1.0.1), omega (arith, s.0.1.1.1.1.0.1))
quotas_narrow (x ∷ qs) (u ∷ us) s (suc i) = quotas_narrow qs us s.1 i

pub holds_narrow : (hs : List Hold) (us : List Val) → shadow (each (H.the_row).Denot (H.the_row).own_val hs us)
    → (i : ℕ) → NarrowHold (get_or hs i zero_hold)
holds_narrow [] us s i = (omega arith, omega arith, omega arith)
holds_narrow (h ∷ hs) [] s i = absurd s
holds_narrow (h ∷ hs) (u ∷ us) s zero = (omega (arith, s.0.1.1.0.1), omega (arith, s.0.1.1.1.0.1), omega (arith, s.0.1.1.1.1.0.1))
holds_narrow (h ∷ hs) (u ∷ us) s (suc i) = holds_narrow hs us s.1 i
