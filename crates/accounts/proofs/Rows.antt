-- Small cases of the definitions, computed: both sides of what a charge and a refund allow, and the places that a search finds.
use Rattle.std.specs.Prelude.{Some, None}
use Prim.Native.Nat.{◌+◌, ◌-◌}
use mathlib.Core.Path.{◌≡◌, refl}
use mathlib.Core.Bool.{true, false}
use mathlib.Core.List.{[], ◌∷◌, ◌++◌, map}
use lib.ListN.{replicate}
use Rattle.accounts.specs.declared.Quota.{Quota}
use Rattle.accounts.specs.declared.Hold.{Hold}
use Rattle.accounts.specs.declared.Accounts.{Accounts}
use Rattle.accounts.specs.declared.settings.Kind.TheVariants.{Plain, Quarantine}
use Rattle.accounts.specs.declared.settings.Edition.TheVariants.{First, Second}
use Rattle.accounts.specs.Accounts.{QUOTAS, HOLDS, zero_hold, zero_accounts, with_quotas, with_last_serial, with_kind, with_edition, granted, plain}
use Rattle.accounts.specs.Accounts.{with_remainder}
use Rattle.accounts.specs.Accounts.{opened}
use Rattle.accounts.specs.Accounts.{ALLOCATE, CLAIM, FREE_ALL, permissible, permissions, permits, cleared, left_permissions, clear_permissions}
use Rattle.accounts.specs.Accounts.{remaining, spent, change_quota, less_paid, paid_back, charged, refunded, charge, refund}
use Rattle.accounts.specs.Accounts.{used, unused, is_for, first_from, find_hold, lowest_unused, hold_at, put_hold, drop_hold, record_of, drop_records}

-- every quota has 5
unfoldable pub five : Accounts
five = opened plain (replicate QUOTAS 5)

-- one hold record, at place 2
unfoldable pub holder : Hold
holder = record { serial = 7; quota = 1; count = 1 }

unfoldable pub held : Accounts
held = put_hold 2 holder five

-- accounts of zeros, opened ones, and another last serial
pub opening_rows : (zero_accounts
    ≡ record {
      quotas = replicate 32 (record { grant = 0; remainder = 0; permissions = 0 });
      last_serial = 0;
      holds = replicate 512 (record { serial = 0; quota = 0; count = 0 });
      kind = 0;
      edition = 0;
    })
    × (opened plain (5 ∷ 6 ∷ [])
    ≡ record {
      quotas = record { grant = 5; remainder = 5; permissions = 7 } ∷ record { grant = 6; remainder = 6; permissions = 7 } ∷ [];
      last_serial = 0;
      holds = zero_accounts.holds;
      kind = 0;
      edition = 0;
    })
    × (opened (record { kind = Quarantine; edition = First }) (5 ∷ 6 ∷ []) ≡ with_kind 1 (opened plain (5 ∷ 6 ∷ [])))
    × (opened (record { kind = Plain; edition = Second }) (5 ∷ 6 ∷ []) ≡ with_edition 1 (opened plain (5 ∷ 6 ∷ [])))
    × (with_last_serial 9 five ≡ record { quotas = five.quotas; last_serial = 9; holds = five.holds; kind = 0; edition = 0 })
unfolding five opened
opening_rows = (refl, refl, refl, refl, refl)

-- 5 remain of 9, and the permission to allocate is cleared
unfoldable pub nine : Quota
nine = record { grant = 9; remainder = 5; permissions = 6 }

-- a quota alone: up to what remains it pays, and up to 32 bits it is paid back
pub quota_rows : (map (λ n. (charged n nine).remainder) (0 ∷ 5 ∷ 6 ∷ []) ≡ 5 ∷ 0 ∷ 5 ∷ [])
    × (map (λ n. (refunded n nine).remainder) (1 ∷ 4294967290 ∷ 4294967291 ∷ []) ≡ 6 ∷ 4294967295 ∷ 5 ∷ [])
    × ((charged 2 nine).grant ≡ 9) × ((refunded 2 nine).grant ≡ 9) × ((charged 2 nine).permissions ≡ 6) × ((refunded 2 nine).permissions ≡ 6)
unfolding nine less_paid paid_back
quota_rows = (refl, refl, refl, refl, refl, refl)

-- one quota more than there are
unfoldable pub too_many : Accounts
too_many = opened plain (replicate (QUOTAS + 1) 5)

-- one quota changes, the others and the records stay, and a quota that is not there does not change
pub change_rows : (map (λ q. remaining q (change_quota 1 (with_remainder 3) five)) (0 ∷ 1 ∷ 2 ∷ []) ≡ 5 ∷ 3 ∷ 5 ∷ [])
    × ((change_quota 1 (with_remainder 3) held).holds ≡ held.holds) × (change_quota QUOTAS (with_remainder 3) too_many ≡ too_many)
unfolding five holder held too_many opened put_hold remaining change_quota
change_rows = (refl, refl, refl)

-- a charge up to what remains is paid, one more is not, and a quota that is not there pays nothing
pub charge_rows : (map (λ n. remaining 1 (charge 1 n five)) (0 ∷ 4 ∷ 5 ∷ 6 ∷ []) ≡ 5 ∷ 1 ∷ 0 ∷ 5 ∷ [])
    × (remaining (QUOTAS - 1) (charge (QUOTAS - 1) 2 five) ≡ 3)
    × (charge QUOTAS 1 five ≡ five) × (charge QUOTAS 1 too_many ≡ too_many)
unfolding five too_many opened remaining change_quota less_paid charge
charge_rows = (refl, refl, refl, refl)

-- a refund is paid up to 32 bits, one more is not
pub refund_rows : (map (λ n. remaining 1 (refund 1 n five)) (1 ∷ 4294967290 ∷ 4294967291 ∷ []) ≡ 6 ∷ 4294967295 ∷ 5 ∷ [])
    × (remaining (QUOTAS - 1) (refund (QUOTAS - 1) 2 five) ≡ 7)
    × (refund QUOTAS 1 five ≡ five) × (refund QUOTAS 1 too_many ≡ too_many)
unfolding five too_many opened remaining change_quota paid_back refund
refund_rows = (refl, refl, refl, refl)

-- what was charged is spent, nothing where more remains than was granted, and nothing of a quota that is not there
pub spent_rows : (map (λ n. spent 1 (charge 1 n five)) (0 ∷ 4 ∷ 5 ∷ []) ≡ 0 ∷ 4 ∷ 5 ∷ []) × (spent 1 (refund 1 1 five) ≡ 0) × (spent QUOTAS five ≡ 0)
unfolding five opened remaining spent change_quota less_paid paid_back charge refund
spent_rows = (refl, refl, refl)

-- all permissions are set at opening, by their bits; a quota that is not there has none
pub permits_rows : (map (λ b. permits b 0 five) (ALLOCATE ∷ CLAIM ∷ FREE_ALL ∷ []) ≡ true ∷ true ∷ true ∷ [])
    × (map (λ b. permits b QUOTAS five) (ALLOCATE ∷ CLAIM ∷ FREE_ALL ∷ []) ≡ false ∷ false ∷ false ∷ [])
    × (map (λ n. map (λ b. permits b 1 (clear_permissions 1 n five)) (1 ∷ 2 ∷ 4 ∷ [])) (1 ∷ 2 ∷ 4 ∷ [])
    ≡ (false ∷ true ∷ true ∷ []) ∷ (true ∷ false ∷ true ∷ []) ∷ (true ∷ true ∷ false ∷ []) ∷ [])
unfolding five opened permits change_quota clear_permissions
permits_rows = (refl, refl, refl)

-- a permission goes where its bit is set, stays where it is not, and is never set; bits above 2 mean nothing; the last quota, and one too many
pub clear_rows : (map (λ n. left_permissions 1 n five) (0 ∷ 1 ∷ 2 ∷ 3 ∷ 4 ∷ 5 ∷ 6 ∷ 7 ∷ 8 ∷ 4294967288 ∷ 4294967290 ∷ [])
    ≡ 7 ∷ 6 ∷ 5 ∷ 4 ∷ 3 ∷ 2 ∷ 1 ∷ 0 ∷ 7 ∷ 7 ∷ 5 ∷ [])
    × (map (cleared 2) (0 ∷ 1 ∷ 2 ∷ 3 ∷ 4 ∷ 5 ∷ 6 ∷ 7 ∷ []) ≡ 0 ∷ 1 ∷ 0 ∷ 1 ∷ 4 ∷ 5 ∷ 4 ∷ 5 ∷ [])
    × (permissions (clear_permissions (QUOTAS - 1) 5 five) ≡ replicate (QUOTAS - 1) 7 ++ (2 ∷ []))
    × (clear_permissions 1 5 five
    ≡ with_quotas (granted 5 ∷ record { grant = 5; remainder = 5; permissions = 2 } ∷ replicate (QUOTAS - 2) (granted 5)) five)
    × (left_permissions QUOTAS 0 five ≡ 0) × (clear_permissions QUOTAS 7 five ≡ five) × (clear_permissions QUOTAS 7 too_many ≡ too_many)
    × (map permissible (0 ∷ 7 ∷ 8 ∷ 255 ∷ []) ≡ true ∷ true ∷ false ∷ false ∷ [])
unfolding five too_many opened change_quota clear_permissions
clear_rows = (refl, refl, refl, refl, refl, refl, refl, refl)

-- each number of a record makes it used
pub used_rows : map used (record { serial = 0; quota = 0; count = 0 } ∷ record { serial = 1; quota = 0; count = 0 }
    ∷ record { serial = 0; quota = 1; count = 0 } ∷ record { serial = 0; quota = 0; count = 1 } ∷ []) ≡ false ∷ true ∷ true ∷ true ∷ []
unfolding used
used_rows = refl

-- the search finds the record by serial and quota; dropping it leaves none; a place past the table stores nothing
pub place_rows : (map (λ s. find_hold s 1 held) (7 ∷ 8 ∷ 0 ∷ []) ≡ Some 2 ∷ None ∷ None ∷ [])
    × (find_hold 7 0 held ≡ None) × (lowest_unused held ≡ Some 0) × (drop_hold 2 held ≡ five) × (put_hold HOLDS holder five ≡ five)
unfolding five holder held opened used unused is_for first_from find_hold lowest_unused put_hold drop_hold
place_rows = (refl, refl, refl, refl, refl)

-- an unused record is nobody's; the record at a place, zeros past the table
pub unused_rows : (find_hold 0 0 held ≡ None) × (record_of 0 zero_hold ≡ false)
    × (map (λ i. hold_at i held) (1 ∷ 2 ∷ 3 ∷ HOLDS ∷ []) ≡ zero_hold ∷ holder ∷ zero_hold ∷ zero_hold ∷ [])
unfolding five holder held opened used is_for first_from find_hold put_hold hold_at
unused_rows = (refl, refl, refl)

-- the records of the quota are dropped, and no others
pub drop_rows : (drop_records 1 held.holds ≡ five.holds) × (drop_records 0 held.holds ≡ held.holds)
unfolding five holder held opened used put_hold drop_records
drop_rows = (refl, refl)
