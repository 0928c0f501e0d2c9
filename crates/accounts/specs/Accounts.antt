-- The accounts (rules, section 3): quotas, the last serial given, and hold records.
use Rattle.std.specs.Prelude.{ℕ, suc, ◌+◌, ◌*◌, ◌-◌, ◌/◌, ◌%◌, ◌^◌, List, [], ◌∷◌, map, Bool, not, cond, ◌&&◌, get_or}
use Rattle.std.specs.Prelude.{set, replicate, leb, ltb, eqb, Option, Some, None}
use Rattle.accounts.specs.declared.Quota.{Quota}
use Rattle.accounts.specs.declared.Hold.{Hold}
use Rattle.accounts.specs.declared.Accounts.{Accounts}
use Rattle.accounts.specs.declared.settings.Kind.{Kind}
use Rattle.accounts.specs.declared.settings.Kind.TheVariants.{Plain, Quarantine}
use Rattle.accounts.specs.declared.settings.Edition.{Edition}
use Rattle.accounts.specs.declared.settings.Edition.TheVariants.{First, Second}
use Rattle.accounts.specs.declared.settings.Settings.{Settings}

-- rule 3.2: the number of quotas and of hold records
abbrev pub QUOTAS : ℕ
QUOTAS = 32

abbrev pub HOLDS : ℕ
HOLDS = 512

-- rule 15.1: the three permissions by their bits, the number of a quota that has all of them, and which numbers are permissions
abbrev pub ALLOCATE : ℕ
ALLOCATE = 1

abbrev pub CLAIM : ℕ
CLAIM = 2

abbrev pub FREE_ALL : ℕ
FREE_ALL = 4

abbrev pub ALL_PERMISSIONS : ℕ
ALL_PERMISSIONS = 7

abbrev pub permissible : ℕ → Bool
permissible p = leb p ALL_PERMISSIONS

-- rule 3.8: zeros
abbrev pub zero_quota : Quota
zero_quota = record { grant = 0; remainder = 0; permissions = 0 }

abbrev pub zero_hold : Hold
zero_hold = record { serial = 0; quota = 0; count = 0 }

abbrev pub zero_accounts : Accounts
zero_accounts = record { quotas = replicate QUOTAS zero_quota; last_serial = 0; holds = replicate HOLDS zero_hold; kind = 0; edition = 0 }

-- one function for each field that changes
abbrev pub with_remainder : ℕ → Quota → Quota
with_remainder n q = record { grant = q.grant; remainder = n; permissions = q.permissions }

abbrev pub with_permissions : ℕ → Quota → Quota
with_permissions n q = record { grant = q.grant; remainder = q.remainder; permissions = n }

abbrev pub with_quotas : List Quota → Accounts → Accounts
with_quotas qs k = record { quotas = qs; last_serial = k.last_serial; holds = k.holds; kind = k.kind; edition = k.edition }

abbrev pub with_last_serial : ℕ → Accounts → Accounts
with_last_serial n k = record { quotas = k.quotas; last_serial = n; holds = k.holds; kind = k.kind; edition = k.edition }

abbrev pub with_holds : List Hold → Accounts → Accounts
with_holds hs k = record { quotas = k.quotas; last_serial = k.last_serial; holds = hs; kind = k.kind; edition = k.edition }

abbrev pub with_kind : ℕ → Accounts → Accounts
with_kind n k = record { quotas = k.quotas; last_serial = k.last_serial; holds = k.holds; kind = n; edition = k.edition }

abbrev pub with_edition : ℕ → Accounts → Accounts
with_edition n k = record { quotas = k.quotas; last_serial = k.last_serial; holds = k.holds; kind = k.kind; edition = n }

-- what the quotas were granted
abbrev pub grants : Accounts → List ℕ
grants k = map (λ x. x.grant) k.quotas

-- what the quotas may do
abbrev pub permissions : Accounts → List ℕ
permissions k = map (λ x. x.permissions) k.quotas

-- rules 8.3 and 15.3, the accounts at opening: each grant is there whole, every permission is set, no serial has been given and no record is used
abbrev pub granted : ℕ → Quota
granted g = record { grant = g; remainder = g; permissions = ALL_PERMISSIONS }

abbrev pub begun : List ℕ → Accounts
begun grants = record { quotas = map granted grants; last_serial = 0; holds = replicate HOLDS zero_hold; kind = 0; edition = 0 }

-- rules 22.1 and 23.3: the kind of a heap and its edition as numbers of the accounts, the settings of a plain heap of edition 1, and the accounts at an
-- opening with settings
abbrev pub kind_number : Kind → ℕ
kind_number Plain = 0
kind_number Quarantine = 1

abbrev pub edition_number : Edition → ℕ
edition_number First = 0
edition_number Second = 1

abbrev pub plain : Settings
plain = record { kind = Plain; edition = First }

unfoldable pub opened : Settings → List ℕ → Accounts
opened g grants = with_edition (edition_number g.edition) (with_kind (kind_number g.kind) (begun grants))

-- the quota with a number, of zeros where there is none; and what remains of it
abbrev pub quota_at : ℕ → Accounts → Quota
quota_at q k = get_or k.quotas q zero_quota

unfoldable pub remaining : ℕ → Accounts → ℕ
remaining q k = (quota_at q k).remainder

-- what the quota has spent: the grant less what remains of it
unfoldable pub spent : ℕ → Accounts → ℕ
spent q k = (quota_at q k).grant - remaining q k

-- another quota with that number
abbrev pub put_quota : ℕ → Quota → Accounts → Accounts
put_quota q x k = with_quotas (set k.quotas q x) k

-- the quota with a number changes; where there is no such quota nothing does
unfoldable pub change_quota : ℕ → (Quota → Quota) → Accounts → Accounts
change_quota q f k = cond (ltb q QUOTAS) (put_quota q (f (quota_at q k)) k) k

-- what is left of a remainder r after a payment of n, r where that is less than n; and after n was paid back, r where the sum needs more than 32 bits
unfoldable pub less_paid : ℕ → ℕ → ℕ
less_paid n r = cond (leb n r) (r - n) r

unfoldable pub paid_back : ℕ → ℕ → ℕ
paid_back n r = cond (ltb (r + n) (2 ^ 32)) (r + n) r

-- a quota after it has paid, and after it was paid back
abbrev pub charged : ℕ → Quota → Quota
charged n x = with_remainder (less_paid n x.remainder) x

abbrev pub refunded : ℕ → Quota → Quota
refunded n x = with_remainder (paid_back n x.remainder) x

-- the quota with a number pays, and is paid back
unfoldable pub charge : ℕ → ℕ → Accounts → Accounts
charge q n k = change_quota q (charged n) k

unfoldable pub refund : ℕ → ℕ → Accounts → Accounts
refund q n k = change_quota q (refunded n) k

-- whether the quota has the permission with this bit; one that does not exist has none
unfoldable pub permits : ℕ → ℕ → Accounts → Bool
permits bit q k = eqb ((quota_at q k).permissions / bit % 2) 1

-- rule 15.4: the permissions p without those whose bit, 0 to 2, is set in n
abbrev pub bit_left : ℕ → ℕ → ℕ
bit_left n p = cond (eqb (n % 2) 0) (p % 2) 0

abbrev pub cleared : ℕ → ℕ → ℕ
cleared n p = bit_left n p + (2 * bit_left (n / 2) (p / 2) + 4 * bit_left (n / 4) (p / 4))

-- what clearing leaves to the quota with a number; a quota with no more than that; and the accounts then
abbrev pub left_permissions : ℕ → ℕ → Accounts → ℕ
left_permissions q n k = cleared n (quota_at q k).permissions

abbrev pub without : ℕ → Quota → Quota
without n x = with_permissions (cleared n x.permissions) x

unfoldable pub clear_permissions : ℕ → ℕ → Accounts → Accounts
clear_permissions q n k = change_quota q (without n) k

-- rule 3.3: a record is used if one of its numbers is not 0
unfoldable pub used : Hold → Bool
used h = not (eqb h.serial 0 && eqb h.quota 0 && eqb h.count 0)

unfoldable pub unused : Hold → Bool
unused h = not (used h)

-- rule 3.4: h is the record of this quota for the object with this serial
unfoldable pub is_for : ℕ → ℕ → Hold → Bool
is_for serial q h = used h && eqb h.serial serial && eqb h.quota q

-- the first place from n on whose record passes a test
unfoldable pub first_from : (Hold → Bool) → ℕ → List Hold → Option ℕ
first_from p n [] = None
first_from p n (h ∷ hs) =
    let later = first_from p (suc n) hs in
    cond (p h) (Some n) later

-- the place of the quota's record for a serial; the place of the lowest unused record
unfoldable pub find_hold : ℕ → ℕ → Accounts → Option ℕ
find_hold serial q k = first_from (is_for serial q) 0 k.holds

unfoldable pub lowest_unused : Accounts → Option ℕ
lowest_unused k = first_from unused 0 k.holds

-- the record at a place, of zeros where there is none
unfoldable pub hold_at : ℕ → Accounts → Hold
hold_at i k = get_or k.holds i zero_hold

-- another record at a place; a place out of range changes nothing
unfoldable pub put_hold : ℕ → Hold → Accounts → Accounts
put_hold i h k = with_holds (set k.holds i h) k

unfoldable pub drop_hold : ℕ → Accounts → Accounts
drop_hold i k = put_hold i zero_hold k

-- h is a record of this quota
abbrev pub record_of : ℕ → Hold → Bool
record_of q h = used h && eqb h.quota q

-- rule 8.20: the records of a quota become zero, with any count
abbrev pub dropped : ℕ → Hold → Hold
dropped q h = cond (record_of q h) zero_hold h

unfoldable pub drop_records : ℕ → List Hold → List Hold
drop_records q hs = map (dropped q) hs
