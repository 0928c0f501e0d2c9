-- Words that hold accounts with padding 0, by their places.
use Rattle.std.specs.Prelude.{ℕ, ◌+◌, ◌*◌, ◌^◌, ◌<◌, ◌≡◌, List, length, get_or}
use Rattle.accounts.specs.declared.Quota.{Quota}
use Rattle.accounts.specs.declared.Hold.{Hold}
use Rattle.accounts.specs.declared.Accounts.{Accounts}
use Rattle.accounts.specs.Accounts.{QUOTAS, HOLDS, zero_quota, zero_hold}
use Rattle.words.specs.Words.{WORDS, FIRST, grant_in, remainder_in, spare_in, serial_in, rest_in, last_of, kinds_of}

-- accounts that words can hold: so many quotas and records, and each number that shares its word is a byte
pub record Packable (k : Accounts) : Type 0 where
  pub quotas : length k.quotas ≡ QUOTAS
  pub holds : length k.holds ≡ HOLDS
  pub permissions : (q : ℕ) → (get_or k.quotas q zero_quota).permissions < 2 ^ 8
  pub quota : (p : ℕ) → (get_or k.holds p zero_hold).quota < 2 ^ 8
  pub count : (p : ℕ) → (get_or k.holds p zero_hold).count < 2 ^ 8
  pub kind : k.kind < 2 ^ 8
  pub edition : k.edition < 2 ^ 8

-- the words of one quota, and of one record
abbrev pub HasEntry : List ℕ → ℕ → Quota → Type 0
HasEntry words q x = (grant_in words q ≡ x.grant) × (remainder_in words q ≡ x.remainder) × (spare_in words q ≡ x.permissions)

abbrev pub HasRecord : List ℕ → ℕ → Hold → Type 0
HasRecord words p h = (serial_in words p ≡ h.serial) × (rest_in words p ≡ 256 * h.count + h.quota)

-- the words have the quotas; they have the records, and the words before them are as they were
abbrev pub HasQuotas : List Quota → List ℕ → Type 0
HasQuotas qs words = (length words ≡ WORDS) × ((q : ℕ) → q < QUOTAS → HasEntry words q (get_or qs q zero_quota))

abbrev pub HasHolds : List Hold → List ℕ → List ℕ → Type 0
HasHolds hs words words' =
    (length words' ≡ WORDS) × ((p : ℕ) → p < HOLDS → HasRecord words' p (get_or hs p zero_hold)) × ((j : ℕ) → j < FIRST → get_or words' j 0 ≡ get_or words j 0)

-- the words hold the accounts, with padding 0
pub record Filled (k : Accounts) (words : List ℕ) : Type 0 where
  pub long : length words ≡ WORDS
  pub entries : (q : ℕ) → q < QUOTAS → HasEntry words q (get_or k.quotas q zero_quota)
  pub records : (p : ℕ) → p < HOLDS → HasRecord words p (get_or k.holds p zero_hold)
  pub last : last_of words ≡ k.last_serial
  pub kinds : kinds_of words ≡ 256 * k.edition + k.kind
