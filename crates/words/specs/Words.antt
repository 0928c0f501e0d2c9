-- The accounts as words: of each quota its grant, its remainder and its permissions, the last serial, of each hold record its serial and quota + 256 * count,
-- then kind + 256 * edition. What stands above the named bytes of a word is padding and no part of the accounts.
use Rattle.std.specs.Prelude.{ℕ, zero, suc, ◌+◌, ◌*◌, ◌/◌, ◌%◌, ◌^◌, ◌<◌, ◌≡◌, List, [], ◌∷◌, ◌++◌, get_or}
use Rattle.accounts.specs.declared.Quota.{Quota}
use Rattle.accounts.specs.declared.Hold.{Hold}
use Rattle.accounts.specs.declared.Accounts.{Accounts}
use Rattle.accounts.specs.Accounts.{QUOTAS, HOLDS}

-- the number of words, and where the last serial, the first record, and kind and edition stand
abbrev pub WORDS : ℕ
WORDS = 3 * QUOTAS + 2 * HOLDS + 2

abbrev pub LAST : ℕ
LAST = 3 * QUOTAS

abbrev pub FIRST : ℕ
FIRST = 3 * QUOTAS + 1

abbrev pub KINDS : ℕ
KINDS = 3 * QUOTAS + 2 * HOLDS + 1

-- the values of f at n places from i on
module _ {A : Type 0} where
  unfoldable pub tabulate : ℕ → (ℕ → A) → ℕ → List A
  tabulate zero f i = []
  tabulate (suc n) f i = f i ∷ tabulate n f (suc i)

-- the parts of the record at a place, and the record
abbrev pub serial_in : List ℕ → ℕ → ℕ
serial_in words p = get_or words (FIRST + 2 * p) 0

abbrev pub rest_in : List ℕ → ℕ → ℕ
rest_in words p = get_or words (FIRST + 2 * p + 1) 0

abbrev pub quota_in : List ℕ → ℕ → ℕ
quota_in words p = rest_in words p % 256

abbrev pub count_in : List ℕ → ℕ → ℕ
count_in words p = rest_in words p / 256 % 256

abbrev pub hold_in : List ℕ → ℕ → Hold
hold_in words p = record { serial = serial_in words p; quota = quota_in words p; count = count_in words p }

-- the parts of a quota, and the quota
abbrev pub grant_in : List ℕ → ℕ → ℕ
grant_in words q = get_or words (3 * q) 0

abbrev pub remainder_in : List ℕ → ℕ → ℕ
remainder_in words q = get_or words (3 * q + 1) 0

abbrev pub spare_in : List ℕ → ℕ → ℕ
spare_in words q = get_or words (3 * q + 2) 0

abbrev pub permissions_in : List ℕ → ℕ → ℕ
permissions_in words q = spare_in words q % 256

abbrev pub entry_in : List ℕ → ℕ → Quota
entry_in words q = record { grant = grant_in words q; remainder = remainder_in words q; permissions = permissions_in words q }

unfoldable pub holds_of : List ℕ → List Hold
holds_of words = tabulate HOLDS (hold_in words) 0

unfoldable pub quotas_of : List ℕ → List Quota
quotas_of words = tabulate QUOTAS (entry_in words) 0

abbrev pub last_of : List ℕ → ℕ
last_of words = get_or words LAST 0

abbrev pub kinds_of : List ℕ → ℕ
kinds_of words = get_or words KINDS 0

abbrev pub kind_of : List ℕ → ℕ
kind_of words = kinds_of words % 256

abbrev pub edition_of : List ℕ → ℕ
edition_of words = kinds_of words / 256 % 256

-- the accounts
abbrev pub accounts_of : List ℕ → Accounts
accounts_of words =
    record {
      quotas = quotas_of words;
      last_serial = last_of words;
      holds = holds_of words;
      kind = kind_of words;
      edition = edition_of words;
    }

-- the words that hold some accounts, with padding 0: three of each quota, the last serial, two of each record, kind and edition
unfoldable pub quota_words : List Quota → List ℕ
quota_words [] = []
quota_words (x ∷ xs) = x.grant ∷ x.remainder ∷ x.permissions ∷ quota_words xs

unfoldable pub hold_words : List Hold → List ℕ
hold_words [] = []
hold_words (h ∷ hs) = h.serial ∷ (256 * h.count + h.quota) ∷ hold_words hs

unfoldable pub words_of : Accounts → List ℕ
words_of k = quota_words k.quotas ++ (k.last_serial ∷ (hold_words k.holds ++ ((256 * k.edition + k.kind) ∷ [])))

-- each word has 32 bits
abbrev pub Narrow : List ℕ → Type 0
Narrow words = (i : ℕ) → get_or words i 0 < 2 ^ 32

-- padding stays as it was: above a record's quota and count, above a quota's permissions, and above kind and edition
pub record Padded (words words' : List ℕ) : Type 0 where
  pub of_holds : (p : ℕ) → p < HOLDS → rest_in words' p / 65536 ≡ rest_in words p / 65536
  pub of_quotas : (q : ℕ) → q < QUOTAS → spare_in words' q / 256 ≡ spare_in words q / 256
  pub of_kinds : kinds_of words' / 65536 ≡ kinds_of words / 65536

-- padding is zero
pub record Unpadded (words : List ℕ) : Type 0 where
  pub of_holds : (p : ℕ) → p < HOLDS → rest_in words p / 65536 ≡ 0
  pub of_quotas : (q : ℕ) → q < QUOTAS → spare_in words q / 256 ≡ 0
  pub of_kinds : kinds_of words / 65536 ≡ 0
