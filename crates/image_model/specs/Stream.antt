-- What an image carries (rules 13.2 to 13.4): a head with the accounts, then the heap, as one stream of bytes; and the stream in frames.
-- One definition serves every form. What forms differ in beyond their three numbers stands in four places, each marked below: a full form says all
-- that accounts have, and the other ones have nothing there but two zero bytes, and so every permission and a plain heap of edition 1.
use Rattle.std.specs.Prelude.{ℕ, ◌+◌, ◌*◌, ◌<◌, ◌^◌, ◌≡◌, List, [], ◌++◌, Bool, true, false, cond, not, ◌&&◌, ◌||◌}
use Rattle.std.specs.Prelude.{length, take, drop, replicate, get_or, eqb, Option, Some, None}
use Rattle.std.specs.Prelude.{ltb}
use Rattle.accounts.specs.declared.Quota.{Quota}
use Rattle.accounts.specs.declared.Hold.{Hold}
use Rattle.accounts.specs.declared.Accounts.{Accounts}
use Rattle.accounts.specs.Accounts.{QUOTAS, HOLDS, ALL_PERMISSIONS, permissible, zero_quota, zero_hold, with_permissions, plain, opened, unused}
use Rattle.accounts.specs.Accounts.{with_kind, with_edition}
use Rattle.layout.specs.Bytes.{bytes}
use Rattle.lists.specs.Lists.{all}
use Rattle.framing.specs.Frames.{frames_for, cut}
use Rattle.image_model.specs.Items.{many, all_zero}
use Rattle.image_model.specs.declared.Form.{Form}

-- form 1 and form 2, and the form with a number
unfoldable pub form_1 : Form
form_1 = record { number = 1; quotas = 8; records = 128; full = false }

unfoldable pub form_2 : Form
form_2 = record { number = 2; quotas = 32; records = 512; full = true }

unfoldable pub form_numbered : ℕ → Option Form
form_numbered n = cond (eqb n 1) (Some form_1) (cond (eqb n 2) (Some form_2) None)

-- First place: what an entry has behind grant and remainder, in a full form a byte of permissions and three zero bytes. Its bytes, how many they are,
-- the quota with what they say, and whether they are right
unfoldable pub entry_tail : Form → Quota → List ℕ
entry_tail f q = cond f.full (bytes 1 q.permissions ++ replicate 3 0) []

unfoldable pub tail_width : Form → ℕ
tail_width f = cond f.full 4 0

unfoldable pub tail_of : Form → List ℕ → Quota → Quota
tail_of f s q = with_permissions (cond f.full (get_or s 0 0) ALL_PERMISSIONS) q

unfoldable pub tail_right : Form → List ℕ → Bool
tail_right f s = not f.full || (permissible (get_or s 0 0) && all_zero (drop 1 s))

-- Second place: the two bytes behind the form's number, in a full form the edition and the kind. The bytes, whether they are right, and the accounts
-- with what they say
unfoldable pub marks_of : Form → Accounts → List ℕ
marks_of f k = cond f.full (bytes 1 k.edition ++ bytes 1 k.kind) (replicate 2 0)

unfoldable pub marks_right : Form → List ℕ → Bool
marks_right f m = cond f.full (ltb (get_or m 0 0) 2 && ltb (get_or m 1 0) 2) (all_zero m)

unfoldable pub with_marks : Form → List ℕ → Accounts → Accounts
with_marks f m k = with_edition (cond f.full (get_or m 0 0) 0) (with_kind (cond f.full (get_or m 1 0) 0) k)

-- Third place: whether the form has room for everything in these accounts. A full form has; another one where no quota behind those that it carries has
-- a grant, no record behind those that it carries is used, every quota has every permission, and a full form's marks would be zero
abbrev pub no_grant : Quota → Bool
no_grant q = eqb q.grant 0

abbrev pub all_permitted : Quota → Bool
all_permitted q = eqb q.permissions ALL_PERMISSIONS

unfoldable pub carries : Form → Accounts → Bool
carries f k =
    f.full
    || (all no_grant (drop f.quotas k.quotas)
    && (all unused (drop f.records k.holds)
    && (all all_permitted k.quotas
    && all_zero (marks_of form_2 k))))

-- Fourth place: what accounts have wherever the form carries nothing of them
unfoldable pub blank : Form → Accounts
blank f = opened plain (replicate QUOTAS 0)

-- a record: serial, quota, count and two zero bytes
unfoldable pub record_bytes : Hold → List ℕ
record_bytes h = bytes 4 h.serial ++ (bytes 1 h.quota ++ (bytes 1 h.count ++ replicate 2 0))

abbrev pub record_width : ℕ
record_width = 8

-- where the entries begin
abbrev pub entries_at : ℕ
entries_at = 12

module _ (f : Form) where
  -- an entry: grant, remainder and the form's tail
  unfoldable pub entry_bytes : Quota → List ℕ
  entry_bytes q = bytes 4 q.grant ++ (bytes 4 q.remainder ++ entry_tail f q)

  abbrev pub entry_width : ℕ
  entry_width = 8 + tail_width f

  -- where the records and the heap begin
  abbrev pub records_at : ℕ
  records_at = entries_at + f.quotas * entry_width

  unfoldable pub head_length : ℕ
  head_length = records_at + f.records * record_width

  -- the head: form number, marks, heap length, last serial, entries, records
  unfoldable pub head_of : ℕ → Accounts → List ℕ
  head_of H k =
      bytes 2 f.number ++ (marks_of f k ++ (bytes 4 H ++ (bytes 4 k.last_serial
      ++ (many entry_bytes (take f.quotas k.quotas) ++ many record_bytes (take f.records k.holds)))))

  -- the stream, and the image of a heap and its accounts
  unfoldable pub stream : List ℕ → Accounts → List ℕ
  stream s k = head_of (length s) k ++ s

  unfoldable pub image_of : List ℕ → Accounts → List ℕ
  image_of s k = cut (stream s k)

  -- the length of an image of so many heap bytes
  unfoldable pub image_length : ℕ → ℕ
  image_length H = 512 * frames_for (head_length + H)

-- accounts as their type has them: so many quotas and records, and numbers that fit their fields
pub record Typed (k : Accounts) : Type 0 where
  pub quotas : length k.quotas ≡ QUOTAS
  pub holds : length k.holds ≡ HOLDS
  pub last : k.last_serial < 2 ^ 32
  pub grant : (q : ℕ) → (get_or k.quotas q zero_quota).grant < 2 ^ 32
  pub remainder : (q : ℕ) → (get_or k.quotas q zero_quota).remainder < 2 ^ 32
  pub permissions : (q : ℕ) → (get_or k.quotas q zero_quota).permissions < 2 ^ 8
  pub serial : (i : ℕ) → (get_or k.holds i zero_hold).serial < 2 ^ 32
  pub quota : (i : ℕ) → (get_or k.holds i zero_hold).quota < 2 ^ 8
  pub count : (i : ℕ) → (get_or k.holds i zero_hold).count < 2 ^ 8
  pub kind : k.kind < 2 ^ 8
  pub edition : k.edition < 2 ^ 8
