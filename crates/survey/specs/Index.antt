-- The index of the hold records: a slot has no record, one, or a tree of records. In a tree, the bits of a serial lead
-- from record to record: the serial's path. A lone record is closed by its slot, one of a tree by a flag in its first
-- link.
use Rattle.std.specs.Prelude.{◌≡◌, ℕ, zero, suc, ◌+◌, ◌-◌, ◌*◌, ◌/◌, ◌%◌, ◌<◌, ◌≤◌, Bool, true, cond, ◌&&◌, ◌⊎◌, List, map, length, ◌==◌, ◌≢◌, nat_le, nat_lt}
use Rattle.std.specs.Prelude.{slice_index}
use Rattle.accounts.specs.Accounts.{HOLDS}
use Rattle.audit.specs.Keys.{key_of, for_serial}
use Rattle.words.specs.Words.{tabulate, hold_in, serial_in}

-- the number of slots and of links; what an empty slot or link has; what is added to a slot's number when the record
-- has others below it, and to a record's first link when it is closed
abbrev pub SLOTS : ℕ
SLOTS = 2 * HOLDS

abbrev pub LINKS : ℕ
LINKS = 2 * HOLDS

abbrev pub END : ℕ
END = HOLDS + HOLDS / 256

abbrev pub FORKED : ℕ
FORKED = 2 * HOLDS

abbrev pub CLOSED : ℕ
CLOSED = 2 * HOLDS

-- where the path of a serial begins, and the bits that lead along it
unfoldable pub slot : ℕ → ℕ
slot serial = serial % SLOTS

unfoldable pub bits_of : ℕ → ℕ
bits_of serial = serial / 2

-- which of the two links of a record some bits choose
unfoldable pub fork : ℕ → ℕ
fork bits = HOLDS * (bits / HOLDS % 2)

-- a place, the table's end for each one behind it
unfoldable pub inner : ℕ → ℕ
inner n = cond (nat_lt n HOLDS) n HOLDS

-- the links without the flags of closed records
unfoldable pub plain : List ℕ → List ℕ
plain links = map (λ v. inner (v % CLOSED)) links

-- the place behind another one on the path
abbrev pub step : List ℕ → ℕ → ℕ → ℕ
step trail bits n = slice_index trail (n + fork bits)

-- bits lead from one place to another
pub data Leads (trail : List ℕ) : ℕ → ℕ → ℕ → Type 0 where
  here : {b p : ℕ} → Leads trail b p p
  on : {b n p : ℕ} → n < HOLDS → Leads trail (b / 2) (step trail b n) p → Leads trail b n p

-- each link goes up, to the end at most
abbrev pub Ascends : List ℕ → Type 0
Ascends trail = (b p : ℕ) → p < HOLDS → (p < step trail b p) × (step trail b p ≤ HOLDS)

-- bits lead from a place to each key of a serial
pub record Findable (keys trail : List ℕ) (bits from serial : ℕ) : Type 0 where
  pub inside : from ≤ HOLDS
  pub long : length keys ≡ HOLDS
  pub up : Ascends trail
  pub covers : (p : ℕ) → p < HOLDS → for_serial serial (slice_index keys p) ≡ true → Leads trail bits from p

-- whether the record at a place is open: alone in its slot, or in a tree and without the flag
abbrev pub head_of : List ℕ → List ℕ → ℕ → ℕ
head_of words heads p = slice_index heads (slot (serial_in words p))

unfoldable pub open_in : List ℕ → List ℕ → List ℕ → ℕ → Bool
open_in words heads links p = cond (nat_lt (head_of words heads p) HOLDS) (head_of words heads p == p)
    (nat_le FORKED (head_of words heads p) && nat_lt (slice_index links p) CLOSED)

-- the key of an open record, 0 where the record is not open
unfoldable pub key_left : List ℕ → List ℕ → List ℕ → ℕ → ℕ
key_left words heads links p = cond (open_in words heads links p) (key_of (hold_in words p)) 0

unfoldable pub keys_left : List ℕ → List ℕ → List ℕ → List ℕ
keys_left words heads links = tabulate HOLDS (key_left words heads links) 0

-- how many of the first n keys are not 0
unfoldable pub waiting : ℕ → List ℕ → ℕ
waiting zero keys = 0
waiting (suc n) keys =
    let rest = waiting n keys in
    cond (slice_index keys n == 0) rest (suc rest)

-- the path of its serial leads to each open record of a tree
abbrev pub Linked : List ℕ → List ℕ → List ℕ → Type 0
Linked words heads links =
    (p : ℕ) → p < HOLDS → (slice_index (keys_left words heads links) p ≢ 0) → FORKED ≤ head_of words heads p
    → Leads (plain links) (bits_of (serial_in words p)) (head_of words heads p - FORKED) p

-- while the index is built, from place 0 up: the records before place i are in it, and no record is closed
abbrev pub Head : ℕ → ℕ → Type 0
Head i h = (h ≡ END) ⊎ ((h < i) ⊎ ((FORKED ≤ h) × (h - FORKED < i)))

abbrev pub Reached : List ℕ → List ℕ → List ℕ → ℕ → Type 0
Reached words heads links p =
    (head_of words heads p ≡ p) ⊎ ((FORKED ≤ head_of words heads p) × Leads links (bits_of (serial_in words p)) (head_of words heads p - FORKED) p)

-- the links of the index so far: each goes up, to a record before place i
pub record Growing (i : ℕ) (links : List ℕ) : Type 0 where
  pub long : length links ≡ LINKS
  pub flat : (x : ℕ) → x < LINKS → slice_index links x ≤ END
  pub rising : (x : ℕ) → x < LINKS → slice_index links x < HOLDS → (x % HOLDS < slice_index links x) × (slice_index links x < i)

pub record Built (words : List ℕ) (i : ℕ) (heads links : List ℕ) : Type 0 where
  pub inside : i ≤ HOLDS
  pub heads_long : length heads ≡ SLOTS
  pub growing : Growing i links
  pub headed : (x : ℕ) → x < SLOTS → Head i (slice_index heads x)
  pub reached : (p : ℕ) → p < i → (serial_in words p ≢ 0) → Reached words heads links p
