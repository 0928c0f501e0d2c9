-- The definitions computed: every kind of difference alone and all together, positions in each part, and two images with each refusal.
use mathlib.Core.Path.{◌≡◌, refl}
use mathlib.Core.List.{List, [], ◌∷◌, ◌++◌}
use Prim.Native.Nat.{ℕ, ◌-◌}
use lib.ListN.{set, replicate, take}
use Rattle.accounts.specs.declared.Accounts.{Accounts}
use Rattle.accounts.specs.declared.Quota.{Quota}
use Rattle.accounts.specs.declared.Hold.{Hold}
use Rattle.accounts.specs.Accounts.{QUOTAS, HOLDS, zero_quota, zero_hold, with_permissions, with_quotas, with_last_serial, with_holds, plain, opened}
use Rattle.accounts.specs.Accounts.{with_kind, with_edition}
use Rattle.framing.specs.Frames.{cut}
use Rattle.image_model.specs.Stream.{form_1, form_2, stream, image_of}
use Rattle.comparison.specs.Differences.{State, differences}
use Rattle.comparison.specs.Positions.{next_of, asked}
use Rattle.comparison.specs.Compare.{Compared, compare_of, Advanced, advance_of, walked}
use Rattle.comparison.specs.declared.Difference.{Difference}
use Rattle.comparison.specs.declared.Difference.TheVariants.{LastSerial, Kind, Edition, Quota as QuotaAt, Record as RecordAt, Bytes}
use Rattle.comparison.specs.declared.Position.{Position}
use Rattle.comparison.specs.declared.Position.TheVariants.{Start, Kind as FromKind, Edition as FromEdition}
use Rattle.comparison.specs.declared.Position.TheVariants.{Quota as FromQuota, Record as FromRecord, Byte as FromByte}
use Rattle.std.specs.Prelude.{Option, Some, None}
use Rattle.comparison.specs.declared.Which.{Which}
use Rattle.comparison.specs.declared.Which.TheVariants.{First, Second, Neither}
use Rattle.comparison.proofs.Computing.{computing}

-- a heap of 64 bytes with an object of 8 bytes, which quotas 0 and 1 hold, in the records 0 and 53
heap : List ℕ
heap = 2 ∷ 0 ∷ 0 ∷ 0 ∷ 1 ∷ 0 ∷ 0 ∷ 0 ∷ 1 ∷ 2 ∷ 3 ∷ 4 ∷ 5 ∷ 6 ∷ 7 ∷ 8 ∷ 6 ∷ 0 ∷ 2 ∷ replicate 37 0 ++ replicate 8 255

quota : ℕ → ℕ → Quota
quota g r = record { grant = g; remainder = r; permissions = 7 }

hold : ℕ → ℕ → ℕ → Hold
hold s q c = record { serial = s; quota = q; count = c }

accounts : Accounts
accounts =
    record {
      quotas = quota 100 84 ∷ quota 1000 984 ∷ replicate (QUOTAS - 2) (quota 0 0);
      last_serial = 1;
      holds = hold 1 0 1 ∷ replicate 52 zero_hold ++ (hold 1 1 3 ∷ replicate (HOLDS - 54) zero_hold);
      kind = 0;
      edition = 0;
    }

-- the state of these, and the same with another heap, other quotas, records or serial
state : State
state = record { heap = heap; accounts = accounts }

with_heap : List ℕ → State
with_heap s = record { heap = s; accounts = accounts }

with_accounts : Accounts → State
with_accounts k = record { heap = heap; accounts = k }

-- the same heap with other bytes at these offsets
but : List ℕ → State
but ks = with_heap (changed ks heap)
  where
    changed : List ℕ → List ℕ → List ℕ
    changed [] s = s
    changed (k ∷ ks) s = set (changed ks s) k 77

small : Unit {0}
unfolding computing heap quota hold accounts state with_heap with_accounts but
small = tt

-- runs: none, one byte, a run longer than eight bytes, all bytes, both ends, one equal byte between two runs
run_rows : (differences state state ≡ [])
    × (differences state (but (9 ∷ [])) ≡ Bytes 9 1 ∷ [])
    × (differences (but (9 ∷ [])) state ≡ Bytes 9 1 ∷ [])
    × (differences state (but (3 ∷ 4 ∷ 5 ∷ 6 ∷ 7 ∷ 8 ∷ 9 ∷ 10 ∷ 11 ∷ [])) ≡ Bytes 3 9 ∷ [])
    × (differences state (with_heap (replicate 64 77)) ≡ Bytes 0 64 ∷ [])
    × (differences state (but (0 ∷ 1 ∷ 62 ∷ 63 ∷ [])) ≡ Bytes 0 2 ∷ Bytes 62 2 ∷ [])
    × (differences state (but (20 ∷ 21 ∷ 23 ∷ [])) ≡ Bytes 20 2 ∷ Bytes 23 1 ∷ [])
    × (differences state (but (20 ∷ 23 ∷ 24 ∷ 26 ∷ [])) ≡ Bytes 20 1 ∷ Bytes 23 2 ∷ Bytes 26 1 ∷ [])
unfolding small
run_rows = (refl, refl, refl, refl, refl, refl, refl, refl)

-- accounts: the last serial; the kind, and behind the serial; the edition, and behind both; a quota by its grant, by its remainder; the first and the last
-- quota; a record by each of its numbers; the first and the last record; two records that changed places
quotas_with : List Quota → State
quotas_with qs = with_accounts (with_quotas qs accounts)

holds_with : List Hold → State
holds_with hs = with_accounts (with_holds hs accounts)

account_rows : (differences state (with_accounts (with_last_serial 2 accounts)) ≡ LastSerial ∷ [])
    × (differences state (with_accounts (with_kind 1 accounts)) ≡ Kind ∷ [])
    × (differences (with_accounts (with_kind 1 accounts)) state ≡ Kind ∷ [])
    × (differences state (with_accounts (with_kind 1 (with_last_serial 2 accounts))) ≡ LastSerial ∷ Kind ∷ [])
    × (differences state (with_accounts (with_edition 1 accounts)) ≡ Edition ∷ [])
    × (differences (with_accounts (with_edition 1 accounts)) state ≡ Edition ∷ [])
    × (differences state (with_accounts (with_edition 1 (with_kind 1 (with_last_serial 2 accounts)))) ≡ LastSerial ∷ Kind ∷ Edition ∷ [])
    × (differences (with_accounts (with_kind 1 accounts)) (with_accounts (with_edition 1 accounts)) ≡ Kind ∷ Edition ∷ [])
    × (differences state (quotas_with (set accounts.quotas 1 (quota 1001 984))) ≡ QuotaAt 1 ∷ [])
    × (differences state (quotas_with (set accounts.quotas 1 (quota 1000 983))) ≡ QuotaAt 1 ∷ [])
    × (differences state (quotas_with (set accounts.quotas 1 (with_permissions 6 (quota 1000 984)))) ≡ QuotaAt 1 ∷ [])
    × (differences state (quotas_with (set (set accounts.quotas 31 (quota 1 0)) 0 zero_quota)) ≡ QuotaAt 0 ∷ QuotaAt 31 ∷ [])
    × (differences state (holds_with (set accounts.holds 53 (hold 2 1 3))) ≡ RecordAt 53 ∷ [])
    × (differences state (holds_with (set accounts.holds 53 (hold 1 2 3))) ≡ RecordAt 53 ∷ [])
    × (differences state (holds_with (set accounts.holds 53 (hold 1 1 4))) ≡ RecordAt 53 ∷ [])
    × (differences state (holds_with (set (set accounts.holds 511 (hold 0 0 1)) 0 zero_hold)) ≡ RecordAt 0 ∷ RecordAt 511 ∷ [])
    × (differences state (holds_with (set (set accounts.holds 53 (hold 1 0 1)) 0 (hold 1 1 3))) ≡ RecordAt 0 ∷ RecordAt 53 ∷ [])
unfolding small quotas_with holds_with
account_rows = (refl, refl, refl, refl, refl, refl, refl, refl, refl, refl, refl, refl, refl, refl, refl, refl, refl)

-- everything at once, in an image that is accepted: another serial, a third quota, exchanged records, a byte of the object, two runs in a free block
other : State
other =
    record {
      heap = set (set (set (set heap 8 9) 30 1) 31 1) 63 1;
      accounts =
          record {
            quotas = quota 100 84 ∷ quota 1000 984 ∷ quota 5 5 ∷ replicate (QUOTAS - 3) (quota 0 0);
            last_serial = 3;
            holds = hold 1 1 3 ∷ replicate 52 zero_hold ++ (hold 1 0 1 ∷ replicate (HOLDS - 54) zero_hold);
            kind = 0;
            edition = 0;
          };
    }

all_rows : differences state other ≡ LastSerial ∷ QuotaAt 2 ∷ RecordAt 0 ∷ RecordAt 53 ∷ Bytes 8 1 ∷ Bytes 30 2 ∷ Bytes 63 1 ∷ []
unfolding small other
all_rows = refl

-- the same of the second kind, and of edition 2 too
another : State
another = record { heap = other.heap; accounts = with_kind 1 other.accounts }

third : State
third = record { heap = other.heap; accounts = with_edition 1 another.accounts }

kind_rows : (differences state another ≡ LastSerial ∷ Kind ∷ QuotaAt 2 ∷ RecordAt 0 ∷ RecordAt 53 ∷ Bytes 8 1 ∷ Bytes 30 2 ∷ Bytes 63 1 ∷ [])
    × (differences state third ≡ LastSerial ∷ Kind ∷ Edition ∷ QuotaAt 2 ∷ RecordAt 0 ∷ RecordAt 53 ∷ Bytes 8 1 ∷ Bytes 30 2 ∷ Bytes 63 1 ∷ [])
unfolding small other another third
kind_rows = (refl, refl)

-- positions: from the start, from each part on, from a part's end, behind a difference, inside a run, behind the last
next_rows : (next_of Start state other ≡ Some (LastSerial, FromKind))
    × (next_of FromKind state other ≡ Some (QuotaAt 2, FromQuota 3))
    × (next_of FromKind state another ≡ Some (Kind, FromEdition))
    × (next_of Start other another ≡ Some (Kind, FromEdition))
    × (next_of FromEdition other another ≡ None)
    × (next_of FromEdition state another ≡ Some (QuotaAt 2, FromQuota 3))
    × (next_of FromEdition state third ≡ Some (Edition, FromQuota 0))
    × (next_of Start another third ≡ Some (Edition, FromQuota 0))
    × (next_of (FromQuota 0) another third ≡ None)
    × (next_of (FromQuota 0) other another ≡ None)
    × (next_of Start state (but (9 ∷ [])) ≡ Some (Bytes 9 1, FromByte 10))
    × (next_of (FromQuota 0) state other ≡ Some (QuotaAt 2, FromQuota 3))
    × (next_of (FromQuota 3) state other ≡ Some (RecordAt 0, FromRecord 1))
    × (next_of (FromQuota 32) state other ≡ Some (RecordAt 0, FromRecord 1))
    × (next_of (FromRecord 1) state other ≡ Some (RecordAt 53, FromRecord 54))
    × (next_of (FromRecord 1000) state other ≡ Some (Bytes 8 1, FromByte 9))
    × (next_of (FromByte 9) state other ≡ Some (Bytes 30 2, FromByte 32))
    × (next_of (FromByte 31) state other ≡ Some (Bytes 31 1, FromByte 32))
    × (next_of (FromByte 64) state other ≡ None)
    × (next_of Start state state ≡ None)
    × (asked 3 Start state other ≡ LastSerial ∷ QuotaAt 2 ∷ RecordAt 0 ∷ [])
    × (asked 3 Start state another ≡ LastSerial ∷ Kind ∷ QuotaAt 2 ∷ [])
    × (asked 4 Start state third ≡ LastSerial ∷ Kind ∷ Edition ∷ QuotaAt 2 ∷ [])
unfolding small other another third
next_rows = (refl, refl, refl, refl, refl, refl, refl, refl, refl, refl, refl, refl, refl, refl, refl, refl, refl, refl, refl, refl, refl, refl, refl)

-- images: of both states, and of a fresh heap that is longer; and the first with a wrong byte in its stream
first : List ℕ
first = image_of form_1 heap accounts

second : List ℕ
second = image_of form_1 other.heap other.accounts

longer : List ℕ
longer = image_of form_1 (9 ∷ replicate 71 0) (opened plain (replicate QUOTAS 0))

wrong : ℕ → ℕ → List ℕ
wrong at b = cut (set (stream form_1 heap accounts) at b)

found : Option Difference → Compared
found d = record { refusal = 0; which = Neither; found = d }

refused : ℕ → Which → Compared
refused n w = record { refusal = n; which = w; found = None }

-- the n-th from 0; none behind the last, and none between equal images
nth_rows : (compare_of first second 0 ≡ found (Some LastSerial))
    × (compare_of first second 1 ≡ found (Some (QuotaAt 2)))
    × (compare_of first second 6 ≡ found (Some (Bytes 63 1)))
    × (compare_of first second 7 ≡ found None)
    × (compare_of second first 5 ≡ found (Some (Bytes 30 2)))
    × (compare_of first first 0 ≡ found None)
unfolding small other first second found
nth_rows = (refl, refl, refl, refl, refl, refl)

-- the same states in form 2, and three that form 1 does not carry
full : List ℕ
full = image_of form_2 heap accounts

full_other : List ℕ
full_other = image_of form_2 heap (quotas_with (set accounts.quotas 31 (with_permissions 3 (quota 0 0)))).accounts

full_kind : List ℕ
full_kind = image_of form_2 heap (with_kind 1 (with_last_serial 2 accounts))

full_edition : List ℕ
full_edition = image_of form_2 heap (with_edition 1 accounts)

form_rows : (compare_of full full_kind 0 ≡ found (Some LastSerial))
    × (compare_of full full_kind 1 ≡ found (Some Kind))
    × (compare_of full full_kind 2 ≡ found None)
    × (compare_of full_kind full_kind 0 ≡ found None)
    × (compare_of full full_edition 0 ≡ found (Some Edition))
    × (compare_of full full_edition 1 ≡ found None)
    × (compare_of full_kind full_edition 2 ≡ found (Some Edition))
    × (compare_of full_edition full_edition 0 ≡ found None)
    × (compare_of first full_kind 0 ≡ refused 29 Neither)
    × (compare_of full full_other 0 ≡ found (Some (QuotaAt 31)))
    × (compare_of full full_other 1 ≡ found None)
    × (compare_of full full 0 ≡ found None)
    × (compare_of first full 0 ≡ refused 29 Neither)
    × (compare_of full first 0 ≡ refused 29 Neither)
    × (compare_of full longer 0 ≡ refused 29 Neither)
    × (compare_of full (take 1535 second) 0 ≡ refused 21 Second)
unfolding small quotas_with other first second longer full full_other full_kind full_edition found refused
form_rows = (refl, refl, refl, refl, refl, refl, refl, refl, refl, refl, refl, refl, refl, refl, refl, refl)

-- each of the reader's refusals of either image; the first image's where both are bad; the lengths last, about neither
refused_rows : (compare_of [] second 0 ≡ refused 21 First)
    × (compare_of first (take 1535 second) 0 ≡ refused 21 Second)
    × (compare_of (set first 600 9) second 0 ≡ refused 22 First)
    × (compare_of first (set second 600 9) 0 ≡ refused 22 Second)
    × (compare_of (wrong 0 3) first 0 ≡ refused 23 First)
    × (compare_of first (wrong 3 1) 0 ≡ refused 23 Second)
    × (compare_of (wrong 82 9) first 0 ≡ refused 24 First)
    × (compare_of first (wrong 4 65) 0 ≡ refused 24 Second)
    × (compare_of (wrong 16 85) first 0 ≡ refused 26 First)
    × (compare_of first (wrong 80 8) 0 ≡ refused 26 Second)
    × (compare_of (wrong 16 85) [] 0 ≡ refused 26 First)
    × (compare_of longer [] 0 ≡ refused 21 Second)
    × (compare_of first longer 0 ≡ refused 27 Neither)
    × (compare_of longer first 100 ≡ refused 27 Neither)
unfolding small other first second longer wrong refused
refused_rows = (refl, refl, refl, refl, refl, refl, refl, refl, refl, refl, refl, refl, refl, refl)

-- the next difference of the same images: from each part on, none behind the last, and all of them one after the other
step : Option (Difference × Position) → Advanced
step s = record { refusal = 0; which = Neither; step = s }

advance_rows : (advance_of first second Start ≡ step (Some (LastSerial, FromKind)))
    × (advance_of first second FromKind ≡ step (Some (QuotaAt 2, FromQuota 3)))
    × (advance_of first second (FromRecord 1) ≡ step (Some (RecordAt 53, FromRecord 54)))
    × (advance_of first second (FromByte 31) ≡ step (Some (Bytes 31 1, FromByte 32)))
    × (advance_of first second (FromByte 64) ≡ step None)
    × (advance_of first first Start ≡ step None)
    × (walked 3 Start first second ≡ LastSerial ∷ QuotaAt 2 ∷ RecordAt 0 ∷ [])
unfolding small other first second step
advance_rows = (refl, refl, refl, refl, refl, refl, refl)

-- a frame that is all zero but a length of 4,294,967,295 bytes: no byte of such a heap is looked at
endless : List ℕ
endless = replicate 8 0 ++ (255 ∷ 255 ∷ 255 ∷ 255 ∷ replicate 500 0)

-- a heap byte of the second image that was changed behind its check: the frame is wrong, and no difference
flipped : List ℕ
flipped = set second 1140 9

not_advanced : ℕ → Which → Advanced
not_advanced n w = record { refusal = n; which = w; step = None }

-- refused from every position, in the order of compare
not_advanced_rows : (advance_of endless endless Start ≡ not_advanced 22 First)
    × (advance_of endless endless (FromByte 0) ≡ not_advanced 22 First)
    × (advance_of first flipped Start ≡ not_advanced 22 Second)
    × (advance_of first flipped (FromByte 0) ≡ not_advanced 22 Second)
    × (advance_of flipped first (FromQuota 0) ≡ not_advanced 22 First)
    × (advance_of (wrong 16 85) [] (FromRecord 0) ≡ not_advanced 26 First)
    × (advance_of longer [] FromEdition ≡ not_advanced 21 Second)
    × (advance_of full longer Start ≡ not_advanced 29 Neither)
    × (advance_of first longer FromKind ≡ not_advanced 27 Neither)
    × (walked 3 Start first flipped ≡ [])
unfolding small other first second longer wrong full endless flipped not_advanced
not_advanced_rows = (refl, refl, refl, refl, refl, refl, refl, refl, refl, refl)
