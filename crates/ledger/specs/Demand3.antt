-- Demand 3 (rules 10.3 to 10.11, 22.11 and 22.13), as one statement about every list of calls: of every history of a run, and of every split of its events.
use Rattle.std.specs.Prelude.{ℕ, ◌+◌, ◌%◌, ◌≤◌, ◌<◌, ◌≡◌, Bool, true, false, not, cond, ◌&&◌, ◌||◌, ◌↔◌, length, get_or, eqb, Option, Some, None}
use mathlib.Core.List.{List, [], ◌∷◌, ◌++◌, map, Memᴰ}
use Rattle.accounts.specs.declared.Quota.{Quota}
use Rattle.accounts.specs.declared.Hold.{Hold}
use Rattle.accounts.specs.declared.Accounts.{Accounts}
use Rattle.accounts.specs.Accounts.{QUOTAS, used, remaining}
use Rattle.rounding.specs.Rounding.{object_length, alignment}
use Rattle.lists.specs.Lists.{any, keep, total}
use Rattle.model.specs.Answers.{amount_of, zero_handle}
use Rattle.model.specs.Objects.{blocks_of, objects_of}
use Rattle.model.specs.Consistent.{allowed, consistent, serials_differ, records_differ}
use Rattle.model.specs.Refusals.{Line, line_number, line_holds, has}
use Rattle.model.specs.Rows.{row_of, arguments_of, call_lines}
use Rattle.model.specs.Calls.{listing_from}
use Rattle.model.specs.Step.{step}
use Rattle.model.specs.declared.Handle.{Handle}
use Rattle.model.specs.declared.ListedBlock.{ListedBlock}
use Rattle.model.specs.declared.Refusal.TheVariants.{NoSpace}
use Rattle.model.specs.declared.Call.{Call}
use Rattle.model.specs.declared.Call.TheVariants.{Remaining}
use Rattle.ledger.specs.Ledger.{Entry, Span, in_span, block_of, Ledger, Event, holds_of, cost_to, quarantined_of, unrestored, ledger_of}
use Rattle.ledger.specs.History.{Run, History}

-- a byte of an object (rule 4.1)
abbrev pub Within : ℕ → Handle → Type 0
Within i o = (o.base ≤ i) × (i < o.base + o.length)

-- rule 22.13: a byte of a live block or of a quarantined one
unfoldable pub taken : ℕ → List ℕ → Bool
taken i s = in_span i (map block_of (objects_of s)) || in_span i (quarantined_of s)

-- no two of these blocks start at one place
unfoldable pub spans_differ : List Span → Bool
spans_differ [] = true
spans_differ (x ∷ xs) = not (any (λ y. eqb y.from x.from) xs) && spans_differ xs

-- the objects of a ledger
abbrev pub objects_in : Ledger → List Handle
objects_in l = map (λ (e : Entry). e.object) l.entries

-- some quota has a hold on the object with this serial
abbrev pub HeldIn : ℕ → Ledger → Type 0
HeldIn serial l = (e : Entry) × (q : ℕ) × Memᴰ e l.entries × (e.object.serial ≡ serial) × (0 < holds_of q e)

-- what rules 8.6 and 22.13 ask of a base b, for a request of n bytes
pub record SuitableRun (unit : ℕ → ℕ) (s : List ℕ) (n b : ℕ) : Type 0 where
  pub low : 8 ≤ b
  pub multiple : b % alignment unit n ≡ 0
  pub high : b + object_length unit n ≤ length s
  pub outside : (i : ℕ) → b ≤ i + 8 → i < b + object_length unit n → taken i s ≡ false

-- rule 10.9, a call for a new object: its length, and the lines of its call
pub record Request : Type 0 where
  pub asked : ℕ
  pub lines : List Line

unfoldable pub request_of : (ℕ → ℕ) → Call → List ℕ → Accounts → Option Request
request_of unit c s k =
    let r : Request = record { asked = (arguments_of c).length; lines = call_lines unit c s k } in
    cond (has NoSpace (row_of c)) (Some r) None

-- no line other than 11 holds
unfoldable pub passes_others : List Line → Bool
passes_others ls = not (any line_holds (keep (λ l. not (eqb (line_number l) 11)) ls))

-- what a ledger says of a heap and its accounts, and of the next call of a run: they agree with it
pub record AsRecorded (unit : ℕ → ℕ) (run : Run) (l : Ledger) (s : List ℕ) (k : Accounts) : Type 0 where
  -- rule 10.3: each call of a list is the next one after a shorter list
  pub as_defined : (c : Call) → run c s k ≡ step unit c s k
  -- rule 10.4: live objects and the ledger's objects are the same, each once
  pub live_recorded : (o : Handle) → Memᴰ o (objects_of s) → Memᴰ o (objects_in l)
  pub recorded_live : (o : Handle) → Memᴰ o (objects_in l) → Memᴰ o (objects_of s)
  pub live_once : serials_differ (objects_of s) ≡ true
  pub recorded_once : serials_differ (objects_in l) ≡ true
  -- rule 10.6: no two of them, at two places of the list, have a byte in common, nor has one with a header, its own among them
  pub apart : (i j : ℕ) → i < j → j < length (objects_in l) → (at : ℕ)
      → Within at (get_or (objects_in l) i zero_handle) → Within at (get_or (objects_in l) j zero_handle) → ⊥
  pub off_headers : (o : Handle) (b : ListedBlock) → Memᴰ o (objects_in l) → Memᴰ b (listing_from 0 (blocks_of s))
      → (at : ℕ) → Within at o → b.offset ≤ at → at < b.offset + 8 → ⊥
  pub inside : (o : Handle) → Memᴰ o (objects_in l) → o.base + o.length ≤ length s
  -- rule 10.7: used records and the ledger's holds are the same, each once
  pub record_held : (h : Hold) → Memᴰ h k.holds → used h ≡ true
      → (e : Entry) × Memᴰ e l.entries × (e.object.serial ≡ h.serial) × (holds_of h.quota e ≡ h.count) × (0 < h.count)
  pub hold_recorded : (e : Entry) (q : ℕ) → Memᴰ e l.entries → 0 < holds_of q e
      → Memᴰ (record { serial = e.object.serial; quota = q; count = holds_of q e }) k.holds
  pub records_once : records_differ k.holds ≡ true
  -- rule 22.11: the heap's quarantined blocks and the ledger's are the same, each once
  pub quarantined_recorded : (x : Span) → Memᴰ x (quarantined_of s) → Memᴰ x l.quarantined
  pub recorded_quarantined : (x : Span) → Memᴰ x l.quarantined → Memᴰ x (quarantined_of s)
  pub quarantined_once : spans_differ l.quarantined ≡ true
  -- rules 22.1, 23.3 and 10.8: the heap is of the ledger's kind and edition, and its quotas were granted the ledger's grants
  pub kind_kept : k.kind ≡ l.kind
  pub edition_kept : k.edition ≡ l.edition
  pub grants_kept : map (λ (x : Quota). x.grant) k.quotas ≡ l.grants
  -- rule 10.8: the grants are remainders and costs, and remaining answers the remainder
  pub balanced : (q : ℕ) → q < QUOTAS → remaining q k + total (cost_to q) l.entries ≡ get_or l.grants q 0
  pub answered : (q : ℕ) → q < QUOTAS → (run (Remaining q) s k).values ≡ amount_of (remaining q k)
  -- rule 10.9: for a call for a new object that only line 11 can refuse, 11 says that there is no base; with a base it is accepted
  pub no_space : (c : Call) (r : Request) → request_of unit c s k ≡ Some r → passes_others r.lines ≡ true
      → ((run c s k).values.refusal ≡ 11) ↔ ((b : ℕ) → SuitableRun unit s r.asked b → ⊥)
  pub space : (c : Call) (r : Request) → request_of unit c s k ≡ Some r → passes_others r.lines ≡ true
      → (b : ℕ) → SuitableRun unit s r.asked b → (run c s k).values.refusal ≡ 0
  -- rule 10.10: no call is refused by 1 or 2
  pub length_allowed : allowed (length s) ≡ true
  pub kept_consistent : consistent unit s k ≡ true

-- what holds after a history: the events of the back came after those of the front
pub record Holds (unit : ℕ → ℕ) (run : Run) (begun : Ledger) (front back : List Event) (s : List ℕ) (k : Accounts) : Type 0 where
  -- heap and accounts agree with the ledger of all events
  pub agrees : AsRecorded unit run (ledger_of begun (back ++ front)) s k
  -- rule 10.5: an object that the ledger had after the front, and whose serial some quota has held at every point since, is live, with the same base,
  -- length and serial. No image was read since: it may give the serial to another object
  pub stays : unrestored back ≡ true → (o : Handle) → Memᴰ o (objects_in (ledger_of begun front))
      → ((late early : List Event) → back ≡ late ++ early → HeldIn o.serial (ledger_of begun (early ++ front))) → Memᴰ o (objects_of s)
  -- rules 22.1, 23.3 and 10.8: kind, edition and grants are those of the beginning unless an image was read
  pub kind_begun : unrestored (back ++ front) ≡ true → (ledger_of begun (back ++ front)).kind ≡ begun.kind
  pub edition_begun : unrestored (back ++ front) ≡ true → (ledger_of begun (back ++ front)).edition ≡ begun.edition
  pub grants_begun : unrestored (back ++ front) ≡ true → (ledger_of begun (back ++ front)).grants ≡ begun.grants

-- for a family of tables, one for each edition; a state goes by that of its own
pub record Demand3 (tables : ℕ → ℕ → ℕ) (run : Run) : Type 0 where
  pub always : (begun : Ledger) (front back : List Event) (s : List ℕ) (k : Accounts) → History tables run begun (back ++ front) s k
      → Holds (tables k.edition) run begun front back s k
