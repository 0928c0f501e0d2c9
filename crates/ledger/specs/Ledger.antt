-- The ledger (rules, section 9), worked out from the opening's settings and grants, arguments and answers alone (rule 9.1); an image that is read gives its
-- own (rule 13.16).
use Rattle.std.specs.Prelude.{ℕ, zero, suc, ◌+◌, ◌-◌, List, [], ◌∷◌, ◌++◌, map, Bool, true, false, not, cond, ◌&&◌, length, get_or, set, replicate, leb, ltb}
use Rattle.std.specs.Prelude.{eqb}
use Rattle.accounts.specs.declared.Quota.{Quota}
use Rattle.accounts.specs.declared.Hold.{Hold}
use Rattle.accounts.specs.declared.Accounts.{Accounts}
use Rattle.accounts.specs.declared.settings.Settings.{Settings}
use Rattle.accounts.specs.Accounts.{QUOTAS, kind_number, edition_number}
use Rattle.layout.specs.Blocks.{Block, size, quarantined}
use Rattle.model.specs.Objects.{blocks_of, objects_of}
use Rattle.model.specs.Holds.{count_of}
use Rattle.lists.specs.Lists.{any, keep}
use Rattle.model.specs.Answers.{Values}
use Rattle.model.specs.declared.Handle.{Handle}
use Rattle.model.specs.declared.Call.{Call}
use Rattle.model.specs.declared.Call.TheVariants.{Allocate, AllocateArray, Claim, Release, FreeAll, Reallocate, Lend, Remaining, CanRelease, ListBlock}
use Rattle.model.specs.declared.Call.TheVariants.{ClearPermissions, Sweep}

-- an object of the ledger: its base, length and serial, and each quota's holds on it, by the quota's number
pub record Entry : Type 0 where
  pub object : Handle
  pub holds : List ℕ

-- the bytes of a block, from one place up to another
pub record Span : Type 0 where
  pub from : ℕ
  pub to : ℕ

-- a byte lies there; and in one of several
abbrev pub covers : Span → ℕ → Bool
covers x i = leb x.from i && ltb i x.to

unfoldable pub in_span : ℕ → List Span → Bool
in_span i xs = any (λ x. covers x i) xs

-- the bytes of an object
abbrev pub bytes_in : Handle → Span
bytes_in o = record { from = o.base; to = o.base + o.length }

-- the block of an object, header included
unfoldable pub block_of : Handle → Span
block_of o = record { from = o.base - 8; to = o.base + o.length }

-- rules 9.2 and 22.10: kind, edition and grants of the opening, and the entries and the quarantined blocks, none to
-- begin with
pub record Ledger : Type 0 where
  pub kind : ℕ
  pub edition : ℕ
  pub grants : List ℕ
  pub entries : List Entry
  pub quarantined : List Span

unfoldable pub empty : Settings → List ℕ → Ledger
empty g grants = record { kind = kind_number g.kind; edition = edition_number g.edition; grants = grants; entries = []; quarantined = [] }

abbrev pub with_entries : List Entry → Ledger → Ledger
with_entries es l = record { kind = l.kind; edition = l.edition; grants = l.grants; entries = es; quarantined = l.quarantined }

abbrev pub with_quarantined : List Span → Ledger → Ledger
with_quarantined xs l = record { kind = l.kind; edition = l.edition; grants = l.grants; entries = l.entries; quarantined = xs }

abbrev pub holds_of : ℕ → Entry → ℕ
holds_of q e = get_or e.holds q 0

unfoldable pub change_holds : ℕ → (ℕ → ℕ) → Entry → Entry
change_holds q f e = record { object = e.object; holds = set e.holds q (f (holds_of q e)) }

-- the entries with a serial are changed
unfoldable pub at_serial : ℕ → (Entry → Entry) → List Entry → List Entry
at_serial serial f es = map (λ e. cond (eqb e.object.serial serial) (f e) e) es

-- rules 9.4 and 22.10: an entry without a hold is taken out, and in a heap of the second kind its block is quarantined
unfoldable pub is_held : Entry → Bool
is_held e = any (λ n. ltb 0 n) e.holds

unfoldable pub left_behind : Ledger → List Span
left_behind l = cond (eqb l.kind 0) [] (map (λ e. block_of e.object) (keep (λ e. not (is_held e)) l.entries))

unfoldable pub leave : Ledger → Ledger
leave l = with_quarantined (left_behind l ++ l.quarantined) (with_entries (keep is_held l.entries) l)

-- rule 9.3, an allocation: a new entry for the handle answered, which the quota holds once
unfoldable pub add_object : ℕ → Handle → Ledger → Ledger
add_object q o l = with_entries (record { object = o; holds = set (replicate (length l.grants) 0) q 1 } ∷ l.entries) l

-- rule 9.3, claim and release: a hold of the quota more or less, in the entry with a serial
unfoldable pub add_hold : ℕ → ℕ → Ledger → Ledger
add_hold q serial l = with_entries (at_serial serial (change_holds q (λ n. n + 1)) l.entries) l

unfoldable pub take_hold : ℕ → ℕ → Ledger → Ledger
take_hold q serial l = leave (with_entries (at_serial serial (change_holds q (λ n. n - 1)) l.entries) l)

-- rule 9.3, free-all: no entry has holds of the quota
unfoldable pub take_all : ℕ → Ledger → Ledger
take_all q l = leave (with_entries (map (change_holds q (λ n. 0)) l.entries) l)

-- rules 9.3, 9.5, 15.9 and 22.10: an accepted call with its answer; after a sweep nothing is quarantined
unfoldable pub record_accepted : Call → Values → Ledger → Ledger
record_accepted (Allocate q n) v l = add_object q v.handle l
record_accepted (AllocateArray q count size) v l = add_object q v.handle l
record_accepted (Claim q h) v l = add_hold q h.serial l
record_accepted (Release q h) v l = take_hold q h.serial l
record_accepted (FreeAll q) v l = take_all q l
record_accepted Sweep v l = with_quarantined [] l
record_accepted (Reallocate q h n) v l = take_hold q h.serial (add_object q v.handle l)
record_accepted (Lend h) v l = l
record_accepted (Remaining q) v l = l
record_accepted (CanRelease q h) v l = l
record_accepted (ListBlock at) v l = l
record_accepted (ClearPermissions q n) v l = l

-- rule 9.5: a call whose answer has a refusal's number, which is not 0, leaves the ledger as it is
unfoldable pub record_call : Call → Values → Ledger → Ledger
record_call c v l = cond (eqb v.refusal 0) (record_accepted c v l) l

-- the values of a function at from, from + 1, .., so many
unfoldable pub values_from : (ℕ → ℕ) → ℕ → ℕ → List ℕ
values_from f from zero = []
values_from f from (suc count) = f from ∷ values_from f (suc from) count

-- the quarantined blocks of a heap, where the first block starts at a place
unfoldable pub spans_from : ℕ → List Block → List Span
spans_from at [] = []
spans_from at (b ∷ bs) =
    let rest = spans_from (at + size b) bs in
    cond (quarantined b) (record { from = at; to = at + size b } ∷ rest) rest

unfoldable pub quarantined_of : List ℕ → List Span
quarantined_of s = spans_from 0 (blocks_of s)

-- rules 13.16 and 22.12, the ledger that is read off a state: an entry for each live object, with the counts of its
-- records as holds; kind, edition and grants of the accounts; and the heap's quarantined blocks
unfoldable pub read_entry : List Hold → Handle → Entry
read_entry hs o = record { object = o; holds = values_from (λ q. count_of o.serial q hs) 0 QUOTAS }

unfoldable pub read_ledger : List ℕ → Accounts → Ledger
read_ledger s k =
    record {
      kind = k.kind;
      edition = k.edition;
      grants = map (λ (x : Quota). x.grant) k.quotas;
      entries = map (read_entry k.holds) (objects_of s);
      quarantined = quarantined_of s;
    }

-- an event: a call and its answer; a write of bytes inside live objects; an image written of a heap and its accounts; an image read, which gave back a
-- heap and accounts
pub data Event : Type 0 where
  Called : Call → Values → Event
  Wrote : Event
  Saved : List ℕ → Accounts → Event
  Restored : List ℕ → Accounts → Event

unfoldable pub record_event : Event → Ledger → Ledger
record_event (Called c v) l = record_call c v l
record_event Wrote l = l
record_event (Saved s k) l = l
record_event (Restored s k) l = read_ledger s k

-- none of these events is an image read
unfoldable pub unrestored : List Event → Bool
unrestored [] = true
unrestored (Called c v ∷ es) = unrestored es
unrestored (Wrote ∷ es) = unrestored es
unrestored (Saved s k ∷ es) = unrestored es
unrestored (Restored s k ∷ es) = false

-- the ledger at the beginning, changed by the events since, the newest first
unfoldable pub ledger_of : Ledger → List Event → Ledger
ledger_of begun [] = begun
ledger_of begun (e ∷ es) = record_event e (ledger_of begun es)

-- rule 9.6: what an entry costs a quota
unfoldable pub cost_to : ℕ → Entry → ℕ
cost_to q e = cond (ltb 0 (holds_of q e)) (e.object.length + 8) 0
