-- The calls (rules, section 8), in their order: each gives the refusal of its row, or else what it answers and leaves.
use Rattle.std.specs.Prelude.{ℕ, zero, suc, ◌+◌, ◌*◌, ◌-◌, List, [], ◌∷◌, cond, length, replicate, eqb}
use Rattle.accounts.specs.declared.Accounts.{Accounts}
use Rattle.accounts.specs.declared.settings.Settings.{Settings}
use Rattle.accounts.specs.Accounts.{zero_accounts, opened, with_holds, with_last_serial, charge, refund, remaining, drop_records, left_permissions}
use Rattle.accounts.specs.Accounts.{clear_permissions}
use Rattle.layout.specs.Blocks.{Block, size, render, quarantined}
use Rattle.rounding.specs.Rounding.{object_length}
use Rattle.lists.specs.Lists.{first, or_else, total, keep}
use Rattle.model.specs.Answers.{Values, zero_handle, refused, accepted, given, amount_of, lent, listed}
use Rattle.model.specs.Objects.{blocks_of, objects_of, lookup, lookup_whole, found}
use Rattle.model.specs.Consistent.{charge_of, charges}
use Rattle.model.specs.Space.{carve, settle, swept, body_of, copy_into}
use Rattle.model.specs.Holds.{count_of, take_record, raise_count, lower_count}
use Rattle.model.specs.Refusals.{first_refusal, open_lines, arguments, refusal_of, claims_first, base_for}
use Rattle.model.specs.declared.Handle.{Handle}
use Rattle.model.specs.declared.Row.TheVariants.{Check, Quota, FreeAll, Object, Held, Claim, Room, Exchange}
use Rattle.model.specs.declared.ListedBlock.{ListedBlock}

-- what a call leaves and answers
pub record Outcome : Type 0 where
  pub heap : List ℕ
  pub accounts : Accounts
  pub values : Values

-- rule 7.2, the outcome that is due where there is no refusal; else (7.5) the state that is handed back, with the refusal
unfoldable pub unless : ℕ → List ℕ → Accounts → Outcome → Outcome
unless zero s k done = done
unless (suc n) s k done = record { heap = s; accounts = k; values = refused (suc n) }

-- a call that changes nothing answers these values
abbrev pub unchanged : List ℕ → Accounts → Values → Outcome
unchanged s k v = record { heap = s; accounts = k; values = v }

-- what the calls change: the blocks and the accounts
pub record State : Type 0 where
  pub blocks : List Block
  pub accounts : Accounts

abbrev pub leaves : State → Values → Outcome
leaves t v = record { heap = render t.blocks; accounts = t.accounts; values = v }

-- Open, rules 8.2 and 8.3: a heap of zeros with the header of one free block. Refused, its accounts are zero (7.5)
unfoldable pub fresh : Settings → ℕ → List ℕ → State
fresh g H grants = record { blocks = record { serial = 0; body = replicate (H - 8) 0 } ∷ []; accounts = opened g grants }

unfoldable pub open_heap : Settings → List ℕ → List ℕ → Outcome
open_heap g s grants =
    let done = leaves (fresh g (length s) grants) accepted in
    unless (first_refusal (open_lines s)) s zero_accounts done

-- Allocate, rules 8.7 to 8.10: the object is carved out, the quota is charged, and the lowest unused record holds the new serial once
unfoldable pub allocated : ℕ → Handle → State → State
allocated q o t =
    let k = t.accounts in
    record {
      blocks = carve o.base o.length o.serial t.blocks;
      accounts = with_last_serial o.serial (with_holds (take_record o.serial q k.holds) (charge q (charge_of o.length) k));
    }

-- Claim, rules 8.13 and 8.14: a record that is there counts once more; without one the quota pays, and the lowest unused record becomes its own
unfoldable pub claimed : ℕ → Handle → Accounts → Accounts
claimed q o k =
    let again = with_holds (raise_count o.serial q k.holds) k in
    let anew = with_holds (take_record o.serial q k.holds) (charge q (charge_of o.length) k) in
    cond (claims_first k q o) anew again

-- Release, rules 8.16 to 8.18: what is given back, and the state after it
unfoldable pub given_back : ℕ → Handle → Accounts → ℕ
given_back q o k = cond (eqb (count_of o.serial q k.holds) 1) (charge_of o.length) 0

unfoldable pub released : ℕ → Handle → State → State
released q o t =
    let k = t.accounts in
    let hs = lower_count o.serial q k.holds in
    record { blocks = settle k.kind hs t.blocks; accounts = with_holds hs (refund q (given_back q o k) k) }

-- Free-all, rules 8.20 and 8.21: every record of the quota is dropped, and all that it paid is given back
unfoldable pub freed : ℕ → ℕ → State → State
freed q back t =
    let k = t.accounts in
    let hs = drop_records q k.holds in
    record { blocks = settle k.kind hs t.blocks; accounts = with_holds hs (refund q back k) }

-- Reallocate, rule 8.25: as many bytes of the old object as the new one has room for
unfoldable pub copied : Handle → Handle → State → State
copied old new t = record { blocks = copy_into new.serial (body_of old.serial t.blocks) t.blocks; accounts = t.accounts }

-- the calls on blocks as calls on a heap
abbrev pub state_of : List ℕ → Accounts → State
state_of s k = record { blocks = blocks_of s; accounts = k }

-- The listing, rules 8.32 and 8.33: the blocks in order, each with its offset; and a step of it, the block that starts at a place
unfoldable pub listing_from : ℕ → List Block → List ListedBlock
listing_from at [] = []
listing_from at (b ∷ bs) = record { offset = at; size = size b; serial = b.serial } ∷ listing_from (at + size b) bs

module _ (unit : ℕ → ℕ) where
  -- rules 8.5, 8.6 and 8.9: the new object for a request of n bytes
  unfoldable pub new_object : List ℕ → Accounts → ℕ → Handle
  new_object s k n = record { base = or_else 0 (base_for unit s n); length = object_length unit n; serial = k.last_serial + 1 }

  unfoldable pub allocate : List ℕ → Accounts → ℕ → ℕ → Outcome
  allocate s k q n =
      let o = new_object s k n in
      let done = leaves (allocated q o (state_of s k)) (given o) in
      unless (refusal_of unit Room (arguments q zero_handle n) s k) s k done

  -- Allocate array, rule 8.12
  unfoldable pub allocate_array : List ℕ → Accounts → ℕ → ℕ → ℕ → Outcome
  allocate_array s k q count size = allocate s k q (count * size)

  -- rule 8.15
  unfoldable pub claim : List ℕ → Accounts → ℕ → Handle → Outcome
  claim s k q h =
      let o = found (lookup h s) in
      let done = unchanged s (claimed q o k) (amount_of o.length) in
      unless (refusal_of unit Claim (arguments q h 0) s k) s k done

  unfoldable pub release : List ℕ → Accounts → ℕ → Handle → Outcome
  release s k q h =
      let o = found (lookup h s) in
      let done = leaves (released q o (state_of s k)) (amount_of (given_back q o k)) in
      unless (refusal_of unit Held (arguments q h 0) s k) s k done

  -- rule 8.22
  unfoldable pub free_all : List ℕ → Accounts → ℕ → Outcome
  free_all s k q =
      let back = charges k.holds q (objects_of s) in
      let done = leaves (freed q back (state_of s k)) (amount_of back) in
      unless (refusal_of unit FreeAll (arguments q zero_handle 0) s k) s k done

  -- Sweep, rules 22.6 to 22.8: every quarantined block becomes free and joins those beside it; the sum of their sizes is answered
  unfoldable pub sweep : List ℕ → Accounts → Outcome
  sweep s k =
      let done = leaves (record { blocks = swept (blocks_of s); accounts = k }) (amount_of (total size (keep quarantined (blocks_of s)))) in
      unless (refusal_of unit Check (arguments 0 zero_handle 0) s k) s k done

  -- Reallocate, rules 8.23 and 8.24: allocate while the old object still counts, copy, then release once
  unfoldable pub reallocate : List ℕ → Accounts → ℕ → Handle → ℕ → Outcome
  reallocate s k q h n =
      let old = found (lookup_whole h s) in
      let new = new_object s k n in
      let done = leaves (released q old (copied old new (allocated q new (state_of s k)))) (given new) in
      unless (refusal_of unit Exchange (arguments q h n) s k) s k done

  -- Lend, rule 8.29: the handle's range
  unfoldable pub lend : List ℕ → Accounts → Handle → Outcome
  lend s k h =
      let done = unchanged s k (lent (record { start = h.base; end = h.base + h.length })) in
      unless (refusal_of unit Object (arguments 0 h 0) s k) s k done

  -- Remaining and can release, rules 8.30 and 8.31
  unfoldable pub remaining_of : List ℕ → Accounts → ℕ → Outcome
  remaining_of s k q = unless (refusal_of unit Quota (arguments q zero_handle 0) s k) s k (unchanged s k (amount_of (remaining q k)))

  unfoldable pub can_release : List ℕ → Accounts → ℕ → Handle → Outcome
  can_release s k q h = unless (refusal_of unit Held (arguments q h 0) s k) s k (unchanged s k accepted)

  -- Clear permissions, rule 15.4: those whose bit is set in n; the answer is what is left
  unfoldable pub clear : List ℕ → Accounts → ℕ → ℕ → Outcome
  clear s k q n =
      let done = unchanged s (clear_permissions q n k) (amount_of (left_permissions q n k)) in
      unless (refusal_of unit Quota (arguments q zero_handle 0) s k) s k done

  -- rule 8.35: the check that every call but open begins with
  unfoldable pub check : List ℕ → Accounts → Outcome
  check s k = unless (refusal_of unit Check (arguments 0 zero_handle 0) s k) s k (unchanged s k accepted)

  unfoldable pub list_block : List ℕ → Accounts → ℕ → Outcome
  list_block s k at =
      let b = first (λ l. eqb l.offset at) (listing_from 0 (blocks_of s)) in
      unless (refusal_of unit Check (arguments 0 zero_handle 0) s k) s k (unchanged s k (listed b))
