-- What agreement of ledger, heap and accounts says, field by field of demand 3. Serials and records differ because the heap is consistent.
-- Objects lie as blocks do, each behind its own header and before the next. A record belongs to a live object, which has an entry, and both the
-- record's count and the entry's holds are the count of that serial and quota. Grant, remainder and charges balance over the live objects, which
-- are the ledger's. And no line holds for a call that asks what remains.
use Prim.Native.Nat.{ℕ, ◌+◌, ◌≤◌, ◌<◌}
use native.Mathlib.Omega.{arith}
use mathlib.Core.Path.{◌≡◌, refl, ap, sym, ◌∙◌}
use mathlib.Core.List.Memᴰ
use mathlib.Core.List.{List, [], ◌∷◌, map, Memᴰ}
use mathlib.Core.Bool.{true}
use lib.ListN.{length, get_or, get_or-map}
use borrow.Author.Tests.{lt-leb}
use Rattle.accounts.specs.declared.Quota.{Quota}
use Rattle.accounts.specs.declared.Hold.{Hold}
use Rattle.accounts.specs.declared.Accounts.{Accounts}
use Rattle.accounts.specs.Accounts.{QUOTAS, zero_quota, used, remaining}
use Rattle.layout.specs.Blocks.{render}
use Rattle.layout.proofs.Render.{length_render}
use Rattle.layout.proofs.Parse.{parse_is}
use Rattle.lists.specs.Lists.{total}
use Rattle.model.specs.Answers.{amount_of}
use Rattle.model.specs.Objects.{objects, blocks_of, objects_of}
use Rattle.model.specs.Consistent.{serials_differ, records_differ, charges, consistent}
use Rattle.model.specs.Holds.{count_of}
use Rattle.model.specs.Refusals.{first_refusal, line_1, line_2, line_3, row_lines}
use Rattle.model.specs.Calls.{unless, state_of, remaining_of, listing_from}
use Rattle.model.specs.Step.{step}
use Rattle.model.specs.declared.Handle.{Handle}
use Rattle.model.specs.declared.ListedBlock.{ListedBlock}
use Rattle.model.specs.declared.Call.TheVariants.{Remaining}
use Rattle.model.proofs.Consistent.{Tests, tests_exactly, valid_exactly, balance_exactly, accounted_cut, range_serial}
use Rattle.ledger.specs.Ledger.{Entry, Ledger, holds_of, cost_to}
use Rattle.ledger.specs.Demand3.{Within, objects_in}
use Rattle.invariant.proofs.Good.{Ordered}
use Rattle.ledger.proofs.Agreement.{Agrees}
use Rattle.invariant.proofs.Counts.{count_member, member_count}
use Rattle.invariant.proofs.Charges.{cost, charges_counted, total_same}
use Rattle.invariant.proofs.Heaps.{heap_good, good_ordered}
use Rattle.ledger.proofs.Places.{objects_lie, objects_apart, headers_apart}

-- a sum over entries is a sum over their objects, where what is added is the same
total_entries : (f : Handle → ℕ) (g : Entry → ℕ) (es : List Entry) → ((e : Entry) → Memᴰ e es → g e ≡ f e.object) → total g es
    ≡ total f (map (λ (e : Entry). e.object) es)
unfolding total
total_entries f g [] h = refl
total_entries f g (e ∷ es) h = rw (h e (Memᴰ.head refl), total_entries f g es (λ x m. h x (Memᴰ.tail m)))

module _ (l : Ledger) (s : List ℕ) (k : Accounts) (a : Agrees l s k) where
  -- the tests that the heap passes, over its objects
  tests_of : Tests (blocks_of s) k
  tests_of = (tests_exactly (blocks_of s) k).0 (accounted_cut s k a.passes).1

  -- the records are in order
  pub ordered_of : Ordered k.holds
  ordered_of = good_ordered (state_of s k) (heap_good s k a.extent a.octets a.passes a.quotas a.narrow (range_serial k a.kinded.1))

  -- the objects of live blocks have different serials
  pub live_once_of : serials_differ (objects_of s) ≡ true
  unfolding objects_of
  live_once_of = tests_of.differ

  -- they never overlap each other
  pub apart_of : (o p : Handle) → Memᴰ o (objects_of s) → Memᴰ p (objects_of s) → (i : ℕ) → Within i o → Within i p → o ≡ p
  unfolding objects_of objects
  apart_of = objects_apart 0 (blocks_of s)

  -- or a header
  pub off_headers_of : (o : Handle) (b : ListedBlock) → Memᴰ o (objects_of s) → Memᴰ b (listing_from 0 (blocks_of s)) → (i : ℕ)
      → Within i o → b.offset ≤ i → i < b.offset + 8 → ⊥
  unfolding objects_of objects
  off_headers_of = headers_apart 0 (blocks_of s)

  -- they lie inside the heap
  pub inside_of : (o : Handle) → Memᴰ o (objects_of s) → o.base + o.length ≤ length s
  unfolding objects_of objects render
  inside_of o m =
      let r = ((parse_is s (blocks_of s) a.octets).0 (accounted_cut s k a.passes).0).0 in
      let e = ap length (sym r) ∙ length_render 0 (blocks_of s) in
      let p = (objects_lie 0 (blocks_of s) o m).high in
      omega arith

  -- a used record is a quota's holds on an object of the ledger
  pub record_held_of : (h : Hold) → Memᴰ h k.holds → used h ≡ true
      → (e : Entry) × Memᴰ e l.entries × (e.object.serial ≡ h.serial) × (holds_of h.quota e ≡ h.count) × (0 < h.count)
  unfolding objects_of
  record_held_of h m u =
      let v = (valid_exactly (objects_of s) k.holds).0 tests_of.valid h m u in
      let r = Memᴰ.of_map (λ (e : Entry). e.object) l.entries ((a.matches.objects v.0).0 v.1) in
      let e : r.0.object.serial ≡ h.serial = rw r.2 v.2 in
      (r.0, r.1, e, a.matches.holds r.0 r.1 h.quota ∙ rw e (count_member k.holds ordered_of h m u), v.4)

  -- a quota's holds on an object of the ledger are a record
  pub hold_recorded_of : (e : Entry) (q : ℕ) → Memᴰ e l.entries → 0 < holds_of q e
      → Memᴰ (record { serial = e.object.serial; quota = q; count = holds_of q e }) k.holds
  hold_recorded_of e q m p = rw (a.matches.holds e m q) (member_count k.holds e.object.serial q (rw (a.matches.holds e m q) at p))

  -- no two records are for the same serial and quota
  pub records_once_of : records_differ k.holds ≡ true
  records_once_of = tests_of.unique

  -- what a quota pays by its records is what the objects that it holds in the ledger cost
  charges_of : (q : ℕ) → charges k.holds q (objects_of s) ≡ total (cost_to q) l.entries
  unfolding cost_to
  charges_of q =
      let f : Handle → ℕ = λ o. cost (count_of o.serial q k.holds) o in
      charges_counted k.holds ordered_of q (objects_of s)
      ∙ total_same f (objects_of s) (objects_in l) live_once_of a.matches.once a.matches.objects
      ∙ sym (total_entries f (cost_to q) l.entries (λ e m. rw (a.matches.holds e m q)))

  -- a quota's remainder plus that is its grant at the opening
  pub balanced_of : (q : ℕ) → q < QUOTAS → remaining q k + total (cost_to q) l.entries ≡ get_or l.grants q 0
  unfolding remaining objects_of
  balanced_of q h =
      let b = (balance_exactly (objects_of s) k.holds k.quotas).0 tests_of.balance q (rw a.quotas h) in
      rw (← charges_of q, ← a.grants) (sym b ∙ sym (get_or-map (λ (x : Quota). x.grant) k.quotas q zero_quota))

  -- and it is answered to a call that asks for it
  pub answered_of : (unit : ℕ → ℕ) → consistent unit s k ≡ true → (q : ℕ) → q < QUOTAS → (step unit (Remaining q) s k).values ≡ amount_of (remaining q k)
  unfolding step remaining_of row_lines line_1 line_2 line_3 first_refusal unless
  answered_of unit f q h = rw (a.extent, f, lt-leb QUOTAS q h)
