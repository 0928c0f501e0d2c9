-- A send moves a hold: the claim and the release that it is made of are both accepted, and the receiver holds the packet then.
-- A claim changes no byte and takes no hold from anybody, so what the sender could release it still can. The receiver's count is one more, and the
-- release takes it away again only if sender and receiver are one, and then it was above 0 before.
use Rattle.std.specs.Prelude.{Some}
use Prim.Native.Nat.{ℕ, zero, suc, ◌+◌, ◌-◌, ◌<◌}
use native.Mathlib.Omega.{arith}
use mathlib.Core.Path.{◌≡◌, refl, ap, subst, ◌∙◌}
use mathlib.Core.List.{List, [], ◌∷◌, Memᴰ}
use mathlib.Core.Bool.{Bool, true, false, cond, ◌&&◌}
use lib.Dec.{eqb}
use borrow.Author.Tests.{eqb-true, eq-eqb}
use Rattle.accounts.specs.declared.Accounts.{Accounts}
use Rattle.rounding.specs.Rounding.{Units}
use Rattle.lists.specs.Lists.{or_else}
use Rattle.model.specs.Answers.{amount_of}
use Rattle.model.specs.Objects.{blocks_of, objects, objects_of, lookup, found}
use Rattle.model.specs.Consistent.{consistent, has_record}
use Rattle.model.specs.Holds.{count_of, lower_count}
use Rattle.model.specs.Refusals.{first_refusal, claim_lines}
use Rattle.model.specs.Calls.{Outcome, State, leaves, unless, unchanged, state_of, claimed, given_back, released, claim, release, can_release}
use Rattle.model.specs.Step.{step}
use Rattle.model.specs.declared.Handle.{Handle}
use Rattle.model.specs.declared.Call.TheVariants.{Claim, CanRelease}
use Rattle.model.proofs.Refusals.{call_accepted_exactly}
use Rattle.model.proofs.Lookup.{lookup_named}
use Rattle.model.proofs.Settle.{object_held}
use Rattle.model.proofs.Frame.{claimed_keeps}
use Rattle.invariant.proofs.Good.{Ordered, Good}
use Rattle.invariant.proofs.Heaps.{good_heap, good_ordered}
use Rattle.invariant.proofs.Members.{keep_exactly}
use Rattle.invariant.proofs.Counts.{record_counted, held_counted, lower_ordered, lower_counted}
use Rattle.invariant.proofs.Payments.{themselves}
use Rattle.invariant.proofs.Transitions.{claimed_counts, released_objects}
use Rattle.invariant.proofs.Passed.{Claimable, claim_passed, Releasable, release_passed}
use Rattle.invariant.proofs.Releasing.{consistent_fitting, Possible, Fitting, possible_good, does}
use Rattle.ledger.specs.Ledger.{Ledger, Event, Called, ledger_of}
use Rattle.ledger.specs.History.{by_own, History}
use Rattle.ledger.proofs.Agreement.{Agrees}
use Rattle.ledger.proofs.Steps.{good, again}
use Rattle.ledger.proofs.Theorem.{history_agrees, demand_3_of}

module _ (tables : ℕ → ℕ → ℕ) (units : (e : ℕ) → Units (tables e)) (begun : Ledger) (es : List Event) (s : List ℕ) (k : Accounts)
    (past : History tables (by_own tables) begun es s k) (from to : ℕ) (h : Handle) (c : (claim (tables k.edition) s k to h).values.refusal ≡ 0)
    (r : (can_release (tables k.edition) s k from h).values.refusal ≡ 0) where
  abbrev unit : ℕ → ℕ
  unit = tables k.edition

  agrees : Agrees (ledger_of begun es) s k
  agrees = history_agrees tables units begun es s k past

  good_now : Good (state_of s k)
  good_now = good (ledger_of begun es) s k agrees

  claimable : Claimable s k to h
  unfolding step
  claimable = claim_passed unit s k to h ((call_accepted_exactly unit (Claim to h) s k).0 c)

  releasable : Releasable s k from h
  unfolding step
  releasable = release_passed unit s k from h ((call_accepted_exactly unit (CanRelease from h) s k).0 r)

  abbrev object : Handle
  object = found (lookup h s)

  -- the handle names it
  pub named : lookup h s ≡ Some object
  unfolding found or_else
  named = rw claimable.names

  there : Memᴰ object (objects_of s)
  there = (lookup_named h s object named).1

  there_among : Memᴰ object (objects (blocks_of s))
  unfolding objects_of
  there_among = there

  -- the state after the claim
  abbrev held : State
  held = record { blocks = blocks_of s; accounts = claimed to object k }

  claim_is : claim unit s k to h ≡ unchanged s (claimed to object k) (claim unit s k to h).values
  unfolding claim unless
  claim_is = go (first_refusal (claim_lines unit s k to h)) c
    where
      go : (n : ℕ) → (unless n s k (unchanged s (claimed to object k) (amount_of object.length))).values.refusal ≡ 0
          → unless n s k (unchanged s (claimed to object k) (amount_of object.length))
          ≡ unchanged s (claimed to object k) (unless n s k (unchanged s (claimed to object k) (amount_of object.length))).values
      go zero e = refl
      go (suc n) e = absurd (omega (arith, e))

  -- the list goes on with it, so the state is a good one again
  abbrev claimed_events : List Event
  claimed_events = Called (Claim to h) (claim unit s k to h).values ∷ es

  claimed_past : History tables (by_own tables) begun claimed_events s (claimed to object k)
  unfolding step
  claimed_past = (s, k, past, claim_is)

  held_agrees : Agrees (ledger_of begun claimed_events) s (claimed to object k)
  held_agrees = history_agrees tables units begun claimed_events s (claimed to object k) claimed_past

  held_good : Good held
  held_good = good (ledger_of begun claimed_events) s (claimed to object k) held_agrees

  -- a claim keeps the edition
  pub held_edition : (claimed to object k).edition ≡ k.edition
  held_edition = (claimed_keeps to object k).same_edition

  held_fitting : Fitting unit held
  held_fitting =
      consistent_fitting unit s (claimed to object k)
      (subst (λ (n : ℕ). consistent (tables n) s (claimed to object k) ≡ true) held_edition
      ((demand_3_of tables units).always begun claimed_events [] s (claimed to object k) claimed_past).agrees.kept_consistent)

  held_ordered : Ordered (claimed to object k).holds
  held_ordered = good_ordered held held_good

  -- the counts after the claim
  counts : (n j : ℕ) → count_of n j (claimed to object k).holds
      ≡ cond (eqb object.serial n && eqb to j) (count_of n j k.holds + 1) (count_of n j k.holds)
  counts = claimed_counts to object (state_of s k) good_now there_among claimable.exists claimable.pays claimable.unused

  -- the sender's count was above 0, and still is
  had : 0 < count_of object.serial from k.holds
  had = (record_counted k.holds (good_ordered (state_of s k) good_now) object.serial from).0 releasable.recorded

  has : 0 < count_of object.serial from (claimed to object k).holds
  has = rw (counts object.serial from) (go (eqb object.serial object.serial && eqb to from))
    where
      go : (x : Bool) → 0 < cond x (count_of object.serial from k.holds + 1) (count_of object.serial from k.holds)
      go true = omega arith
      go false = had

  recorded : has_record (claimed to object k).holds from object.serial ≡ true
  recorded = (record_counted (claimed to object k).holds held_ordered object.serial from).1 has

  -- so the release is possible
  possible : Possible from h object held
  unfolding lookup objects_of found or_else
  possible = record { exists = releasable.exists; names = rw claimable.names; recorded = recorded }

  -- and is made
  abbrev moved : State
  moved = released from object held

  abbrev pub left : Outcome
  left = leaves moved (amount_of (given_back from object (claimed to object k)))

  release_is : release unit s (claimed to object k) from h ≡ left
  release_is =
      subst (λ (x : List ℕ). release unit x (claimed to object k) from h ≡ left)
      (again (ledger_of begun es) s k agrees) (does from h object held held_good possible unit held_fitting)

  pub both_made : release unit (claim unit s k to h).heap (claim unit s k to h).accounts from h ≡ left
  both_made = ap (λ (t : Outcome). release unit t.heap t.accounts from h) claim_is ∙ release_is

  -- the receiver's count is above 0 then
  pub receiver_has : 0 < count_of object.serial to left.accounts.holds
  unfolding released
  receiver_has = rw (lower_counted (claimed to object k).holds held_ordered object.serial from recorded object.serial to) (go (eqb from to) refl)
    where
      one_more : count_of object.serial to (claimed to object k).holds ≡ count_of object.serial to k.holds + 1
      one_more = rw (themselves object.serial to) at (counts object.serial to)

      go : (x : Bool) → eqb from to ≡ x
          → 0 < cond (eqb object.serial object.serial && eqb from to) (count_of object.serial to (claimed to object k).holds - 1)
          (count_of object.serial to (claimed to object k).holds)
      go true e = rw (eq-eqb object.serial object.serial refl, e) (omega (arith, one_more, rw (eqb-true from to e) at had))
      go false e = rw (eq-eqb object.serial object.serial refl, e) (omega (arith, one_more))

  receiver_counted : 0 < count_of object.serial to (lower_count object.serial from (claimed to object k).holds)
  unfolding released
  receiver_counted = receiver_has

  -- and the packet is live
  pub packet_lives : Memᴰ object (objects_of left.heap)
  packet_lives =
      let hs = lower_count object.serial from (claimed to object k).holds in
      rw ((good_heap moved (possible_good from h object held held_good possible)).objects, released_objects from object held held_good there_among recorded)
      ((keep_exactly (object_held hs) (objects (blocks_of s)) object).1 (
        there_among,
        (held_counted hs (lower_ordered (claimed to object k).holds held_ordered object.serial from recorded) object.serial).1 (to, receiver_counted),
      ))
