-- A good state in three parts: its blocks, its objects beside its accounts by counts, and the limits of its accounts. A state is good exactly if
-- it has all three.
-- By counts the tests of records say: a count above 0 is of a live serial, every live serial has one, and what a quota pays is the charges of
-- the objects it has a count for. A record is valid exactly if it is proper and its serial is live.
use Prim.Native.Nat.{ℕ, ◌+◌, ◌≤◌, ◌<◌, ◌^◌}
use native.Mathlib.Omega.{arith}
use mathlib.Core.Path.{◌≡◌, refl}
use mathlib.Core.List.{List, Memᴰ}
use mathlib.Core.Bool.{true, ◌&&◌}
use lib.ListN.{length}
use lib.Dec.{leb, ltb, eqb}
use borrow.Author.Tests.{ltb-true, leb-true, ne_eqb}
use Rattle.accounts.specs.declared.Hold.{Hold}
use Rattle.accounts.specs.declared.Accounts.{Accounts}
use Rattle.accounts.specs.Accounts.{QUOTAS, quota_at, used}
use Rattle.layout.specs.Blocks.{size, QUARANTINED}
use Rattle.lists.specs.Lists.{total}
use Rattle.model.specs.Objects.{objects}
use Rattle.model.specs.Consistent.{held}
use Rattle.model.specs.Holds.{count_of}
use Rattle.model.specs.Calls.{State}
use Rattle.model.specs.declared.Handle.{Handle}
use Rattle.lists.proofs.Bools.{and_left, and_right, and_no, implies}
use Rattle.lists.proofs.Lists.{all_member, member_all}
use Rattle.model.proofs.Consistent.{Valid, given_exactly, valid_exactly, balance_exactly}
use Rattle.model.proofs.Blocks.{writable_whole}
use Rattle.invariant.proofs.Good.{proper, Ordered, Good}
use Rattle.invariant.proofs.Counts.{count_member, member_count, held_counted}
use Rattle.invariant.proofs.Charges.{cost, charges_counted}
use Rattle.invariant.proofs.Heaps.{good_ordered}
use Rattle.invariant.proofs.Laid.{Laid, writable_storable, storable_writable, storable_octets, allowed_most}

-- what a quota pays for an object, and for objects, by counts
abbrev pub due : List Hold → ℕ → Handle → ℕ
due hs q o = cost (count_of o.serial q hs) o

abbrev pub owed : List Hold → ℕ → List Handle → ℕ
owed hs q os = total (due hs q) os

-- objects and accounts that fit together
pub record Recorded (os : List Handle) (k : Accounts) : Type 0 where
  pub given : (o : Handle) → Memᴰ o os → o.serial ≤ k.last_serial
  pub ordered : Ordered k.holds
  pub live : (serial q : ℕ) → 0 < count_of serial q k.holds → (o : Handle) × Memᴰ o os × (o.serial ≡ serial)
  pub counted : (o : Handle) → Memᴰ o os → (q : ℕ) × (0 < count_of o.serial q k.holds)
  pub balance : (q : ℕ) → q < QUOTAS → (quota_at q k).grant ≡ (quota_at q k).remainder + owed k.holds q os

-- the limits of accounts
pub record Limits (k : Accounts) : Type 0 where
  pub quotas : length k.quotas ≡ QUOTAS
  pub narrow : (q : ℕ) → (quota_at q k).grant < 2 ^ 32
  pub serial : k.last_serial < QUARANTINED

-- a record with a count is used
counted_used : (h : Hold) → 0 < h.count → used h ≡ true
unfolding used
counted_used h p = rw (ne_eqb h.count 0 (λ e. omega arith), and_no (eqb h.serial 0 && eqb h.quota 0) _ refl)

module _ (t : State) (g : Good t) where
  -- a good state has its blocks
  pub good_laid : Laid t.blocks
  good_laid =
      record {
        whole = writable_whole t.blocks g.writable;
        stored = writable_storable t.blocks g.writable g.octets;
        extent = g.extent;
        cut = g.tests.cut;
        differ = g.tests.differ;
      }

  -- and its limits
  pub good_limits : Limits t.accounts
  good_limits = record { quotas = g.quotas; narrow = g.narrow; serial = g.serial }

  -- a count above 0 is of a live serial
  good_live : (serial q : ℕ) → 0 < count_of serial q t.accounts.holds → (o : Handle) × Memᴰ o (objects t.blocks) × (o.serial ≡ serial)
  good_live serial q p =
      let hs = t.accounts.holds in
      let h : Hold = record { serial = serial; quota = q; count = count_of serial q hs } in
      let v = (valid_exactly (objects t.blocks) hs).0 g.tests.valid h (member_count hs serial q p) (counted_used h p) in
      (v.0, v.1, v.2)

  -- its objects and accounts fit together
  pub good_recorded : Recorded (objects t.blocks) t.accounts
  good_recorded =
      let k = t.accounts in
      let os = objects t.blocks in
      let r = good_ordered t g in
      record {
        given = (given_exactly k.last_serial os).0 g.tests.given;
        ordered = r;
        live = good_live;
        counted = λ o m. (held_counted k.holds r o.serial).0 (all_member (λ (o : Handle). held k.holds o.serial) os g.tests.recorded o
            m);
        balance = λ q l. rw (← charges_counted k.holds r q os) ((balance_exactly os k.holds k.quotas).0 g.tests.balance q
            (rw g.quotas l));
      }

-- a proper record whose serial is live is valid
recorded_valid : (os : List Handle) (k : Accounts) → Recorded os k → (h : Hold) → Memᴰ h k.holds → used h ≡ true → Valid os h
unfolding proper
recorded_valid os k b h m u =
    let hs = k.holds in
    let p = implies (used h) (ltb h.quota QUOTAS && leb 1 h.count) (all_member proper hs b.ordered.each h m) u in
    let one : 1 ≤ h.count = leb-true 1 h.count (and_right (ltb h.quota QUOTAS) _ p) in
    let o = b.live h.serial h.quota (rw (count_member hs b.ordered h m u) one) in
    (o.0, o.1, o.2, ltb-true h.quota QUOTAS (and_left _ _ p), one)

-- the three parts make a good state
pub good_state : (t : State) → Laid t.blocks → Recorded (objects t.blocks) t.accounts → Limits t.accounts → Good t
good_state t l b m =
    let k = t.accounts in
    let os = objects t.blocks in
    record {
      writable = storable_writable t.blocks l.whole l.stored (allowed_most (total size t.blocks) l.extent);
      octets = storable_octets t.blocks l.stored;
      extent = l.extent;
      tests =
          record {
            cut = l.cut;
            differ = l.differ;
            given = (given_exactly k.last_serial os).1 b.given;
            valid = (valid_exactly os k.holds).1 (recorded_valid os k b);
            unique = b.ordered.differ;
            recorded = member_all (λ (o : Handle). held k.holds o.serial) os
                (λ o i. (held_counted k.holds b.ordered o.serial).1 (b.counted o i));
            balance = (balance_exactly os k.holds k.quotas).1 (λ q h. rw (charges_counted k.holds b.ordered q os)
                (b.balance q (rw m.quotas at h)));
          };
      quotas = m.quotas;
      narrow = m.narrow;
      serial = m.serial;
    }
