-- What a payment does to objects and accounts that fit together: one quota pays for one more object or one less, and no other quota pays.
-- A payment takes from the remainder what it adds to the charges, or the other way round, so the two still make up the grant.
use Prim.Native.Nat.{ℕ, ◌+◌, ◌-◌, ◌≤◌, ◌<◌, ◌^◌}
use native.Mathlib.Omega.{arith}
use mathlib.Core.Path.{◌≡◌, refl, ap, sym, ◌∙◌}
use mathlib.Core.List.{List, Memᴰ}
use mathlib.Core.Bool.{Bool, true, false, cond, ◌&&◌}
use lib.ListN.{length, get_or, get_or-map}
use lib.Dec.{eqb}
use borrow.Author.Tests.{eqb-true, eqb-false, eq-eqb, ne_eqb, lt-ltb}
use Rattle.accounts.specs.declared.Quota.{Quota}
use Rattle.accounts.specs.declared.Hold.{Hold}
use Rattle.accounts.specs.declared.Accounts.{Accounts}
use Rattle.accounts.specs.Accounts.{QUOTAS, zero_quota, quota_at, with_remainder, remaining, charge, refund, with_holds}
use Rattle.accounts.proofs.Laws.{Kept, remaining_put, charge_pays, refund_pays, charge_kept, refund_kept}
use Rattle.model.specs.Consistent.{charge_of, serials_differ}
use Rattle.model.specs.Holds.{count_of}
use Rattle.model.specs.declared.Handle.{Handle}
use Rattle.lists.proofs.Bools.{and_no, and_both}
use Rattle.invariant.proofs.Charges.{cost, total_members, total_more}
use Rattle.invariant.proofs.Recorded.{due, owed, Limits}

-- where at most what remains of one quota has changed
module _ (q : ℕ) (k r : Accounts) (e : Kept q k r) where
  -- every grant is the same
  pub same_grant : (j : ℕ) → (quota_at j r).grant ≡ (quota_at j k).grant
  same_grant j =
      sym (get_or-map (λ (x : Quota). x.grant) r.quotas j zero_quota)
      ∙ ap (λ (l : List ℕ). get_or l j 0) e.same_grants
      ∙ get_or-map (λ (x : Quota). x.grant) k.quotas j zero_quota

  -- and the limits are kept, whatever the records
  pub same_limits : (hs : List Hold) → Limits k → Limits (with_holds hs r)
  same_limits hs m =
      record { quotas = e.same_count ∙ m.quotas; narrow = λ j. rw (same_grant j) (m.narrow j); serial = rw e.same_last m.serial }

module _ (q n : ℕ) (k : Accounts) (m : Limits k) (exists : q < QUOTAS) where
  -- the quota is there
  within : q < length k.quotas
  within = omega (arith, m.quotas)

  -- a quota that has paid has so much less, and the others as much
  pub charged : n ≤ remaining q k → (j : ℕ) → (quota_at j (charge q n k)).remainder + cond (eqb q j) n 0 ≡ (quota_at j k).remainder
  unfolding remaining
  charged l j = go (eqb q j) refl
    where
      here : remaining q (charge q n k) ≡ remaining q k - n
      here = ap (remaining q) (charge_pays q n k exists l) ∙ remaining_put q k (with_remainder (remaining q k - n) (quota_at q k)) within

      go : (t : Bool) → eqb q j ≡ t → (quota_at j (charge q n k)).remainder + cond t n 0 ≡ (quota_at j k).remainder
      go true t = rw (← eqb-true q j t) (omega (arith, here, l))
      go false t = omega (arith, ap (λ (x : Quota). x.remainder) ((charge_kept q n k).same_others j (λ e. eqb-false q j t (sym e))))

  -- a quota that was paid back has so much more, and the others as much
  pub refunded : remaining q k + n < 2 ^ 32 → (j : ℕ) → (quota_at j (refund q n k)).remainder ≡ (quota_at j k).remainder + cond (eqb q j) n 0
  unfolding remaining
  refunded l j = go (eqb q j) refl
    where
      here : remaining q (refund q n k) ≡ remaining q k + n
      here = ap (remaining q) (refund_pays q n k exists l) ∙ remaining_put q k (with_remainder (remaining q k + n) (quota_at q k)) within

      go : (t : Bool) → eqb q j ≡ t → (quota_at j (refund q n k)).remainder ≡ (quota_at j k).remainder + cond t n 0
      go true t = rw (← eqb-true q j t) here
      go false t = omega (arith, ap (λ (x : Quota). x.remainder) ((refund_kept q n k).same_others j (λ e. eqb-false q j t (sym e))))

-- a count above 0 costs the charge
pub cost_some : (n : ℕ) (o : Handle) → 0 < n → cost n o ≡ charge_of o.length
cost_some n o p = rw (lt-ltb 0 n p)

-- counts of two lists of records are the same but for one object and one quota
abbrev pub Elsewhere : ℕ → ℕ → List Hold → List Hold → Type 0
Elsewhere serial q hs hs' = (u j : ℕ) → (eqb serial u && eqb q j) ≡ false → count_of u j hs' ≡ count_of u j hs

-- an object and a quota are the same two as themselves, and not where the object or the quota is another
pub themselves : (serial q : ℕ) → (eqb serial serial && eqb q q) ≡ true
themselves serial q = and_both (eqb serial serial) (eqb q q) (eq-eqb serial serial refl) (eq-eqb q q refl)

other_object : (serial q u j : ℕ) → (u ≡ serial → ⊥) → (eqb serial u && eqb q j) ≡ false
other_object serial q u j f = rw (ne_eqb serial u (λ e. f (sym e)))

other_quota : (serial q u j : ℕ) → eqb q j ≡ false → (eqb serial u && eqb q j) ≡ false
other_quota serial q u j e = and_no (eqb serial u) (eqb q j) e

-- where one object costs one quota d more, that quota pays d more and no other does
pub owed_moved : (hs hs' : List Hold) (q : ℕ) (o : Handle) (os : List Handle) (d : ℕ) → serials_differ os ≡ true → Memᴰ o os
    → Elsewhere o.serial q hs hs'
    → due hs' q o ≡ due hs q o + d → (j : ℕ) → owed hs' j os ≡ owed hs j os + cond (eqb q j) d 0
owed_moved hs hs' q o os d df m only e j = go (eqb q j) refl
  where
    go : (t : Bool) → eqb q j ≡ t → owed hs' j os ≡ owed hs j os + cond t d 0
    go true t =
        rw (← eqb-true q j t)
        (total_more (due hs q) (due hs' q) os o d df m e
        (λ p i f. ap (λ (n : ℕ). cost n p) (only p.serial q (other_object o.serial q p.serial q f))))
    go false t =
        omega (
          arith,
          total_members (due hs' j) (due hs j) os
              (λ p i. ap (λ (n : ℕ). cost n p) (only p.serial j (other_quota o.serial q p.serial j t))),
        )
