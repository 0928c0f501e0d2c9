-- What is live is paid for. Each live object has a record of a quota that exists, and that quota's charges have the object's among them; a quota's grant less
-- its remainder is its charges. So the sum over objects and quotas of what each quota pays for each object, added up by quotas, is what they paid; added up by
-- objects, it is at least what these cost.
use Prim.Native.Nat.{ℕ, zero, suc, ◌+◌, ◌-◌, ◌≤◌, ◌<◌}
use native.Mathlib.Omega.{arith}
use mathlib.Core.Path.{◌≡◌, refl, ap}
use mathlib.Core.List.{List, [], ◌∷◌}
use mathlib.Core.Bool.{Bool, true, false}
use mathlib.Core.Logic.{◌⊎◌, inl, inr}
use lib.ListN.{length}
use lib.Dec.{eqb}
use borrow.Author.Tests.{eqb-true, eqb-false}
use Rattle.accounts.specs.declared.Quota.{Quota}
use Rattle.accounts.specs.declared.Hold.{Hold}
use Rattle.accounts.specs.declared.Accounts.{Accounts}
use Rattle.accounts.specs.Accounts.{QUOTAS}
use Rattle.rounding.specs.Rounding.{Units, table}
use Rattle.rounding.proofs.Editions.{table_is}
use Rattle.lists.specs.Lists.{all, total}
use Rattle.model.specs.Objects.{blocks_of, objects, objects_of}
use Rattle.model.specs.Consistent.{accounted, charge_of, held, charged_for, charges, balanced_from}
use Rattle.model.specs.Step.{own_step}
use Rattle.model.specs.declared.Handle.{Handle}
use Rattle.lists.proofs.Bools.{and_left, and_right}
use Rattle.model.proofs.Consistent.{tests_exactly, accounted_cut}
use Rattle.invariant.proofs.Good.{Ordered}
use Rattle.invariant.proofs.Counts.{held_counted, counted_quota, record_counted}
use Rattle.ledger.specs.History.{by_own}
use Rattle.ledger.proofs.Theorem.{history_agrees}
use Rattle.safety.specs.Paid.{live_charges, paid_in, PaidFor}
use Rattle.safety.proofs.Isolated.{accounted_ordered}

-- the sum of f over from, from + 1, .., so many
sum_from : (ℕ → ℕ) → ℕ → ℕ → ℕ
sum_from f from zero = 0
sum_from f from (suc count) = f from + sum_from f (suc from) count

-- one of them is at most the sum
at_or_above : (x y : ℕ) → x ≤ y → (x ≡ y) ⊎ (suc x ≤ y)
at_or_above x y p = decide (eqb x y) refl
  where
    decide : (t : Bool) → eqb x y ≡ t → (x ≡ y) ⊎ (suc x ≤ y)
    decide true e = inl (eqb-true x y e)
    decide false e = inr (let n : x ≡ y → ⊥ = eqb-false x y e in omega (arith, n))

part : (f : ℕ → ℕ) (from count j : ℕ) → from ≤ j → j < from + count → f j ≤ sum_from f from count
unfolding sum_from
part f from zero j l u = absurd (omega arith)
part f from (suc count) j l u = go (at_or_above from j l) (λ p. part f (suc from) count j p (omega arith))
  where
    go : (from ≡ j) ⊎ (suc from ≤ j) → (suc from ≤ j → f j ≤ sum_from f (suc from) count) → f j ≤ f from + sum_from f (suc from) count
    go (inl e) ih = let x : f from ≡ f j = ap f e in omega arith
    go (inr p) ih = let x = ih p in omega arith

-- the sum of two functions is the sum of their sums
sum_both : (f g : ℕ → ℕ) (from count : ℕ) → sum_from (λ j. f j + g j) from count ≡ sum_from f from count + sum_from g from count
unfolding sum_from
sum_both f g from zero = refl
sum_both f g from (suc count) = let e = sum_both f g (suc from) count in omega arith

-- what quotas have paid, by their charges
paid_charges : (os : List Handle) (hs : List Hold) (q : ℕ) (qs : List Quota) → balanced_from os hs q qs ≡ true
    → total (λ (x : Quota). x.grant - x.remainder) qs ≡ sum_from (λ j. charges hs j os) q (length qs)
unfolding balanced_from total sum_from
paid_charges os hs q [] e = refl
paid_charges os hs q (x ∷ xs) e =
    let a = eqb-true x.grant (x.remainder + charges hs q os) (and_left _ _ e) in
    let r = paid_charges os hs (suc q) xs (and_right (eqb x.grant (x.remainder + charges hs q os)) _ e) in
    omega arith

-- an object that is held is charged to somebody
module _ (hs : List Hold) (r : Ordered hs) where
  charged_once : (o : Handle) → held hs o.serial ≡ true → charge_of o.length ≤ sum_from (λ j. charged_for hs j o) 0 QUOTAS
  unfolding charged_for
  charged_once o e =
      let h = (held_counted hs r o.serial).0 e in
      let p = part (λ j. charged_for hs j o) 0 QUOTAS h.0 (omega arith) (counted_quota hs r o.serial h.0 h.1) in
      rw ((record_counted hs r o.serial h.0).1 h.1) at p

  -- and so are all
  charged_all : (os : List Handle) → all (λ (o : Handle). held hs o.serial) os ≡ true
      → total (λ (o : Handle). charge_of o.length) os ≤ sum_from (λ j. charges hs j os) 0 QUOTAS
  unfolding all total charges
  charged_all [] e = omega arith
  charged_all (o ∷ os) e =
      let a = charged_once o (and_left (held hs o.serial) _ e) in
      let b = charged_all os (and_right (held hs o.serial) _ e) in
      let c = sum_both (λ j. charged_for hs j o) (λ j. charges hs j os) 0 QUOTAS in
      omega arith

-- of every consistent state
pub paid_accounted : (s : List ℕ) (k : Accounts) → accounted s k ≡ true → length k.quotas ≡ QUOTAS → live_charges s ≤ paid_in k
unfolding live_charges paid_in objects_of
paid_accounted s k c n =
    let t = (tests_exactly (blocks_of s) k).0 (accounted_cut s k c).1 in
    let a = charged_all k.holds (accounted_ordered s k c) (objects (blocks_of s)) t.recorded in
    let b = paid_charges (objects (blocks_of s)) k.holds 0 k.quotas t.balance in
    let d = ap (sum_from (λ j. charges k.holds j (objects (blocks_of s))) 0) n in
    omega (arith, a, b, d)

-- THE THEOREM: so of every history
pub paid_for_of : (tables : ℕ → ℕ → ℕ) → ((e : ℕ) → Units (tables e)) → PaidFor tables (by_own tables)
paid_for_of tables units =
    record { always = λ begun es s k h. (let a = history_agrees tables units begun es s k h in paid_accounted s k a.passes a.quotas) }

pub paid_for : PaidFor table own_step
paid_for = paid_for_of table table_is
