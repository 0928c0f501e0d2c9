-- Sums over the records of one serial and quota, and what a change of one record does to them.
-- A change of the first record that passes a test leaves those before and after it, so a sum loses what that record added and gains what the new
-- one adds. Records differ exactly if each serial and quota has at most one used record, which is a sum of ones; and then the count of a serial
-- and quota is the sum of the counts.
use Rattle.std.specs.Prelude.{Some}
use mathlib.Core.Path.{◌≡◌, refl, ap, sym, subst, ◌∙◌}
use Prim.Native.Nat.{ℕ, ◌+◌, ◌≤◌}
use native.Mathlib.Omega.{arith}
use mathlib.Core.List.Memᴰ
use mathlib.Core.List.{List, [], ◌∷◌, ◌++◌, Memᴰ}
use mathlib.Core.Bool.{Bool, true, false, not, cond, ◌&&◌, false≢true}
use lib.Dec.{eqb}
use borrow.Author.Tests.{not-true}
use Rattle.accounts.specs.declared.Hold.{Hold}
use Rattle.accounts.specs.Accounts.{zero_hold, used, is_for}
use Rattle.lists.specs.Lists.{all, any, total, first, change_first, or_else}
use Rattle.model.specs.Consistent.{records_differ}
use Rattle.model.specs.Holds.{count_of}
use Rattle.lists.proofs.Bools.{and_left, and_right, and_both, or_neither, fails}
use Rattle.lists.proofs.Lists.{all_append, total_append}
use Rattle.model.proofs.Consistent.{is_for_exactly}

-- the first element that passes a test, with the lists before and after it is changed
pub record Changed (p : Hold → Bool) (f : Hold → Hold) (hs : List Hold) : Type 0 where
  pub front : List Hold
  pub one : Hold
  pub back : List Hold
  pub passes : p one ≡ true
  pub old : hs ≡ front ++ (one ∷ back)
  pub now : change_first p f hs ≡ front ++ (f one ∷ back)

-- where some element passes, the first one is changed
pub changed : (p : Hold → Bool) (f : Hold → Hold) (hs : List Hold) → any p hs ≡ true → Changed p f hs
unfolding any change_first
changed p f [] e = absurd (false≢true e)
changed p f (h ∷ hs) e = go (p h) refl (changed p f hs)
  where
    go : (t : Bool) → p h ≡ t → (any p hs ≡ true → Changed p f hs) → Changed p f (h ∷ hs)
    go true t ih = record { front = []; one = h; back = hs; passes = t; old = refl; now = rw t }
    go false t ih =
        let c = ih (rw t at e) in
        record {
          front = h ∷ c.front;
          one = c.one;
          back = c.back;
          passes = c.passes;
          old = ap (λ (l : List Hold). h ∷ l) c.old;
          now = rw t (ap (λ (l : List Hold). h ∷ l) c.now);
        }

module _ (p : Hold → Bool) (f : Hold → Hold) (hs : List Hold) (c : Changed p f hs) where
  -- it is a member
  pub changed_member : Memᴰ c.one hs
  changed_member = subst (λ (l : List Hold). Memᴰ c.one l) (sym c.old) (Memᴰ.append_right c.front (Memᴰ.head refl))

  -- a sum loses the old one and gains the new one
  pub changed_total : (w : Hold → ℕ) → total w (change_first p f hs) + w c.one ≡ total w hs + w (f c.one)
  unfolding total
  changed_total w =
      omega (
        arith,
        ap (total w) c.old,
        ap (total w) c.now,
        total_append w c.front (c.one ∷ c.back),
        total_append w c.front (f c.one ∷ c.back),
      )

  -- a test that the new one passes still holds of all
  pub changed_all : (r : Hold → Bool) → all r hs ≡ true → r (f c.one) ≡ true → all r (change_first p f hs) ≡ true
  unfolding all
  changed_all r e n =
      let s : (all r c.front && all r (c.one ∷ c.back)) ≡ true = sym (all_append r c.front (c.one ∷ c.back)) ∙ (sym (ap (all r) c.old) ∙ e) in
      ap (all r) c.now ∙ (all_append r c.front (f c.one ∷ c.back)
      ∙ and_both (all r c.front) _ (and_left _ _ s) (and_both (r (f c.one)) _ n (and_right (r c.one) _ (and_right (all r c.front) _ s))))

-- a record for one serial and quota is for another exactly if those are the same
pub for_same : (serial q t j : ℕ) (h : Hold) → is_for serial q h ≡ true → is_for t j h ≡ (eqb serial t && eqb q j)
unfolding is_for
for_same serial q t j h x = let e = (is_for_exactly serial q h).0 x in rw (e.0, e.1, e.2)

-- what a record adds to a sum over the records of one serial and quota
abbrev pub weight : (Hold → ℕ) → ℕ → ℕ → Hold → ℕ
weight v t j h = cond (is_for t j h) (v h) 0

-- a record adds its own to the sum of its serial and quota alone
pub weight_same : (v : Hold → ℕ) (serial q t j : ℕ) (h : Hold) → is_for serial q h ≡ true → weight v t j h ≡ cond (eqb serial t && eqb q j) (v h) 0
weight_same v serial q t j h x = rw (for_same serial q t j h x)

-- an unused record adds nothing
pub weight_unused : (v : Hold → ℕ) (t j : ℕ) (h : Hold) → used h ≡ false → weight v t j h ≡ 0
unfolding is_for
weight_unused v t j h e = rw e

-- as a zero one
pub zero_weight : (v : Hold → ℕ) (t j : ℕ) → weight v t j zero_hold ≡ 0
unfolding used
zero_weight v t j = weight_unused v t j zero_hold refl

-- the sum
abbrev pub sum_of : (Hold → ℕ) → ℕ → ℕ → List Hold → ℕ
sum_of v t j hs = total (weight v t j) hs

-- how many records there are
abbrev pub times : ℕ → ℕ → List Hold → ℕ
times = sum_of (λ h. 1)

-- where there is no record the sum is 0
pub sum_none : (v : Hold → ℕ) (t j : ℕ) (hs : List Hold) → any (is_for t j) hs ≡ false → sum_of v t j hs ≡ 0
unfolding total any
sum_none v t j [] e = refl
sum_none v t j (h ∷ hs) e = let n = or_neither (is_for t j h) (any (is_for t j) hs) e in rw (n.0, sum_none v t j hs n.1)

-- where there is one they are at least one
times_some : (t j : ℕ) (hs : List Hold) → any (is_for t j) hs ≡ true → 1 ≤ times t j hs
unfolding total any
times_some t j [] e = absurd (false≢true e)
times_some t j (h ∷ hs) e = go (is_for t j h) refl (times_some t j hs)
  where
    go : (x : Bool) → is_for t j h ≡ x → (any (is_for t j) hs ≡ true → 1 ≤ times t j hs) → 1 ≤ times t j (h ∷ hs)
    go true x ih = rw x (omega arith)
    go false x ih = let l = ih (rw x at e) in rw x (omega arith)

-- of differing records, none after a record is for its serial and quota
none_later : (t j : ℕ) (h : Hold) (hs : List Hold) → records_differ (h ∷ hs) ≡ true → is_for t j h ≡ true → any (is_for t j) hs ≡ false
unfolding records_differ
none_later t j h hs d x =
    let e = (is_for_exactly t j h).0 x in
    rw (e.0, e.1, e.2) at (not-true (used h && any (is_for h.serial h.quota) hs) (and_left _ _ d))

-- where records differ, no serial and quota has two
pub differ_times : (hs : List Hold) → records_differ hs ≡ true → (t j : ℕ) → times t j hs ≤ 1
unfolding records_differ total
differ_times [] d t j = omega arith
differ_times (h ∷ hs) d t j = go (is_for t j h) refl (differ_times hs (and_right (not (used h && any (is_for h.serial h.quota) hs)) _ d) t j)
  where
    go : (x : Bool) → is_for t j h ≡ x → times t j hs ≤ 1 → times t j (h ∷ hs) ≤ 1
    go true x ih = let z = sum_none (λ h. 1) t j hs (none_later t j h hs d x) in rw x (omega arith)
    go false x ih = rw x (omega arith)

-- where no serial and quota has two, records differ
pub times_differ : (hs : List Hold) → ((t j : ℕ) → times t j hs ≤ 1) → records_differ hs ≡ true
unfolding records_differ total
times_differ [] f = refl
times_differ (h ∷ hs) f = rw (fails (used h && any (is_for h.serial h.quota) hs) twice) (times_differ hs (λ t j. omega (arith, f t j)))
  where
    twice : (used h && any (is_for h.serial h.quota) hs) ≡ true → ⊥
    twice e =
        let x : is_for h.serial h.quota h ≡ true = (is_for_exactly h.serial h.quota h).1 (and_left _ _ e, refl, refl) in
        let n = times_some h.serial h.quota hs (and_right (used h) _ e) in
        let l : 1 + times h.serial h.quota hs ≤ 1 = rw x at (f h.serial h.quota) in
        omega arith

-- where records differ, the count of a serial and quota is the sum of the counts
pub count_sum : (hs : List Hold) → records_differ hs ≡ true → (t j : ℕ) → count_of t j hs ≡ sum_of (λ h. h.count) t j hs
unfolding count_of records_differ total first or_else
count_sum [] d t j = refl
count_sum (h ∷ hs) d t j = go (is_for t j h) refl (count_sum hs (and_right (not (used h && any (is_for h.serial h.quota) hs)) _ d) t j)
  where
    found : (x : Bool) → is_for t j h ≡ x → count_of t j (h ∷ hs) ≡ (or_else zero_hold (cond x (Some h) (first (is_for t j) hs))).count
    found x e = ap (λ (y : Bool). (or_else zero_hold (cond y (Some h) (first (is_for t j) hs))).count) e

    go : (x : Bool) → is_for t j h ≡ x → count_of t j hs ≡ sum_of (λ h. h.count) t j hs → count_of t j (h ∷ hs) ≡ sum_of (λ h. h.count) t j (h ∷ hs)
    go true x ih = found true x ∙ rw (x, sum_none (λ h. h.count) t j hs (none_later t j h hs d x)) (omega arith)
    go false x ih = found false x ∙ rw x (omega (arith, ih))
