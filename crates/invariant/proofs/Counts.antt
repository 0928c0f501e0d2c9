-- The counts of records, and the counts after each change: a record taken, one hold more or less, and all of a quota's records dropped.
-- Where records differ, a serial and a quota have one used record at most, so their count is its count, or 0. Each of the first three changes
-- replaces one record and leaves the others: a sum over records loses what the old one added and gains what the new one adds. Applied to a sum of
-- ones that says that records still differ, and applied to the sum of the counts it says what each count becomes.
-- Dropping replaces each record by itself, so it takes the same part of every sum.
use Rattle.std.specs.Prelude.{Option, Some, None}
use mathlib.Core.Path.{◌≡◌, refl, ap, sym, ◌∙◌}
use Prim.Native.Nat.{ℕ, ◌+◌, ◌-◌, ◌≤◌, ◌<◌}
use native.Mathlib.Omega.{arith}
use mathlib.Core.List.Memᴰ
use mathlib.Core.List.{List, [], ◌∷◌, Memᴰ}
use mathlib.Core.Bool.{Bool, true, false, cond, ◌&&◌, true≢false, and-false}
use mathlib.Core.Logic.{◌⊎◌, inl, inr, ◌↔◌}
use lib.Dec.{ltb, eqb}
use borrow.Author.Tests.{leb-true, le-leb, ltb-true, lt-ltb, eqb-true, eq-eqb, eqb-false, ne_eqb, not-true}
use Rattle.accounts.specs.declared.Hold.{Hold}
use Rattle.accounts.specs.Accounts.{QUOTAS, zero_hold, used, unused, is_for, record_of, dropped, drop_records}
use Rattle.lists.specs.Lists.{all, any, total, first, or_else, change_first}
use Rattle.model.specs.Consistent.{held, has_record}
use Rattle.model.specs.Holds.{count_of, with_count, take_record, raise_count, less_one, lower_count}
use Rattle.lists.proofs.Bools.{and_left, and_right, and_both, implies, implied, fails}
use Rattle.lists.proofs.Lists.{all_member, member_any, first_some, first_found, first_none}
use Rattle.model.proofs.Consistent.{is_for_exactly, held_exactly}
use Rattle.model.proofs.Lookup.{same_record}
use Rattle.invariant.proofs.Good.{proper, Ordered}
use Rattle.invariant.proofs.Sums.{Changed, changed, changed_member, changed_total, changed_all, for_same, weight, weight_same, weight_unused}
use Rattle.invariant.proofs.Sums.{zero_weight, sum_of, times, sum_none, differ_times, times_differ, count_sum}

-- a record with a count is used
pub counted_used : (h : Hold) → 0 < h.count → used h ≡ true
unfolding used
counted_used h p = rw (ne_eqb h.count 0 (λ e. omega arith), and-false)

-- a used record that is proper has a quota that exists and a count
pub proper_exactly : (h : Hold) → (proper h ≡ true) ↔ (used h ≡ true → (h.quota < QUOTAS) × (0 < h.count))
unfolding proper
proper_exactly h = (
  λ e u. (let t = implies (used h) _ e u in (
    ltb-true h.quota QUOTAS (and_left _ _ t),
    leb-true 1 h.count
        (and_right (ltb h.quota QUOTAS) _ t),
  )),
  λ f. implied (used h) _ (λ u. and_both _ _ (lt-ltb h.quota QUOTAS (f u).0) (le-leb 1 h.count (f u).1)),
)

-- so it is of a used member of records in order
pub ordered_member : (hs : List Hold) → Ordered hs → (h : Hold) → Memᴰ h hs → used h ≡ true → (h.quota < QUOTAS) × (0 < h.count)
ordered_member hs r h m = (proper_exactly h).0 (all_member proper hs r.each h m)

-- the count is that of the record that the search finds
count_found : (serial q : ℕ) (hs : List Hold) (o : Option Hold) → first (is_for serial q) hs ≡ o → count_of serial q hs ≡ (or_else zero_hold o).count
unfolding count_of
count_found serial q hs o e = ap (λ (o : Option Hold). (or_else zero_hold o).count) e

-- the record that the search finds
found_record : (hs : List Hold) (serial q : ℕ) → has_record hs q serial ≡ true
    → (h : Hold) × (Memᴰ h hs) × (is_for serial q h ≡ true) × (count_of serial q hs ≡ h.count)
unfolding has_record or_else
found_record hs serial q e =
    let x = first_found (is_for serial q) hs e in
    let m = first_some (is_for serial q) hs x.0 x.1 in
    (x.0, m.0, m.1, count_found serial q hs (Some x.0) x.1)

-- where a quota has no record its count is 0
pub unrecorded : (hs : List Hold) (serial q : ℕ) → has_record hs q serial ≡ false → count_of serial q hs ≡ 0
unfolding has_record or_else
unrecorded hs serial q e = count_found serial q hs None ((first_none (is_for serial q) hs).1 e)

-- a used record's count is the count of its serial and quota
pub count_member : (hs : List Hold) → Ordered hs → (h : Hold) → Memᴰ h hs → used h ≡ true → count_of h.serial h.quota hs ≡ h.count
unfolding has_record
count_member hs r h m u =
    let x = found_record hs h.serial h.quota (member_any (is_for h.serial h.quota) hs h m
    ((is_for_exactly h.serial h.quota h).1 (u, refl, refl))) in
    let e = (is_for_exactly h.serial h.quota x.0).0 x.2 in
    x.3 ∙ ap (λ (g : Hold). g.count) (same_record hs r.differ x.0 h x.1 m e.0 u e.1 e.2)

-- a count above 0 has a record
counted_record : (hs : List Hold) (serial q : ℕ) → 0 < count_of serial q hs → has_record hs q serial ≡ true
counted_record hs serial q p = go (has_record hs q serial) refl
  where
    go : (t : Bool) → has_record hs q serial ≡ t → has_record hs q serial ≡ true
    go true e = e
    go false e = absurd (omega (arith, unrecorded hs serial q e))

-- a count above 0 is that of a record
pub member_count : (hs : List Hold) (serial q : ℕ) → 0 < count_of serial q hs
    → Memᴰ (record { serial = serial; quota = q; count = count_of serial q hs }) hs
member_count hs serial q p =
    let x = found_record hs serial q (counted_record hs serial q p) in
    let e = (is_for_exactly serial q x.0).0 x.2 in
    let s : serial ≡ x.0.serial = sym e.1 in
    let j : q ≡ x.0.quota = sym e.2 in
    Memᴰ.cast (λ i. record { serial = s i; quota = j i; count = x.3 i }) x.1

-- a quota has a record exactly if its count is above 0
pub record_counted : (hs : List Hold) → Ordered hs → (serial q : ℕ) → (has_record hs q serial ≡ true) ↔ (0 < count_of serial q hs)
record_counted hs r serial q = (there, counted_record hs serial q)
  where
    there : has_record hs q serial ≡ true → 0 < count_of serial q hs
    there e =
        let x = found_record hs serial q e in
        omega (arith, x.3, (ordered_member hs r x.0 x.1 ((is_for_exactly serial q x.0).0 x.2).0).1)

-- a count above 0 belongs to a quota that exists
pub counted_quota : (hs : List Hold) → Ordered hs → (serial q : ℕ) → 0 < count_of serial q hs → q < QUOTAS
counted_quota hs r serial q p =
    let h : Hold = record { serial = serial; quota = q; count = count_of serial q hs } in
    (ordered_member hs r h (member_count hs serial q p) (counted_used h p)).0

-- a serial is held exactly if some quota's count for it is above 0
pub held_counted : (hs : List Hold) → Ordered hs → (serial : ℕ) → (held hs serial ≡ true) ↔ ((q : ℕ) × (0 < count_of serial q hs))
held_counted hs r serial = (there, back)
  where
    there : held hs serial ≡ true → (q : ℕ) × (0 < count_of serial q hs)
    there e =
        let x = (held_exactly hs serial).0 e in
        let n : count_of serial x.0.quota hs ≡ x.0.count = rw x.3 at (count_member hs r x.0 x.1 x.2) in
        (x.0.quota, omega (arith, n, (ordered_member hs r x.0 x.1 x.2).1))

    back : (q : ℕ) × (0 < count_of serial q hs) → held hs serial ≡ true
    back p =
        let h : Hold = record { serial = serial; quota = p.0; count = count_of serial p.0 hs } in
        (held_exactly hs serial).1 (h, member_count hs serial p.0 p.1, counted_used h p.1, refl)

-- 0 or 0 is 0
either_zero : (b : Bool) → ◌≡◌ {A = ℕ} (cond b 0 0) 0
either_zero true = refl
either_zero false = refl

-- two tests of equality that both pass
both_same : (serial q t j : ℕ) → (eqb serial t && eqb q j) ≡ true → (serial ≡ t) × (q ≡ j)
both_same serial q t j e = (eqb-true serial t (and_left _ _ e), eqb-true q j (and_right (eqb serial t) _ e))

-- one record is changed
module _ (p : Hold → Bool) (f : Hold → Hold) (hs : List Hold) (r : Ordered hs) (c : Changed p f hs) where
  -- records stay in order where the new one is proper and is not a second one
  changed_ordered : proper (f c.one) ≡ true → ((t j : ℕ) → times t j hs + weight (λ h. 1) t j (f c.one) ≤ 1 + weight (λ h. 1) t j c.one)
      → Ordered (change_first p f hs)
  changed_ordered e n =
      record {
        each = changed_all p f hs c proper r.each e;
        differ = times_differ (change_first p f hs) (λ t j. omega (arith, n t j, changed_total p f hs c (weight (λ h. 1) t j)));
      }

  -- a count loses the old one and gains the new one
  changed_count : Ordered (change_first p f hs) → (t j : ℕ)
      → count_of t j (change_first p f hs) + weight (λ h. h.count) t j c.one ≡ count_of t j hs + weight (λ h. h.count) t j (f c.one)
  changed_count s t j = rw (count_sum hs r.differ t j, count_sum (change_first p f hs) s.differ t j)
      (changed_total p f hs c (weight (λ h. h.count) t j))

-- where not all are used, one is unused
some_unused : (hs : List Hold) → all used hs ≡ false → any unused hs ≡ true
unfolding all any unused
some_unused [] e = absurd (true≢false e)
some_unused (h ∷ hs) e = go (used h) refl (some_unused hs)
  where
    go : (t : Bool) → used h ≡ t → (all used hs ≡ false → any unused hs ≡ true) → any unused (h ∷ hs) ≡ true
    go true u ih = rw u (ih (rw u at e))
    go false u ih = rw u

-- the record of a first hold
abbrev first_hold : ℕ → ℕ → Hold
first_hold serial q = record { serial = serial; quota = q; count = 1 }

-- it is for its serial and quota
first_for : (serial q : ℕ) → is_for serial q (first_hold serial q) ≡ true
first_for serial q = (is_for_exactly serial q (first_hold serial q)).1 (counted_used (first_hold serial q) (omega arith), refl, refl)

-- the record with one hold more
abbrev one_more : Hold → Hold
one_more h = with_count (h.count + 1) h

-- what a record for a serial and quota becomes: still a record for them, or zero; in order either way
abbrev Follows : ℕ → ℕ → Hold → Type 0
Follows serial q g = ((is_for serial q g ≡ true) ⊎ (g ≡ zero_hold)) × (proper g ≡ true)

module _ (serial q : ℕ) (h : Hold) (x : is_for serial q h ≡ true) where
  -- the record with another count that is above 0
  recounted : (n : ℕ) → 0 < n → proper h ≡ true → Follows serial q (with_count n h)
  recounted n p r =
      let e = (is_for_exactly serial q h).0 x in (
        inl ((is_for_exactly serial q (with_count n h)).1 (counted_used (with_count n h) p, e.1, e.2)),
        (proper_exactly (with_count n h)).1 (λ u. (((proper_exactly h).0 r e.0).0, p)),
      )

  -- the record with one hold less
  lowered : proper h ≡ true → Follows serial q (less_one h) × ((less_one h).count + 1 ≡ h.count)
  unfolding less_one proper used
  lowered r = go (eqb h.count 1) refl ((proper_exactly h).0 r ((is_for_exactly serial q h).0 x).0).1
    where
      go : (t : Bool) → eqb h.count 1 ≡ t → 0 < h.count → Follows serial q (less_one h) × ((less_one h).count + 1 ≡ h.count)
      go true e p = rw e ((inr refl, refl), omega (arith, eqb-true h.count 1 e))
      go false e p = rw e (recounted (h.count - 1) (omega (arith, eqb-false h.count 1 e)) r, omega arith)

module _ (hs : List Hold) (r : Ordered hs) (serial q : ℕ) where
  -- a new record: the first unused one becomes the record of a first hold
  module _ (room : all used hs ≡ false) (first : has_record hs q serial ≡ false) (exists : q < QUOTAS) where
    -- the unused one
    taken : Changed unused (λ h. first_hold serial q) hs
    taken = changed unused (λ h. first_hold serial q) hs (some_unused hs room)

    -- it added nothing
    taken_old : (v : Hold → ℕ) (t j : ℕ) → weight v t j taken.one ≡ 0
    unfolding unused
    taken_old v t j = weight_unused v t j taken.one (not-true (used taken.one) taken.passes)

    -- the new record adds its own where it is the one that is asked for
    taken_new : (v : Hold → ℕ) (t j : ℕ) → weight v t j (first_hold serial q) ≡ cond (eqb serial t && eqb q j) (v (first_hold serial q)) 0
    taken_new v t j = weight_same v serial q t j (first_hold serial q) (first_for serial q)

    -- and there was no such record
    no_record : (t j : ℕ) → (eqb serial t && eqb q j) ≡ true → has_record hs j t ≡ false
    no_record t j b = let e = both_same serial q t j b in rw (e.0, e.1) at first

    -- records stay in order
    pub take_ordered : Ordered (take_record serial q hs)
    unfolding take_record has_record
    take_ordered =
        changed_ordered unused (λ h. first_hold serial q) hs r taken ((proper_exactly (first_hold serial q)).1 (λ u. (exists, omega arith)))
        (λ t j. go t j (eqb serial t && eqb q j) refl)
      where
        go : (t j : ℕ) (b : Bool) → (eqb serial t && eqb q j) ≡ b
            → times t j hs + weight (λ h. 1) t j (first_hold serial q) ≤ 1 + weight (λ h. 1) t j taken.one
        go t j true b = rw (taken_new (λ h. 1) t j, b, sum_none (λ h. 1) t j hs (no_record t j b)) (omega arith)
        go t j false b = rw (taken_new (λ h. 1) t j, b) (omega (arith, differ_times hs r.differ t j))

    -- the count of the serial and quota becomes 1, every other stays
    pub take_count : (t j : ℕ) → count_of t j (take_record serial q hs) ≡ cond (eqb serial t && eqb q j) 1 (count_of t j hs)
    unfolding take_record
    take_count t j = go (eqb serial t && eqb q j) refl (changed_count unused (λ h. first_hold serial q) hs r taken take_ordered t j)
      where
        go : (b : Bool) → (eqb serial t && eqb q j) ≡ b
            → count_of t j (take_record serial q hs) + weight (λ h. h.count) t j taken.one
            ≡ count_of t j hs + weight (λ h. h.count) t j (first_hold serial q)
            → count_of t j (take_record serial q hs) ≡ cond (eqb serial t && eqb q j) 1 (count_of t j hs)
        go true b e =
            rw b
            (omega (arith, e, taken_old (λ h. h.count) t j, rw b at (taken_new (λ h. h.count) t j), unrecorded hs t j (no_record t j b)))
        go false b e = rw b (omega (arith, e, taken_old (λ h. h.count) t j, rw b at (taken_new (λ h. h.count) t j)))

  -- the record of the serial and quota changes
  module _ (f : Hold → Hold) (c : Changed (is_for serial q) f hs) (k : Follows serial q (f c.one)) where
    -- it adds its count to the sum of the counts
    follows_weight : (t j : ℕ) → weight (λ h. h.count) t j (f c.one) ≡ cond (eqb serial t && eqb q j) (f c.one).count 0
    follows_weight t j = go k.0
      where
        go : (is_for serial q (f c.one) ≡ true) ⊎ (f c.one ≡ zero_hold)
            → weight (λ h. h.count) t j (f c.one) ≡ cond (eqb serial t && eqb q j) (f c.one).count 0
        go (inl x) = weight_same (λ h. h.count) serial q t j (f c.one) x
        go (inr e) = rw e (zero_weight (λ h. h.count) t j ∙ sym (either_zero (eqb serial t && eqb q j)))

    -- records stay in order
    follows_ordered : Ordered (change_first (is_for serial q) f hs)
    follows_ordered = changed_ordered (is_for serial q) f hs r c k.1 (λ t j. go t j k.0 (differ_times hs r.differ t j))
      where
        go : (t j : ℕ) → (is_for serial q (f c.one) ≡ true) ⊎ (f c.one ≡ zero_hold) → times t j hs ≤ 1
            → times t j hs + weight (λ h. 1) t j (f c.one) ≤ 1 + weight (λ h. 1) t j c.one
        go t j (inl x) l = rw (for_same serial q t j (f c.one) x, for_same serial q t j c.one c.passes) (omega arith)
        go t j (inr e) l = rw (e, zero_weight (λ h. 1) t j) (omega arith)

    -- the count of the serial and quota loses the old one and gains the new one, every other stays
    follows_count : (t j : ℕ) → count_of t j (change_first (is_for serial q) f hs) + cond (eqb serial t && eqb q j) c.one.count 0
        ≡ count_of t j hs + cond (eqb serial t && eqb q j) (f c.one).count 0
    follows_count t j =
        rw (← follows_weight t j, ← weight_same (λ h. h.count) serial q t j c.one c.passes)
        (changed_count (is_for serial q) f hs r c follows_ordered t j)

  -- one hold more, and one less
  module _ (there : has_record hs q serial ≡ true) where
    -- the record that changes
    found : (f : Hold → Hold) → Changed (is_for serial q) f hs
    unfolding has_record
    found f = changed (is_for serial q) f hs there

    -- it is in order
    found_proper : (f : Hold → Hold) → proper (found f).one ≡ true
    found_proper f = all_member proper hs r.each (found f).one (changed_member (is_for serial q) f hs (found f))

    -- with one hold more it is a record still
    raised : Follows serial q (one_more (found one_more).one)
    raised = recounted serial q (found one_more).one (found one_more).passes ((found one_more).one.count + 1) (omega arith) (found_proper one_more)

    -- with one hold less it is a record still, or zero
    lower_found : Follows serial q (less_one (found less_one).one) × ((less_one (found less_one).one).count + 1 ≡ (found less_one).one.count)
    lower_found = lowered serial q (found less_one).one (found less_one).passes (found_proper less_one)

    -- one hold more keeps records in order
    pub raise_ordered : Ordered (raise_count serial q hs)
    unfolding raise_count
    raise_ordered = follows_ordered one_more (found one_more) raised

    -- and adds 1 to the count
    pub raise_counted : (t j : ℕ) → count_of t j (raise_count serial q hs) ≡ cond (eqb serial t && eqb q j) (count_of t j hs + 1) (count_of t j hs)
    unfolding raise_count
    raise_counted t j = go (eqb serial t && eqb q j) (follows_count one_more (found one_more) raised t j)
      where
        go : (b : Bool)
            → count_of t j (raise_count serial q hs) + cond b (found one_more).one.count 0
            ≡ count_of t j hs + cond b ((found one_more).one.count + 1) 0
            → count_of t j (raise_count serial q hs) ≡ cond b (count_of t j hs + 1) (count_of t j hs)
        go true e = omega arith
        go false e = omega arith

    -- one hold less keeps records in order
    pub lower_ordered : Ordered (lower_count serial q hs)
    unfolding lower_count
    lower_ordered = follows_ordered less_one (found less_one) lower_found.0

    -- and takes 1 off the count
    pub lower_counted : (t j : ℕ) → count_of t j (lower_count serial q hs) ≡ cond (eqb serial t && eqb q j) (count_of t j hs - 1) (count_of t j hs)
    unfolding lower_count
    lower_counted t j = go (eqb serial t && eqb q j) (follows_count less_one (found less_one) lower_found.0 t j)
      where
        go : (b : Bool)
            → count_of t j (lower_count serial q hs) + cond b (found less_one).one.count 0
            ≡ count_of t j hs + cond b (less_one (found less_one).one).count 0
            → count_of t j (lower_count serial q hs) ≡ cond b (count_of t j hs - 1) (count_of t j hs)
        go true e = omega (arith, lower_found.1)
        go false e = omega arith

module _ (q : ℕ) where
  -- a record that is left where a quota's are dropped adds nothing to the sums of that quota, and what it added to those of others
  dropped_weight : (v : Hold → ℕ) (t j : ℕ) (h : Hold) → weight v t j (dropped q h) ≡ cond (eqb q j) 0 (weight v t j h)
  dropped_weight v t j h = go (record_of q h) (eqb q j) refl refl
    where
      not_for : (is_for t j h ≡ true → ⊥) → weight v t j h ≡ 0
      not_for n = rw (fails (is_for t j h) n)

      go : (x y : Bool) → record_of q h ≡ x → eqb q j ≡ y → weight v t j (dropped q h) ≡ cond (eqb q j) 0 (weight v t j h)
      go true true x y = rw (x, y) (zero_weight v t j)
      go true false x y =
          rw (x, y)
          (zero_weight v t j ∙ sym (not_for (λ e. eqb-false q j y (sym (eqb-true h.quota q (and_right (used h) _ x))
          ∙ ((is_for_exactly t j h).0 e).2))))
      go false true x y =
          rw (x, y)
          (not_for (λ e.
          (let f = (is_for_exactly t j h).0 e in
          true≢false (sym (and_both (used h) _ f.0 (eq-eqb h.quota q (f.2 ∙ sym (eqb-true q j y)))) ∙ x))))
      go false false x y = rw (x, y)

  -- so the sums of that quota become 0 and those of others stay
  dropped_sum : (v : Hold → ℕ) (t j : ℕ) (hs : List Hold) → sum_of v t j (drop_records q hs) ≡ cond (eqb q j) 0 (sum_of v t j hs)
  unfolding drop_records total
  dropped_sum v t j [] = sym (either_zero (eqb q j))
  dropped_sum v t j (h ∷ hs) = rw (dropped_weight v t j h, dropped_sum v t j hs) (go (eqb q j))
    where
      go : (b : Bool) → cond b 0 (weight v t j h) + cond b 0 (sum_of v t j hs) ≡ cond b 0 (weight v t j h + sum_of v t j hs)
      go true = refl
      go false = refl

  -- each record is in order still
  dropped_proper : (hs : List Hold) → all proper hs ≡ true → all proper (drop_records q hs) ≡ true
  unfolding drop_records all proper used
  dropped_proper [] e = refl
  dropped_proper (h ∷ hs) e =
      and_both (proper (dropped q h)) _ (go (record_of q h) (and_left _ _ e)) (dropped_proper hs (and_right (proper h) _ e))
    where
      go : (x : Bool) → proper h ≡ true → proper (cond x zero_hold h) ≡ true
      go true p = refl
      go false p = p

-- all of a quota's records dropped leaves records in order
pub drop_ordered : (hs : List Hold) → Ordered hs → (q : ℕ) → Ordered (drop_records q hs)
drop_ordered hs r q =
    record {
      each = dropped_proper q hs r.each;
      differ = times_differ (drop_records q hs) (λ t j. rw (dropped_sum q (λ h. 1) t j hs) (go (eqb q j) (differ_times hs r.differ t j)));
    }
  where
    go : (b : Bool) {n : ℕ} → n ≤ 1 → cond b 0 n ≤ 1
    go true l = omega arith
    go false l = l

-- each of its counts becomes 0, every other stays
pub drop_count : (hs : List Hold) → Ordered hs → (q t j : ℕ) → count_of t j (drop_records q hs) ≡ cond (eqb q j) 0 (count_of t j hs)
drop_count hs r q t j = rw (count_sum hs r.differ t j, count_sum (drop_records q hs) (drop_ordered hs r q).differ t j)
    (dropped_sum q (λ h. h.count) t j hs)
