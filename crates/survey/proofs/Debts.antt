-- What the quotas owe, told by one loop that no quota ends: the quotas before a place are valid if none was short and
-- no bit above a permission's was met.
use Rattle.std.proofs.Common.{◌≡◌, ℕ, suc, ◌+◌, ◌<◌, ◌≤◌, Bool, true, false, not, ◌&&◌, ◌||◌, ltb, leb, List, map, length, get_or, drop, set, sym, refl, ap}
use Rattle.std.proofs.Common.{◌∙◌, subst, arith, length-set, drop_of_length-le, drop-cons, ltb-false, ltb-true, le-leb, leb-true}
use mathlib.Core.Bool.{and-true}
use borrow.Author.Tests.{lt-leb}
use lib.Bits.{bit_or, or_add_and, or_lt, and_le_l, and_le_r}
use Rattle.accounts.specs.declared.Quota.{Quota}
use Rattle.accounts.specs.Accounts.{QUOTAS, zero_quota}
use Rattle.lists.specs.Lists.{all}
use Rattle.lists.proofs.Bools.{and_left, and_right, and_both, by_test, same_test}
use Rattle.audit.specs.Audit.{owes, entry_valid}
use Rattle.audit.proofs.Tables.{owed_more, owed_all}

-- two numbers are permissions exactly if their bits together are
or_small : (a b : ℕ) → leb (bit_or a b) 7 ≡ (leb a 7 && leb b 7)
or_small a b =
    same_test (leb (bit_or a b) 7) (leb a 7 && leb b 7)
    (λ t.
    let e = leb-true (bit_or a b) 7 t in
    let s = or_add_and a b in
    and_both (leb a 7) (leb b 7) (le-leb a 7 (omega (arith, and_le_r a b))) (le-leb b 7 (omega (arith, and_le_l a b))))
    (λ t.
    let x = leb-true a 7 (and_left (leb a 7) (leb b 7) t) in
    let y = leb-true b 7 (and_right (leb a 7) (leb b 7) t) in
    le-leb (bit_or a b) 7 (omega (arith, or_lt 3 a b (omega arith) (omega arith))))

-- none is short exactly if none was before and this one is not
short_more : (short : Bool) (grant remainder : ℕ) → not (short || ltb grant remainder) ≡ (not short && leb remainder grant)
short_more true grant remainder = refl
short_more false grant remainder =
    by_test (ltb grant remainder)
    (λ t. ap not t ∙ sym (lt-leb remainder grant (ltb-true grant remainder t)))
    (λ t. ap not t ∙ sym (le-leb remainder grant (ltb-false grant remainder t)))

-- neither of two tests
neither : (a b : Bool) → (a || b) ≡ false → (a ≡ false) × (b ≡ false)
neither false b e = (refl, e)
neither true b e = cc

mixed : (a b c d r : Bool) → ((a && b) && ((c && d) && r)) ≡ (((a && c) && (b && d)) && r)
mixed true true c d r = refl
mixed true false true d r = refl
mixed true false false d r = refl
mixed false b c d r = refl

pub record Tallied (qs : List Quota) (i : ℕ) (short : Bool) (bits : ℕ) (owed : List ℕ) : Type 0 where
  pub inside : i ≤ QUOTAS
  pub long : length owed ≡ QUOTAS
  pub valid : all entry_valid qs ≡ ((not short && leb bits 7) && all entry_valid (drop i qs))
  pub dues : short ≡ false → (j : ℕ) → j < i → get_or owed j 0 ≡ owes (get_or qs j zero_quota)

pub tallied_start : (qs : List Quota) {owed : List ℕ} → length owed ≡ QUOTAS → Tallied qs 0 false 0 owed
tallied_start qs long = record { inside = omega arith; long = long; valid = refl; dues = λ e j l. absurd (omega (arith, l)) }

module _ {qs : List Quota} {i : ℕ} {short : Bool} {bits : ℕ} {owed : List ℕ} (t : Tallied qs i short bits owed) (many : length qs ≡ QUOTAS) where
  module _ (l : i < QUOTAS) where
    abbrev x : Quota
    x = get_or qs i zero_quota

    valid_more : all entry_valid qs
        ≡ ((not (short || ltb x.grant x.remainder) && leb (bit_or bits x.permissions) 7) && all entry_valid (drop (i + 1) qs))
    unfolding all
    valid_more =
        let z : suc i ≡ i + 1 = omega arith in
        t.valid
        ∙ rw (← z, drop-cons qs i zero_quota (omega arith), short_more short x.grant x.remainder, or_small bits x.permissions)
        (mixed (not short) (leb bits 7) (leb x.remainder x.grant) (leb x.permissions 7) (all entry_valid (drop (suc i) qs)))

    pub tallied_more : {short' : Bool} {bits' y : ℕ} → short' ≡ (short || ltb x.grant x.remainder) → bits' ≡ bit_or bits x.permissions
        → (x.remainder ≤ x.grant → y ≡ owes x) → Tallied qs (i + 1) short' bits' (set owed i y)
    tallied_more {short'} {bits'} {y} a b w =
        record {
          inside = omega arith;
          long = length-set owed i y ∙ t.long;
          valid = rw (a, b) valid_more;
          dues = λ e.
              let n = neither short (ltb x.grant x.remainder) (sym a ∙ e) in
              subst (λ (v : ℕ). (j : ℕ) → j < i + 1 → get_or (set owed i v) j 0 ≡ owes (get_or qs j zero_quota))
              (sym (w (ltb-false x.grant x.remainder n.1)))
              (owed_more qs owed i (t.dues n.0) (omega (arith, t.long)));
        }

  module _ (h : QUOTAS ≤ i) where
    pub tallied_end : all entry_valid qs ≡ (not short && leb bits 7)
    unfolding all
    tallied_end =
        let few : length qs ≤ i = omega (arith, many) in
        t.valid ∙ rw (drop_of_length-le qs few) (and-true (not short && leb bits 7))

    pub tallied_dues : short ≡ false → owed ≡ map owes qs
    tallied_dues e = owed_all qs owed i (t.dues e) (t.long ∙ sym many) (omega (arith, t.long))
