-- A loop over a table: a test of all elements holds where it holds at each place, and fails where it fails at one; and what the quotas owe,
-- place by place.
use Prim.Native.Nat.{ℕ, suc, ◌+◌, ◌<◌, ◌≤◌}
use mathlib.Core.Path.{◌≡◌, refl, sym, ◌∙◌}
use mathlib.Core.Bool.{Bool, true, false, ◌&&◌, true≢false, and_assoc, and-true}
use mathlib.Core.List.{List, [], ◌∷◌, map}
use native.Mathlib.Omega.{arith}
use borrow.Author.Count.{below_more}
use borrow.Author.Tests.{eq-eqb, eqb-true}
use lib.Bits.{bit_or, or_add_and, and_le_l, and_le_r}
use lib.Dec.{eqb}
use lib.ListN.{length, get_or, drop, set, drop_of_length-le, length-map, get_or-map}
use lib.Seq.{drop-cons, get_or-set_same, get_or-set_other, ext_get_or}
use Rattle.accounts.specs.declared.Quota.{Quota}
use Rattle.accounts.specs.Accounts.{zero_quota}
use Rattle.lists.specs.Lists.{all}
use Rattle.lists.proofs.Bools.{and_left, and_right, and_both, fails, same_test}
use Rattle.lists.proofs.Lists.{all_member, get_or_member}
use Rattle.audit.specs.Audit.{owes, all_zero}

module _ {A : Type 0} (p : A → Bool) (d : A) where
  pub all_places : (xs : List A) → ((j : ℕ) → j < length xs → p (get_or xs j d) ≡ true) → all p xs ≡ true
  unfolding all
  all_places [] f = refl
  all_places (x ∷ xs) f = and_both (p x) (all p xs) (f 0 (omega arith)) (all_places xs (λ j l. f (suc j) (omega arith)))

  pub all_at : (xs : List A) → all p xs ≡ true → (j : ℕ) → j < length xs → p (get_or xs j d) ≡ true
  all_at xs e j l = all_member p xs e (get_or xs j d) (get_or_member d xs j l)

  pub all_fails : (xs : List A) (j : ℕ) → j < length xs → p (get_or xs j d) ≡ false → all p xs ≡ false
  all_fails xs j l e = fails (all p xs) (λ t. true≢false (sym (all_at xs t j l) ∙ e))

-- the numbers from place i on, and the bits of those before: the next has none exactly if it is 0
or_zero : (a b : ℕ) → eqb (bit_or a b) 0 ≡ (eqb a 0 && eqb b 0)
or_zero a b =
    same_test (eqb (bit_or a b) 0) (eqb a 0 && eqb b 0)
    (λ t.
    let e = eqb-true (bit_or a b) 0 t in
    let s = or_add_and a b in
    and_both (eqb a 0) (eqb b 0) (eq-eqb a 0 (omega (arith, and_le_r a b))) (eq-eqb b 0 (omega (arith, and_le_l a b))))
    (λ t.
    let x = eqb-true a 0 (and_left (eqb a 0) (eqb b 0) t) in
    let y = eqb-true b 0 (and_right (eqb a 0) (eqb b 0) t) in
    eq-eqb (bit_or a b) 0 (omega (arith, or_add_and a b)))

module _ (bits : ℕ) (ns : List ℕ) (i : ℕ) where
  pub zero_more : i < length ns → (eqb bits 0 && all_zero (drop i ns)) ≡ (eqb (bit_or bits (get_or ns i 0)) 0 && all_zero (drop (i + 1) ns))
  unfolding all
  zero_more l =
      let z : suc i ≡ i + 1 = omega arith in
      rw (← z, drop-cons ns i 0 l, or_zero bits (get_or ns i 0)) (sym (and_assoc (eqb bits 0) (eqb (get_or ns i 0) 0) (all_zero (drop (suc i) ns))))

  pub zero_end : length ns ≤ i → (eqb bits 0 && all_zero (drop i ns)) ≡ eqb bits 0
  unfolding all
  zero_end l = rw (drop_of_length-le ns l) (and-true (eqb bits 0))

-- the places before i hold what the quotas owe: one more of them, and all
module _ (qs : List Quota) (owed : List ℕ) (i : ℕ) (done : (j : ℕ) → j < i → get_or owed j 0 ≡ owes (get_or qs j zero_quota)) where
  pub owed_more : i < length owed → (j : ℕ) → j < i + 1 → get_or (set owed i (owes (get_or qs i zero_quota))) j 0 ≡ owes (get_or qs j zero_quota)
  owed_more h =
      below_more (λ (j : ℕ). get_or (set owed i (owes (get_or qs i zero_quota))) j 0 ≡ owes (get_or qs j zero_quota)) i
      (λ j l. get_or-set_other owed i j (owes (get_or qs i zero_quota)) 0 (λ e. omega arith) ∙ done j l)
      (get_or-set_same owed i (owes (get_or qs i zero_quota)) 0 h)

  pub owed_all : length owed ≡ length qs → length owed ≤ i → owed ≡ map owes qs
  owed_all e h = ext_get_or 0 owed (map owes qs) (e ∙ sym (length-map qs owes)) (λ j l. done j (omega arith) ∙ sym (get_or-map owes qs j zero_quota))
