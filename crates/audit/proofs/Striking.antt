-- Striking and paying, key by key: what one key does, what is leapt over, and what striking leaves.
use Rattle.std.specs.Prelude.{Option, Some, None}
use Prim.Native.Nat.{ℕ, zero, suc, ◌+◌, ◌<◌, ◌≤◌}
use mathlib.Core.Path.{◌≡◌, refl, ap, sym, ◌∙◌}
use mathlib.Core.Bool.{Bool, true, false, not, cond}
use mathlib.Core.List.{List, [], ◌∷◌}
use native.Mathlib.Omega.{arith}
use borrow.Author.Tests.{eq-eqb, ne_eqb, eqb-true, lt-ltb, le-ltb, ltb-false, not-false}
use lib.Dec.{eqb, ltb}
use lib.ListN.{length, get_or, drop, set, drop_of_length-le}
use lib.Seq.{drop-cons}
use Rattle.lists.proofs.Bools.{or_right, or_neither}
use Rattle.audit.specs.Keys.{quota_of, for_serial, strike, struck, Payment, cannot_pay, pays, pay_one, pay}

-- a serial that is not 0 is no key 0's
pub zero_not : (s : ℕ) → (s ≡ 0 → ⊥) → for_serial s 0 ≡ false
zero_not s live = ne_eqb 0 s (λ e. live (sym e))

-- a payment that has failed stays so
pub pay_none : (s c : ℕ) (ks : List ℕ) → pay s c ks None ≡ None
unfolding pay pay_one
pay_none s c [] = refl
pay_none s c (k ∷ ks) = go (for_serial s k) (pay_none s c ks)
  where
    go : (t : Bool) → pay s c ks None ≡ None → pay s c ks (cond t None None) ≡ None
    go true e = e
    go false e = e

-- a quota that has paid, or that owes too little, cannot pay; any other can
module _ (c q : ℕ) (p : Payment) where
  pub paid_cannot : (get_or p.seen q 0 ≡ 0 → ⊥) → cannot_pay c q p ≡ true
  unfolding cannot_pay
  paid_cannot n = rw (ne_eqb (get_or p.seen q 0) 0 n)

  pub short_cannot : get_or p.owed q 0 < c → cannot_pay c q p ≡ true
  unfolding cannot_pay
  short_cannot l = or_right (not (eqb (get_or p.seen q 0) 0)) (ltb (get_or p.owed q 0) c) (lt-ltb (get_or p.owed q 0) c l)

  pub can_pay : get_or p.seen q 0 ≡ 0 → c ≤ get_or p.owed q 0 → cannot_pay c q p ≡ false
  unfolding cannot_pay
  can_pay e l = rw (eq-eqb (get_or p.seen q 0) 0 e, le-ltb (get_or p.owed q 0) c l)

  pub pay_cannot : cannot_pay c q p ≡ false → (get_or p.seen q 0 ≡ 0) × (c ≤ get_or p.owed q 0)
  unfolding cannot_pay
  pay_cannot e =
      let n = or_neither (not (eqb (get_or p.seen q 0) 0)) (ltb (get_or p.owed q 0) c) e in
      (eqb-true (get_or p.seen q 0) 0 (not-false (eqb (get_or p.seen q 0) 0) n.0), ltb-false (get_or p.owed q 0) c n.1)

module _ (s c : ℕ) (ks : List ℕ) (p : Option Payment) where
  -- the key at a place
  pay_at : (i : ℕ) → i < length ks
      → pay s c (drop i ks) p ≡ pay s c (drop (suc i) ks) (cond (for_serial s (get_or ks i 0)) (pay_one c (quota_of (get_or ks i 0)) p) p)
  unfolding pay
  pay_at i l = ap (λ (t : List ℕ). pay s c t p) (drop-cons ks i 0 l)

  pay_pass : (i : ℕ) → i < length ks → for_serial s (get_or ks i 0) ≡ false → pay s c (drop i ks) p ≡ pay s c (drop (suc i) ks) p
  pay_pass i l e = pay_at i l ∙ rw e

  -- keys of other serials are leapt over
  pub pay_skip : (d i j : ℕ) → j ≡ i + d → j ≤ length ks → ((x : ℕ) → i ≤ x → x < j → for_serial s (get_or ks x 0) ≡ false)
      → pay s c (drop i ks) p ≡ pay s c (drop j ks) p
  pay_skip zero i j e l f = let z : i ≡ j = omega arith in ap (λ (x : ℕ). pay s c (drop x ks) p) z
  pay_skip (suc d) i j e l f = pay_pass i (omega arith) (f i (omega arith) (omega arith)) ∙ pay_skip d (suc i) j (omega arith) l (λ x a b. f x (omega arith) b)

  pub pay_end : (i : ℕ) → length ks ≤ i → pay s c (drop i ks) p ≡ p
  unfolding pay
  pay_end i l = rw (drop_of_length-le ks l)

-- a key of the serial: its quota pays, or cannot
module _ (s c : ℕ) (ks : List ℕ) (p : Payment) (i : ℕ) (l : i < length ks) (e : for_serial s (get_or ks i 0) ≡ true) where
  pub pay_fails : cannot_pay c (quota_of (get_or ks i 0)) p ≡ true → pay s c (drop i ks) (Some p) ≡ None
  unfolding pay_one
  pay_fails t = pay_at s c ks (Some p) i l ∙ rw (e, t) (pay_none s c (drop (suc i) ks))

  pub pay_hit : cannot_pay c (quota_of (get_or ks i 0)) p ≡ false
      → pay s c (drop i ks) (Some p) ≡ pay s c (drop (suc i) ks) (Some (pays c (quota_of (get_or ks i 0)) p))
  unfolding pay_one
  pay_hit t = pay_at s c ks (Some p) i l ∙ rw (e, t)

module _ (s : ℕ) (live : s ≡ 0 → ⊥) where
  -- a key that is struck at once, and not with the others
  pub strike_set : (ks : List ℕ) (p : ℕ) → for_serial s (get_or ks p 0) ≡ true → strike s (set ks p 0) ≡ strike s ks
  unfolding strike
  strike_set [] p e = refl
  strike_set (k ∷ ks) zero e = rw (zero_not s live, e)
  strike_set (k ∷ ks) (suc p) e = rw (strike_set ks p e)

  pub struck_set : (ks : List ℕ) (p : ℕ) → p < length ks → for_serial s (get_or ks p 0) ≡ true → struck s ks ≡ suc (struck s (set ks p 0))
  unfolding struck
  struck_set [] p l e = absurd (omega arith)
  struck_set (k ∷ ks) zero l e = rw (zero_not s live, e)
  struck_set (k ∷ ks) (suc p) l e = go (for_serial s k) (struck_set ks p (omega arith) e)
    where
      go : (t : Bool) → struck s ks ≡ suc (struck s (set ks p 0))
          → cond t (suc (struck s ks)) (struck s ks) ≡ suc (cond t (suc (struck s (set ks p 0))) (struck s (set ks p 0)))
      go true e = ap suc e
      go false e = e

  -- keys of other serials stay
  pub strike_none : (ks : List ℕ) → ((x : ℕ) → x < length ks → for_serial s (get_or ks x 0) ≡ false) → (strike s ks ≡ ks) × (struck s ks ≡ 0)
  unfolding strike struck
  strike_none [] f = (refl, refl)
  strike_none (k ∷ ks) f =
      let h = f 0 (omega arith) in
      let w = strike_none ks (λ x l. f (suc x) (omega arith)) in
      (rw (h, w.0), rw (h, w.1))
