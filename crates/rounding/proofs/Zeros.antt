-- The count of leading zeros: it is the machine's, for every number of so many bits, and powers of two bound it (rule 6.7).
use Prim.Native.Nat.{ℕ, zero, suc, ◌+◌, ◌*◌, ◌^◌, ◌≤◌, ◌<◌}
use native.Mathlib.Nat.{pow-suc, eq-zero-or-pos}
use native.Mathlib.Omega.{arith}
use mathlib.Core.Path.{◌≡◌, refl, sym}
use mathlib.Core.Bool.{Bool, true, false}
use mathlib.Core.Logic.{◌⊎◌, inl, inr, ⊎_elim}
use lib.Dec.{leb, ltb}
use lib.Pow.{pow_pos, pow_mono}
use lib.Count.{count_leading_zeros, leading_unique}
use borrow.Author.Tests.{leb-true, leb-false, ltb-true, ltb-false}
use Rattle.rounding.specs.Rounding.{leading_zeros}
use Rattle.rounding.proofs.Rows

le_or_lt : (a b : ℕ) → (a ≤ b) ⊎ (b < a)
le_or_lt a b = go (leb a b) refl
  where
    go : (t : Bool) → leb a b ≡ t → (a ≤ b) ⊎ (b < a)
    go true e = inl (leb-true a b e)
    go false e = inr (leb-false a b e)

-- m is the length of x in bits: with the zeros in front it makes all w bits, x fits into it, and into no shorter one
record Digits (w x m : ℕ) : Type 0 where
  all : leading_zeros w x + m ≡ w
  enough : x < 2 ^ m
  least : 2 ^ m ≤ 2 * x + 1

-- with one bit more, a number that does not need it has one zero more, and another none
digits_by : (w x : ℕ) → x < 2 ^ suc w → (x < 2 ^ w → (m : ℕ) × Digits w x m) → (t : Bool) → ltb x (2 ^ w) ≡ t → (m : ℕ) × Digits (suc w) x m
unfolding leading_zeros
digits_by w x h shorter true e =
    let r = shorter (ltb-true x (2 ^ w) e) in
    (r.0, record { all = rw e (omega (arith, r.1.all)); enough = r.1.enough; least = r.1.least })
digits_by w x h shorter false e = (suc w, record { all = rw e (omega arith); enough = h; least = omega (arith, pow-suc 2 w, ltb-false x (2 ^ w) e) })

digits_of : (w x : ℕ) → x < 2 ^ w → (m : ℕ) × Digits w x m
unfolding leading_zeros
digits_of zero x h = (0, record { all = refl; enough = h; least = omega arith })
digits_of (suc w) x h = digits_by w x h (λ l. digits_of w x l) (ltb x (2 ^ w)) refl

-- the machine's count is the definition's
pub counted : (w x : ℕ) → x < 2 ^ w → count_leading_zeros w x ≡ leading_zeros w x
counted w x h =
    let r = digits_of w x h in
    sym (leading_unique w x (leading_zeros w x) r.0 r.1.all r.1.enough r.1.least)

-- 0 has as many zeros as there are bits
pub zeros_of_zero : (w : ℕ) → leading_zeros w 0 ≡ w
zeros_of_zero w =
    let r = digits_of w 0 (pow_pos w) in
    ⊎_elim (λ (e : r.0 ≡ 0). omega (arith, r.1.all)) (λ (p : 0 < r.0). absurd (omega (arith, pow_mono p, r.1.least))) (eq-zero-or-pos r.0)

-- no number has more
pub zeros_fit : (w x : ℕ) → x < 2 ^ w → leading_zeros w x ≤ w
zeros_fit w x h = let r = digits_of w x h in omega (arith, r.1.all)

module _ (w k x : ℕ) (h : x < 2 ^ w) where
  -- a number that fits into k bits has all others as zeros in front
  pub zeros_below : x < 2 ^ k → w ≤ leading_zeros w x + k
  zeros_below l =
      let r = digits_of w x h in
      ⊎_elim (λ (e : r.0 ≤ k). omega (arith, r.1.all)) (λ (p : k < r.0). absurd (omega (arith, pow_mono p, pow-suc 2 k, r.1.least))) (le_or_lt r.0 k)

  -- a number that needs more than k bits has fewer
  pub zeros_from : 2 ^ k ≤ x → leading_zeros w x + k < w
  zeros_from l =
      let r = digits_of w x h in
      ⊎_elim (λ (e : r.0 ≤ k). absurd (omega (arith, pow_mono e, r.1.enough))) (λ (p : k < r.0). omega (arith, r.1.all)) (le_or_lt r.0 k)
