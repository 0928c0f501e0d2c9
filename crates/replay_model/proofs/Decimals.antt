-- Laws of digits: how many a number has, and that a decimal has as many.
use mathlib.Core.Path.{◌≡◌, refl}
use mathlib.Core.Bool.{Bool, true, false, cond}
use Prim.Native.Nat.{ℕ, zero, suc, ◌/◌, ◌≤◌, ◌<◌}
use native.Mathlib.Omega.{arith}
use lib.Dec.{ltb}
use borrow.Author.Tests.{lt-ltb, le-ltb}
use lib.ListN.{length, length-append}
use Rattle.replay_model.specs.Text.{digits, places, decimal}

-- a number below 10 has one digit, and another has one more than a tenth of it
pub places_one : (fuel n : ℕ) → n < 10 → places fuel n ≡ 1
unfolding places
places_one zero n h = refl
places_one (suc fuel) n h = rw (lt-ltb n 10 h)

pub places_more : (fuel n : ℕ) → 10 ≤ n → places (suc fuel) n ≡ suc (places fuel (n / 10))
unfolding places
places_more fuel n h = rw (le-ltb n 10 h)

-- as many digits as are asked for are written
pub length_digits : (k n : ℕ) → length (digits k n) ≡ k
unfolding digits
length_digits zero n = refl
length_digits (suc k) n = rw (length-append, length_digits k (n / 10)) (omega arith)

pub length_decimal : (n : ℕ) → length (decimal n) ≡ places 9 n
unfolding decimal
length_decimal n = length_digits (places 9 n) n

-- a number has at most one digit more than the fuel
pub places_most : (fuel n : ℕ) → places fuel n ≤ suc fuel
unfolding places
places_most zero n = omega arith
places_most (suc fuel) n = go (ltb n 10) (places_most fuel (n / 10))
  where
    go : (t : Bool) → places fuel (n / 10) ≤ suc fuel → cond t 1 (suc (places fuel (n / 10))) ≤ suc (suc fuel)
    go true h = omega arith
    go false h = omega arith

pub decimal_most : (n : ℕ) → length (decimal n) ≤ 10
decimal_most n = omega (arith, length_decimal n, places_most 9 n)
