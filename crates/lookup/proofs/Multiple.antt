-- The lowest multiple of a number from a place on: it is a multiple, at or behind the place, and no other such multiple is lower. The gap in
-- front of it is given by a remainder, so it can be found without a sum that could wrap.
-- Dividing rounds down, so adding a - 1 first rounds up.
use mathlib.Core.Path.{◌≡◌}
use Prim.Native.Nat.{ℕ, suc, ◌+◌, ◌*◌, ◌-◌, ◌/◌, ◌%◌, ◌≤◌, ◌<◌}
use native.Mathlib.Nat.{mul-mod_left, lt-div-mul-add, div-lt_iff_lt-mul, div-add-mod', add-div_right, mul-le-mul_right, suc-mul, mod-lt}
use native.Mathlib.Numerals.{add-one}
use native.Mathlib.Omega.{arith}
use Rattle.lookup.specs.Walk.{multiple_from}

pub mod_below : (x : ℕ) {a : ℕ} → 0 < a → x % a ≤ a - 1
mod_below x positive = omega (arith, mod-lt x positive)

module _ (a : ℕ) (positive : 0 < a) where
  pub multiple_is : (x : ℕ) → multiple_from a x % a ≡ 0
  unfolding multiple_from
  multiple_is x = mul-mod_left ((x + (a - 1)) / a) a

  pub multiple_behind : (x : ℕ) → x ≤ multiple_from a x
  unfolding multiple_from
  multiple_behind x = omega (arith, lt-div-mul-add {a = x + (a - 1)} positive)

  pub multiple_lowest : (x b : ℕ) → b % a ≡ 0 → x ≤ b → multiple_from a x ≤ b
  unfolding multiple_from
  multiple_lowest x b m h =
      let q = (x + (a - 1)) / a in
      let whole : b / a * a ≡ b = omega (arith, div-add-mod' b a) in
      let below : q < suc (b / a) = (div-lt_iff_lt-mul positive).1 (rw suc-mul (omega arith)) in
      let le : q * a ≤ b / a * a = mul-le-mul_right a (omega arith) in
      omega arith

  -- the gap in front of it
  pub multiple_gap : (x : ℕ) → 0 < x → multiple_from a x ≡ x + (a - 1 - (x - 1) % a)
  unfolding multiple_from
  multiple_gap x h =
      let e : x + (a - 1) ≡ x - 1 + a = omega arith in
      rw (e, add-div_right (x - 1) positive, add-one, suc-mul) (omega (arith, div-add-mod' (x - 1) a, mod-lt (x - 1) positive))
