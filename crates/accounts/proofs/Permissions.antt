-- Clearing permissions: each bit of what is left is that of the permissions where the number's bit is not set, else 0.
use Prim.Native.Nat.{ℕ, ◌+◌, ◌*◌, ◌/◌, ◌%◌, ◌≤◌}
use native.Mathlib.Omega.{arith}
use mathlib.Core.Path.{◌≡◌, ap, ◌∙◌}
use mathlib.Core.Bool.{Bool, true, false, cond}
use lib.ListN.{length, get_or-eq_default}
use lib.Dec.{eqb}
use Rattle.accounts.specs.declared.Quota.{Quota}
use Rattle.accounts.specs.declared.Accounts.{Accounts}
use Rattle.accounts.specs.Accounts.{zero_quota, bit_left, cleared, left_permissions}
use Rattle.accounts.proofs.Rows

-- what is left of a bit is at most that bit
pub left_most : (n p : ℕ) → bit_left n p ≤ p % 2
left_most n p = go (eqb (n % 2) 0)
  where
    go : (t : Bool) → cond t (p % 2) 0 ≤ p % 2
    go true = omega arith
    go false = omega arith

-- the three bits of what is left, and no others
pub cleared_bits : (n p : ℕ)
    → (cleared n p / 1 % 2 ≡ bit_left n p) × (cleared n p / 2 % 2 ≡ bit_left (n / 2) (p / 2)) × (cleared n p / 4 % 2 ≡ bit_left (n / 4) (p / 4))
    × (cleared n p ≤ 7)
cleared_bits n p =
    go (bit_left n p) (bit_left (n / 2) (p / 2)) (bit_left (n / 4) (p / 4)) (left_most n p) (left_most (n / 2) (p / 2)) (left_most (n / 4) (p / 4))
  where
    go : (a b c : ℕ) → a ≤ p % 2 → b ≤ p / 2 % 2 → c ≤ p / 4 % 2
        → ((a + (2 * b + 4 * c)) / 1 % 2 ≡ a) × ((a + (2 * b + 4 * c)) / 2 % 2 ≡ b) × ((a + (2 * b + 4 * c)) / 4 % 2 ≡ c) × (a + (2 * b + 4 * c) ≤ 7)
    go a b c x y z = (omega arith, omega arith, omega arith, omega arith)

-- nothing is left to a quota that is not there
pub left_out : (q n : ℕ) (k : Accounts) → length k.quotas ≤ q → left_permissions q n k ≡ 0
left_out q n k h =
    let a = left_most n 0 in
    let b = left_most (n / 2) 0 in
    let c = left_most (n / 4) 0 in
    ap (λ (x : Quota). cleared n x.permissions) (get_or-eq_default k.quotas zero_quota h) ∙ omega arith
