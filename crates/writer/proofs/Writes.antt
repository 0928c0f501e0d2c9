-- The writes for a new object, one by one: each of the definition's writes by the test that the code makes.
use mathlib.Core.Path.{◌≡◌}
use Prim.Native.Nat.{ℕ, ◌+◌, ◌-◌, ◌/◌, ◌≤◌, ◌<◌}
use native.Mathlib.Omega.{arith}
use mathlib.Core.List.{List}
use mathlib.Core.Bool.{Bool, true, false, cond}
use lib.ListN.{length}
use lib.Dec.{ltb}
use borrow.Author.Tests.{lt-ltb, le-ltb}
use Rattle.layout.specs.Bytes.{write_number}
use Rattle.layout.specs.Blocks.{write_header}
use Rattle.writer.specs.Writes.{write_rest, units_after, write_object, write_next, carve_bytes}

module _ (at m back : ℕ) (s : List ℕ) where
  pub rest_some : 0 < m → write_header at (record { size = m / 8; back = back; serial = 0 }) s ≡ write_rest at m back s
  unfolding write_rest
  rest_some h = rw (lt-ltb 0 m h)

  pub rest_none : m ≤ 0 → s ≡ write_rest at m back s
  unfolding write_rest
  rest_none h = rw (le-ltb 0 m h)

module _ (back m : ℕ) where
  pub units_some : 0 < m → m / 8 ≡ units_after back m
  unfolding units_after
  units_some h = rw (lt-ltb 0 m h)

  pub units_none : m ≤ 0 → back ≡ units_after back m
  unfolding units_after
  units_none h = rw (le-ltb 0 m h)

  -- the units fit in what both may be
  pub units_most : {u : ℕ} → u ≡ units_after back m → back ≤ 32768 → m ≤ 32768 → u ≤ 32768
  unfolding units_after
  units_most e h l = rw e (go (ltb 0 m))
    where
      go : (x : Bool) → cond x (m / 8) back ≤ 32768
      go true = omega arith
      go false = h

module _ (at back : ℕ) (s : List ℕ) where
  pub next_some : at < length s → write_number 2 (at + 2) back s ≡ write_next at back s
  unfolding write_next
  next_some h = rw (lt-ltb at (length s) h)

  pub next_none : length s ≤ at → s ≡ write_next at back s
  unfolding write_next
  next_none h = rw (le-ltb at (length s) h)

-- the writes one after the other are all of them
pub carve_steps : (at end base n back serial : ℕ) (s : List ℕ) {s₁ s₂ s₃ s₄ : List ℕ} {u v : ℕ} → s₁ ≡ write_rest at (base - 8 - at) back s → u
    ≡ units_after back (base - 8 - at)
    → s₂ ≡ write_object base n u serial s₁ → s₃ ≡ write_rest (base + n) (end - (base + n)) ((n + 8) / 8) s₂
    → v ≡ units_after ((n + 8) / 8) (end - (base + n)) → s₄ ≡ write_next end v s₃ → s₄ ≡ carve_bytes at end base n back serial s
unfolding carve_bytes
carve_steps at end base n back serial s e₁ d₁ e₂ e₃ d₂ e₄ = cc
