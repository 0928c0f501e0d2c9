-- What the fit of one block and of a heap says: a block fits exactly if it has room, at its lowest base, and the heap's fit is the first block
-- that has room. Each is by the definition's test.
use Rattle.std.specs.Prelude.{Option, Some, None}
use mathlib.Core.Path.{◌≡◌, refl}
use mathlib.Core.List.{List}
use mathlib.Core.Bool.{Bool, true, false, cond}
use Prim.Native.Nat.{ℕ, ◌<◌}
use native.Mathlib.Omega.{arith}
use borrow.Author.Tests.{eq-eqb, ne_eqb}
use Rattle.lists.specs.Lists.{first}
use Rattle.lookup.specs.declared.Met.{Met}
use Rattle.lookup.specs.Walk.{met, has_room, base_in, fit_in, fitted, find_fit}

module _ (a n : ℕ) where
  -- a block that fits has room, and the base is its lowest
  fit_room : (m f : Met) (b : ℕ) → fit_in a n m ≡ Some (f, b) → (has_room a n m ≡ true) × (◌≡◌ {A = Option (Met × ℕ)} (Some (f, b)) (Some (m, base_in a m)))
  unfolding fit_in
  fit_room m f b = go (has_room a n m)
    where
      there : Option (Met × ℕ)
      there = Some (m, base_in a m)

      go : (x : Bool) → cond x there None ≡ Some (f, b) → (x ≡ true) × (Some (f, b) ≡ there)
      go true e = (refl, cc)
      go false e = let z : ◌≡◌ {A = ℕ} 0 1 = cc in absurd (omega arith)

  -- nothing fits at alignment 0
  pub fit_zero : (s : List ℕ) → a ≡ 0 → find_fit a n s ≡ None
  unfolding find_fit
  fit_zero s e = rw (eq-eqb a 0 e)

  -- at any other the first block that has room does
  pub fit_first : (s : List ℕ) → 0 < a → find_fit a n s ≡ fitted a (first (has_room a n) (met s))
  unfolding find_fit
  fit_first s h = rw (ne_eqb a 0 (λ e. omega arith))
