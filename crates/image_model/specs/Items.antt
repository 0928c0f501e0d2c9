-- Items of one width, one behind the other: how they are written, read and tested.
use Rattle.std.specs.Prelude.{ℕ, zero, suc, List, [], ◌∷◌, ◌++◌, Bool, true, ◌&&◌, take, drop, eqb}
use Rattle.lists.specs.Lists.{all}

module _ {A : Type 0} where
  -- every item of a list, written by one rule
  unfoldable pub many : (A → List ℕ) → List A → List ℕ
  many f [] = []
  many f (x ∷ xs) = f x ++ many f xs

  -- so many items of w bytes each, read by one rule
  unfoldable pub each : (List ℕ → A) → ℕ → ℕ → List ℕ → List A
  each g w zero s = []
  each g w (suc n) s = g (take w s) ∷ each g w n (drop w s)

-- so many items of w bytes each pass a test
unfoldable pub every : (List ℕ → Bool) → ℕ → ℕ → List ℕ → Bool
every t w zero s = true
every t w (suc n) s = t (take w s) && every t w n (drop w s)

-- every byte is zero
unfoldable pub all_zero : List ℕ → Bool
all_zero s = all (eqb 0) s
