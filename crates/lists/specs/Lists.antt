-- Tests, sums and searches over lists.
use Rattle.std.specs.Prelude.{ℕ, ◌+◌, List, [], ◌∷◌, Bool, true, false, cond, ◌&&◌, ◌||◌, Option, Some, None}

module _ {A : Type 0} where
  -- the test holds of every element
  unfoldable pub all : (A → Bool) → List A → Bool
  all p [] = true
  all p (x ∷ xs) = p x && all p xs

  -- the test holds of some element
  unfoldable pub any : (A → Bool) → List A → Bool
  any p [] = false
  any p (x ∷ xs) = p x || any p xs

  -- the sum of f over the elements
  unfoldable pub total : (A → ℕ) → List A → ℕ
  total f [] = 0
  total f (x ∷ xs) = f x + total f xs

  -- the elements of which the test holds
  unfoldable pub keep : (A → Bool) → List A → List A
  keep p [] = []
  keep p (x ∷ xs) =
      let rest = keep p xs in
      cond (p x) (x ∷ rest) rest

  -- the first element of which the test holds
  unfoldable pub first : (A → Bool) → List A → Option A
  first p [] = None
  first p (x ∷ xs) =
      let later = first p xs in
      cond (p x) (Some x) later

  -- the first element of which the test holds is changed
  unfoldable pub change_first : (A → Bool) → (A → A) → List A → List A
  change_first p f [] = []
  change_first p f (x ∷ xs) =
      let later = x ∷ change_first p f xs in
      cond (p x) (f x ∷ xs) later

  unfoldable pub is_none : Option A → Bool
  is_none None = true
  is_none (Some x) = false

  unfoldable pub or_else : A → Option A → A
  or_else d None = d
  or_else d (Some x) = x
