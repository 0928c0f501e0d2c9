-- Words that are the same have the same length.
use mathlib.Core.Path.{◌≡◌, refl, ap}
use mathlib.Core.List.{List, [], ◌∷◌}
use mathlib.Core.Bool.{Bool, true, false, ◌&&◌}
use Prim.Native.Nat.{ℕ, suc}
use lib.Dec.{eqb}
use lib.ListN.{length}
use Rattle.replay_model.specs.Text.{same}

-- two words of different lengths are not the same
pub same_lengths : (v w : List ℕ) → (length v ≡ length w → ⊥) → same v w ≡ false
unfolding same
same_lengths [] [] h = absurd (h refl)
same_lengths [] (b ∷ w) h = refl
same_lengths (a ∷ v) [] h = refl
same_lengths (a ∷ v) (b ∷ w) h = go (eqb a b) (same_lengths v w (λ e. h (ap suc e)))
  where
    go : (t : Bool) → same v w ≡ false → (t && same v w) ≡ false
    go true e = e
    go false e = refl
