-- What `array::from_fn` makes, where its calls leave the closure as it was.
use Prim.Native.Nat.{ℕ, zero, suc, ◌+◌, ◌<◌}
use native.Mathlib.Omega.{arith}
use mathlib.Core.Path.{◌≡◌, refl, subst, ◌∙◌}
use mathlib.Core.List.{List}
use lib.ListN.{get_or}
use denote.Param.Members.{Mut, Called}
use Rattle.std.specs.Array.{IsFromFnResultFrom, IsFromFnResult}

module _ {F B : Type 0} {g : Mut F (ℕ × Unit {0}) B} (h : ℕ → B) (f : F)
    (call : (i : ℕ) (y : B) (q : F) → Called g f (i, tt) y q → (q ≡ f) × (y ≡ h i)) (ys : List B) (e : B) where
  made_from : (i n : ℕ) (p : F) → p ≡ f → IsFromFnResultFrom g p ys i n → (j k : ℕ) → j < n → k ≡ i + j → get_or ys k e ≡ h k
  made_from i zero p s m j k l t = absurd (omega arith)
  made_from i (suc n) p s (q, y, to, called, rest) zero k l t =
      let here : k ≡ i = omega arith in
      rw here (to.1 e ∙ (call i y q (subst (λ (r : F). Called g r (i, tt) y q) s called)).1)
  made_from i (suc n) p s (q, y, to, called, rest) (suc j) k l t =
      made_from (i + 1) n q (call i y q (subst (λ (r : F). Called g r (i, tt) y q) s called)).0 rest j k (omega arith) (omega arith)

  -- each place has what the closure gave for it
  pub made : (n : ℕ) → IsFromFnResult g f ys n → (j : ℕ) → j < n → get_or ys j e ≡ h j
  made n m j l = made_from 0 n f refl m.each j j l (omega arith)
