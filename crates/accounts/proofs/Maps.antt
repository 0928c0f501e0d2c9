-- What a map over an array gives, where its calls leave the closure as it was.
use Prim.Native.Nat.{ℕ, zero, suc, ◌+◌, ◌<◌}
use native.Mathlib.Omega.{arith}
use mathlib.Core.Path.{◌≡◌, refl, sym, ap, subst, ◌∙◌}
use mathlib.Core.List.{List, map}
use lib.ListN.{length, get_or, length-map, get_or-map}
use lib.Seq.{ext_get_or}
use denote.Param.Members.{Mut, Called}
use Rattle.std.specs.Array.{MapsFrom, IsMapOf}

module _ {F A B : Type 0} {g : Mut F (A × Unit {0}) B} (h : A → B) (f : F)
    (call : (x : A) (y : B) (q : F) → Called g f (x, tt) y q → (q ≡ f) × (y ≡ h x)) (xs : List A) (ys : List B) (d : A) where
  mapped_from : (i n : ℕ) (p : F) → p ≡ f → MapsFrom g p xs ys i n → (j k : ℕ) → j < n → k ≡ i + j → get_or ys k (h d) ≡ h (get_or xs k d)
  mapped_from i zero p s m j k l e = absurd (omega arith)
  mapped_from i (suc n) p s (q, x, y, from, to, called, rest) zero k l e =
      let here : k ≡ i = omega arith in
      rw here (to.1 (h d) ∙ (call x y q (subst (λ (r : F). Called g r (x, tt) y q) s called)).1 ∙ ap h (sym (from.1 d)))
  mapped_from i (suc n) p s (q, x, y, from, to, called, rest) (suc j) k l e =
      mapped_from (i + 1) n q (call x y q (subst (λ (r : F). Called g r (x, tt) y q) s called)).0 rest j k (omega arith) (omega arith)

  -- the list is that of the map
  pub mapped : (n : ℕ) → length xs ≡ n → IsMapOf g f xs ys n → ys ≡ map h xs
  mapped n e m =
      ext_get_or (h d) ys (map h xs) (m.long ∙ sym e ∙ sym (length-map xs h))
      (λ j l. mapped_from 0 n f refl m.each j j (omega (arith, m.long)) (omega arith) ∙ sym (get_or-map h xs j d))
