-- Bytes that are all zero, or permissions: as a number; and a test of items one by one.
use mathlib.Core.Path.{◌≡◌, refl, sym, ◌∙◌}
use mathlib.Core.List.{List, [], ◌∷◌}
use mathlib.Core.Bool.{Bool, true, false, ◌&&◌}
use Prim.Native.Nat.{ℕ, zero, suc, ◌+◌, ◌*◌, ◌≤◌, ◌<◌}
use native.Mathlib.Omega.{arith}
use native.Mathlib.Numerals.{add-one}
use lib.ListN.{length, drop, get_or, drop_of_length-le}
use lib.Seq.{drop-cons}
use lib.Dec.{eqb, leb}
use borrow.Author.Tests.{eq-eqb, ne_eqb, eqb-true, eqb-false, leb-true, leb-false, le-leb, lt-leb}
use Rattle.accounts.specs.Accounts.{ALL_PERMISSIONS, permissible}
use Rattle.layout.specs.Bytes.{number}
use Rattle.lists.specs.Lists.{all}
use Rattle.lists.proofs.Bools.{and_no}
use Rattle.image_model.specs.Items.{all_zero}
use Rattle.image.proofs.Rows

positive : (n : ℕ) → (n ≡ 0 → ⊥) → 0 < n
positive zero e = absurd (e refl)
positive (suc n) e = omega arith

pub zeros_number : (s : List ℕ) → number s ≡ 0 → all_zero s ≡ true
unfolding number all_zero all
zeros_number [] e = refl
zeros_number (b ∷ s) e = rw (eq-eqb 0 b (omega arith)) (zeros_number s (omega arith))

pub number_zeros : (s : List ℕ) → (number s ≡ 0 → ⊥) → all_zero s ≡ false
unfolding number all_zero all
number_zeros [] e = absurd (e refl)
number_zeros (b ∷ s) e = go (eqb 0 b) refl (number_zeros s)
  where
    go : (x : Bool) → eqb 0 b ≡ x → ((number s ≡ 0 → ⊥) → all_zero s ≡ false) → (eqb 0 b && all (eqb 0) s) ≡ false
    go true x ih = rw x (ih (λ f. e (omega (arith, f, eqb-true 0 b x))))
    go false x ih = rw x

-- four bytes that are at most 7 as one number: so is the first, and the others are zero
pub number_small : (s : List ℕ) → leb (number s) ALL_PERMISSIONS ≡ (permissible (get_or s 0 0) && all_zero (drop 1 s))
unfolding number all_zero all
number_small [] = refl
number_small (b ∷ s) = go (eqb (number s) 0) refl (leb b 7) refl
  where
    go : (x : Bool) → eqb (number s) 0 ≡ x → (y : Bool) → leb b 7 ≡ y → leb (number s * 256 + b) 7 ≡ (leb b 7 && all_zero s)
    go true x true y =
        let z = eqb-true (number s) 0 x in
        let l = leb-true b 7 y in
        le-leb (number s * 256 + b) 7 (omega arith) ∙ sym (rw (y, zeros_number s z))
    go true x false y = let l = leb-false b 7 y in lt-leb (number s * 256 + b) 7 (omega arith) ∙ sym (rw y)
    go false x y e =
        let z : number s ≡ 0 → ⊥ = eqb-false (number s) 0 x in
        let l : 0 < number s = positive (number s) z in
        lt-leb (number s * 256 + b) 7 (omega arith) ∙ sym (and_no (leb b 7) (all_zero s) (number_zeros s z))

-- a test of the items from a place on, one by one
module _ {A : Type 0} (p : A → Bool) (d : A) (xs : List A) (from at : ℕ) (same : all p (drop at xs) ≡ all p (drop from xs)) where
  all_more : at < length xs → all p (drop at xs) ≡ (p (get_or xs at d) && all p (drop (at + 1) xs))
  unfolding all
  all_more h = rw (drop-cons xs at d h, add-one at)

  pub all_stop : at < length xs → p (get_or xs at d) ≡ false → false ≡ all p (drop from xs)
  all_stop h f = sym (rw f at (sym same ∙ all_more h))

  pub all_go_on : at < length xs → p (get_or xs at d) ≡ true → all p (drop (at + 1) xs) ≡ all p (drop from xs)
  all_go_on h f = rw f at (sym (all_more h) ∙ same)

  pub all_end : length xs ≤ at → true ≡ all p (drop from xs)
  unfolding all
  all_end h = rw (drop_of_length-le xs h) at same

-- the bytes of t from a place on
module _ (t : List ℕ) (from at : ℕ) (same : all_zero (drop at t) ≡ all_zero (drop from t)) where
  pub zeros_stop : at < length t → (get_or t at 0 ≡ 0 → ⊥) → false ≡ all_zero (drop from t)
  unfolding all_zero
  zeros_stop h f = all_stop (eqb 0) 0 t from at same h (ne_eqb 0 (get_or t at 0) (λ e. f (sym e)))

  pub zeros_go_on : at < length t → get_or t at 0 ≡ 0 → all_zero (drop (at + 1) t) ≡ all_zero (drop from t)
  unfolding all_zero
  zeros_go_on h f = all_go_on (eqb 0) 0 t from at same h (eq-eqb 0 (get_or t at 0) (sym f))

  pub zeros_end : length t ≤ at → true ≡ all_zero (drop from t)
  unfolding all_zero
  zeros_end h = all_end (eqb 0) 0 t from at same h
