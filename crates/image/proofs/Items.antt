-- Items of one width, one after the other: one more is written, read or tested.
use mathlib.Core.Path.{◌≡◌, refl, ap, sym, ◌∙◌}
use mathlib.Core.List.{List, [], ◌∷◌, ◌++◌, append_assoc, append-nil}
use mathlib.Core.Bool.{Bool, true, false, ◌&&◌}
use Prim.Native.Nat.{ℕ, zero, suc, ◌+◌, ◌*◌, ◌-◌, ◌≤◌, ◌<◌}
use native.Mathlib.Omega.{arith}
use native.Mathlib.Nat.{suc-mul, zero-mul}
use native.Mathlib.Numerals.{add-one}
use lib.ListN.{length, take, drop, get_or, set}
use lib.Seq.{take-suc, drop-cons, set_at, drop-drop, append_snoc, length-take-le}
use Rattle.layout.specs.Bytes.{overwrite}
use Rattle.layout.proofs.Overwrite.{overwrite_nil, overwrite_two}
use Rattle.image_model.specs.Items.{many, each, every}
use Rattle.image_model.proofs.Items.{many_length, each_length}
use Rattle.image.proofs.Rows

module _ {A : Type 0} (f : A → List ℕ) where
  many_append : (xs ys : List A) → many f (xs ++ ys) ≡ many f xs ++ many f ys
  unfolding many
  many_append [] ys = refl
  many_append (x ∷ xs) ys = rw (many_append xs ys) (sym (append_assoc (f x) (many f xs) (many f ys)))

  many_more : (xs : List A) (i : ℕ) (d : A) → i < length xs → many f (take (suc i) xs) ≡ many f (take i xs) ++ f (get_or xs i d)
  unfolding many
  many_more xs i d h = ap (many f) (take-suc xs i d h) ∙ many_append (take i xs) (get_or xs i d ∷ []) ∙ rw append-nil

  module _ (w : ℕ) (long : (x : A) → length (f x) ≡ w) where
    -- no item is written yet
    pub written_none : (at : ℕ) (xs : List A) (s : List ℕ) → s ≡ overwrite at (many f (take 0 xs)) s
    unfolding many
    written_none at xs s = sym (overwrite_nil at s)

    -- one item more, behind those that are written
    pub written_more : (at i : ℕ) (xs : List A) (d : A) (s₀ s s' : List ℕ) → i < length xs → at + (i * w + w) ≤ length s₀
        → s ≡ overwrite at (many f (take i xs)) s₀
        → s' ≡ overwrite (at + i * w) (f (get_or xs i d)) s → s' ≡ overwrite at (many f (take (i + 1) xs)) s₀
    written_more at i xs d s₀ s s' h l e g =
        let m = many f (take i xs) in
        let y = f (get_or xs i d) in
        let n : length m ≡ i * w = many_length f w long (take i xs) ∙ ap (λ (k : ℕ). k * w) (length-take-le i xs (omega arith)) in
        let k = long (get_or xs i d) in
        let two : overwrite (at + length m) y (overwrite at m s₀) ≡ overwrite at (m ++ y) s₀ = overwrite_two at m y s₀ (omega arith) in
        g ∙ rw (e, ← n, two, add-one i, many_more xs i d h)

module _ {A : Type 0} (g : List ℕ → A) (w : ℕ) where
  each_more : (n : ℕ) (s : List ℕ) → each g w (suc n) s ≡ each g w n s ++ (g (take w (drop (n * w) s)) ∷ [])
  unfolding each
  each_more zero s = rw (zero-mul w)
  each_more (suc n) s =
      let e : w + n * w ≡ suc n * w = omega (arith, suc-mul n w) in
      rw (each_more n (drop w s), drop-drop (n * w) w s, e)

  -- one item more, in front of those that stay blank
  pub read_more : (i : ℕ) (s : List ℕ) (xs bs : List A) (y d : A) → i < length bs → xs ≡ each g w i s ++ drop i bs → y ≡ g (take w (drop (i * w) s))
      → set xs i y ≡ each g w (i + 1) s ++ drop (i + 1) bs
  read_more i s xs bs y d h e f =
      rw (e, drop-cons bs i d h, set_at (each g w i s) (get_or bs i d) (drop (suc i) bs) y i (each_length g w i s), add-one i, each_more i s, f)
      (sym (append_snoc (each g w i s) (g (take w (drop (i * w) s))) (drop (suc i) bs)))

module _ (t : List ℕ → Bool) (w : ℕ) where
  -- the items from one on
  abbrev pub every_from : ℕ → ℕ → List ℕ → Bool
  every_from i n s = every t w (n - i) (drop (i * w) s)

  pub every_none : (i n : ℕ) (s : List ℕ) → n ≤ i → true ≡ every_from i n s
  unfolding every
  every_none i n s h = let e : n - i ≡ 0 = omega arith in rw e

  every_more : (i n : ℕ) (s : List ℕ) → i < n → every_from i n s ≡ (t (take w (drop (i * w) s)) && every_from (i + 1) n s)
  unfolding every
  every_more i n s h =
      let e : n - i ≡ suc (n - (i + 1)) = omega arith in
      let f : i * w + w ≡ (i + 1) * w = omega (arith, suc-mul i w, ap (λ (k : ℕ). k * w) (add-one i)) in
      rw (e, drop-drop w (i * w) s, f)

  -- an item that fails, and one that passes: what is found of the items behind it is found of all
  module _ (i n : ℕ) (s : List ℕ) (l : i < n) (all : every_from i n s ≡ every t w n s) where
    pub every_stops : t (take w (drop (i * w) s)) ≡ false → false ≡ every t w n s
    every_stops f = sym (rw f at (sym all ∙ every_more i n s l))

    pub every_goes_on : t (take w (drop (i * w) s)) ≡ true → every_from (i + 1) n s ≡ every t w n s
    every_goes_on f = rw f at (sym (every_more i n s l) ∙ all)

-- a test that every item passes
pub every_passes : (t : List ℕ → Bool) (w n : ℕ) (s : List ℕ) → ((c : List ℕ) → t c ≡ true) → every t w n s ≡ true
unfolding every
every_passes t w zero s h = refl
every_passes t w (suc n) s h = rw (h (take w s)) (every_passes t w n (drop w s) h)
