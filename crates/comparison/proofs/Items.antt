-- Numbered items that are not the same: which are listed, in which order, and the list from a number on.
-- Each law is an induction on the items, or on how many are left.
use mathlib.Core.Path.{◌≡◌, refl, ap, sym, ◌∙◌}
use mathlib.Core.List.Memᴰ
use mathlib.Core.List.{List, [], ◌∷◌, Memᴰ}
use mathlib.Core.Bool.{Bool, true, false, cond, true≢false}
use mathlib.Core.Logic.{⊎_elim, ◌↔◌, ◌≢◌}
use Prim.Native.Nat.{ℕ, zero, suc, ◌+◌, ◌-◌, ◌≤◌, ◌<◌, min}
use native.Mathlib.Nat.{lt_of_not-le, add-zero}
use native.Mathlib.Numerals.{add-one}
use native.Mathlib.Omega.{arith}
use lib.ListN.{length, drop, get_or, drop_of_length-le, get_or-eq_default}
use lib.Seq.{drop-cons}
use lib.Dec.{leb, ltb}
use borrow.Author.Tests.{leb-true, leb-false, ltb-true, ltb-false}
use Rattle.image_model.proofs.Items.{All}
use Rattle.lists.proofs.Bools.{fails}
use Rattle.comparison.specs.Differences.{differing}
use Rattle.comparison.specs.Listing.{Before}
use Rattle.comparison.specs.declared.Difference.{Difference}
use Rattle.comparison.proofs.Lists.{Sorted}
use Rattle.comparison.proofs.Rows

module _ {A : Type 0} (same : A → A → Bool) (name : ℕ → Difference) where
  pub differing_all : (P : Difference → Type 0) (n : ℕ) (xs ys : List A) → ((k : ℕ) → n ≤ k → P (name k)) → All P (differing same name n xs ys)
  unfolding differing
  differing_all P n [] ys f = tt
  differing_all P n (x ∷ xs) [] f = tt
  differing_all P n (x ∷ xs) (y ∷ ys) f = go (same x y) (differing_all P (suc n) xs ys (λ k l. f k (omega arith)))
    where
      go : (b : Bool) → All P (differing same name (suc n) xs ys)
          → All P (cond b (differing same name (suc n) xs ys) (name n ∷ differing same name (suc n) xs ys))
      go true a = a
      go false a = (f n (omega arith), a)

  pub differing_sorted : ((j k : ℕ) → j < k → Before (name j) (name k)) → (n : ℕ) (xs ys : List A) → Sorted (differing same name n xs ys)
  unfolding differing
  differing_sorted f n [] ys = tt
  differing_sorted f n (x ∷ xs) [] = tt
  differing_sorted f n (x ∷ xs) (y ∷ ys) = go (same x y) (differing_sorted f (suc n) xs ys)
    where
      go : (b : Bool) → Sorted (differing same name (suc n) xs ys)
          → Sorted (cond b (differing same name (suc n) xs ys) (name n ∷ differing same name (suc n) xs ys))
      go true a = a
      go false a = (differing_all (Before (name n)) (suc n) xs ys (λ k l. f n k l), a)

  -- the list is empty exactly for equal items
  pub none_differing : ((x : A) → same x x ≡ true) → (n : ℕ) (xs : List A) → differing same name n xs xs ≡ []
  unfolding differing
  none_differing r n [] = refl
  none_differing r n (x ∷ xs) = rw (r x) (none_differing r (suc n) xs)

  pub differing_none : ((x y : A) → same x y ≡ true → x ≡ y) → (n : ℕ) (xs ys : List A) → length xs ≡ length ys → differing same name n xs ys ≡ [] → xs ≡ ys
  unfolding differing
  differing_none s n [] [] l e = refl
  differing_none s n [] (y ∷ ys) l e = absurd (omega arith)
  differing_none s n (x ∷ xs) [] l e = absurd (omega arith)
  differing_none s n (x ∷ xs) (y ∷ ys) l e = go (same x y) refl e (differing_none s (suc n) xs ys (omega arith))
    where
      go : (b : Bool) → same x y ≡ b → cond b (differing same name (suc n) xs ys) (name n ∷ differing same name (suc n) xs ys) ≡ []
          → (differing same name (suc n) xs ys ≡ [] → xs ≡ ys) → x ∷ xs ≡ y ∷ ys
      go true q z ih = λ i. s x y q i ∷ ih z i
      go false q z ih = let no : ◌≡◌ {A = ℕ} 0 1 = cc in absurd (omega arith)

  -- listed is what is not the same
  pub listed_is : ((j k : ℕ) → name j ≡ name k → j ≡ k) → (d : A) (n q : ℕ) (xs ys : List A) → Memᴰ (name q) (differing same name n xs ys)
      → (k : ℕ) × (q ≡ n + k) × (k < length xs) × (same (get_or xs k d) (get_or ys k d) ≡ false)
  unfolding differing
  listed_is inj d n q [] ys m = absurd (Memᴰ.not-nil m)
  listed_is inj d n q (x ∷ xs) [] m = absurd (Memᴰ.not-nil m)
  listed_is inj d n q (x ∷ xs) (y ∷ ys) m = go (same x y) refl m (λ i. up (listed_is inj d (suc n) q xs ys i))
    where
      up : (k : ℕ) × (q ≡ suc n + k) × (k < length xs) × (same (get_or xs k d) (get_or ys k d) ≡ false)
          → (k : ℕ) × (q ≡ n + k) × (k < suc (length xs)) × (same (get_or (x ∷ xs) k d) (get_or (y ∷ ys) k d) ≡ false)
      up w = (suc w.0, omega (arith, w.1), omega (arith, w.2), w.3)

      go : (b : Bool) → same x y ≡ b
          → Memᴰ (name q) (cond b (differing same name (suc n) xs ys) (name n ∷ differing same name (suc n) xs ys))
          → (Memᴰ (name q) (differing same name (suc n) xs ys)
          → (k : ℕ) × (q ≡ n + k) × (k < suc (length xs)) × (same (get_or (x ∷ xs) k d) (get_or (y ∷ ys) k d) ≡ false))
          → (k : ℕ) × (q ≡ n + k) × (k < suc (length xs)) × (same (get_or (x ∷ xs) k d) (get_or (y ∷ ys) k d) ≡ false)
      go true e m ih = ih m
      go false e m ih = ⊎_elim (λ p. (0, omega (arith, inj q n p), omega arith, e)) ih (Memᴰ.cases_cons m)

  pub is_listed : (d : A) (n k : ℕ) (xs ys : List A) → k < length xs → k < length ys → same (get_or xs k d) (get_or ys k d) ≡ false
      → Memᴰ (name (n + k)) (differing same name n xs ys)
  unfolding differing
  is_listed d n k [] ys l h e = absurd (omega arith)
  is_listed d n k (x ∷ xs) [] l h e = absurd (omega arith)
  is_listed d n zero (x ∷ xs) (y ∷ ys) l h e = let z : n + 0 ≡ n = omega arith in rw (e, z) (Memᴰ.head refl)
  is_listed d n (suc k) (x ∷ xs) (y ∷ ys) l h e =
      let z : n + suc k ≡ suc n + k = omega arith in
      go (same x y) (rw z (is_listed d (suc n) k xs ys (omega arith) (omega arith) e))
    where
      go : (b : Bool) → Memᴰ (name (n + suc k)) (differing same name (suc n) xs ys)
          → Memᴰ (name (n + suc k)) (cond b (differing same name (suc n) xs ys) (name n ∷ differing same name (suc n) xs ys))
      go true m = m
      go false m = Memᴰ.tail m

  pub items_exact : ((j k : ℕ) → name j ≡ name k → j ≡ k) → ((x : A) → same x x ≡ true) → ((x y : A) → same x y ≡ true → x ≡ y)
      → (d : A) (xs ys : List A) → length xs ≡ length ys → (q : ℕ) → Memᴰ (name q) (differing same name 0 xs ys) ↔ (get_or xs q d ≢ get_or ys q d)
  items_exact inj r s d xs ys l q = (there, back)
    where
      there : Memᴰ (name q) (differing same name 0 xs ys) → get_or xs q d ≢ get_or ys q d
      there m e =
          let w = listed_is inj d 0 q xs ys m in
          let z : q ≡ w.0 = omega (arith, w.1) in
          let f : same (get_or xs q d) (get_or ys q d) ≡ false = rw z w.3 in
          true≢false (sym (r (get_or ys q d)) ∙ (rw e at f))

      outside : (get_or xs q d ≢ get_or ys q d) → length xs ≤ q → ⊥
      outside f h = f (get_or-eq_default xs d {n = q} h ∙ sym (get_or-eq_default ys d {n = q} (omega arith)))

      back : get_or xs q d ≢ get_or ys q d → Memᴰ (name q) (differing same name 0 xs ys)
      back f =
          let h : q < length xs = lt_of_not-le (outside f) in
          let z : 0 + q ≡ q = omega arith in
          rw z at (is_listed d 0 q xs ys h (omega arith) (fails (same (get_or xs q d) (get_or ys q d)) (λ e. f (s (get_or xs q d) (get_or ys q d) e))))

  -- the list from a number on, up to the end of the shorter list
  module _ (d : A) (xs ys : List A) where
    abbrev pub from : ℕ → List Difference
    from n = differing same name n (drop n xs) (drop n ys)

    abbrev pub end : ℕ
    end = min (length xs) (length ys)

    pub from_step : (n : ℕ) → n < end → (b : Bool) → same (get_or xs n d) (get_or ys n d) ≡ b → from n ≡ cond b (from (suc n)) (name n ∷ from (suc n))
    unfolding differing
    from_step n h b e = rw (drop-cons xs n d (omega arith), drop-cons ys n d (omega arith), e)

    -- items that are the same are passed; one that is not is the first
    passed_by : (f n : ℕ) → n + f ≤ end → ((k : ℕ) → n ≤ k → k < n + f → same (get_or xs k d) (get_or ys k d) ≡ true) → from n ≡ from (n + f)
    passed_by zero n h t = ap from (sym (add-zero n))
    passed_by (suc f) n h t =
        let z : suc n + f ≡ n + suc f = omega arith in
        from_step n (omega arith) true (t n (omega arith) (omega arith))
        ∙ passed_by f (suc n) (omega arith) (λ k l m. t k (omega arith) (omega arith))
        ∙ ap from z

    pub from_pass : (n m : ℕ) → n ≤ m → m ≤ end → ((k : ℕ) → n ≤ k → k < m → same (get_or xs k d) (get_or ys k d) ≡ true) → from n ≡ from m
    from_pass n m l h t =
        let z : n + (m - n) ≡ m = omega arith in
        passed_by (m - n) n (omega arith) (λ k a b. t k a (omega arith)) ∙ ap from z

    pub from_found : (n : ℕ) → n < end → same (get_or xs n d) (get_or ys n d) ≡ false → from n ≡ name n ∷ from (n + 1)
    from_found n h e = from_step n h false e ∙ ap (λ (m : ℕ). name n ∷ from m) (sym (add-one n))

    differing_nil : (n : ℕ) (zs : List A) → differing same name n zs [] ≡ []
    unfolding differing
    differing_nil n [] = refl
    differing_nil n (z ∷ zs) = refl

    pub from_end : (n : ℕ) → end ≤ n → from n ≡ []
    unfolding differing
    from_end n h = go (leb (length xs) n) refl
      where
        go : (x : Bool) → leb (length xs) n ≡ x → from n ≡ []
        go true q = rw (drop_of_length-le xs {i = n} (leb-true (length xs) n q))
        go false q =
            let l : length ys ≤ n = omega (arith, leb-false (length xs) n q) in
            rw (drop_of_length-le ys {i = n} l) (differing_nil n (drop n xs))

    go_on_by : (f n : ℕ) → end ≤ n + f → (e : Difference) (es : List Difference) → from n ≡ e ∷ es → (q : ℕ) × (e ≡ name q) × (from (suc q) ≡ es)
    go_on_by zero n h e es p = let z = from_end n (omega arith) in let no : ◌≡◌ {A = ℕ} 0 1 = cc in absurd (omega arith)
    go_on_by (suc f) n h e es p = go (ltb n end) refl (same (get_or xs n d) (get_or ys n d)) refl (go_on_by f (suc n) (omega arith) e es)
      where
        go : (x : Bool) → ltb n end ≡ x → (b : Bool) → same (get_or xs n d) (get_or ys n d) ≡ b
            → (from (suc n) ≡ e ∷ es → (q : ℕ) × (e ≡ name q) × (from (suc q) ≡ es)) → (q : ℕ) × (e ≡ name q) × (from (suc q) ≡ es)
        go false t b s ih = let z = from_end n (ltb-false n end t) in let no : ◌≡◌ {A = ℕ} 0 1 = cc in absurd (omega arith)
        go true t true s ih = ih (sym (from_step n (ltb-true n end t) true s) ∙ p)
        go true t false s ih = let z = from_step n (ltb-true n end t) false s in (n, cc, cc)

    -- what is behind the first is the list from the next number on
    pub items_go_on : (n : ℕ) (e : Difference) (es : List Difference) → from n ≡ e ∷ es → (q : ℕ) × (e ≡ name q) × (from (suc q) ≡ es)
    items_go_on n = go_on_by end n (omega arith)
