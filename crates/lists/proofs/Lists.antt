-- Laws of the tests, sums and searches over lists: what a test of all, of some or of each two elements says of members and places, and what
-- a search finds. Each is by induction on the list.
use Rattle.std.specs.Prelude.{Some, None}
use mathlib.Core.Path.{◌≡◌, refl, ap, sym, ◌∙◌}
use Prim.Native.Nat.{ℕ, zero, suc, ◌+◌, ◌<◌, suc-le-suc, zero-le}
use native.Mathlib.Nat.{not-suc-le-zero, le_of_suc-le-suc}
use native.Mathlib.Omega.{arith}
use mathlib.Core.List.Memᴰ
use mathlib.Core.List.{List, [], ◌∷◌, ◌++◌, Memᴰ}
use mathlib.Core.Bool.{Bool, true, false, not, ◌&&◌, false≢true, true≢false, and_assoc}
use mathlib.Core.Logic.{◌⊎◌, inl, inr, ◌↔◌}
use lib.ListN.{length, get_or}
use borrow.Author.Tests.{not-true}
use Rattle.std.proofs.lemmas.Option.{none-some, same_Some}
use Rattle.lists.specs.Lists.{all, any, total, first}
use Rattle.lists.proofs.Bools.{and_left, and_right, and_both, or_cases, or_left, or_right, fails}

module _ {A : Type 0} (p : A → Bool) where
  -- a test holds of all exactly if it holds of each member
  pub all_member : (xs : List A) → all p xs ≡ true → (x : A) → Memᴰ x xs → p x ≡ true
  unfolding all
  all_member [] e x m = absurd (Memᴰ.not-nil m)
  all_member (y ∷ ys) e x m = go (Memᴰ.cases_cons m) (all_member ys (and_right (p y) (all p ys) e) x)
    where
      go : (x ≡ y) ⊎ Memᴰ x ys → (Memᴰ x ys → p x ≡ true) → p x ≡ true
      go (inl q) ih = rw q (and_left (p y) (all p ys) e)
      go (inr m) ih = ih m

  pub member_all : (xs : List A) → ((x : A) → Memᴰ x xs → p x ≡ true) → all p xs ≡ true
  unfolding all
  member_all [] f = refl
  member_all (y ∷ ys) f = and_both (p y) (all p ys) (f y (Memᴰ.head refl)) (member_all ys (λ x m. f x (Memᴰ.tail m)))

  -- a test holds of some element exactly if it holds of a member
  pub any_member : (xs : List A) → any p xs ≡ true → (x : A) × (Memᴰ x xs) × (p x ≡ true)
  unfolding any
  any_member [] e = absurd (false≢true e)
  any_member (y ∷ ys) e = go (or_cases (p y) (any p ys) e) (any_member ys)
    where
      go : (p y ≡ true) ⊎ (any p ys ≡ true) → (any p ys ≡ true → (x : A) × (Memᴰ x ys) × (p x ≡ true)) → (x : A) × (Memᴰ x (y ∷ ys))
          × (p x ≡ true)
      go (inl q) ih = (y, Memᴰ.head refl, q)
      go (inr q) ih = let r = ih q in (r.0, Memᴰ.tail r.1, r.2)

  pub member_any : (xs : List A) (x : A) → Memᴰ x xs → p x ≡ true → any p xs ≡ true
  unfolding any
  member_any [] x m e = absurd (Memᴰ.not-nil m)
  member_any (y ∷ ys) x m e = go (Memᴰ.cases_cons m) (λ k. member_any ys x k e)
    where
      go : (x ≡ y) ⊎ Memᴰ x ys → (Memᴰ x ys → any p ys ≡ true) → any p (y ∷ ys) ≡ true
      go (inl q) ih = or_left (p y) (any p ys) (rw q at e)
      go (inr m) ih = or_right (p y) (any p ys) (ih m)

  -- and of none exactly if it holds of no member
  pub none_member : (xs : List A) → any p xs ≡ false → (x : A) → Memᴰ x xs → p x ≡ true → ⊥
  none_member xs e x m t = true≢false (sym (member_any xs x m t) ∙ e)

  pub none_exactly : (xs : List A) → (any p xs ≡ false) ↔ ((x : A) → Memᴰ x xs → p x ≡ true → ⊥)
  none_exactly xs = (none_member xs, λ f. fails (any p xs) (λ e. (let r = any_member xs e in f r.0 r.1 r.2)))

  -- so where the test says P, it says P of each member, or of some member
  pub all_exactly : (P : A → Type 0) → ((x : A) → (p x ≡ true) ↔ P x) → (xs : List A) → (all p xs ≡ true) ↔ ((x : A) → Memᴰ x xs → P x)
  all_exactly P says xs = (λ e x m. (says x).0 (all_member xs e x m), λ f. member_all xs (λ x m. (says x).1 (f x m)))

  pub any_exactly : (P : A → Type 0) → ((x : A) → (p x ≡ true) ↔ P x) → (xs : List A) → (any p xs ≡ true) ↔ ((x : A) × (Memᴰ x xs) × P x)
  any_exactly P says xs = (
    λ e. (let r = any_member xs e in (r.0, r.1, (says r.0).0 r.2)),
    λ r. member_any xs r.0 r.1
        ((says r.0).1 r.2),
  )

  -- a test beside that for some element may stand in front of it
  pub any_and : (c : Bool) (xs : List A) → (c && any p xs) ≡ any (λ x. c && p x) xs
  unfolding any
  any_and true xs = refl
  any_and false [] = refl
  any_and false (x ∷ xs) = any_and false xs

  -- what the search finds is a member of which the test holds
  pub first_some : (xs : List A) (x : A) → first p xs ≡ Some x → (Memᴰ x xs) × (p x ≡ true)
  unfolding first
  first_some [] x e = absurd (none-some x e)
  first_some (y ∷ ys) x e = go (p y) refl (first_some ys x)
    where
      go : (t : Bool) → p y ≡ t → (first p ys ≡ Some x → (Memᴰ x ys) × (p x ≡ true)) → (Memᴰ x (y ∷ ys)) × (p x ≡ true)
      go true t ih =
          let q : x ≡ y = same_Some x y (sym (rw t at e)) in
          (Memᴰ.head q, rw q t)
      go false t ih = let r = ih (rw t at e) in (Memᴰ.tail r.0, r.1)

  -- it finds one where the test holds of some element, and none where it holds of none
  pub first_found : (xs : List A) → any p xs ≡ true → (x : A) × (first p xs ≡ Some x)
  unfolding any first
  first_found [] e = absurd (false≢true e)
  first_found (y ∷ ys) e = go (p y) refl (first_found ys)
    where
      go : (t : Bool) → p y ≡ t → (any p ys ≡ true → (x : A) × (first p ys ≡ Some x)) → (x : A) × (first p (y ∷ ys) ≡ Some x)
      go true t ih = (y, rw t)
      go false t ih = let r = ih (rw t at e) in (r.0, rw t r.1)

  pub first_none : (xs : List A) → (first p xs ≡ None) ↔ (any p xs ≡ false)
  unfolding any first
  first_none [] = (λ e. refl, λ e. refl)
  first_none (y ∷ ys) = go (p y) refl (first_none ys)
    where
      go : (t : Bool) → p y ≡ t → (first p ys ≡ None) ↔ (any p ys ≡ false) → (first p (y ∷ ys) ≡ None) ↔ (any p (y ∷ ys) ≡ false)
      go true t ih = rw t (λ e. absurd (none-some y (sym e)), λ e. absurd (true≢false e))
      go false t ih = rw t ih

-- a test holds of all of two lists if it holds of all of each
pub all_append : {A : Type 0} (p : A → Bool) (xs ys : List A) → all p (xs ++ ys) ≡ (all p xs && all p ys)
unfolding all
all_append p [] ys = refl
all_append p (x ∷ xs) ys = rw (all_append p xs ys) (sym (and_assoc (p x) (all p xs) (all p ys)))

-- the sum over lists put together is the sum of the sums
pub total_append : {A : Type 0} (f : A → ℕ) (xs ys : List A) → total f (xs ++ ys) ≡ total f xs + total f ys
unfolding total
total_append f [] ys = omega arith
total_append f (x ∷ xs) ys = omega (arith, total_append f xs ys)

-- a search for one element finds it exactly if it is a member
module _ {A : Type 0} (p : A → Bool) (a : A) (says : (x : A) → (p x ≡ true) ↔ (a ≡ x)) where
  any_is : (xs : List A) → (any p xs ≡ true) ↔ Memᴰ a xs
  any_is xs =
      (λ e. (let r = (any_exactly p (λ x. a ≡ x) says xs).0 e in Memᴰ.cast r.2 r.1), λ m. (any_exactly p (λ x. a ≡ x) says xs).1 (a, m, refl))

  pub search_some : (xs : List A) (x : A) → (first p xs ≡ Some x) ↔ ((a ≡ x) × (Memᴰ a xs))
  search_some xs x = (there x, λ r. (let f = first_found p xs ((any_is xs).1 r.1) in f.1 ∙ ap Some (sym (there f.0 f.1).0 ∙ r.0)))
    where
      there : (x : A) → first p xs ≡ Some x → (a ≡ x) × (Memᴰ a xs)
      there x e = let r = first_some p xs x e in ((says x).0 r.1, Memᴰ.cast ((says x).0 r.1) r.0)

  pub search_none : (xs : List A) → (first p xs ≡ None) ↔ (Memᴰ a xs → ⊥)
  search_none xs =
      (λ e m. true≢false (sym ((any_is xs).1 m) ∙ (first_none p xs).0 e), λ f. (first_none p xs).1 (fails (any p xs) (λ e. f ((any_is xs).0 e))))

-- the element at a place is a member, and every member is at a place
module _ {A : Type 0} (d : A) where
  pub get_or_member : (xs : List A) (i : ℕ) → i < length xs → Memᴰ (get_or xs i d) xs
  get_or_member [] i h = absurd (not-suc-le-zero h)
  get_or_member (x ∷ xs) zero h = Memᴰ.head refl
  get_or_member (x ∷ xs) (suc i) h = Memᴰ.tail (get_or_member xs i (le_of_suc-le-suc h))

  pub member_get_or : (xs : List A) (x : A) → Memᴰ x xs → (i : ℕ) × (i < length xs) × (get_or xs i d ≡ x)
  member_get_or [] x m = absurd (Memᴰ.not-nil m)
  member_get_or (y ∷ ys) x m = go (Memᴰ.cases_cons m) (member_get_or ys x)
    where
      go : (x ≡ y) ⊎ Memᴰ x ys → (Memᴰ x ys → (i : ℕ) × (i < length ys) × (get_or ys i d ≡ x)) → (i : ℕ) × (i < length (y ∷ ys))
          × (get_or (y ∷ ys) i d ≡ x)
      go (inl e) ih = (0, suc-le-suc zero-le, sym e)
      go (inr m) ih = let r = ih m in (suc r.0, suc-le-suc r.1, r.2)

-- no element is related to a later one
abbrev pub unrelated : {A : Type 0} → (A → A → Bool) → List A → Bool
unrelated r [] = true
unrelated r (x ∷ xs) = not (any (r x) xs) && unrelated r xs

module _ {A : Type 0} (r : A → A → Bool) (d : A) where
  -- exactly if no two places hold related elements
  pub unrelated_places : (xs : List A) → unrelated r xs ≡ true → (i j : ℕ) → i < j → j < length xs → r (get_or xs i d) (get_or xs j d) ≡ true → ⊥
  unrelated_places [] u i j l h t = absurd (not-suc-le-zero h)
  unrelated_places (x ∷ xs) u i zero l h t = absurd (not-suc-le-zero l)
  unrelated_places (x ∷ xs) u zero (suc j) l h t =
      none_member (r x) xs (not-true (any (r x) xs) (and_left (not (any (r x) xs)) (unrelated r xs) u)) (get_or xs j d)
      (get_or_member d xs j (le_of_suc-le-suc h)) t
  unrelated_places (x ∷ xs) u (suc i) (suc j) l h t =
      unrelated_places xs (and_right (not (any (r x) xs)) (unrelated r xs) u) i j (le_of_suc-le-suc l) (le_of_suc-le-suc h) t

  pub places_unrelated : (xs : List A) → ((i j : ℕ) → i < j → j < length xs → r (get_or xs i d) (get_or xs j d) ≡ true → ⊥) → unrelated r xs ≡ true
  places_unrelated [] f = refl
  places_unrelated (x ∷ xs) f =
      and_both (not (any (r x) xs)) (unrelated r xs) (go (any (r x) xs) refl)
      (places_unrelated xs (λ i j l h. f (suc i) (suc j) (suc-le-suc l) (suc-le-suc h)))
    where
      go : (t : Bool) → any (r x) xs ≡ t → not (any (r x) xs) ≡ true
      go false e = rw e
      go true e =
          let m = any_member (r x) xs e in
          let g = member_get_or d xs m.0 m.1 in
          absurd (f 0 (suc g.0) (suc-le-suc zero-le) (suc-le-suc g.1) (rw g.2 m.2))

-- and two members that are related both ways are the same
module _ {A : Type 0} (r : A → A → Bool) where
  pub unrelated_same : (xs : List A) → unrelated r xs ≡ true → (x y : A) → Memᴰ x xs → Memᴰ y xs → r x y ≡ true → r y x ≡ true → x ≡ y
  unrelated_same [] u x y m n s t = absurd (Memᴰ.not-nil m)
  unrelated_same (z ∷ zs) u x y m n s t =
      go (Memᴰ.cases_cons m) (Memᴰ.cases_cons n) (λ m n. unrelated_same zs (and_right (not (any (r z) zs)) (unrelated r zs) u) x y m n s t)
    where
      later : (w : A) → Memᴰ w zs → r z w ≡ true → x ≡ y
      later w m e = absurd (none_member (r z) zs (not-true (any (r z) zs) (and_left (not (any (r z) zs)) (unrelated r zs) u)) w m e)

      go : (x ≡ z) ⊎ Memᴰ x zs → (y ≡ z) ⊎ Memᴰ y zs → (Memᴰ x zs → Memᴰ y zs → x ≡ y) → x ≡ y
      go (inl e) (inl f) ih = e ∙ sym f
      go (inl e) (inr n) ih = later y n (rw e at s)
      go (inr m) (inl f) ih = later x m (rw f at t)
      go (inr m) (inr n) ih = ih m n
