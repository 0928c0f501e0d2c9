-- Lists of differences: members and the n-th, and what it says that each comes before all behind it. Each law is an induction on the list.
use Rattle.std.specs.Prelude.{Some, slice_get}
use mathlib.Core.Path.{◌≡◌, ap, sym}
use mathlib.Core.List.Memᴰ
use mathlib.Core.List.{List, [], ◌∷◌, ◌++◌, map, Memᴰ}
use mathlib.Core.Logic.{inl, ⊎_elim}
use Prim.Native.Nat.{ℕ, zero, suc, ◌<◌}
use native.Mathlib.Nat.{le_of_suc-le-suc, not-suc-le-zero}
use native.Mathlib.Omega.{arith}
use Rattle.std.proofs.lemmas.Option.{none-some, same_Some}
use Rattle.image_model.proofs.Items.{All, all_both}
use Rattle.comparison.specs.Listing.{Before, part_of, start_of, stop_of}
use Rattle.comparison.specs.declared.Difference.{Difference}
use Rattle.comparison.specs.declared.Difference.TheVariants.{LastSerial, Kind, Edition, Quota, Record, Bytes}
use Rattle.comparison.proofs.Rows

module _ {A : Type 0} where
  pub all_imply : (P Q : A → Type 0) → ((x : A) → P x → Q x) → (xs : List A) → All P xs → All Q xs
  all_imply P Q f [] a = tt
  all_imply P Q f (x ∷ xs) a = (f x a.0, all_imply P Q f xs a.1)

  pub all_member : (P : A → Type 0) (xs : List A) → All P xs → (x : A) → Memᴰ x xs → P x
  all_member P [] a x m = absurd (Memᴰ.not-nil m)
  all_member P (y ∷ xs) a x m = ⊎_elim (λ e. rw e a.0) (λ i. all_member P xs a.1 x i) (Memᴰ.cases_cons m)

  -- what can be asked for is what is in the list
  pub nth_member : (xs : List A) (n : ℕ) (x : A) → slice_get xs n ≡ Some x → Memᴰ x xs
  nth_member [] n x e = absurd (none-some x e)
  nth_member (y ∷ xs) zero x e = Memᴰ.head (sym (same_Some y x e))
  nth_member (y ∷ xs) (suc n) x e = Memᴰ.tail (nth_member xs n x e)

  pub member_nth : (xs : List A) (x : A) → Memᴰ x xs → (n : ℕ) × (slice_get xs n ≡ Some x)
  member_nth [] x m = absurd (Memᴰ.not-nil m)
  member_nth (y ∷ xs) x m =
      ⊎_elim (λ (e : x ≡ y). (0, ap Some (sym e))) (λ i. let w = member_nth xs x i in (suc w.0, w.1)) (Memᴰ.cases_cons m)

pub all_map : {A B : Type 0} (f : A → B) (P : B → Type 0) (xs : List A) → All (λ x. P (f x)) xs → All P (map f xs)
all_map f P [] a = tt
all_map f P (x ∷ xs) a = (a.0, all_map f P xs a.1)

pub member_map : {A B : Type 0} (f : A → B) (xs : List A) (x : A) → Memᴰ x xs → Memᴰ (f x) (map f xs)
member_map f [] x m = absurd (Memᴰ.not-nil m)
member_map f (y ∷ xs) x m = ⊎_elim (λ e. Memᴰ.head (ap f e)) (λ i. Memᴰ.tail (member_map f xs x i)) (Memᴰ.cases_cons m)

-- each comes before all behind it
abbrev pub Sorted : List Difference → Type 0
Sorted [] = Unit {0}
Sorted (d ∷ ds) = All (Before d) ds × Sorted ds

pub sorted_both : (xs ys : List Difference) → Sorted xs → Sorted ys → All (λ x. All (Before x) ys) xs → Sorted (xs ++ ys)
sorted_both [] ys v w a = w
sorted_both (x ∷ xs) ys v w a = (all_both (Before x) xs ys v.0 a.0, sorted_both xs ys v.1 w a.1)

-- parts of rising number
pub parts_rise : (m : ℕ) (xs ys : List Difference) → All (λ x. part_of x ≡ m) xs → All (λ y. m < part_of y) ys → All (λ x. All (Before x) ys) xs
parts_rise m xs ys a b =
    all_imply (λ x. part_of x ≡ m) (λ x. All (Before x) ys)
    (λ x e. all_imply (λ y. m < part_of y) (Before x) (λ y l. inl (rw e l)) ys b) xs a

-- by places: the earlier comes before the later
pub sorted_places : (xs : List Difference) → Sorted xs → (m n : ℕ) (d e : Difference) → m < n → slice_get xs m ≡ Some d → slice_get xs n ≡ Some e → Before d e
sorted_places [] w m n d e l p q = absurd (none-some d p)
sorted_places (x ∷ xs) w m zero d e l p q = absurd (not-suc-le-zero l)
sorted_places (x ∷ xs) w zero (suc n) d e l p q = rw (← (same_Some x d p)) (all_member (Before x) xs w.0 e (nth_member xs n e q))
sorted_places (x ∷ xs) w (suc m) (suc n) d e l p q = sorted_places xs w.1 m n d e (le_of_suc-le-suc l) p q

-- none comes before itself
starts_first : (d : Difference) → start_of d < suc (stop_of d)
starts_first LastSerial = omega arith
starts_first Kind = omega arith
starts_first Edition = omega arith
starts_first (Quota q) = omega arith
starts_first (Record p) = omega arith
starts_first (Bytes at n) = omega arith

pub not_before_itself : (d : Difference) → Before d d → ⊥
not_before_itself d b = ⊎_elim (λ l. omega arith) (λ w. omega (arith, w.1, starts_first d)) b
