-- Items of one width: their lengths, that what was written is read again, and that what is right is written again.
-- Each law is an induction over the items.
use mathlib.Core.Path.{◌≡◌, refl, ap, sym}
use mathlib.Core.List.{List, [], ◌∷◌, ◌++◌, append_assoc}
use mathlib.Core.Bool.{Bool, true}
use Prim.Native.Nat.{ℕ, zero, suc, ◌+◌, ◌*◌, ◌≤◌}
use native.Mathlib.Omega.{arith}
use native.Mathlib.Nat.{suc-mul, zero-mul, le_of_suc-le-suc}
use lib.ListN.{length, take, drop, get_or, replicate, length-drop, take-append-drop, length-append}
use lib.Seq.{take_at, drop_at, drop-drop, length-take-le}
use lib.Dec.{eqb}
use borrow.Author.Tests.{eqb-true}
use Rattle.layout.specs.Bytes.{Octets}
use Rattle.layout.proofs.Numbers.{octets_take, octets_drop}
use Rattle.lists.specs.Lists.{all}
use Rattle.lists.proofs.Bools.{and_left, and_right, and_both}
use Rattle.image_model.specs.Items.{many, each, every, all_zero}

-- P holds of every item
abbrev pub All : {A : Type 0} → (A → Type 0) → List A → Type 0
All P [] = Unit {0}
All P (x ∷ xs) = P x × All P xs

-- the same by places
pub all_places : {A : Type 0} (P : A → Type 0) (d : A) (xs : List A) → All P xs → P d → (i : ℕ) → P (get_or xs i d)
all_places P d [] a p i = p
all_places P d (x ∷ xs) a p zero = a.0
all_places P d (x ∷ xs) a p (suc i) = all_places P d xs a.1 p i

pub places_all : {A : Type 0} (P : A → Type 0) (d : A) (xs : List A) → ((i : ℕ) → P (get_or xs i d)) → All P xs
places_all P d [] h = tt
places_all P d (x ∷ xs) h = (h 0, places_all P d xs (λ i. h (suc i)))

-- of the first items, and of two lists together
pub all_take : {A : Type 0} (P : A → Type 0) (n : ℕ) (xs : List A) → All P xs → All P (take n xs)
all_take P zero xs a = tt
all_take P (suc n) [] a = tt
all_take P (suc n) (x ∷ xs) a = (a.0, all_take P n xs a.1)

pub all_drop : {A : Type 0} (P : A → Type 0) (n : ℕ) (xs : List A) → All P xs → All P (drop n xs)
all_drop P zero xs a = a
all_drop P (suc n) [] a = tt
all_drop P (suc n) (x ∷ xs) a = all_drop P n xs a.1

pub all_both : {A : Type 0} (P : A → Type 0) (xs ys : List A) → All P xs → All P ys → All P (xs ++ ys)
all_both P [] ys a b = b
all_both P (x ∷ xs) ys a b = (a.0, all_both P xs ys a.1 b)

pub all_same : {A : Type 0} (P : A → Type 0) (n : ℕ) (x : A) → P x → All P (replicate n x)
all_same P zero x p = tt
all_same P (suc n) x p = (p, all_same P n x p)

-- of what follows, and with a test that holds of each
pub all_map : {A : Type 0} (P Q : A → Type 0) → ((x : A) → P x → Q x) → (xs : List A) → All P xs → All Q xs
all_map P Q h [] a = tt
all_map P Q h (x ∷ xs) a = (h x a.0, all_map P Q h xs a.1)

pub all_tested : {A : Type 0} (p : A → Bool) (xs : List A) → All (λ (x : A). p x ≡ true) xs → all p xs ≡ true
unfolding all
all_tested p [] a = refl
all_tested p (x ∷ xs) a = and_both (p x) (all p xs) a.0 (all_tested p xs a.1)

pub tested_all : {A : Type 0} (p : A → Bool) (xs : List A) → all p xs ≡ true → All (λ (x : A). p x ≡ true) xs
unfolding all
tested_all p [] e = tt
tested_all p (x ∷ xs) e = (and_left (p x) (all p xs) e, tested_all p xs (and_right (p x) (all p xs) e))

-- of two properties at once, and of one that every item has
pub all_two : {A : Type 0} (P Q : A → Type 0) (xs : List A) → All P xs → All Q xs → All (λ (x : A). P x × Q x) xs
all_two P Q [] a b = tt
all_two P Q (x ∷ xs) a b = ((a.0, b.0), all_two P Q xs a.1 b.1)

pub all_of : {A : Type 0} (P : A → Type 0) → ((x : A) → P x) → (xs : List A) → All P xs
all_of P h [] = tt
all_of P h (x ∷ xs) = (h x, all_of P h xs)

-- no item is behind the last
pub none_behind : {A : Type 0} (P : A → Type 0) (n : ℕ) (xs : List A) → length xs ≤ n → All P (drop n xs)
none_behind P zero [] l = tt
none_behind P zero (x ∷ xs) l = absurd (omega arith)
none_behind P (suc n) [] l = tt
none_behind P (suc n) (x ∷ xs) l = none_behind P n xs (le_of_suc-le-suc l)

-- items that are all the same, and the first of a list with as many of one item behind them as there are
all_are : {A : Type 0} (d : A) (xs : List A) → All (λ (x : A). x ≡ d) xs → xs ≡ replicate (length xs) d
all_are d [] a = refl
all_are d (x ∷ xs) a = λ i. a.0 i ∷ all_are d xs a.1 i

pub filled_behind : {A : Type 0} (d : A) (n : ℕ) (xs : List A) → All (λ (x : A). x ≡ d) (drop n xs) → take n xs ++ drop n (replicate (length xs) d) ≡ xs
filled_behind d zero xs a = sym (all_are d xs a)
filled_behind d (suc n) [] a = refl
filled_behind {A} d (suc n) (x ∷ xs) a = ap (λ (l : List A). x ∷ l) (filled_behind d n xs a)

-- so many items are read
pub each_length : {A : Type 0} (g : List ℕ → A) (w n : ℕ) (s : List ℕ) → length (each g w n s) ≡ n
unfolding each
each_length g w zero s = refl
each_length g w (suc n) s = ap suc (each_length g w n (drop w s))

-- what holds of an item that is read from bytes holds of all of them
pub each_all : {A : Type 0} (P : A → Type 0) (g : List ℕ → A) → ((c : List ℕ) → Octets c → P (g c)) → (w n : ℕ) (s : List ℕ) → Octets s → All P (each g w n s)
unfolding each
each_all P g h w zero s o = tt
each_all P g h w (suc n) s o = (h (take w s) (octets_take w s o), each_all P g h w n (drop w s) (octets_drop w s o))

module _ {A : Type 0} (f : A → List ℕ) (w : ℕ) (long : (x : A) → length (f x) ≡ w) where
  pub many_length : (xs : List A) → length (many f xs) ≡ length xs * w
  unfolding many
  many_length [] = omega arith
  many_length (x ∷ xs) = simp (length-append, long, many_length xs) (suc_times (length xs))
    where
      suc_times : (n : ℕ) → w + n * w ≡ suc n * w
      suc_times n = omega (arith, suc-mul n w)

  -- the first item, and those behind it
  first_item : (x : A) (xs : List A) (q : List ℕ) → take w ((f x ++ many f xs) ++ q) ≡ f x
  first_item x xs q = rw (append_assoc (f x) (many f xs) q) (take_at (f x) (many f xs ++ q) w (long x))

  next_items : (x : A) (xs : List A) (q : List ℕ) → drop w ((f x ++ many f xs) ++ q) ≡ many f xs ++ q
  next_items x xs q = rw (append_assoc (f x) (many f xs) q) (drop_at (f x) (many f xs ++ q) w (long x))

  -- written and read
  pub each_many : (P : A → Type 0) (g : List ℕ → A) → ((x : A) → P x → g (f x) ≡ x) → (xs : List A) (q : List ℕ) → All P xs
      → each g w (length xs) (many f xs ++ q) ≡ xs
  unfolding many each
  each_many P g back [] q a = refl
  each_many P g back (x ∷ xs) q a = rw (first_item x xs q, next_items x xs q, back x a.0, each_many P g back xs q a.1)

  -- written and tested
  pub every_many : (P : A → Type 0) (t : List ℕ → Bool) → ((x : A) → P x → t (f x) ≡ true) → (xs : List A) (q : List ℕ) → All P xs
      → every t w (length xs) (many f xs ++ q) ≡ true
  unfolding many every
  every_many P t right [] q a = refl
  every_many P t right (x ∷ xs) q a = rw (first_item x xs q, next_items x xs q, right x a.0, every_many P t right xs q a.1)

-- read and written: so many items that are right, in front of what is behind them
pub many_each : {A : Type 0} (f : A → List ℕ) (g : List ℕ → A) (w : ℕ) (t : List ℕ → Bool) → ((c : List ℕ) → Octets c → length c ≡ w → t c ≡ true → f (g c) ≡ c)
    → (n : ℕ) (s : List ℕ) → Octets s → n * w ≤ length s → every t w n s ≡ true → many f (each g w n s) ++ drop (n * w) s ≡ s
unfolding many each every
many_each f g w t back zero s o l e = rw (zero-mul w)
many_each f g w t back (suc n) s o l e =
    let m = suc-mul n w in
    let x = and_left (t (take w s)) (every t w n (drop w s)) e in
    let y = and_right (t (take w s)) (every t w n (drop w s)) e in
    let k : w + n * w ≡ suc n * w = omega arith in
    let h : w ≤ length s = omega arith in
    let ih = many_each f g w t back n (drop w s) (octets_drop w s o) (simp length-drop (omega arith)) y in
    rw (append_assoc, back (take w s) (octets_take w s o) (length-take-le w s h) x, ← k, ← drop-drop (n * w) w s, ih) (take-append-drop w s)

-- bytes that are all zero are so many zeros, and so many zeros are all zero
pub zeros_are : (s : List ℕ) → all_zero s ≡ true → s ≡ replicate (length s) 0
unfolding all_zero all
zeros_are [] e = refl
zeros_are (x ∷ s) e =
    let z = eqb-true 0 x (and_left (eqb 0 x) (all (eqb 0) s) e) in
    rw (← z) (ap (λ (l : List ℕ). 0 ∷ l) (zeros_are s (and_right (eqb 0 x) (all (eqb 0) s) e)))

pub are_zeros : (n : ℕ) → all_zero (replicate n 0) ≡ true
unfolding all_zero all
are_zeros zero = refl
are_zeros (suc n) = are_zeros n
