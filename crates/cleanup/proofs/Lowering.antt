-- One hold less, of two records in either order: the records come out the same.
-- No record passes two different tests for a serial and quota, before it is changed or after, so each of the two changes leaves what the other is about.
-- A used record with one hold less is one that was used, with the same serial and quota.
use mathlib.Core.Path.{◌≡◌, refl, ap, sym, ◌∙◌}
use Prim.Native.Nat.{ℕ, zero, suc, ◌-◌}
use native.Mathlib.Omega.{arith}
use mathlib.Core.List.{List, [], ◌∷◌}
use mathlib.Core.Bool.{Bool, true, false, ◌&&◌, true≢false, false≢true}
use mathlib.Core.Logic.{⊎_elim}
use lib.Dec.{eqb}
use borrow.Author.Tests.{eq-eqb}
use Rattle.accounts.specs.declared.Hold.{Hold}
use Rattle.accounts.specs.Accounts.{used, is_for}
use Rattle.lists.specs.Lists.{any, change_first}
use Rattle.model.specs.Consistent.{is_of, held, has_record}
use Rattle.model.specs.Holds.{with_count, less_one, lower_count}
use Rattle.lists.proofs.Bools.{and_both, or_cases, or_left, or_right, fails}
use Rattle.model.proofs.Consistent.{is_of_exactly, is_for_exactly}
use Rattle.invariant.proofs.Counts.{counted_used}
use Rattle.cleanup.proofs.Rows
use Rattle.cleanup.proofs.Wrong

module _ {A : Type 0} (p : A → Bool) (f : A → A) where
  -- what passes a test after a change passed it before, if what the change makes does so only where its old one did
  any_before : (r : A → Bool) → ((x : A) → r (f x) ≡ true → r x ≡ true) → (xs : List A) → any r (change_first p f xs) ≡ true → any r xs ≡ true
  unfolding any change_first
  any_before r old [] e = e
  any_before r old (x ∷ xs) e = go (p x) refl (any_before r old xs)
    where
      go : (t : Bool) → p x ≡ t → (any r (change_first p f xs) ≡ true → any r xs ≡ true) → any r (x ∷ xs) ≡ true
      go true t ih = ⊎_elim (λ a. or_left (r x) _ (old x a)) (λ b. or_right (r x) _ b) (or_cases (r (f x)) (any r xs) (rw t at e))
      go false t ih = ⊎_elim (λ a. or_left (r x) _ a) (λ b. or_right (r x) _ (ih b)) (or_cases (r x) (any r (change_first p f xs)) (rw t at e))

  -- what passes a test that no changed element passes still does
  any_after : (r : A → Bool) → ((x : A) → r x ≡ true → p x ≡ true → ⊥) → (xs : List A) → any r xs ≡ true → any r (change_first p f xs) ≡ true
  unfolding any change_first
  any_after r apart [] e = e
  any_after r apart (x ∷ xs) e = go (p x) refl (any_after r apart xs)
    where
      go : (t : Bool) → p x ≡ t → (any r xs ≡ true → any r (change_first p f xs) ≡ true) → any r (change_first p f (x ∷ xs)) ≡ true
      go true t ih = rw t (or_right (r (f x)) _ (⊎_elim (λ a. absurd (apart x a t)) (λ b. b) (or_cases (r x) (any r xs) e)))
      go false t ih = rw t (⊎_elim (λ a. or_left (r x) _ a) (λ b. or_right (r x) _ (ih b)) (or_cases (r x) (any r xs) e))

-- two changes may be exchanged if what one is about is not what the other is about, before it is changed and after
module _ {A : Type 0} (p r : A → Bool) (f g : A → A) (apart : (x : A) → p x ≡ true → r x ≡ true → ⊥) (left : (x : A) → r (f x) ≡ true → r x ≡ true)
    (right : (x : A) → p (g x) ≡ true → p x ≡ true) where
  exchanged : (xs : List A) → change_first p f (change_first r g xs) ≡ change_first r g (change_first p f xs)
  unfolding change_first
  exchanged [] = refl
  exchanged (x ∷ xs) = go (p x) (r x) refl refl (exchanged xs)
    where
      go : (t u : Bool) → p x ≡ t → r x ≡ u → change_first p f (change_first r g xs) ≡ change_first r g (change_first p f xs)
          → change_first p f (change_first r g (x ∷ xs)) ≡ change_first r g (change_first p f (x ∷ xs))
      go true true t u ih = absurd (apart x t u)
      go true false t u ih = rw (t, u, t, fails (r (f x)) (λ e. true≢false (sym (left x e) ∙ u)))
      go false true t u ih = rw (t, u, fails (p (g x)) (λ e. true≢false (sym (right x e) ∙ t)))
      go false false t u ih = rw (t, u, t) (ap (λ (l : List A). x ∷ l) ih)

-- a used record with one hold less was used, and is for the same serial and quota
less_used : (h : Hold) → used (less_one h) ≡ true → (used h ≡ true) × ((less_one h).serial ≡ h.serial) × ((less_one h).quota ≡ h.quota)
unfolding less_one used
less_used h u = go (eqb h.count 1) refl
  where
    kept : (n : ℕ) → h.count ≡ n → used (with_count (h.count - 1) h) ≡ true → used h ≡ true
    kept zero z e = rw z (rw z at e)
    kept (suc n) z e = counted_used h (omega (arith, z))

    go : (t : Bool) → eqb h.count 1 ≡ t → (used h ≡ true) × ((less_one h).serial ≡ h.serial) × ((less_one h).quota ≡ h.quota)
    go true e = absurd (false≢true (rw e at u))
    go false e = (kept h.count refl (rw e at u), rw e, rw e)

less_of : (serial : ℕ) (h : Hold) → is_of serial (less_one h) ≡ true → is_of serial h ≡ true
less_of serial h e =
    let x = (is_of_exactly serial (less_one h)).0 e in
    let l = less_used h x.0 in
    (is_of_exactly serial h).1 (l.0, sym l.1 ∙ x.1)

less_for : (serial q : ℕ) (h : Hold) → is_for serial q (less_one h) ≡ true → is_for serial q h ≡ true
less_for serial q h e =
    let x = (is_for_exactly serial q (less_one h)).0 e in
    let l = less_used h x.0 in
    (is_for_exactly serial q h).1 (l.0, sym l.1 ∙ x.1, sym l.2 ∙ x.2)

-- a record is not for two
not_both : (serial q t j : ℕ) → (eqb serial t && eqb q j) ≡ false → (h : Hold) → is_for serial q h ≡ true → is_for t j h ≡ true → ⊥
not_both serial q t j d h x y =
    let a = (is_for_exactly serial q h).0 x in
    let b = (is_for_exactly t j h).0 y in
    true≢false (sym (and_both (eqb serial t) (eqb q j) (eq-eqb serial t (sym a.1 ∙ b.1)) (eq-eqb q j (sym a.2 ∙ b.2))) ∙ d)

module _ (serial q : ℕ) (hs : List Hold) where
  -- what is held after one hold less was held before
  pub lowered_held : (t : ℕ) → held (lower_count serial q hs) t ≡ true → held hs t ≡ true
  unfolding held lower_count
  lowered_held t e = any_before (is_for serial q) less_one (is_of t) (less_of t) hs e

  -- and every record that is there was there
  pub lowered_record : (t j : ℕ) → has_record (lower_count serial q hs) j t ≡ true → has_record hs j t ≡ true
  unfolding has_record lower_count
  lowered_record t j e = any_before (is_for serial q) less_one (is_for t j) (less_for t j) hs e

  -- a record for another serial or quota stays
  pub other_record : (t j : ℕ) → (eqb serial t && eqb q j) ≡ false → has_record hs j t ≡ true → has_record (lower_count serial q hs) j t ≡ true
  unfolding has_record lower_count
  other_record t j d e = any_after (is_for serial q) less_one (is_for t j) (λ h x y. not_both serial q t j d h y x) hs e

  -- the two may be lowered in either order
  pub lowered_exchanged : (t j : ℕ) → (eqb serial t && eqb q j) ≡ false → lower_count t j (lower_count serial q hs) ≡ lower_count serial q (lower_count t j hs)
  unfolding lower_count
  lowered_exchanged t j d =
      sym (exchanged (is_for serial q) (is_for t j) less_one less_one (not_both serial q t j d) (less_for t j) (less_for serial q) hs)

-- a record holds its serial
pub record_held : (hs : List Hold) (serial q : ℕ) → has_record hs q serial ≡ true → held hs serial ≡ true
unfolding held has_record any
record_held [] serial q e = e
record_held (h ∷ hs) serial q e =
    ⊎_elim (λ a. or_left (is_of serial h) _ (let x = (is_for_exactly serial q h).0 a in (is_of_exactly serial h).1 (x.0, x.1)))
    (λ b. or_right (is_of serial h) _ (record_held hs serial q b)) (or_cases (is_for serial q h) (any (is_for serial q) hs) e)
