-- The members of a list of objects when one is added and when only some are kept, and that the serials still differ then.
-- Each goes along the list: a member is the first object or one of the others.
use mathlib.Core.Path.{◌≡◌, refl, sym, ◌∙◌}
use mathlib.Core.List.Memᴰ
use mathlib.Core.List.{List, [], ◌∷◌, ◌++◌, Memᴰ}
use mathlib.Core.Bool.{Bool, true, false, not, false≢true}
use mathlib.Core.Logic.{◌⊎◌, inl, inr, ◌↔◌}
use borrow.Author.Tests.{not-true, eqb-true, eq-eqb}
use Rattle.lists.specs.Lists.{any, keep}
use Rattle.model.specs.Consistent.{has_serial, serials_differ}
use Rattle.model.specs.declared.Handle.{Handle}
use Rattle.lists.proofs.Bools.{and_left, and_right}
use Rattle.lists.proofs.Lists.{none_exactly}
use Rattle.model.proofs.Carve.{Added}

module _ {A : Type 0} (o : A) where
  -- a member after one was put in is that one or was a member before
  put_cases : (xs ys : List A) (p : A) → Memᴰ p (xs ++ (o ∷ ys)) → (p ≡ o) ⊎ Memᴰ p (xs ++ ys)
  put_cases xs ys p m = go (Memᴰ.append_cases xs m)
    where
      behind : (p ≡ o) ⊎ Memᴰ p ys → (p ≡ o) ⊎ Memᴰ p (xs ++ ys)
      behind (inl e) = inl e
      behind (inr k) = inr (Memᴰ.append_right xs k)

      go : Memᴰ p xs ⊎ Memᴰ p (o ∷ ys) → (p ≡ o) ⊎ Memᴰ p (xs ++ ys)
      go (inl k) = inr (Memᴰ.append_left ys k)
      go (inr k) = behind (Memᴰ.cases_cons k)

  -- and what was a member still is
  put_old : (xs ys : List A) (p : A) → Memᴰ p (xs ++ ys) → Memᴰ p (xs ++ (o ∷ ys))
  put_old xs ys p m = go (Memᴰ.append_cases xs m)
    where
      go : Memᴰ p xs ⊎ Memᴰ p ys → Memᴰ p (xs ++ (o ∷ ys))
      go (inl k) = Memᴰ.append_left (o ∷ ys) k
      go (inr k) = Memᴰ.append_right xs (Memᴰ.tail k)

-- so it is for an added object: each member is that one or an old one, the old ones are members, and it is one
module _ (o : Handle) (os os' : List Handle) (a : Added o os os') where
  pub added_cases : (p : Handle) → Memᴰ p os' → (p ≡ o) ⊎ Memᴰ p os
  added_cases p m = rw a.old (put_cases o a.front a.back p (rw a.now at m))

  pub added_old : (p : Handle) → Memᴰ p os → Memᴰ p os'
  added_old p m = rw a.now (put_old o a.front a.back p (rw a.old at m))

  pub added_new : Memᴰ o os'
  added_new = rw a.now (Memᴰ.append_right a.front (Memᴰ.head refl))

-- an object is kept exactly if it was a member and passes the test
module _ {A : Type 0} (p : A → Bool) where
  pub keep_exactly : (xs : List A) (x : A) → Memᴰ x (keep p xs) ↔ (Memᴰ x xs × (p x ≡ true))
  unfolding keep
  keep_exactly [] x = (λ m. absurd (Memᴰ.not-nil m), λ r. r.0)
  keep_exactly (y ∷ ys) x = go (p y) refl (keep_exactly ys x)
    where
      later : Memᴰ x (keep p ys) ↔ (Memᴰ x ys × (p x ≡ true)) → Memᴰ x (keep p ys) → Memᴰ x (y ∷ ys) × (p x ≡ true)
      later ih m = let r = ih.0 m in (Memᴰ.tail r.0, r.1)

      first : p y ≡ true → Memᴰ x (keep p ys) ↔ (Memᴰ x ys × (p x ≡ true)) → (x ≡ y) ⊎ Memᴰ x (keep p ys) → Memᴰ x (y ∷ ys)
          × (p x ≡ true)
      first t ih (inl e) = (Memᴰ.head e, rw e t)
      first t ih (inr m) = later ih m

      back : p y ≡ true → Memᴰ x (keep p ys) ↔ (Memᴰ x ys × (p x ≡ true)) → p x ≡ true → (x ≡ y) ⊎ Memᴰ x ys
          → Memᴰ x (y ∷ keep p ys)
      back t ih u (inl e) = Memᴰ.head e
      back t ih u (inr m) = Memᴰ.tail (ih.1 (m, u))

      left : p y ≡ false → Memᴰ x (keep p ys) ↔ (Memᴰ x ys × (p x ≡ true)) → p x ≡ true → (x ≡ y) ⊎ Memᴰ x ys → Memᴰ x (keep p ys)
      left t ih u (inl e) = absurd (false≢true (sym t ∙ rw e at u))
      left t ih u (inr m) = ih.1 (m, u)

      go : (t : Bool) → p y ≡ t → Memᴰ x (keep p ys) ↔ (Memᴰ x ys × (p x ≡ true)) → Memᴰ x (keep p (y ∷ ys))
          ↔ (Memᴰ x (y ∷ ys) × (p x ≡ true))
      go true t ih = rw t (λ m. first t ih (Memᴰ.cases_cons m), λ r. back t ih r.1 (Memᴰ.cases_cons r.0))
      go false t ih = rw t (later ih, λ r. left t ih r.1 (Memᴰ.cases_cons r.0))

-- serials differ exactly if the first object's is none of the others' and these differ
pub differ_cons : (o : Handle) (os : List Handle) → (serials_differ (o ∷ os) ≡ true)
    ↔ (((p : Handle) → Memᴰ p os → p.serial ≡ o.serial → ⊥) × (serials_differ os ≡ true))
unfolding serials_differ
differ_cons o os =
    let none = none_exactly (has_serial o.serial) os in (
      λ e. (
        λ p m q. none.0 (not-true (any (has_serial o.serial) os) (and_left _ _ e)) p m (eq-eqb p.serial o.serial q),
        and_right (not (any (has_serial o.serial) os)) _ e,
      ),
      λ r. rw (none.1 (λ p m q. r.0 p m (eqb-true p.serial o.serial q))) r.1,
    )

-- the serials of those that are kept still differ
pub differ_kept : (p : Handle → Bool) (os : List Handle) → serials_differ os ≡ true → serials_differ (keep p os) ≡ true
unfolding keep
differ_kept p [] d = d
differ_kept p (o ∷ os) d = let r = (differ_cons o os).0 d in go (p o) refl r.0 (differ_kept p os r.1)
  where
    go : (t : Bool) → p o ≡ t → ((x : Handle) → Memᴰ x os → x.serial ≡ o.serial → ⊥) → serials_differ (keep p os) ≡ true
        → serials_differ (keep p (o ∷ os)) ≡ true
    go true t f ih = rw t ((differ_cons o (keep p os)).1 (λ x m. f x ((keep_exactly p os x).0 m).0, ih))
    go false t f ih = rw t ih

-- and so do the serials where one is put in whose serial none had
differ_put : (o : Handle) (xs ys : List Handle) → ((p : Handle) → Memᴰ p (xs ++ ys) → p.serial ≡ o.serial → ⊥) → serials_differ (xs ++ ys)
    ≡ true
    → serials_differ (xs ++ (o ∷ ys)) ≡ true
differ_put o [] ys f d = (differ_cons o ys).1 (f, d)
differ_put o (x ∷ xs) ys f d =
    let r = (differ_cons x (xs ++ ys)).0 d in
    (differ_cons x (xs ++ (o ∷ ys))).1 (λ p m e. go p e (r.0 p) (put_cases o xs ys p m), differ_put o xs ys (λ p m. f p (Memᴰ.tail m)) r.1)
  where
    go : (p : Handle) → p.serial ≡ x.serial → (Memᴰ p (xs ++ ys) → p.serial ≡ x.serial → ⊥) → (p ≡ o) ⊎ Memᴰ p (xs ++ ys) → ⊥
    go p e g (inl q) = f x (Memᴰ.head refl) (sym (rw q at e))
    go p e g (inr m) = g m e

-- so an added object with a new serial leaves them different
pub differ_added : (o : Handle) (os os' : List Handle) → Added o os os' → ((p : Handle) → Memᴰ p os → p.serial ≡ o.serial → ⊥)
    → serials_differ os ≡ true
    → serials_differ os' ≡ true
differ_added o os os' a f d = rw a.now (differ_put o a.front a.back (λ p m. f p (rw a.old m)) (rw a.old at d))
