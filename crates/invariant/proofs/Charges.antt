-- What a quota pays, by counts, and how sums over objects change.
-- A quota has a record for an object exactly if its count is above 0, so it pays the charges of those objects. A sum over objects with differing
-- serials is at most the sum over any list that has them all: take each of them out of that list, one after the other. So two such lists with the
-- same members have the same sum. The other laws are by induction on the list.
use mathlib.Core.Path.{◌≡◌, refl, ap, sym, ◌∙◌}
use Prim.Native.Nat.{ℕ, ◌+◌, ◌≤◌}
use native.Mathlib.Omega.{arith}
use mathlib.Core.List.Memᴰ
use mathlib.Core.List.{List, [], ◌∷◌, Memᴰ}
use mathlib.Core.Bool.{Bool, true, false, cond}
use mathlib.Core.Logic.{◌↔◌, ◌⊎◌, inl, inr}
use lib.Dec.{ltb}
use borrow.Author.Tests.{ltb-true, lt-ltb}
use Rattle.lists.proofs.Bools.{same_test}
use Rattle.accounts.specs.declared.Hold.{Hold}
use Rattle.lists.specs.Lists.{total, keep}
use Rattle.model.specs.Consistent.{charge_of, has_record, charged_for, charges, serials_differ}
use Rattle.model.specs.Holds.{count_of}
use Rattle.model.specs.declared.Handle.{Handle}
use Rattle.lists.proofs.Lists.{total_append}
use Rattle.model.proofs.Carve.{Added}
use Rattle.invariant.proofs.Members.{added_cases, differ_cons}
use Rattle.invariant.proofs.Good.{Ordered}
use Rattle.invariant.proofs.Counts.{record_counted}

-- a charge by a count
abbrev pub cost : ℕ → Handle → ℕ
cost n o = cond (ltb 0 n) (charge_of o.length) 0

-- sums of functions that are the same at each member are the same
pub total_members : (f g : Handle → ℕ) (os : List Handle) → ((o : Handle) → Memᴰ o os → f o ≡ g o) → total f os ≡ total g os
unfolding total
total_members f g [] e = refl
total_members f g (o ∷ os) e = rw (e o (Memᴰ.head refl), total_members f g os (λ p m. e p (Memᴰ.tail m)))

-- what a quota pays is the charges of the objects that it has a count for
pub charges_counted : (hs : List Hold) → Ordered hs → (q : ℕ) (os : List Handle) → charges hs q os
    ≡ total (λ o. cost (count_of o.serial q hs) o) os
unfolding charges charged_for
charges_counted hs r q os =
    total_members (charged_for hs q) (λ o. cost (count_of o.serial q hs) o) os (λ o m. rw (same o))
  where
    same : (o : Handle) → has_record hs q o.serial ≡ ltb 0 (count_of o.serial q hs)
    same o =
        let n = count_of o.serial q hs in
        let e = record_counted hs r o.serial q in
        same_test (has_record hs q o.serial) (ltb 0 n) (λ t. lt-ltb 0 n (e.0 t)) (λ t. e.1 (ltb-true 0 n t))

-- an added object pays its own
pub total_added : (f : Handle → ℕ) (o : Handle) (os os' : List Handle) → Added o os os' → total f os' ≡ total f os + f o
unfolding total
total_added f o os os' a =
    omega (arith, ap (total f) a.old, ap (total f) a.now, total_append f a.front a.back, total_append f a.front (o ∷ a.back))

-- a member is one that was added to the others
pub taken_out : (o : Handle) (ps : List Handle) → Memᴰ o ps → (qs : List Handle) × Added o qs ps
taken_out o [] m = absurd (Memᴰ.not-nil m)
taken_out o (p ∷ ps) m = go (Memᴰ.cases_cons m) (taken_out o ps)
  where
    go : (o ≡ p) ⊎ Memᴰ o ps → (Memᴰ o ps → (qs : List Handle) × Added o qs ps) → (qs : List Handle) × Added o qs (p ∷ ps)
    go (inl e) ih = (ps, record { front = []; back = ps; old = refl; now = ap (λ (x : Handle). x ∷ ps) (sym e) })
    go (inr n) ih =
        let r = ih n in (
          p ∷ r.0,
          record {
            front = p ∷ r.1.front;
            back = r.1.back;
            old = ap (λ (l : List Handle). p ∷ l) r.1.old;
            now = ap (λ (l : List Handle). p ∷ l) r.1.now;
          },
        )

-- a list that has all of these members has at least their sum
pub total_within : (f : Handle → ℕ) (os ps : List Handle) → serials_differ os ≡ true → ((o : Handle) → Memᴰ o os → Memᴰ o ps)
    → total f os ≤ total f ps
unfolding total
total_within f [] ps d m = omega arith
total_within f (o ∷ os) ps d m =
    let r = taken_out o ps (m o (Memᴰ.head refl)) in
    let l : total f os ≤ total f r.0 = total_within f os r.0 ((differ_cons o os).0 d).1 (λ p n. stays r.0 r.1 p n) in
    omega (arith, l, total_added f o r.0 ps r.1)
  where
    stays : (qs : List Handle) → Added o qs ps → (p : Handle) → Memᴰ p os → Memᴰ p qs
    stays qs a p n = go (added_cases o qs ps a p (m p (Memᴰ.tail n)))
      where
        go : (p ≡ o) ⊎ Memᴰ p qs → Memᴰ p qs
        go (inl e) = absurd (((differ_cons o os).0 d).0 p n (ap (λ (x : Handle). x.serial) e))
        go (inr k) = k

-- sums over the same members are the same
pub total_same : (f : Handle → ℕ) (os ps : List Handle) → serials_differ os ≡ true → serials_differ ps ≡ true
    → ((o : Handle) → Memᴰ o os ↔ Memᴰ o ps) → total f os ≡ total f ps
total_same f os ps d e m = omega (arith, total_within f os ps d (λ o. (m o).0), total_within f ps os e (λ o. (m o).1))

-- one member pays more
pub total_more : (f g : Handle → ℕ) (os : List Handle) (o : Handle) (d : ℕ) → serials_differ os ≡ true → Memᴰ o os → g o ≡ f o + d
    → ((p : Handle) → Memᴰ p os → (p.serial ≡ o.serial → ⊥) → g p ≡ f p) → total g os ≡ total f os + d
unfolding total
total_more f g [] o d df m e k = absurd (Memᴰ.not-nil m)
total_more f g (p ∷ os) o d df m e k =
    go (Memᴰ.cases_cons m) (λ n. total_more f g os o d ((differ_cons p os).0 df).1 n e (λ x l. k x (Memᴰ.tail l)))
  where
    go : (o ≡ p) ⊎ Memᴰ o os → (Memᴰ o os → total g os ≡ total f os + d) → total g (p ∷ os) ≡ total f (p ∷ os) + d
    go (inl q) ih =
        let rest : total g os ≡ total f os = total_members g f os (λ x l. k x (Memᴰ.tail l)
        (λ s. ((differ_cons p os).0 df).0 x l (s ∙ ap (λ (y : Handle). y.serial) q))) in
        let here : g p ≡ f p + d = rw q at e in
        omega arith
    go (inr n) ih = omega (arith, ih n, k p (Memᴰ.head refl) (λ s. ((differ_cons p os).0 df).0 o n (sym s)))

-- objects that pay nothing may go
pub total_kept : (f : Handle → ℕ) (p : Handle → Bool) (os : List Handle) → ((o : Handle) → Memᴰ o os → p o ≡ false → f o ≡ 0)
    → total f (keep p os) ≡ total f os
unfolding total keep
total_kept f p [] z = refl
total_kept f p (o ∷ os) z = go (p o) refl (total_kept f p os (λ x m. z x (Memᴰ.tail m)))
  where
    go : (t : Bool) → p o ≡ t → total f (keep p os) ≡ total f os → total f (keep p (o ∷ os)) ≡ total f (o ∷ os)
    go true t ih = rw (t, ih)
    go false t ih = rw t (omega (arith, ih, z o (Memᴰ.head refl) t))
