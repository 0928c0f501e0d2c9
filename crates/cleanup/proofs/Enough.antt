-- A list of releases, each with the handle of an object, is accepted throughout if no quota releases an object more often than it holds it.
-- Each release lowers one count by one, and as long as the list has one for an object, a count for it is left and the object is there.
use mathlib.Core.Path.{◌≡◌, refl, ap, ◌∙◌}
use Prim.Native.Nat.{ℕ, ◌-◌, ◌≤◌, ◌<◌}
use native.Mathlib.Omega.{arith}
use mathlib.Core.List.Memᴰ
use mathlib.Core.List.{List, [], ◌∷◌, Memᴰ}
use mathlib.Core.Bool.{Bool, true, false, cond, ◌&&◌}
use mathlib.Core.Logic.{◌⊎◌, inl, inr}
use lib.Dec.{eqb}
use Rattle.accounts.specs.Accounts.{QUOTAS}
use Rattle.lists.specs.Lists.{all, total}
use Rattle.model.specs.Objects.{objects}
use Rattle.model.specs.Holds.{count_of, lower_count}
use Rattle.model.specs.Calls.{State, released}
use Rattle.model.proofs.Settle.{object_held}
use Rattle.invariant.proofs.Heaps.{good_ordered}
use Rattle.invariant.proofs.Members.{keep_exactly}
use Rattle.invariant.proofs.Counts.{record_counted, held_counted, lower_counted}
use Rattle.invariant.proofs.Payments.{themselves}
use Rattle.invariant.proofs.Settled.{released_objects}
use Rattle.invariant.proofs.Releasing.{Possible}
use Rattle.cleanup.specs.Releases.{Drop, Cleaned, cleaned, accepted_throughout}
use Rattle.cleanup.proofs.Finding.{itself_found}
use Rattle.cleanup.proofs.Balance.{released_holds}
use Rattle.cleanup.proofs.Accepting.{Consistent, after, Accepted, next_consistent, after_first, first_accepted}

-- whether a release is of this object and this quota, as 1 or 0; and how many of a list are
unfoldable pub one : ℕ → ℕ → Drop → ℕ
one serial q d = cond (eqb d.handle.serial serial && eqb d.quota q) 1 0

unfoldable pub times : ℕ → ℕ → List Drop → ℕ
times serial q ds = total (one serial q) ds

-- a release counts for its own object and quota
one_itself : (d : Drop) → one d.handle.serial d.quota d ≡ 1
unfolding one
one_itself d = rw (themselves d.handle.serial d.quota)

times_member : (ds : List Drop) (d : Drop) → Memᴰ d ds → 0 < times d.handle.serial d.quota ds
unfolding times total
times_member [] d m = absurd (Memᴰ.not-nil m)
times_member (x ∷ ds) d m = go (Memᴰ.cases_cons m) (times_member ds d)
  where
    go : (d ≡ x) ⊎ Memᴰ d ds → (Memᴰ d ds → 0 < times d.handle.serial d.quota ds) → 0 < times d.handle.serial d.quota (x ∷ ds)
    go (inl e) ih = let o : one d.handle.serial d.quota x ≡ 1 = rw (← e) (one_itself d) in omega (arith, o)
    go (inr k) ih = omega (arith, ih k)

-- the quotas exist, the objects are there, and there are holds enough
pub record Enough (ds : List Drop) (t : State) : Type 0 where
  pub exist : (d : Drop) → Memᴰ d ds → d.quota < QUOTAS
  pub there : (d : Drop) → Memᴰ d ds → Memᴰ d.handle (objects t.blocks)
  pub held : (serial q : ℕ) → times serial q ds ≤ count_of serial q t.accounts.holds

module _ (unit : ℕ → ℕ) where
  module _ (t : State) (g : Consistent unit t) (d : Drop) (ds : List Drop) (e : Enough (d ∷ ds) t) where
    -- the first is possible
    first_can : Possible d.quota d.handle d.handle t
    first_can =
        record {
          exists = e.exist d (Memᴰ.head refl);
          names = itself_found t g.good d.handle (e.there d (Memᴰ.head refl));
          recorded =
              (record_counted t.accounts.holds (good_ordered t g.good) d.handle.serial d.quota).1
              (let n = times_member (d ∷ ds) d (Memᴰ.head refl) in let m = e.held d.handle.serial d.quota in omega (arith, n, m));
        }

    -- each count of what it leaves
    lowered : (serial q : ℕ) → count_of serial q (released d.quota d.handle t).accounts.holds ≡ count_of serial q t.accounts.holds - one serial q d
    unfolding one
    lowered serial q =
        rw (released_holds d.quota d.handle t)
        (lower_counted t.accounts.holds (good_ordered t g.good) d.handle.serial d.quota first_can.recorded serial q
        ∙ go (eqb d.handle.serial serial && eqb d.quota q))
      where
        go : (x : Bool) → cond x (count_of serial q t.accounts.holds - 1) (count_of serial q t.accounts.holds)
            ≡ count_of serial q t.accounts.holds - cond x 1 0
        go true = refl
        go false = omega arith

    next : Consistent unit (released d.quota d.handle t)
    next = next_consistent unit t g d d.handle first_can

    still : (serial q : ℕ) → times serial q ds ≤ count_of serial q (released d.quota d.handle t).accounts.holds
    unfolding times total
    still serial q = omega (arith, lowered serial q, e.held serial q)

    -- is enough for the others
    rest_enough : Enough ds (released d.quota d.handle t)
    rest_enough =
        record {
          exist = λ x m. e.exist x (Memᴰ.tail m);
          there =
              λ x m.
              rw (released_objects d.quota d.handle t g.good (e.there d (Memᴰ.head refl)) first_can.recorded)
              ((keep_exactly _ (objects t.blocks) x.handle).1 (e.there x (Memᴰ.tail m), kept x m));
          held = still;
        }
      where
        kept : (x : Drop) → Memᴰ x ds → object_held (lower_count d.handle.serial d.quota t.accounts.holds) x.handle ≡ true
        kept x m =
            let u = released d.quota d.handle t in
            let p : 0 < count_of x.handle.serial x.quota u.accounts.holds =
            omega (arith, times_member ds x m, still x.handle.serial x.quota) in
            rw (released_holds d.quota d.handle t) at
            ((held_counted u.accounts.holds (good_ordered u next.good) x.handle.serial).1 (x.quota, p))

  -- so all are accepted
  pub enough_accepted : (ds : List Drop) (t : State) → Consistent unit t → Enough ds t → Accepted unit ds t
  unfolding cleaned accepted_throughout all
  enough_accepted [] t g e = refl
  enough_accepted (d ∷ ds) t g e =
      first_accepted unit t g d d.handle (first_can t g d ds e) ds
      (enough_accepted ds (released d.quota d.handle t) (next t g d ds e) (rest_enough t g d ds e))

  -- and leave each count so much lower
  pub enough_counts : (ds : List Drop) (t : State) → Consistent unit t → Enough ds t → (serial q : ℕ)
      → count_of serial q (after unit ds t).accounts.holds ≡ count_of serial q t.accounts.holds - times serial q ds
  unfolding cleaned times total
  enough_counts [] t g e serial q = omega arith
  enough_counts (d ∷ ds) t g e serial q =
      ap (λ (c : Cleaned). count_of serial q c.accounts.holds) (after_first unit t g d d.handle (first_can t g d ds e) ds)
      ∙ enough_counts ds (released d.quota d.handle t) (next t g d ds e) (rest_enough t g d ds e) serial q
      ∙ omega (arith, lowered t g d ds e serial q)
