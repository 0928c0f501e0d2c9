-- All releases of a quota, of each object as many as it has holds on it, are accepted in every order and leave what free_all leaves.
-- Of each object the list has as many releases as the quota has holds, so they are enough and no count of the quota is left; and a used record has a count.
use mathlib.Core.Path.{◌≡◌, refl, ap, sym, subst, ◌∙◌}
use Prim.Native.Nat.{ℕ, zero, suc, ◌+◌, ◌-◌, ◌≤◌, ◌<◌}
use native.Mathlib.Nat.{zero-add}
use native.Mathlib.Omega.{arith}
use mathlib.Core.List.{List, [], ◌∷◌, Permᴰ}
use mathlib.Core.List.Memᴰ
use mathlib.Core.List.{Memᴰ}
use mathlib.Core.Bool.{Bool, true, false, not, cond, ◌&&◌, ◌||◌}
use mathlib.Core.Logic.{◌⊎◌, inl, inr, ⊎_elim}
use lib.ListN.{replicate}
use lib.Dec.{eqb}
use borrow.Author.Tests.{eqb-true, eq-eqb, not-true}
use Rattle.accounts.specs.declared.Hold.{Hold}
use Rattle.accounts.specs.declared.Accounts.{Accounts}
use Rattle.accounts.specs.Accounts.{QUOTAS, used, record_of}
use Rattle.lists.specs.Lists.{any, total}
use Rattle.model.specs.Objects.{objects, objects_of}
use Rattle.model.specs.Consistent.{has_serial, serials_differ}
use Rattle.model.specs.Holds.{count_of}
use Rattle.model.specs.Calls.{State, state_of, free_all, release}
use Rattle.model.specs.declared.Handle.{Handle}
use Rattle.lists.proofs.Bools.{and_left, and_right}
use Rattle.lists.proofs.Lists.{total_append, member_all, none_exactly}
use Rattle.invariant.proofs.Heaps.{good_ordered}
use Rattle.invariant.proofs.Counts.{ordered_member, count_member}
use Rattle.invariant.proofs.Recorded.{good_recorded}
use Rattle.cleanup.specs.Releases.{Drop, cleaned, accepted_throughout, Fits}
use Rattle.cleanup.specs.FreeAll.{all_for, AsFreeAll, releases_of, AllReleased}
use Rattle.cleanup.proofs.Answers.{permuted_sum}
use Rattle.cleanup.proofs.Accepting.{Consistent, after, Accepted}
use Rattle.cleanup.proofs.Permuted.{any_order_by}
use Rattle.cleanup.proofs.Drained.{ends, again, begun, exists, freed_by}
use Rattle.cleanup.proofs.Enough.{one, times, Enough, enough_accepted, enough_counts}

-- n equal releases count n times or not at all
times_equal : (serial j n : ℕ) (d : Drop) → times serial j (replicate n d) ≡ cond (eqb d.handle.serial serial && eqb d.quota j) n 0
unfolding times total one
times_equal serial j zero d = go (eqb d.handle.serial serial && eqb d.quota j)
  where
    go : (x : Bool) → ◌≡◌ {A = ℕ} 0 (cond x 0 0)
    go true = refl
    go false = refl
times_equal serial j (suc n) d = go (eqb d.handle.serial serial && eqb d.quota j) (times_equal serial j n d)
  where
    go : (x : Bool) → times serial j (replicate n d) ≡ cond x n 0 → cond x 1 0 + times serial j (replicate n d) ≡ cond x (suc n) 0
    go true e = omega (arith, e)
    go false e = omega (arith, e)

-- one of n equal elements is that element
equal_member : (n : ℕ) (x d : Drop) → Memᴰ d (replicate n x) → d ≡ x
equal_member zero x d m = absurd (Memᴰ.not-nil m)
equal_member (suc n) x d m = ⊎_elim (λ e. e) (λ k. equal_member n x d k) (Memᴰ.cases_cons m)

module _ (q : ℕ) (hs : List Hold) where
  -- each release is the quota's, of one of the objects
  of_object : (os : List Handle) (d : Drop) → Memᴰ d (releases_of q hs os) → (d.quota ≡ q) × Memᴰ d.handle os
  unfolding releases_of
  of_object [] d m = absurd (Memᴰ.not-nil m)
  of_object (o ∷ os) d m =
      go (Memᴰ.append_cases (replicate (count_of o.serial q hs) (record { quota = q; handle = o })) m) (of_object os d)
    where
      go : Memᴰ d (replicate (count_of o.serial q hs) (record { quota = q; handle = o })) ⊎ Memᴰ d (releases_of q hs os)
          → (Memᴰ d (releases_of q hs os) → (d.quota ≡ q) × Memᴰ d.handle os) → (d.quota ≡ q) × Memᴰ d.handle (o ∷ os)
      go (inl k) ih =
          let e = equal_member (count_of o.serial q hs) (record { quota = q; handle = o }) d k in
          (ap (λ (x : Drop). x.quota) e, Memᴰ.head (ap (λ (x : Drop). x.handle) e))
      go (inr k) ih = let r = ih k in (r.0, Memᴰ.tail r.1)

  -- and of each object there are as many as the quota has holds
  times_of : (os : List Handle) → serials_differ os ≡ true → (serial j : ℕ)
      → times serial j (releases_of q hs os) ≡ cond (eqb q j && any (has_serial serial) os) (count_of serial j hs) 0
  unfolding releases_of times total any serials_differ
  times_of [] d serial j = go (eqb q j)
    where
      go : (x : Bool) → ◌≡◌ {A = ℕ} 0 (cond (x && false) (count_of serial j hs) 0)
      go true = refl
      go false = refl
  times_of (o ∷ os) d serial j =
      total_append (one serial j) (replicate (count_of o.serial q hs) (record { quota = q; handle = o })) (releases_of q hs os)
      ∙ go (eqb o.serial serial) (eqb q j) refl refl (times_equal serial j (count_of o.serial q hs) (record { quota = q; handle = o }))
      (times_of os (and_right (not (any (has_serial o.serial) os)) _ d) serial j)
    where
      own : List Drop
      own = replicate (count_of o.serial q hs) (record { quota = q; handle = o })

      go : (x y : Bool) → eqb o.serial serial ≡ x → eqb q j ≡ y → times serial j own ≡ cond (x && y) (count_of o.serial q hs) 0
          → times serial j (releases_of q hs os) ≡ cond (y && any (has_serial serial) os) (count_of serial j hs) 0
          → times serial j own + times serial j (releases_of q hs os) ≡ cond (y && (x || any (has_serial serial) os)) (count_of serial j hs) 0
      go true true e f a b =
          let none : any (has_serial serial) os ≡ false =
          subst (λ (n : ℕ). any (has_serial n) os ≡ false) (eqb-true o.serial serial e)
          (not-true (any (has_serial o.serial) os) (and_left (not (any (has_serial o.serial) os)) (serials_differ os) d)) in
          let n : count_of o.serial q hs ≡ count_of serial j hs = rw (eqb-true o.serial serial e, eqb-true q j f) in
          omega (arith, a, rw none at b, n)
      go true false e f a b = omega (arith, a, b)
      go false true e f a b = ap (λ (n : ℕ). n + times serial j (releases_of q hs os)) a ∙ zero-add _ ∙ b
      go false false e f a b = omega (arith, a, b)

module _ (unit : ℕ → ℕ) (q : ℕ) (t : State) (g : Consistent unit t) (there : q < QUOTAS) where
  abbrev everything : List Drop
  everything = releases_of q t.accounts.holds (objects t.blocks)

  -- they are enough
  all_enough : Enough everything t
  all_enough =
      record {
        exist = λ d m. rw (of_object q t.accounts.holds (objects t.blocks) d m).0 there;
        there = λ d m. (of_object q t.accounts.holds (objects t.blocks) d m).1;
        held =
            λ serial j.
            rw (times_of q t.accounts.holds (objects t.blocks) g.good.tests.differ serial j)
            (go (eqb q j && any (has_serial serial) (objects t.blocks)) (count_of serial j t.accounts.holds));
      }
    where
      go : (x : Bool) (n : ℕ) → cond x n 0 ≤ n
      go true n = omega arith
      go false n = omega arith

  all_accepted : Accepted unit everything t
  all_accepted = enough_accepted unit everything t g all_enough

  all_the_quotas : all_for q everything ≡ true
  unfolding all_for
  all_the_quotas =
      member_all (λ (d : Drop). eqb d.quota q) everything
      (λ d m. eq-eqb d.quota q (of_object q t.accounts.holds (objects t.blocks) d m).0)

  -- no count of the quota is left
  no_count : (serial : ℕ) → count_of serial q (after unit everything t).accounts.holds ≡ 0
  no_count serial =
      enough_counts unit everything t g all_enough serial q
      ∙ go (any (has_serial serial) (objects t.blocks)) refl
      (rw (eq-eqb q q refl) at (times_of q t.accounts.holds (objects t.blocks) g.good.tests.differ serial q))
    where
      n : ℕ
      n = count_of serial q t.accounts.holds

      live : (m : ℕ) → n ≡ m → any (has_serial serial) (objects t.blocks) ≡ false → m ≡ 0
      live zero z f = refl
      live (suc m) z f =
          let r = (good_recorded t g.good).live serial q (rw z (omega arith)) in
          absurd ((none_exactly (has_serial serial) (objects t.blocks)).0 f r.0 r.1 (eq-eqb r.0.serial serial r.2))

      go : (x : Bool) → any (has_serial serial) (objects t.blocks) ≡ x → times serial q everything ≡ cond x n 0 → n - times serial q everything ≡ 0
      go true f e = omega (arith, e)
      go false f e = omega (arith, live n refl f)

  -- so no record
  no_record_left : any (record_of q) (after unit everything t).accounts.holds ≡ false
  no_record_left =
      let x = ends unit q everything t g all_accepted all_the_quotas in
      let hs = x.state.accounts.holds in
      rw x.accounts
      ((none_exactly (record_of q) hs).1
      (λ h m r.
      (let u = and_left (used h) _ r in
      let o = good_ordered x.state x.good in
      let same : h.quota ≡ q = eqb-true h.quota q (and_right (used h) _ r) in
      let c : count_of h.serial q hs ≡ h.count = rw same at (count_member hs o h m u) in
      let z : count_of h.serial q hs ≡ 0 = rw x.accounts at (no_count h.serial) in
      omega (arith, c, z, (ordered_member hs o h m u).1))))

-- of any state, in every order, by one table of units
pub all_released_by : (unit : ℕ → ℕ) → AllReleased (release unit) (free_all unit)
unfolding objects_of
all_released_by unit = record { always = every }
  where
    every : (q : ℕ) (s : List ℕ) (k : Accounts) → Fits s k → (free_all unit s k q).values.refusal ≡ 0
        → (es : List Drop) → Permᴰ (releases_of q k.holds (objects_of s)) es
        → (accepted_throughout (cleaned (release unit) es s k).answers ≡ true) × AsFreeAll (release unit) (free_all unit) q es s k
    every q s k fits e es p =
        let t = state_of s k in
        let ds = releases_of q k.holds (objects_of s) in
        let g = begun unit q s k fits e in
        let there = exists unit q s k fits e in
        let same = again unit q s k fits e in
        let taken : accepted_throughout (cleaned (release unit) ds s k).answers ≡ true = rw same at (all_accepted unit q t g there) in
        let none : any (record_of q) (cleaned (release unit) ds s k).accounts.holds ≡ false = rw same at (no_record_left unit q t g there) in
        let a = (freed_by unit).always q ds s k fits e (all_the_quotas unit q t g there) taken none in
        let b = (any_order_by unit).always ds es p s k fits taken in (
          b.accepted,
          record { heap = b.heap ∙ a.heap; accounts = b.accounts ∙ a.accounts; amount = sym (permuted_sum b.answers) ∙ a.amount },
        )
