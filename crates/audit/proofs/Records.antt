-- The key of a well-formed record tells its serial and its quota: the quota is below QUOTAS, so the key divided by QUOTAS is the serial and the
-- rest is the quota; an unused record is all zero, and so is its key.
use Prim.Native.Nat.{ℕ, ◌+◌, ◌*◌, ◌<◌, ◌≤◌}
use mathlib.Core.Path.{◌≡◌, refl}
use mathlib.Core.Bool.{Bool, true, false, not, ◌&&◌, ◌||◌}
use native.Mathlib.Omega.{arith}
use borrow.Author.Tests.{eq-eqb, ne_eqb, eqb-true, le-leb, lt-leb, ltb-true, leb-true, not-false}
use lib.Dec.{eqb, leb, ltb}
use Rattle.accounts.specs.declared.Hold.{Hold}
use Rattle.accounts.specs.Accounts.{QUOTAS, used}
use Rattle.model.specs.Consistent.{is_of}
use Rattle.lists.proofs.Bools.{and_left, and_right, implies, by_test}
use Rattle.audit.specs.Keys.{well_formed, key_of, serial_of, quota_of, for_serial}

-- what is left to test of a record without a serial, and of one with a serial
pub well_blank : (h : Hold) → h.serial ≡ 0 → well_formed h ≡ (eqb h.quota 0 && eqb h.count 0)
unfolding well_formed used
well_blank h z = rw (eq-eqb h.serial 0 z, lt-leb 1 h.serial (omega arith)) (go (eqb h.quota 0 && eqb h.count 0))
  where
    go : (t : Bool) → (not (not t) || false) ≡ t
    go true = refl
    go false = refl

pub well_possible : (h : Hold) → (h.serial ≡ 0 → ⊥) → well_formed h ≡ (ltb h.quota QUOTAS && leb 1 h.count)
unfolding well_formed used
well_possible h n = rw (ne_eqb h.serial 0 n, le-leb 1 h.serial (omega (arith, n)))

-- an unused record is all zero
pub unused_zero : (h : Hold) → used h ≡ false → (h.serial ≡ 0) × (h.quota ≡ 0) × (h.count ≡ 0)
unfolding used
unused_zero h e =
    let t = not-false _ e in
    let p = and_left (eqb h.serial 0 && eqb h.quota 0) (eqb h.count 0) t in (
      eqb-true h.serial 0 (and_left (eqb h.serial 0) (eqb h.quota 0) p),
      eqb-true h.quota 0 (and_right (eqb h.serial 0) (eqb h.quota 0) p),
      eqb-true h.count 0 (and_right (eqb h.serial 0 && eqb h.quota 0) (eqb h.count 0) t),
    )

pub key_serial : (s q : ℕ) → q < QUOTAS → serial_of (s * QUOTAS + q) ≡ s
key_serial s q l = omega arith

pub key_quota : (s q : ℕ) → q < QUOTAS → quota_of (s * QUOTAS + q) ≡ q
key_quota s q l = omega arith

module _ (h : Hold) (w : well_formed h ≡ true) where
  -- a used record has its parts
  pub well_used : used h ≡ true → (1 ≤ h.serial) × (h.quota < QUOTAS) × (1 ≤ h.count)
  unfolding well_formed
  well_used u =
      let t = implies (used h) (leb 1 h.serial && (ltb h.quota QUOTAS && leb 1 h.count)) w u in
      let r = and_right (leb 1 h.serial) (ltb h.quota QUOTAS && leb 1 h.count) t in (
        leb-true 1 h.serial (and_left (leb 1 h.serial) (ltb h.quota QUOTAS && leb 1 h.count) t),
        ltb-true h.quota QUOTAS (and_left (ltb h.quota QUOTAS) (leb 1 h.count) r),
        leb-true 1 h.count (and_right (ltb h.quota QUOTAS) (leb 1 h.count) r),
      )

  -- the quota is below QUOTAS in any case
  pub well_quota : h.quota < QUOTAS
  well_quota =
      by_test (used h)
      (λ u. (well_used u).1)
      (λ u. let z = unused_zero h u in omega (arith, z.1))

  -- a record without a serial has the key 0, and only that
  pub no_serial : h.serial ≡ 0 → used h ≡ false
  no_serial z =
      by_test (used h)
      (λ u. let p = well_used u in absurd (omega (arith, p.0)))
      (λ u. u)

  pub no_key : h.serial ≡ 0 → key_of h ≡ 0
  no_key z = let u = unused_zero h (no_serial z) in omega (arith, u.1)

  pub key_used : eqb (key_of h) 0 ≡ not (used h)
  key_used =
      by_test (used h)
      (λ u. let p = well_used u in rw u (ne_eqb (key_of h) 0 (λ e. omega (arith, p.0))))
      (λ u. let z = unused_zero h u in rw u (eq-eqb (key_of h) 0 (omega (arith, z.0, z.1))))

  -- the key is for a serial exactly if the record is
  pub key_is_of : (s : ℕ) → (s ≡ 0 → ⊥) → for_serial s (key_of h) ≡ is_of s h
  unfolding is_of
  key_is_of s n =
      by_test (used h)
      (λ u. rw (u, key_serial h.serial h.quota well_quota))
      (λ u. let z = unused_zero h u in rw u (ne_eqb (serial_of (key_of h)) s (λ e. n (omega (arith, z.0, z.1)))))
