-- Objects and accounts that fit together still do when a count is raised, and when only the objects with a count are kept.
-- A raised count leaves every count above 0 that was, and makes one more so, of an object that is there. When counts fall, the objects that are
-- kept are those with a count above 0, and the others pay nothing. What a quota pays and what remains of it is the payment's concern.
use Prim.Native.Nat.{ℕ, zero, suc, ◌+◌, ◌≤◌, ◌<◌}
use native.Mathlib.Omega.{arith}
use mathlib.Core.Path.{◌≡◌, refl, sym, ◌∙◌}
use mathlib.Core.List.{List, Memᴰ}
use mathlib.Core.Bool.{Bool, true, false, cond, ◌&&◌, true≢false}
use mathlib.Core.Logic.{◌⊎◌, inl, inr}
use lib.Dec.{eqb}
use borrow.Author.Tests.{eqb-true}
use Rattle.accounts.specs.declared.Hold.{Hold}
use Rattle.accounts.specs.declared.Accounts.{Accounts}
use Rattle.accounts.specs.Accounts.{QUOTAS, quota_at}
use Rattle.lists.specs.Lists.{keep}
use Rattle.model.specs.Holds.{count_of}
use Rattle.model.specs.declared.Handle.{Handle}
use Rattle.lists.proofs.Bools.{and_left}
use Rattle.model.proofs.Settle.{object_held}
use Rattle.invariant.proofs.Good.{Ordered}
use Rattle.invariant.proofs.Counts.{held_counted}
use Rattle.invariant.proofs.Charges.{cost, total_kept}
use Rattle.invariant.proofs.Members.{keep_exactly}
use Rattle.invariant.proofs.Recorded.{due, owed, Recorded}
use Rattle.invariant.proofs.Payments.{Elsewhere, themselves}

-- the count of one object and one quota is one more, and every other the same
abbrev pub Raised : ℕ → ℕ → List Hold → List Hold → Type 0
Raised serial q hs hs' = (u j : ℕ) → count_of u j hs' ≡ cond (eqb serial u && eqb q j) (count_of u j hs + 1) (count_of u j hs)

module _ (serial q : ℕ) (hs hs' : List Hold) where
  -- a count of 1 is one more than none
  pub raised_first : count_of serial q hs ≡ 0 → ((u j : ℕ) → count_of u j hs' ≡ cond (eqb serial u && eqb q j) 1 (count_of u j hs))
      → Raised serial q hs hs'
  raised_first z c u j = c u j ∙ go (eqb serial u) (eqb q j) refl refl
    where
      go : (x y : Bool) → eqb serial u ≡ x → eqb q j ≡ y → cond (x && y) 1 (count_of u j hs) ≡ cond (x && y) (count_of u j hs + 1) (count_of u j hs)
      go true true e f = rw (← eqb-true serial u e, ← eqb-true q j f, z)
      go true false e f = refl
      go false y e f = refl

  module _ (c : Raised serial q hs hs') where
    -- every other count is the same
    pub raised_elsewhere : Elsewhere serial q hs hs'
    raised_elsewhere u j e = rw e at (c u j)

    -- and that one is one more
    pub raised_here : count_of serial q hs' ≡ count_of serial q hs + 1
    raised_here = rw (themselves serial q) at (c serial q)

    -- a count above 0 was so before, or is that one
    pub raised_cases : (u j : ℕ) → 0 < count_of u j hs' → (u ≡ serial) ⊎ (0 < count_of u j hs)
    raised_cases u j p = go (eqb serial u && eqb q j) refl
      where
        go : (t : Bool) → (eqb serial u && eqb q j) ≡ t → (u ≡ serial) ⊎ (0 < count_of u j hs)
        go true e = inl (sym (eqb-true serial u (and_left (eqb serial u) (eqb q j) e)))
        go false e = inr (rw (raised_elsewhere u j e) at p)

    -- and a count that was above 0 is so still
    pub raised_stays : (u j : ℕ) → 0 < count_of u j hs → 0 < count_of u j hs'
    raised_stays u j p = rw (c u j) (go (eqb serial u && eqb q j))
      where
        go : (t : Bool) → 0 < cond t (count_of u j hs + 1) (count_of u j hs)
        go true = omega arith
        go false = p

-- a count is raised of an object that is among the objects, old or new
module _ (q : ℕ) (o : Handle) (os os' : List Handle) (k k' : Accounts) (b : Recorded os k) (c : Raised o.serial q k.holds k'.holds) where
  pub raised_recorded : Ordered k'.holds → Memᴰ o os' → ((p : Handle) → Memᴰ p os → Memᴰ p os')
      → ((p : Handle) → Memᴰ p os' → (p ≡ o) ⊎ Memᴰ p os)
      → ((p : Handle) → Memᴰ p os' → p.serial ≤ k'.last_serial)
      → ((j : ℕ) → j < QUOTAS → (quota_at j k').grant ≡ (quota_at j k').remainder + owed k'.holds j os')
      → Recorded os' k'
  raised_recorded r there old cases given balance =
      record {
        given = given;
        ordered = r;
        live = λ u j p. live u (raised_cases o.serial q k.holds k'.holds c u j p) (b.live u j);
        counted = λ p m. counted p (cases p m);
        balance = balance;
      }
    where
      live : (u : ℕ) {P : Type 0} → (u ≡ o.serial) ⊎ P → (P → (p : Handle) × Memᴰ p os × (p.serial ≡ u)) → (p : Handle) × Memᴰ p os'
          × (p.serial ≡ u)
      live u (inl e) f = (o, there, sym e)
      live u (inr p) f = let r = f p in (r.0, old r.0 r.1, r.2)

      counted : (p : Handle) → (p ≡ o) ⊎ Memᴰ p os → (j : ℕ) × (0 < count_of p.serial j k'.holds)
      counted p (inl e) = (q, rw (e, raised_here o.serial q k.holds k'.holds c) (omega arith))
      counted p (inr m) = let r = b.counted p m in (r.0, raised_stays o.serial q k.holds k'.holds c p.serial r.0 r.1)

-- what no record holds pays nothing
pub unheld_free : (hs : List Hold) → Ordered hs → (j : ℕ) (o : Handle) → object_held hs o ≡ false → due hs j o ≡ 0
unheld_free hs r j o e = go (count_of o.serial j hs) refl
  where
    go : (n : ℕ) → count_of o.serial j hs ≡ n → cost n o ≡ 0
    go zero z = refl
    go (suc n) z = absurd (true≢false (sym ((held_counted hs r o.serial).1 (j, rw z (omega arith))) ∙ e))

-- so a quota pays as much for the objects that are held as for all
pub owed_kept : (hs : List Hold) → Ordered hs → (j : ℕ) (os : List Handle) → owed hs j (keep (object_held hs) os) ≡ owed hs j os
owed_kept hs r j os = total_kept (due hs j) (object_held hs) os (λ o m e. unheld_free hs r j o e)

-- every count above 0 of some records is so in others
abbrev pub Fewer : List Hold → List Hold → Type 0
Fewer hs' hs = (u j : ℕ) → 0 < count_of u j hs' → 0 < count_of u j hs

-- counts fall, and the objects that are still held are kept
module _ (os : List Handle) (k k' : Accounts) (b : Recorded os k) (r : Ordered k'.holds) where
  pub kept_recorded : Fewer k'.holds k.holds → k'.last_serial ≡ k.last_serial
      → ((j : ℕ) → j < QUOTAS → (quota_at j k').grant ≡ (quota_at j k').remainder + owed k'.holds j os)
      → Recorded (keep (object_held k'.holds) os) k'
  kept_recorded fewer last balance =
      let kept = keep_exactly (object_held k'.holds) os in
      record {
        given = λ o m. rw last (b.given o ((kept o).0 m).0);
        ordered = r;
        live =
            λ u j p.
            (let o = b.live u j (fewer u j p) in
            (o.0, (kept o.0).1 (o.1, (held_counted k'.holds r o.0.serial).1 (j, rw o.2 p)), o.2));
        counted = λ o m. (held_counted k'.holds r o.serial).0 ((kept o).0 m).1;
        balance = λ j l. rw (owed_kept k'.holds r j os) (balance j l);
      }
