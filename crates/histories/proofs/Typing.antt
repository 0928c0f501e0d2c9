-- Accounts that an image gives back are as their type has them: what `Typed` asks beside all quotas and records,
-- grants of 32 bits and counts of one byte, rules 5.1 to 5.11 say of a consistent state.
use mathlib.Core.Path.{◌≡◌, refl, ap}
use mathlib.Core.List.{List, [], ◌∷◌, map, Memᴰ}
use mathlib.Core.Bool.{Bool, true, false, ◌&&◌}
use Prim.Native.Nat.{ℕ, zero, suc, ◌≤◌, ◌<◌, ◌^◌}
use native.Mathlib.Omega.{arith}
use lib.ListN.{length, get_or}
use lib.Dec.{ltb, eqb}
use borrow.Author.Tests.{leb-true, ltb-true, ltb-false, eqb-true, not-false}
use Rattle.accounts.specs.declared.Quota.{Quota}
use Rattle.accounts.specs.declared.Hold.{Hold}
use Rattle.accounts.specs.declared.Accounts.{Accounts}
use Rattle.accounts.specs.Accounts.{zero_quota, zero_hold, permissible, used}
use Rattle.lists.specs.Lists.{all}
use Rattle.model.specs.Objects.{blocks_of}
use Rattle.model.specs.Consistent.{in_range}
use Rattle.lists.proofs.Bools.{and_left, and_right}
use Rattle.lists.proofs.Lists.{get_or_member}
use Rattle.model.proofs.Consistent.{Facts, accounted_facts, consistent_accounted, consistent_permissible, consistent_range}
use Rattle.model.proofs.Consistent.{range_serial, range_kind}
use Rattle.model.proofs.Consistent.{range_edition}
use Rattle.ledger.specs.History.{Restorable}
use Rattle.image_model.specs.Stream.{Typed}

-- behind the last place stands the default
behind : {A : Type 0} (xs : List A) (i : ℕ) (d : A) → length xs ≤ i → get_or xs i d ≡ d
behind [] i d l = refl
behind (x ∷ xs) zero d l = absurd (omega arith)
behind (x ∷ xs) (suc i) d l = behind xs i d (omega arith)

-- a number that is permissions fits three bits
permitted : (qs : List Quota) → all permissible (map (λ (x : Quota). x.permissions) qs) ≡ true
    → (q : ℕ) → (get_or qs q zero_quota).permissions ≤ 7
unfolding all
permitted [] e q = omega arith
permitted (x ∷ xs) e zero = leb-true x.permissions 7 (and_left (permissible x.permissions) _ e)
permitted (x ∷ xs) e (suc q) = permitted xs (and_right (permissible x.permissions) _ e) q

-- an unused record is of zeros
unused_zero : (h : Hold) → used h ≡ false → (h.serial ≡ 0) × (h.quota ≡ 0)
unfolding used
unused_zero h e =
    let t = and_left (eqb h.serial 0 && eqb h.quota 0) (eqb h.count 0) (not-false _ e) in (
      eqb-true h.serial 0 (and_left (eqb h.serial 0) (eqb h.quota 0) t),
      eqb-true h.quota 0 (and_right (eqb h.serial 0) (eqb h.quota 0) t),
    )

module _ (unit : ℕ → ℕ) (s : List ℕ) (k : Accounts) (r : Restorable unit s k) where
  facts : Facts (blocks_of s) k
  facts = accounted_facts s k (consistent_accounted unit s k r.consistent)

  range : in_range k ≡ true
  range = consistent_range unit s k r.consistent

  -- what remains is at most the grant
  solvent : (q : ℕ) → (get_or k.quotas q zero_quota).remainder < 2 ^ 32
  solvent q = go (ltb q (length k.quotas)) refl
    where
      go : (b : Bool) → ltb q (length k.quotas) ≡ b → (get_or k.quotas q zero_quota).remainder < 2 ^ 32
      go true b = omega (arith, facts.balance q (ltb-true q (length k.quotas) b), r.narrow q)
      go false b =
          let z = behind k.quotas q zero_quota (ltb-false q (length k.quotas) b) in
          omega (arith, ap (λ (x : Quota). x.remainder) z)

  -- a record is of an object whose serial was given and of a quota that there is, or of zeros
  abbrev Narrow : Hold → Type 0
  Narrow h = (h.serial < 2 ^ 32) × (h.quota < 2 ^ 8)

  member_narrow : (h : Hold) → Memᴰ h k.holds → Narrow h
  member_narrow h m = go (used h) refl
    where
      go : (b : Bool) → used h ≡ b → Narrow h
      go true e =
          let v = facts.valid h m e in
          (omega (arith, v.2, facts.given v.0 v.1, range_serial k range), omega (arith, v.3))
      go false e = let z = unused_zero h e in (omega (arith, z.0), omega (arith, z.1))

  record_narrow : (i : ℕ) → Narrow (get_or k.holds i zero_hold)
  record_narrow i = go (ltb i (length k.holds)) refl
    where
      go : (b : Bool) → ltb i (length k.holds) ≡ b → Narrow (get_or k.holds i zero_hold)
      go true b =
          member_narrow (get_or k.holds i zero_hold)
          (get_or_member zero_hold k.holds i (ltb-true i (length k.holds) b))
      go false b = rw (behind k.holds i zero_hold (ltb-false i (length k.holds) b)) (omega arith, omega arith)

  pub restorable_typed : Typed k
  restorable_typed =
      record {
        quotas = r.quotas;
        holds = r.records;
        last = omega (arith, range_serial k range);
        grant = r.narrow;
        remainder = solvent;
        permissions = λ q. omega (arith, permitted k.quotas (consistent_permissible unit s k r.consistent) q);
        serial = λ i. (record_narrow i).0;
        quota = λ i. (record_narrow i).1;
        count = r.counts;
        kind = omega (arith, range_kind k range);
        edition = omega (arith, range_edition k range);
      }
