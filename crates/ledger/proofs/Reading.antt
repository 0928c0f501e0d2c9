-- Every consistent state agrees with the ledger that is read off it: its objects are the live ones, and each quota's holds are its record's count. So a
-- state that no history led to can be a beginning.
use Prim.Native.Nat.{ℕ, zero, suc, ◌+◌, ◌≤◌, ◌<◌, ◌^◌}
use native.Mathlib.Nat.{not-suc-le-zero}
use native.Mathlib.Omega.{arith}
use mathlib.Core.Path.{◌≡◌, refl, ap, sym, ◌∙◌}
use mathlib.Core.List.Memᴰ
use mathlib.Core.List.{List, [], ◌∷◌, map, Memᴰ}
use mathlib.Core.Bool.{Bool, true, false}
use mathlib.Core.Logic.{◌⊎◌, inl, inr}
use lib.ListN.{length, get_or, length-map}
use lib.Dec.{ltb}
use borrow.Author.Tests.{ltb-true, ltb-false}
use Rattle.accounts.specs.declared.Quota.{Quota}
use Rattle.accounts.specs.declared.Hold.{Hold}
use Rattle.accounts.specs.declared.Accounts.{Accounts}
use Rattle.accounts.specs.Accounts.{QUOTAS, zero_quota}
use Rattle.layout.specs.Bytes.{Octets}
use Rattle.model.specs.Objects.{blocks_of, objects_of}
use Rattle.model.specs.Consistent.{allowed, accounted}
use Rattle.model.specs.Holds.{count_of}
use Rattle.model.specs.Calls.{state_of}
use Rattle.model.specs.declared.Handle.{Handle}
use Rattle.ledger.specs.Ledger.{Entry, holds_of, values_from, quarantined_of, read_entry, read_ledger}
use Rattle.model.proofs.Consistent.{range_serial}
use Rattle.invariant.proofs.Good.{Ordered}
use Rattle.invariant.proofs.Kinded.{Kinded}
use Rattle.ledger.proofs.Agreement.{Agrees}
use Rattle.invariant.proofs.Heaps.{heap_good, good_ordered}
use Rattle.invariant.proofs.Counts.{counted_quota}
use Rattle.ledger.proofs.Waiting.{spans_once}

values_length : (f : ℕ → ℕ) (from n : ℕ) → length (values_from f from n) ≡ n
unfolding values_from
values_length f from zero = refl
values_length f from (suc n) = ap suc (values_length f (suc from) n)

values_at : (f : ℕ → ℕ) (from n i : ℕ) → i < n → get_or (values_from f from n) i 0 ≡ f (from + i)
unfolding values_from
values_at f from zero i h = absurd (not-suc-le-zero h)
values_at f from (suc n) zero h = ap f (omega arith)
values_at f from (suc n) (suc i) h = values_at f (suc from) n i (omega arith) ∙ ap f (omega arith)

values_past : (f : ℕ → ℕ) (from n i : ℕ) → n ≤ i → get_or (values_from f from n) i 0 ≡ 0
unfolding values_from
values_past f from zero i h = refl
values_past f from (suc n) zero h = absurd (not-suc-le-zero h)
values_past f from (suc n) (suc i) h = values_past f (suc from) n i (omega arith)

module _ (hs : List Hold) (r : Ordered hs) where
  -- the holds that were read are the counts, also of a quota that does not exist
  read_holds : (o : Handle) (q : ℕ) → holds_of q (read_entry hs o) ≡ count_of o.serial q hs
  unfolding read_entry
  read_holds o q = go (ltb q QUOTAS) refl
    where
      f : ℕ → ℕ
      f q = count_of o.serial q hs

      none : (n : ℕ) → count_of o.serial q hs ≡ n → QUOTAS ≤ q → 0 ≡ n
      none zero e h = refl
      none (suc n) e h = let x = counted_quota hs r o.serial q (rw e (omega arith)) in absurd (omega arith)

      go : (t : Bool) → ltb q QUOTAS ≡ t → get_or (values_from f 0 QUOTAS) q 0 ≡ count_of o.serial q hs
      go true e = values_at f 0 QUOTAS q (ltb-true q QUOTAS e) ∙ ap f (omega arith)
      go false e = values_past f 0 QUOTAS q (ltb-false q QUOTAS e) ∙ none (count_of o.serial q hs) refl (ltb-false q QUOTAS e)

-- the objects that were read are the objects
read_objects : (hs : List Hold) (os : List Handle) → map (λ (e : Entry). e.object) (map (read_entry hs) os) ≡ os
unfolding read_entry
read_objects hs [] = refl
read_objects hs (o ∷ os) = ap (λ (x : List Handle). o ∷ x) (read_objects hs os)

-- an entry that was read is that of an object
read_member : (hs : List Hold) (os : List Handle) (e : Entry) → Memᴰ e (map (read_entry hs) os) → (o : Handle) × (e ≡ read_entry hs o)
read_member hs [] e m = absurd (Memᴰ.not-nil m)
read_member hs (o ∷ os) e m = go (Memᴰ.cases_cons m) (read_member hs os e)
  where
    go : (e ≡ read_entry hs o) ⊎ Memᴰ e (map (read_entry hs) os) → (Memᴰ e (map (read_entry hs) os) → (o : Handle) × (e ≡ read_entry hs o))
        → (o : Handle) × (e ≡ read_entry hs o)
    go (inl x) ih = (o, x)
    go (inr x) ih = ih x

pub accounted_agrees : (s : List ℕ) (k : Accounts) → allowed (length s) ≡ true → Octets s → accounted s k ≡ true → length k.quotas ≡ QUOTAS
    → ((q : ℕ) → (get_or k.quotas q zero_quota).grant < 2 ^ 32) → Kinded (state_of s k) → Agrees (read_ledger s k) s k
unfolding read_ledger read_entry objects_of quarantined_of
accounted_agrees s k e o c l n f =
    let g = heap_good s k e o c l n (range_serial k f.1) in
    let r = good_ordered (state_of s k) g in
    let same = read_objects k.holds (objects_of s) in
    record {
      extent = e;
      octets = o;
      passes = c;
      quotas = l;
      narrow = n;
      kinded = f;
      kind = refl;
      grants = refl;
      matches =
          record {
            objects = λ x. (λ m. rw same m, λ m. rw same at m);
            once = rw same g.tests.differ;
            quotas = rw (length-map k.quotas (λ (x : Quota). x.grant)) l;
            widths = λ x m. (let y = read_member k.holds (objects_of s) x m in ap (λ (z : Entry). length z.holds) y.1
                ∙ values_length (λ q. count_of y.0.serial q k.holds) 0 QUOTAS);
            holds =
                λ x m q.
                (let y = read_member k.holds (objects_of s) x m in
                ap (holds_of q) y.1 ∙ read_holds k.holds r y.0 q
                ∙ ap (λ (z : Entry). count_of z.object.serial q k.holds) (sym y.1));
          };
      waits = record { both = λ x. (λ m. m, λ m. m); once = spans_once 0 (blocks_of s) };
    }
