-- What `write_object` leaves is a heap that was written inside live objects alone, so a history goes on with it. The byte stands in the handle's range, and
-- so in the object that the handle names; a refused write, and one at or beyond the range's length, leaves the heap as it is.
use Prim.Native.Nat.{ℕ, zero, suc, ◌+◌, ◌<◌}
use native.Mathlib.Omega.{arith}
use mathlib.Core.Path.{◌≡◌, refl}
use mathlib.Core.List.{List, [], ◌∷◌}
use mathlib.Core.Bool.{Bool, true, false, cond}
use lib.ListN.{set, length-set}
use lib.Seq.{get_or-set_other}
use lib.Dec.{ltb}
use borrow.Author.Tests.{ltb-true}
use Rattle.accounts.specs.declared.Accounts.{Accounts}
use Rattle.rounding.specs.Rounding.{Units}
use Rattle.layout.specs.Bytes.{Octets}
use Rattle.model.specs.Refusals.{first_refusal, lend_lines}
use Rattle.model.specs.Calls.{Outcome}
use Rattle.model.specs.declared.Handle.{Handle}
use Rattle.model.proofs.Refusals.{unless_has, unless_where}
use Rattle.ledger.specs.Ledger.{Ledger, Event, Wrote}
use Rattle.ledger.specs.History.{by_own, Written, History}
use Rattle.ledger.proofs.LentParts.{range_inside}
use Rattle.ledger.proofs.Theorem.{history_agrees}
use Rattle.queries.specs.Lending.{written, write_object}

-- a byte at a place of bytes leaves bytes
octets_set : (s : List ℕ) (i b : ℕ) → b < 256 → Octets s → Octets (set s i b)
octets_set [] i b h o = o
octets_set (x ∷ s) zero b h o = elim [ zero ↦ h | suc j ↦ o (suc j) ]
octets_set (x ∷ s) (suc i) b h o = elim [ zero ↦ o 0 | suc j ↦ octets_set s i b h (λ n. o (suc n)) j ]

module _ (unit : ℕ → ℕ) (s : List ℕ) (k : Accounts) (h : Handle) (at byte : ℕ) where
  -- the accounts stay
  pub write_accounts : (write_object unit s k h at byte).accounts ≡ k
  unfolding write_object
  write_accounts = unless_has (λ (t : Outcome). t.accounts ≡ k) (first_refusal (lend_lines unit s k h)) s k _ refl (λ n. refl)

  module _ (octets : Octets s) (small : byte < 256) where
    same : Written s s
    same = record { same_length = refl; octets = octets; inside = λ i e. refl }

    -- the byte stands in the handle's range, which lies in the object
    byte_written : first_refusal (lend_lines unit s k h) ≡ 0 → Written s (written s h at byte)
    unfolding written
    byte_written e = go (ltb at h.length) refl
      where
        go : (t : Bool) → ltb at h.length ≡ t → Written s (cond t (set s (h.base + at) byte) s)
        go true l =
            record {
              same_length = length-set s (h.base + at) byte;
              octets = octets_set s (h.base + at) byte small octets;
              inside =
                  λ i out.
                  get_or-set_other s (h.base + at) i byte 0
                  (λ q. range_inside unit s k h e i out (omega arith) (omega (arith, ltb-true at h.length l)));
            }
        go false l = same

    pub write_written : Written s (write_object unit s k h at byte).heap
    unfolding write_object
    write_written = unless_where (λ (t : Outcome). Written s t.heap) (first_refusal (lend_lines unit s k h)) s k _ byte_written (λ n. same)

-- a history goes on with a write, accepted or refused
module _ (tables : ℕ → ℕ → ℕ) (units : (e : ℕ) → Units (tables e)) (begun : Ledger) (es : List Event) (s : List ℕ) (k : Accounts)
    (past : History tables (by_own tables) begun es s k) where
  pub write_history : (h : Handle) (at byte : ℕ) → byte < 256
      → History tables (by_own tables) begun (Wrote ∷ es) (write_object (tables k.edition) s k h at byte).heap
      (write_object (tables k.edition) s k h at byte).accounts
  write_history h at byte small = (
    s,
    rw (write_accounts (tables k.edition) s k h at byte) past,
    write_written (tables k.edition) s k h at byte
        (history_agrees tables units begun es s k past).octets small,
  )
