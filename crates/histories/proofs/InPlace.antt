-- A restore where a heap and its accounts are in use (rule 13.19). A refused one leaves both, so the history goes on
-- with the same events; an accepted one is the event of a history.
use mathlib.Core.Path.{◌≡◌, refl}
use mathlib.Core.List.{List, ◌∷◌}
use Prim.Native.Nat.{ℕ, zero, suc}
use Rattle.accounts.specs.declared.Accounts.{Accounts}
use Rattle.rounding.specs.Rounding.{table}
use Rattle.layout.specs.Bytes.{Octets}
use Rattle.ledger.specs.Ledger.{Ledger, Event, Restored}
use Rattle.ledger.specs.History.{Run, History}
use Rattle.image_model.specs.Answers.{RestoredTo}
use Rattle.image_model.specs.Images.{read_image, kept_unless, restore_image}
use Rattle.image_model.proofs.Refusals.{refused_read}
use Rattle.histories.proofs.Restoring.{restored_goes_on}

module _ (i s : List ℕ) (k : Accounts) where
  -- accepted, it leaves what the reader gives
  pub restore_read : (read_image i s).refusal ≡ 0 → restore_image i s k ≡ read_image i s
  unfolding restore_image kept_unless
  restore_read e =
      let r = read_image i s in
      λ j. record { heap = r.heap; accounts = kept_unless (e j) k r.accounts; refusal = r.refusal }

  -- refused, heap and accounts are as they were
  pub restore_keeps : (n : ℕ) → (read_image i s).refusal ≡ suc n
      → restore_image i s k ≡ record { heap = s; accounts = k; refusal = suc n }
  unfolding restore_image kept_unless
  restore_keeps n e =
      let q = refused_read i s n e in
      λ j. record { heap = (q j).heap; accounts = kept_unless (q j).refusal k (q j).accounts; refusal = (q j).refusal }

-- the events behind a restore: the restore itself where it is accepted, none where it is refused
unfoldable pub restored_behind : ℕ → Event → List Event → List Event
restored_behind zero e es = e ∷ es
restored_behind (suc n) e es = es

abbrev pub events_behind : RestoredTo → List Event → List Event
events_behind r es = restored_behind r.refusal (Restored r.heap r.accounts) es

-- accepted or refused, the history goes on with what the restore leaves
pub restore_goes_on : (run : Run) (begun : Ledger) (es : List Event) (i s : List ℕ) (k : Accounts) → Octets i
    → History table run begun es s k
    → History table run begun (events_behind (restore_image i s k) es) (restore_image i s k).heap
    (restore_image i s k).accounts
unfolding restored_behind
restore_goes_on run begun es i s k octets past = go (read_image i s).refusal refl
  where
    go : (n : ℕ) → (read_image i s).refusal ≡ n
        → History table run begun (events_behind (restore_image i s k) es) (restore_image i s k).heap
        (restore_image i s k).accounts
    go zero e = rw (restore_read i s k e, e) (restored_goes_on i s octets e run begun es k past)
    go (suc n) e = rw (restore_keeps i s k n e) past
