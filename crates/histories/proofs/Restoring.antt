-- Images in a history (rules, section 13). An image that is read gives back a state that may be restored, so the history goes on with it, and a state that
-- no history led to is a beginning. An image that was written in the history and is read gives back the heap and the accounts written, so the history is
-- that of the image and of the events since. A refused read changes nothing, and the history goes on with the accounts from before.
-- The reader gives back what the writer wrote, which is image_model's; a history with an image read is one without what came in between, which is ledger's.
use mathlib.Core.Path.{◌≡◌, refl, ap, sym, subst}
use mathlib.Core.List.{List, [], ◌∷◌, ◌++◌}
use Prim.Native.Nat.{ℕ, zero, suc}
use lib.ListN.{length}
use Rattle.accounts.specs.declared.Accounts.{Accounts}
use Rattle.rounding.specs.Rounding.{table, Units}
use Rattle.layout.specs.Bytes.{Octets}
use Rattle.ledger.specs.Ledger.{Ledger, Event, Saved, Restored, read_ledger}
use Rattle.ledger.specs.History.{Run, by_own, Restorable, Restoring, History}
use Rattle.ledger.specs.Demand3.{Holds}
use Rattle.ledger.proofs.Lengths.{saved_as_long}
use Rattle.ledger.proofs.Rejoining.{saved_history, history_restorable, rejoined_ledger, rejoined_holds}
use Rattle.image_model.specs.declared.Form.{Form}
use Rattle.image_model.specs.Answers.{RestoredTo}
use Rattle.image_model.specs.Stream.{form_2, image_of}
use Rattle.image_model.specs.Images.{write_image, read_image, Accepts}
use Rattle.image_model.proofs.Places.{Known, known_2, full_carries}
use Rattle.image_model.proofs.Refusals.{refused_read, accepted_read}
use Rattle.image_model.proofs.Read.{read_written}
use Rattle.image_model.proofs.Written.{written_read}
use Rattle.image_model.proofs.Trips.{write_then_read}
use Rattle.histories.specs.Restores.{written_image, Continues}
use Rattle.histories.proofs.Typing.{restorable_typed}

module _ (i h : List ℕ) (octets : Octets i) (accepted : (read_image i h).refusal ≡ 0) where
  -- what an image gives back may be restored
  pub accepted_restorable : Restorable (table (read_image i h).accounts.edition) (read_image i h).heap (read_image i h).accounts
  accepted_restorable =
      let a = (read_written i h octets accepted).0 in
      rw (accepted_read i h accepted) (record {
        extent = a.extent;
        octets = a.octets;
        consistent = a.consistent;
        quotas = a.typed.quotas;
        records = a.typed.holds;
        narrow = a.typed.grant;
        counts = a.typed.count;
      })

  -- and is as long as the lent heap
  accepted_length : length (read_image i h).heap ≡ length h
  accepted_length = rw (accepted_read i h accepted) (sym (read_written i h octets accepted).2)

  -- so it is a beginning, with the ledger that is read off it
  pub restored_begins : (run : Run)
      → History table run (read_ledger (read_image i h).heap (read_image i h).accounts) [] (read_image i h).heap (read_image i h).accounts
  restored_begins run = Restoring refl accepted_restorable

  -- and a history goes on with it
  pub restored_goes_on : (run : Run) (begun : Ledger) (es : List Event) (k : Accounts) → History table run begun es h k
      → History table run begun (Restored (read_image i h).heap (read_image i h).accounts ∷ es) (read_image i h).heap (read_image i h).accounts
  restored_goes_on run begun es k past = (h, k, past, accepted_length, accepted_restorable, refl, refl)

-- and what may be restored is what an image gives back, of form 2: a history begins with no other states
pub restorable_given : (s : List ℕ) (k : Accounts) → Restorable (table k.edition) s k
    → read_image (image_of form_2 s k) s ≡ record { heap = s; accounts = k; refusal = 0 }
unfolding form_2
restorable_given s k r =
    let a : Accepts form_2 s k =
    record {
      known = known_2;
      extent = r.extent;
      octets = r.octets;
      consistent = r.consistent;
      typed = restorable_typed (table k.edition) s k r;
      carried = full_carries form_2 k refl;
    } in
    written_read form_2 s k a s refl

-- a refused read leaves the heap, so the history goes on with the accounts from before
pub refused_keeps : (i s : List ℕ) → ((read_image i s).refusal ≡ 0 → ⊥) → (read_image i s).heap ≡ s
refused_keeps i s f = go (read_image i s).refusal refl
  where
    go : (n : ℕ) → (read_image i s).refusal ≡ n → (read_image i s).heap ≡ s
    go zero e = absurd (f e)
    go (suc n) e = ap (λ (r : RestoredTo). r.heap) (refused_read i s n e)

pub refused_goes_on : (tables : ℕ → ℕ → ℕ) (i s : List ℕ) (run : Run) (begun : Ledger) (es : List Event) (k : Accounts) → ((read_image i s).refusal ≡ 0 → ⊥)
    → History tables run begun es s k → History tables run begun es (read_image i s).heap k
refused_goes_on tables i s run begun es k f past = rw (refused_keeps i s f) past

-- a written image is an event of the history, and changes nothing
pub saved_goes_on : (tables : ℕ → ℕ → ℕ) (run : Run) (begun : Ledger) (es : List Event) (s : List ℕ) (k : Accounts) → History tables run begun es s k
    → History tables run begun (Saved s k ∷ es) s k
saved_goes_on tables run begun es s k past = (past, refl, refl)

module _ (tables : ℕ → ℕ → ℕ) (units : (e : ℕ) → Units (tables e)) (begun : Ledger) (early mid : List Event) (s₁ : List ℕ) (k₁ : Accounts) where
  -- at any later point of the history the image is accepted
  pub restore_continues : (s : List ℕ) (k : Accounts) → History tables (by_own tables) begun (mid ++ (Saved s₁ k₁ ∷ early)) s k
      → (f : Form) (o : List ℕ) → Known f → (write_image f o s₁ k₁).refusal ≡ 0
      → Continues tables begun early s₁ k₁ mid (read_image (written_image f o s₁ k₁) s)
  restore_continues s k past f o known saved =
      let own = saved_history tables (by_own tables) begun early s₁ k₁ mid s k past in
      let fit = history_restorable tables units begun early s₁ k₁ own in
      let typed = restorable_typed (tables k₁.edition) s₁ k₁ fit in
      let long = saved_as_long tables units begun early s₁ k₁ mid s k past in
      subst (Continues tables begun early s₁ k₁ mid)
      (sym (write_then_read f o s₁ k₁ s saved known fit.octets typed long))
      (record {
        state = refl;
        goes_on = (s, k, past, sym long, fit, refl, refl);
        again = own;
        ledger = rejoined_ledger tables units begun early mid s₁ k₁ s k past;
      })

  -- and whatever happens since, demand 3 speaks of the image's history and of that
  pub restore_holds : (since : List Event) (s : List ℕ) (k : Accounts)
      → History tables (by_own tables) begun (since ++ (Restored s₁ k₁ ∷ (mid ++ (Saved s₁ k₁ ∷ early)))) s k
      → (front back : List Event) → since ++ early ≡ back ++ front → Holds (tables k.edition) (by_own tables) begun front back s k
  restore_holds since s k past = rejoined_holds tables units begun early mid since s₁ k₁ s k past
