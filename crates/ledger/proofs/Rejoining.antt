-- Histories after a restore (rule 13.16). What led to a state, and what led on from it, are one history, wherever the
-- two happened. So after an image is read, the state is reached by the image's own history and the events since: on
-- the board that wrote it, where what came in between is gone, and on any other. The ledger read off the state says
-- what the ledger of the image's history says, since both agree with one state.
use mathlib.Core.Path.{◌≡◌, refl, sym, ◌∙◌, subst}
use mathlib.Core.List.{List, [], ◌∷◌, ◌++◌}
use Prim.Native.Nat.{ℕ}
use Rattle.accounts.specs.declared.Accounts.{Accounts}
use Rattle.rounding.specs.Rounding.{Units}
use Rattle.ledger.specs.Ledger.{Ledger, Event, Called, Wrote, Saved, Restored, read_ledger, record_event}
use Rattle.ledger.specs.Ledger.{ledger_of}
use Rattle.ledger.specs.History.{by_own, Run, Restorable, History, Leads}
use Rattle.ledger.specs.Demand3.{Holds}
use Rattle.ledger.specs.Same.{Same}
use Rattle.ledger.proofs.Agreement.{Agrees}
use Rattle.ledger.proofs.Opening.{restored_agrees}
use Rattle.ledger.proofs.Counting.{history_records, history_counts}
use Rattle.ledger.proofs.Fitted.{consistent_of}
use Rattle.ledger.proofs.Theorem.{history_agrees, history_edition, history_fits, history_permissible}
use Rattle.ledger.proofs.Theorem.{demand_3_of}

-- of anything that performs calls: a history is one up to any point, and what led on from there
module _ (tables : ℕ → ℕ → ℕ) (run : Run) (begun : Ledger) (early : List Event) where
  pub splits : (since : List Event) (s : List ℕ) (k : Accounts) → History tables run begun (since ++ early) s k
      → (s₁ : List ℕ) × (k₁ : Accounts) × History tables run begun early s₁ k₁ × Leads tables run s₁ k₁ since s k
  splits [] s k h = (s, k, h, (refl, refl))
  splits (Called c v ∷ since) s k h =
      let r = splits since h.0 h.1 h.2 in
      (r.0, r.1, r.2, (h.0, h.1, r.3, h.3))
  splits (Wrote ∷ since) s k h =
      let r = splits since h.0 k h.1 in
      (r.0, r.1, r.2, (h.0, r.3, h.2))
  splits (Saved s₂ k₂ ∷ since) s k h =
      let r = splits since s k h.0 in
      (r.0, r.1, r.2, (r.3, h.1, h.2))
  splits (Restored s₂ k₂ ∷ since) s k h =
      let r = splits since h.0 h.1 h.2 in
      (r.0, r.1, r.2, (h.0, h.1, r.3, h.3, h.4, h.5, h.6))

  -- and with what led on from there it is one again
  pub joins : (s₁ : List ℕ) (k₁ : Accounts) → History tables run begun early s₁ k₁
      → (since : List Event) (s : List ℕ) (k : Accounts) → Leads tables run s₁ k₁ since s k
      → History tables run begun (since ++ early) s k
  joins s₁ k₁ own [] s k h = rw (h.0, h.1) own
  joins s₁ k₁ own (Called c v ∷ since) s k h = (h.0, h.1, joins s₁ k₁ own since h.0 h.1 h.2, h.3)
  joins s₁ k₁ own (Wrote ∷ since) s k h = (h.0, joins s₁ k₁ own since h.0 k h.1, h.2)
  joins s₁ k₁ own (Saved s₂ k₂ ∷ since) s k h = (joins s₁ k₁ own since s k h.0, h.1, h.2)
  joins s₁ k₁ own (Restored s₂ k₂ ∷ since) s k h =
      (h.0, h.1, joins s₁ k₁ own since h.0 h.1 h.2, h.3, h.4, h.5, h.6)

-- a history led to the state of an image
module _ (tables : ℕ → ℕ → ℕ) (run : Run) (own : Ledger) (early : List Event) (s₁ : List ℕ) (k₁ : Accounts) where
  -- in a history that reads the image it is taken over: this board's own from before is gone
  pub taken_over : History tables run own early s₁ k₁
      → (begun : Ledger) (es since : List Event) (s : List ℕ) (k : Accounts)
      → History tables run begun (since ++ (Restored s₁ k₁ ∷ es)) s k → History tables run own (since ++ early) s k
  taken_over led begun es since s k h =
      let r = splits tables run begun (Restored s₁ k₁ ∷ es) since s k h in
      joins tables run own early r.0 r.1 (rw (r.2.5, r.2.6) led) since s k r.3

  -- the state that an image was written of was reached by what came before
  at_saved : (s : List ℕ) (k : Accounts) → History tables run own (Saved s₁ k₁ ∷ early) s k
      → History tables run own early s₁ k₁
  at_saved s k h = rw (← h.1, ← h.2) h.0

  pub saved_history : (mid : List Event) (s : List ℕ) (k : Accounts)
      → History tables run own (mid ++ (Saved s₁ k₁ ∷ early)) s k → History tables run own early s₁ k₁
  saved_history mid s k h =
      let r = splits tables run own (Saved s₁ k₁ ∷ early) mid s k h in
      at_saved r.0 r.1 r.2

  -- so where the image was written in the very history that reads it, what came between the two is gone
  pub rejoins : (mid since : List Event) (s : List ℕ) (k : Accounts)
      → History tables run own (since ++ (Restored s₁ k₁ ∷ (mid ++ (Saved s₁ k₁ ∷ early)))) s k
      → History tables run own (since ++ early) s k
  rejoins mid since s k h =
      let past = mid ++ (Saved s₁ k₁ ∷ early) in
      let r = (splits tables run own (Restored s₁ k₁ ∷ past) since s k h).2 in
      taken_over (saved_history mid r.0 r.1 r.2) own past since s k h

agree_same : (l m : Ledger) (s : List ℕ) (k : Accounts) → Agrees l s k → Agrees m s k
    → k.edition ≡ l.edition → k.edition ≡ m.edition → Same l m
agree_same l m s k a b e f =
    record {
      kind = sym a.kind ∙ b.kind;
      edition = sym e ∙ f;
      grants = sym a.grants ∙ b.grants;
      objects = λ o. (λ i. (b.matches.objects o).0 ((a.matches.objects o).1 i), λ i. (a.matches.objects o).0 ((b.matches.objects o).1 i));
      holds = λ x y i j e q. a.matches.holds x i q ∙ rw e (sym (b.matches.holds y j q));
      quarantined = λ x. (λ i. (b.waits.both x).0 ((a.waits.both x).1 i), λ i. (a.waits.both x).0 ((b.waits.both x).1 i));
    }

module _ (tables : ℕ → ℕ → ℕ) (units : (e : ℕ) → Units (tables e)) (begun : Ledger) where
  -- every state of a history may be written as an image and restored
  pub history_restorable : (es : List Event) (s : List ℕ) (k : Accounts) → History tables (by_own tables) begun es s k
      → Restorable (tables k.edition) s k
  history_restorable es s k h =
      let a = history_agrees tables units begun es s k h in
      let consistent = consistent_of (tables k.edition) _ s k a (history_fits tables units begun es s k h)
      (history_permissible tables units begun es s k h) in
      record {
        extent = a.extent;
        octets = a.octets;
        consistent = consistent;
        quotas = a.quotas;
        records = history_records tables begun es s k h;
        narrow = a.narrow;
        counts = history_counts tables begun es s k h;
      }

  -- and the ledger read off it says what its ledger says
  pub history_read : (es : List Event) (s : List ℕ) (k : Accounts) → History tables (by_own tables) begun es s k
      → Same (read_ledger s k) (ledger_of begun es)
  unfolding read_ledger
  history_read es s k h =
      agree_same _ _ s k (restored_agrees (tables k.edition) s k (history_restorable es s k h))
      (history_agrees tables units begun es s k h) refl (history_edition tables units begun es s k h)

  -- so after a restore the ledger says what it said when the image was written
  pub rejoined_ledger : (early mid : List Event) (s₁ : List ℕ) (k₁ : Accounts) (s : List ℕ) (k : Accounts)
      → History tables (by_own tables) begun (mid ++ (Saved s₁ k₁ ∷ early)) s k
      → Same (ledger_of begun (Restored s₁ k₁ ∷ (mid ++ (Saved s₁ k₁ ∷ early)))) (ledger_of begun early)
  unfolding ledger_of record_event
  rejoined_ledger early mid s₁ k₁ s k h = history_read early s₁ k₁ (saved_history tables (by_own tables) begun early s₁ k₁ mid s k h)

  -- demand 3 at every split of a history
  split_holds : (es : List Event) (s : List ℕ) (k : Accounts) → History tables (by_own tables) begun es s k
      → (front back : List Event) → es ≡ back ++ front
      → Holds (tables k.edition) (by_own tables) begun front back s k
  split_holds es s k h front back e =
      (demand_3_of tables units).always begun front back s k
      (subst (λ (xs : List Event). History tables (by_own tables) begun xs s k) e h)

  -- and it speaks of the events before the image and those since, at every split of them
  pub rejoined_holds : (early mid since : List Event) (s₁ : List ℕ) (k₁ : Accounts) (s : List ℕ) (k : Accounts)
      → History tables (by_own tables) begun (since ++ (Restored s₁ k₁ ∷ (mid ++ (Saved s₁ k₁ ∷ early)))) s k
      → (front back : List Event) → since ++ early ≡ back ++ front → Holds (tables k.edition) (by_own tables) begun front back s k
  rejoined_holds early mid since s₁ k₁ s k h =
      split_holds (since ++ early) s k (rejoins tables (by_own tables) begun early s₁ k₁ mid since s k h)

  -- so wherever a state of a history comes back to: whatever leads on from it, demand 3 speaks of its history and of
  -- that
  pub joined_holds : (early : List Event) (s₁ : List ℕ) (k₁ : Accounts)
      → History tables (by_own tables) begun early s₁ k₁
      → (since : List Event) (s : List ℕ) (k : Accounts) → Leads tables (by_own tables) s₁ k₁ since s k
      → (front back : List Event) → since ++ early ≡ back ++ front → Holds (tables k.edition) (by_own tables) begun front back s k
  joined_holds early s₁ k₁ led since s k h =
      split_holds (since ++ early) s k (joins tables (by_own tables) begun early s₁ k₁ led since s k h)

  -- and on a board with a history of its own, whatever that was
  pub taken_over_holds : (early : List Event) (s₁ : List ℕ) (k₁ : Accounts)
      → History tables (by_own tables) begun early s₁ k₁
      → (there : Ledger) (es since : List Event) (s : List ℕ) (k : Accounts)
      → History tables (by_own tables) there (since ++ (Restored s₁ k₁ ∷ es)) s k
      → (front back : List Event) → since ++ early ≡ back ++ front → Holds (tables k.edition) (by_own tables) begun front back s k
  taken_over_holds early s₁ k₁ led there es since s k h =
      split_holds (since ++ early) s k (taken_over tables (by_own tables) begun early s₁ k₁ led there es since s k h)
