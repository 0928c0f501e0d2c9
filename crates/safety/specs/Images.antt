-- A property of the state that a history last took from an image: from the last one that was read in it, or from the one that it begins with. Of a history that
-- begins with an opening and reads no image nothing is asked.
use Rattle.std.specs.Prelude.{ℕ, List, [], ◌∷◌}
use Rattle.accounts.specs.declared.Accounts.{Accounts}
use Rattle.ledger.specs.Ledger.{Ledger, Event, Called, Wrote, Saved, Restored}
use Rattle.ledger.specs.History.{Run, Begins, Opening, Restoring, History}

module _ (tables : ℕ → ℕ → ℕ) (run : Run) (begun : Ledger) (P : List ℕ → Accounts → Type 0) where
  abbrev pub AtBeginning : (s : List ℕ) (k : Accounts) → Begins tables begun s k → Type 0
  AtBeginning s k (Opening g grants e o) = Unit {0}
  AtBeginning s k (Restoring e r) = P s k

  abbrev pub AtLastImage : (es : List Event) (s : List ℕ) (k : Accounts) → History tables run begun es s k → Type 0
  AtLastImage [] s k h = AtBeginning s k h
  AtLastImage (Called c v ∷ es) s k h = AtLastImage es h.0 h.1 h.2
  AtLastImage (Wrote ∷ es) s k h = AtLastImage es h.0 k h.1
  AtLastImage (Saved s₀ k₀ ∷ es) s k h = AtLastImage es s k h.0
  AtLastImage (Restored s₁ k₁ ∷ es) s k h = P s k
