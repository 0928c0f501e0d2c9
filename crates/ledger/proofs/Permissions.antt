-- Permissions along a history (rule 15.7): from any point of it to a later one no quota gets a permission that it lacked, unless an image is read in between.
-- Each call sets none, which is model's; the other events leave the accounts.
use Prim.Native.Nat.{ℕ}
use mathlib.Core.Path.{◌≡◌, ap, ◌∙◌}
use mathlib.Core.List.{List, [], ◌∷◌, ◌++◌}
use mathlib.Core.Bool.{true, false≢true}
use Rattle.accounts.specs.declared.Accounts.{Accounts}
use Rattle.accounts.specs.Accounts.{permits}
use Rattle.model.specs.Calls.{Outcome}
use Rattle.model.proofs.Permissions.{IsBit, step_sets_none}
use Rattle.ledger.specs.Ledger.{Ledger, Event, Called, Wrote, Saved, Restored, unrestored}
use Rattle.ledger.specs.History.{by_own, History}

-- every permission that a quota has in k it had in k₀
abbrev pub SetsNone : Accounts → Accounts → Type 0
SetsNone k₀ k = (j bit : ℕ) → IsBit bit → permits bit j k ≡ true → permits bit j k₀ ≡ true

module _ (tables : ℕ → ℕ → ℕ) (begun : Ledger) (front : List Event) where
  pub history_sets_none : (back : List Event) (s : List ℕ) (k : Accounts) → History tables (by_own tables) begun (back ++ front) s k → unrestored back ≡ true
      → (s₀ : List ℕ) × (k₀ : Accounts) × History tables (by_own tables) begun front s₀ k₀ × SetsNone k₀ k
  unfolding unrestored
  history_sets_none [] s k h u = (s, k, h, λ j bit b e. e)
  history_sets_none (Called c v ∷ es) s k h u =
      let w = history_sets_none es h.0 h.1 h.2 u in (
        w.0,
        w.1,
        w.2,
        λ j bit b e. w.3 j bit b (step_sets_none (tables h.1.edition) c h.0 h.1 j bit b
            (ap (λ (t : Outcome). permits bit j t.accounts) h.3 ∙ e)),
      )
  history_sets_none (Wrote ∷ es) s k h u = history_sets_none es h.0 k h.1 u
  history_sets_none (Saved s₀ k₀ ∷ es) s k h u = history_sets_none es s k h.0 u
  history_sets_none (Restored s₁ k₁ ∷ es) s k h u = absurd (false≢true u)
