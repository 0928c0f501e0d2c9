-- An image that is read on any board: on the one that wrote it, on one that has started anew, on another, whatever
-- went before there. The reader gives back what was written, and a history led to that; what leads on from it joins
-- that history, which is ledger's. Nothing is asked of the accounts: along a history they are as their type has them.
use mathlib.Core.Path.{◌≡◌, refl, sym, subst}
use mathlib.Core.List.{List}
use Prim.Native.Nat.{ℕ}
use lib.ListN.{length}
use Rattle.accounts.specs.declared.Accounts.{Accounts}
use Rattle.rounding.specs.Rounding.{table, Units}
use Rattle.rounding.proofs.Editions.{table_is}
use Rattle.ledger.specs.Ledger.{Ledger, Event}
use Rattle.ledger.specs.History.{by_own, History}
use Rattle.ledger.proofs.Rejoining.{taken_over, history_restorable, history_read, joined_holds}
use Rattle.image_model.specs.declared.Form.{Form}
use Rattle.image_model.specs.Images.{write_image, read_image}
use Rattle.image_model.proofs.Places.{Known}
use Rattle.image_model.proofs.Trips.{write_then_read}
use Rattle.histories.specs.Restores.{written_image, Elsewhere, ReadAnywhere}
use Rattle.histories.proofs.Typing.{restorable_typed}

module _ (tables : ℕ → ℕ → ℕ) (units : (e : ℕ) → Units (tables e)) where
  module _ (begun : Ledger) (early : List Event) (s₁ : List ℕ) (k₁ : Accounts)
      (led : History tables (by_own tables) begun early s₁ k₁) where
    restored : (f : Form) (o h : List ℕ) → Known f → (write_image f o s₁ k₁).refusal ≡ 0 → length h ≡ length s₁
        → Elsewhere tables begun early s₁ k₁ h (read_image (written_image f o s₁ k₁) h)
    restored f o h known saved long =
        let fit = history_restorable tables units begun early s₁ k₁ led in
        let typed = restorable_typed (tables k₁.edition) s₁ k₁ fit in
        subst (Elsewhere tables begun early s₁ k₁ h)
        (sym (write_then_read f o s₁ k₁ h saved known fit.octets typed long))
        (record {
          state = refl;
          again = led;
          ledger = history_read tables units begun early s₁ k₁ led;
          holds = joined_holds tables units begun early s₁ k₁ led;
          goes_on = λ there es k past. (h, k, past, sym long, fit, refl, refl);
          taken_over = taken_over tables (by_own tables) begun early s₁ k₁ led;
        })

  pub read_anywhere_of : ReadAnywhere tables read_image
  read_anywhere_of = record { always = restored }

-- and so of both editions' tables
pub read_anywhere : ReadAnywhere table read_image
read_anywhere = read_anywhere_of table table_is
