-- A handle that names nothing, in the two calls that are no `Call` of a history and take a handle: a write is refused
-- by 5, and can claim as the claim would be. `stale_forever` (safety) says when a handle names nothing: once its object
-- has left, until an image is read.
use Prim.Native.Nat.{ℕ}
use mathlib.Core.Path.{◌≡◌, refl, ap, sym, ◌∙◌}
use mathlib.Core.List.{List}
use mathlib.Core.Bool.{false}
use Rattle.accounts.specs.declared.Accounts.{Accounts}
use Rattle.lists.specs.Lists.{any}
use Rattle.model.specs.Answers.{refused}
use Rattle.model.specs.Refusals.{line_holds, first_refusal, lend_lines}
use Rattle.model.specs.Calls.{Outcome, unchanged}
use Rattle.model.specs.Step.{step}
use Rattle.model.specs.declared.Handle.{Handle}
use Rattle.model.specs.declared.Call.TheVariants.{Claim, Lend}
use Rattle.model.proofs.Refusals.{by_lines, refusal_of_lines, unless_refused}
use Rattle.ledger.specs.History.{by_own}
use Rattle.safety.specs.Stale.{lines_before_5, stale_refusal, NamesNothing}
use Rattle.queries.specs.Claimable.{can_claim}
use Rattle.queries.specs.Lending.{write_object}

module _ (tables : ℕ → ℕ → ℕ) (s : List ℕ) (k : Accounts) (h : Handle)
    (nothing : NamesNothing (by_own tables) s k h) where
  -- rule 24.2: write goes by the lines of lend
  lend_refused : first_refusal (lend_lines (tables k.edition) s k h) ≡ 5
  unfolding stale_refusal lines_before_5 first_refusal
  lend_refused =
      sym (refusal_of_lines (by_lines (tables k.edition) (Lend h) s k))
      ∙ ap (λ (t : Outcome). t.values.refusal) (nothing.refuses (Lend h) refl)

  pub stale_write : (at byte : ℕ) → write_object (tables k.edition) s k h at byte ≡ unchanged s k (refused 5)
  unfolding write_object
  stale_write at byte = unless_refused _ 4 s k _ lend_refused

  -- can claim answers what the claim would be refused by, and 5 where no line in front of 5 holds
  pub stale_can_claim : (q : ℕ)
      → can_claim (tables k.edition) s k q h ≡ unchanged s k (refused (stale_refusal (Claim q h) k))
  unfolding step
  stale_can_claim q =
      ap (λ (t : Outcome). unchanged s k (refused t.values.refusal)) (nothing.refuses (Claim q h) refl)

  pub stale_can_claim_by_5 : (q : ℕ) → any line_holds (lines_before_5 (Claim q h) k) ≡ false
      → can_claim (tables k.edition) s k q h ≡ unchanged s k (refused 5)
  unfolding step
  stale_can_claim_by_5 q e =
      ap (λ (t : Outcome). unchanged s k (refused t.values.refusal)) (nothing.by_5 (Claim q h) refl e)
