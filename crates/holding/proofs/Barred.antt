-- The clearing of permissions by its lines: the check decides first, then the quota's number, and else the accounts are the definition's.
use Rattle.std.specs.Prelude.{Result, Ok, Err}
use Prim.Native.Nat.{ℕ, ◌≤◌, ◌<◌}
use mathlib.Core.Path.{◌≡◌, ap, ◌∙◌}
use mathlib.Core.List.{List, [], ◌∷◌}
use Rattle.accounts.specs.declared.Accounts.{Accounts}
use Rattle.accounts.specs.Accounts.{QUOTAS, left_permissions, clear_permissions}
use Rattle.model.specs.Answers.{verdict_values, amount_of, amount_values}
use Rattle.model.specs.Refusals.{first_refusal, line_3, row_lines}
use Rattle.model.specs.Calls.{check, clear}
use Rattle.model.specs.declared.Refusal.{Refusal}
use Rattle.model.specs.declared.Refusal.TheVariants.{QuotaNumber}
use Rattle.results.specs.Results.{AmountResult}
use Rattle.results.specs.Results.{outcome, amount_outcome}
use Rattle.results.proofs.Lines.{check_refuses, check_accepts, refused_is, accepted_is, line_3_refuses, line_3_passes}
use Rattle.results.proofs.Amounts.{gives}

module _ (unit : ℕ → ℕ) (s : List ℕ) (k : Accounts) (q bits : ℕ) (v : Result (Unit {0}) Refusal) (told : verdict_values v ≡ (check unit s k).values) where
  abbrev Clears : AmountResult → Type 0
  Clears r = amount_outcome s r ≡ clear unit s k q bits

  pub clear_checked : (x : Refusal) → v ≡ Err x → (r : AmountResult) → r ≡ record { accounts = k; answer = Err x } → Clears r
  unfolding clear amount_values row_lines
  clear_checked x e r d = ap (amount_outcome s) d ∙ refused_is _ s k _ x (check_refuses unit s k v told (line_3 q ∷ []) x e)

  module _ (ok : v ≡ Ok tt) where
    pub clear_numbered : QUOTAS ≤ q → (r : AmountResult) → r ≡ record { accounts = k; answer = Err QuotaNumber } → Clears r
    unfolding clear amount_values row_lines
    clear_numbered l r d =
        ap (amount_outcome s) d ∙ refused_is _ s k _ QuotaNumber (check_accepts unit s k v told (line_3 q ∷ []) ok ∙ line_3_refuses q [] l)

    pub clear_gives : q < QUOTAS → (k' : Accounts) (n : ℕ) → k' ≡ clear_permissions q bits k → n ≡ left_permissions q bits k
        → (r : AmountResult) → r ≡ record { accounts = k'; answer = Ok n } → Clears r
    unfolding clear amount_values row_lines first_refusal
    clear_gives l k' n c e r d =
        gives s k' n r d ∙ (λ i. outcome s (c i) (amount_of (e i)))
        ∙ accepted_is _ s k _ (check_accepts unit s k v told (line_3 q ∷ []) ok ∙ line_3_passes q [] l)
