-- Sends with a handle that names nothing (rule 24.2).
use Rattle.std.specs.Prelude.{ℕ, [], ◌∷◌, ◌++◌, true}
use Rattle.accounts.specs.declared.Accounts.{Accounts}
use Rattle.model.specs.Refusals.{◌when◌, first_refusal}
use Rattle.model.specs.declared.Handle.{Handle}
use Rattle.model.specs.declared.Call.TheVariants.{Claim}
use Rattle.safety.specs.Stale.{lines_before_5}
use Rattle.queue.specs.declared.Queue.{Queue}
use Rattle.queue.specs.Queue.{line_53, line_51}

-- what such a send is refused by: a line of the queue, a line of the receiver's claim in front of 5, or 5
unfoldable pub stale_send_refusal : Queue → Handle → Accounts → ℕ
stale_send_refusal u h k =
    first_refusal (line_53 u ∷ line_51 u ∷ (lines_before_5 (Claim u.receiver h) k ++ ((5 when true) ∷ [])))
