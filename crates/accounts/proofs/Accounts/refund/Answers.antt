-- `accounts::Accounts::refund` meets its contract: the quota is what the closure makes of it.
use borrow.Author.Rules.{rules}
use Rattle.accounts.specs.Accounts.{refund, refunded}
use Rattle.accounts.proofs.Accounts.refund.Goals as goal

pub returns : goal.returns
unfolding refund
returns c = c.change_quota.ensures (refunded c.args.amount) (λ x y called. search rules)
