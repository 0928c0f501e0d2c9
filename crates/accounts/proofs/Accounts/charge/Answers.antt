-- `accounts::Accounts::charge` meets its contract: the quota is what the closure makes of it.
use borrow.Author.Rules.{rules}
use Rattle.accounts.specs.Accounts.{charge, charged}
use Rattle.accounts.proofs.Accounts.charge.Goals as goal

pub returns : goal.returns
unfolding charge
returns c = c.change_quota.ensures (charged c.args.amount) (λ x y called. search rules)
