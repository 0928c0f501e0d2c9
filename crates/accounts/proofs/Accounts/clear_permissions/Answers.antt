-- `accounts::Accounts::clear_permissions` meets its contract: the quota is without the permissions that are cleared.
use borrow.Author.Rules.{rules}
use Rattle.accounts.specs.Accounts.{clear_permissions, without}
use Rattle.accounts.proofs.Accounts.clear_permissions.Goals as goal

pub returns : goal.returns
unfolding clear_permissions
returns c = c.change_quota.ensures (without c.args.bits) (λ x y called. search rules)
