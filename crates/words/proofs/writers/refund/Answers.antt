-- `words::refund` meets its contract: the remainder becomes what the closure makes of it.
use borrow.Author.Rules.{rules}
use Rattle.accounts.specs.Accounts.{paid_back, refund}
use Rattle.words.proofs.writers.refund.Goals as goal

pub returns : goal.returns
unfolding refund
returns c =
    let both = c.change_remainder.ensures (paid_back c.args.amount) (λ r r' small called. search rules) in record {
      holds = both.0;
      pads = both.1;
    }
