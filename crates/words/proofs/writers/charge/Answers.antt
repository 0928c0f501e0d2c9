-- `words::charge` meets its contract: the remainder becomes what the closure makes of it.
use borrow.Author.Rules.{rules}
use Rattle.accounts.specs.Accounts.{less_paid, charge}
use Rattle.words.proofs.writers.charge.Goals as goal

pub returns : goal.returns
unfolding charge
returns c =
    let both = c.change_remainder.ensures (less_paid c.args.amount) (λ r r' small called. search rules) in record {
      holds = both.0;
      pads = both.1;
    }
