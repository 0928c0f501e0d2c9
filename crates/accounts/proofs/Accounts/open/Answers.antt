-- `accounts::Accounts::open` meets its contract: the accounts of a plain heap of edition 1, with the numbers of the kind and the edition.
use Rattle.accounts.specs.Accounts.{opened}
use Rattle.accounts.proofs.Accounts.open.Goals as goal

pub returns : goal.returns
unfolding opened
returns c =
    let b = c in
    λ i.
    record {
      quotas = (b.begin-accounts.ensures i).quotas;
      last_serial = (b.begin-accounts.ensures i).last_serial;
      holds = (b.begin-accounts.ensures i).holds;
      kind = c.number.ensures i;
      edition = c.number-2.ensures i;
    }
