-- `accounts::Accounts::remaining` meets its contract: past the table the definition gives zeros.
use native.Mathlib.Omega.{arith}
use mathlib.Core.Path.{◌≡◌, refl, sym}
use lib.ListN.{length}
use Rattle.accounts.specs.Accounts.{QUOTAS, remaining}
use Rattle.accounts.proofs.Laws.{remaining_out}
use Rattle.accounts.proofs.Accounts.remaining.Goals as goal

pub returns-then-number-lt-QUOTAS : goal.returns-then-number-lt-QUOTAS
unfolding remaining
returns-then-number-lt-QUOTAS c = refl

pub returns : goal.returns
returns c =
    let k = c.args.self in
    let long : length k.quotas ≡ QUOTAS = c.well_formed.0.1.1.0.1.0.1 in
    sym (remaining_out c.args.quota k (omega arith))
