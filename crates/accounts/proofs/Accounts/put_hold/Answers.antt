-- `accounts::Accounts::put_hold` meets its contract: past the table the definition stores nothing.
use native.Mathlib.Omega.{arith}
use mathlib.Core.Path.{◌≡◌, refl, sym}
use lib.ListN.{length}
use Rattle.accounts.specs.Accounts.{HOLDS, put_hold}
use Rattle.accounts.proofs.Laws.{put_out}
use Rattle.accounts.proofs.Accounts.put_hold.Goals as goal

pub returns-then-at-lt-HOLDS : goal.returns-then-at-lt-HOLDS
unfolding put_hold
returns-then-at-lt-HOLDS c = refl

pub returns-else-at-lt-HOLDS : goal.returns-else-at-lt-HOLDS
returns-else-at-lt-HOLDS c =
    let a = c.args in
    let long : length a.self.holds ≡ HOLDS = c.well_formed.0.1.1.1.1.0.1.0.1 in
    sym (put_out a.at a.hold a.self (omega arith))
