-- `accounts::Accounts::hold_at` meets its contract: past the table the definition gives a record of zeros.
use native.Mathlib.Omega.{arith}
use mathlib.Core.Path.{◌≡◌, refl, sym, ◌∙◌}
use lib.ListN.{length}
use Rattle.accounts.specs.Accounts.{HOLDS, hold_at}
use Rattle.accounts.proofs.Laws.{hold_at_out}
use Rattle.accounts.proofs.Accounts.hold_at.Goals as goal

pub returns-then-place-lt-HOLDS : goal.returns-then-place-lt-HOLDS
unfolding hold_at
returns-then-place-lt-HOLDS c = refl

pub returns : goal.returns
returns c =
    let k = c.args.self in
    let long : length k.holds ≡ HOLDS = c.well_formed.0.1.1.1.1.0.1.0.1 in
    c.zero.ensures ∙ sym (hold_at_out c.args.place k (omega arith))
