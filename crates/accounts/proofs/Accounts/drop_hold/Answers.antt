-- `accounts::Accounts::drop_hold` meets its contract: it stores a record of zeros.
use mathlib.Core.Path.{ap, ◌∙◌}
use Rattle.accounts.specs.declared.Hold.{Hold}
use Rattle.accounts.specs.Accounts.{put_hold, drop_hold}
use Rattle.accounts.proofs.Accounts.drop_hold.Goals as goal

pub returns : goal.returns
unfolding drop_hold
returns c =
    let start = c in
    c.put_hold.ensures ∙ ap (λ (h : Hold). put_hold start.args.at h start.args.self) c.zero.ensures
