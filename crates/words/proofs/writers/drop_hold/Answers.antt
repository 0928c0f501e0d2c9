-- `words::drop_hold` meets its contract.
use mathlib.Core.Path.{ap, ◌∙◌}
use Rattle.accounts.specs.declared.Hold.{Hold}
use Rattle.accounts.specs.Accounts.{drop_hold, put_hold}
use Rattle.words.specs.Words.{accounts_of}
use Rattle.words.proofs.writers.drop_hold.Goals as goal

pub returns : goal.returns
unfolding drop_hold
returns c =
    let z = c in
    let a = z.args in
    record {
      holds = c.put_hold.ensures.holds ∙ ap (λ (h : Hold). put_hold a.at h (accounts_of a.words.now)) z.zero.ensures;
      pads = c.put_hold.ensures.pads;
    }
