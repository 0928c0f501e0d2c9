-- `accounts::Accounts::begin` meets its contract: the map gives each place its grant whole, and the rest is as `Accounts::zero` gives it.
use borrow.Author.Rules.{rules}
use mathlib.Core.Path.{ap, ◌∙◌}
use Rattle.accounts.specs.Accounts.{QUOTAS, with_quotas, granted, begun}
use Rattle.accounts.proofs.Maps.{mapped}
use Rattle.accounts.proofs.Accounts.begin.Goals as goal

pub returns : goal.returns
returns c =
    let grants = c.args.grants in
    ap (with_quotas c.map.result) c.zero.ensures
    ∙ ap (λ qs. with_quotas qs (begun grants))
    (mapped granted _ (λ x y q called. search rules) grants c.map.result 0 QUOTAS c.well_formed.0.1.0.1 c.map.ensures.items)
