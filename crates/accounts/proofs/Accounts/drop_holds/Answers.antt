-- `accounts::Accounts::drop_holds` meets its contract: the map leaves each record as `Hold::dropped` does.
use borrow.Author.Rules.{rules}
use mathlib.Core.Path.{ap}
use Rattle.accounts.specs.Accounts.{HOLDS, zero_hold, with_holds, used, dropped, drop_records}
use Rattle.accounts.proofs.Maps.{mapped}
use Rattle.accounts.proofs.Accounts.drop_holds.Goals as goal

pub returns : goal.returns
unfolding drop_records used
returns c =
    let a = c.args in
    ap (λ hs. with_holds hs a.self)
    (mapped (dropped a.quota) _ (λ x y q called. search rules) a.self.holds c.map-self.result zero_hold HOLDS c.well_formed.0.1.1.1.1.0.1.0.1
    c.map-self.ensures.items)
