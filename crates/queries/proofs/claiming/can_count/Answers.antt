-- `queries::can_count` meets its contract: the test is on the count of the record at the place, as in a claim.
use mathlib.Core.Path.{ap}
use Rattle.model.specs.Answers.{verdict_values, amount_values}
use Rattle.holding.proofs.Claims.{again_limit, again_raises}
use Rattle.words.specs.Words.{accounts_of}
use Rattle.queries.specs.Claimable.{refusal_in}
use Rattle.queries.proofs.claiming.can_count.Goals as goal

pub returns-then-hold : goal.returns-then-hold
unfolding verdict_values amount_values
returns-then-hold c n =
    let a = c.args in
    let h = c.hold_at-hold in
    ap refusal_in (again_limit a.at n (accounts_of a.words.now) h.result h.ensures c.if-hold.true)

pub returns : goal.returns
unfolding verdict_values amount_values
returns c n =
    let a = c.args in
    let h = c.hold_at-hold in
    ap refusal_in (again_raises a.at n (accounts_of a.words.now) h.result h.ensures c.if-hold.false)
