-- `holding::claim_again` meets its contract: the test is on the count of the record at the place, and a count below 255 has room for one more.
use mathlib.Core.Path.{ap, ◌∙◌}
use Rattle.holding.specs.Claims.{claimed_length}
use Rattle.holding.proofs.Claims.{again_limit, again_raises}
use Rattle.words.specs.Words.{accounts_of}
use Rattle.holding.proofs.claiming.claim_again.Goals as goal

pub returns-then-hold-clause-holds : goal.returns-then-hold-clause-holds
returns-then-hold-clause-holds c =
    let a = c.args in
    again_limit a.at a.length (accounts_of a.words.now) c.hold_at-hold.result c.hold_at-hold.ensures c.if-hold.true

pub returns-clause-holds : goal.returns-clause-holds
returns-clause-holds c =
    let a = c.args in
    let h = c.hold_at-hold in
    ap (claimed_length a.length) c.put_hold.ensures.holds
    ∙ again_raises a.at a.length (accounts_of a.words.now) h.result h.ensures c.if-hold.false
