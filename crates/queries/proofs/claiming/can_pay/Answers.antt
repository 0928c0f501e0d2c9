-- `queries::can_pay` meets its contract: the charge is compared with the remainder, and then the lowest unused record is asked for, as in a claim.
use Prim.Native.Nat.{◌≤◌}
use native.Mathlib.Omega.{arith}
use mathlib.Core.Path.{ap}
use Rattle.accounts.specs.Accounts.{remaining}
use Rattle.model.specs.Consistent.{charge_of}
use Rattle.model.specs.Answers.{verdict_values, amount_values}
use Rattle.holding.proofs.Claims.{first_short, first_full, first_takes}
use Rattle.words.specs.Words.{accounts_of}
use Rattle.queries.specs.Claimable.{refusal_in}
use Rattle.queries.proofs.claiming.can_pay.Goals as goal

pub returns-then-remaining-charge : goal.returns-then-remaining-charge
unfolding verdict_values amount_values
returns-then-remaining-charge c h =
    let a = c.args in
    ap refusal_in (first_short a.quota h a.length (accounts_of a.words.now) (omega (arith, c.if-remaining-charge.true, c.remaining.ensures)))

pub returns-in_default : goal.returns-in_default
unfolding verdict_values amount_values
returns-in_default c h =
    let a = c.args in
    let k = accounts_of a.words.now in
    let enough : charge_of a.length ≤ remaining a.quota k = omega (arith, c.if-remaining-charge.false, c.remaining.ensures) in
    ap refusal_in (first_full a.quota h a.length k enough a.unused c.requires.1 c.in_default.is)

pub returns : goal.returns
unfolding verdict_values amount_values
returns c h =
    let a = c.args in
    let k = accounts_of a.words.now in
    let enough : charge_of a.length ≤ remaining a.quota k = omega (arith, c.if-remaining-charge.false, c.remaining.ensures) in
    ap refusal_in (first_takes a.quota h a.length k enough a.unused c.requires.1 _ c.in-Some.is)
