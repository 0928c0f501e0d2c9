-- `holding::claim_first` meets its contract: the charge is compared with the remainder, then the lowest unused record is asked for, and only then the quota
-- pays and the record is stored.
use native.Mathlib.Omega.{arith}
use mathlib.Core.Path.{ap, ◌∙◌}
use Rattle.accounts.specs.declared.Accounts.{Accounts}
use Rattle.accounts.specs.Accounts.{put_hold}
use Rattle.holding.specs.Claims.{claimed_length}
use Rattle.holding.proofs.Claims.{first_short, first_full, first_takes}
use Rattle.words.specs.Words.{accounts_of}
use Rattle.holding.proofs.claiming.claim_first.Goals as goal

pub returns-then-remaining-charge-clause-holds : goal.returns-then-remaining-charge-clause-holds
returns-then-remaining-charge-clause-holds c =
    let a = c.args in
    first_short a.quota a.hold a.length (accounts_of a.words.now) (omega (arith, c.if-remaining-charge.true, c.remaining.ensures))

pub returns-in_default-clause-holds : goal.returns-in_default-clause-holds
returns-in_default-clause-holds c =
    let a = c.args in
    first_full a.quota a.hold a.length (accounts_of a.words.now) (omega (arith, c.if-remaining-charge.false, c.remaining.ensures))
    a.unused c.requires.1 c.in_default.is

pub returns-clause-holds : goal.returns-clause-holds
returns-clause-holds c =
    let a = c.args in
    ap (claimed_length a.length) (c.put_hold.ensures.holds ∙ ap (λ (k : Accounts). put_hold c.in-Some.at a.hold k) c.charge.ensures.holds)
    ∙ first_takes a.quota a.hold a.length (accounts_of a.words.now) (omega (arith, c.if-remaining-charge.false, c.remaining.ensures))
    a.unused c.requires.1 c.in-Some.at c.in-Some.is
