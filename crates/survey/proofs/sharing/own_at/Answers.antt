-- `survey::sharing::own_at` meets its contract: a record without a serial is unused, and any other is the quota's own
-- by its number.
use Rattle.std.proofs.Common.{sym, ◌∙◌}
use Rattle.survey.proofs.Owning.{own_unused, own_used}
use Rattle.survey.proofs.sharing.own_at.Goals as goal

pub returns-then-serial_in-eq0 : goal.returns-then-serial_in-eq0
returns-then-serial_in-eq0 c =
    let a = c.args in
    sym (own_unused a.words.now c.requires.1 a.quota a.at c.requires.0 (sym c.serial_in.ensures ∙ c.if-serial_in-eq0.true))

pub returns : goal.returns
returns c =
    let a = c.args in
    rw c.quota_in.ensures
    (sym (own_used a.words.now c.requires.1 a.quota a.at c.requires.0 (λ z. c.if-serial_in-eq0.false (c.serial_in.ensures ∙ z))))
