use Rattle.std.proofs.Common.{sym, ◌∙◌, arith}
use Rattle.audit.proofs.Tables.{zero_more, zero_end}
use Rattle.survey.proofs.paying.is_paid.Goals as goal

pub loop-due-preserved : goal.loop-due-preserved
loop-due-preserved c =
    let l = c.loop-due in
    l.invariant ∙ zero_more l.bits c.args.owed.now l.due-index (omega (arith, c.told-owed))

pub returns : goal.returns
returns c =
    let l = c.loop-due in
    sym (l.invariant ∙ zero_end l.bits c.args.owed.now l.due-index (omega arith))
