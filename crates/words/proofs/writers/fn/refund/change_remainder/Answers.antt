-- What a refund makes of a remainder: the checked sum, or the remainder where there is none (`back_checked`).
use mathlib.Core.Path.{◌∙◌}
use Rattle.accounts.proofs.Laws.{back_checked}
use Rattle.words.proofs.writers.fn.refund.change_remainder.Goals as goal

pub returns : goal.returns
returns c = c.unwrap_or.ensures ∙ back_checked c.captures.amount c.args.remainder c.checked_add.result c.checked_add.ensures
