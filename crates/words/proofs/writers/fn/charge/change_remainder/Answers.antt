-- What a charge makes of a remainder: the checked difference, or the remainder where there is none (`less_checked`).
use mathlib.Core.Path.{◌∙◌}
use Rattle.accounts.proofs.Laws.{less_checked}
use Rattle.words.proofs.writers.fn.charge.change_remainder.Goals as goal

pub returns : goal.returns
returns c = c.unwrap_or.ensures ∙ less_checked c.captures.amount c.args.remainder c.checked_sub.result c.checked_sub.ensures
