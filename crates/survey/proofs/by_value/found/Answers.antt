-- `survey::by_value::found` meets its contract.
use Rattle.std.specs.Prelude.{Some}
use Rattle.std.proofs.Common.{sym, ap, ◌∙◌}
use Rattle.survey.specs.Survey.{block_of}
use Rattle.survey.proofs.by_value.found.Goals as goal

pub returns-then-not-is_named : goal.returns-then-not-is_named
unfolding block_of
returns-then-not-is_named c = rw (sym c.is_named.ensures ∙ c.if-not-is_named.true)

pub returns : goal.returns
unfolding block_of
returns c = rw (sym c.is_named.ensures ∙ c.if-not-is_named.false) (ap Some c.block_at.ensures)
