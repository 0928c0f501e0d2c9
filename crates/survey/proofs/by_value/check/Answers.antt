-- `survey::check` meets its contract: the verdict is the survey's.
use mathlib.Core.Path.{ap, sym, ◌∙◌}
use Rattle.model.specs.Answers.{verdict_values}
use Rattle.survey.specs.Survey.{verdict_in}
use Rattle.survey.proofs.by_value.check.Goals as goal

pub returns-in-Ok : goal.returns-in-Ok
returns-in-Ok c = ap (λ x. verdict_values (verdict_in x)) (sym c.in-Ok.is) ∙ c.survey_of.ensures.told

pub returns-in-Err : goal.returns-in-Err
returns-in-Err c = ap (λ x. verdict_values (verdict_in x)) (sym c.in-Err.is) ∙ c.survey_of.ensures.told
