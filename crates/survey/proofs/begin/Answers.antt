-- `survey::begin` meets its contract: numbers that are not in range, a record that is not well-formed or a quota that
-- is not solvent are refused with whatever heap.
use Rattle.std.proofs.Common.{rules}
use Rattle.rounding.specs.Rounding.{table}
use Rattle.words.specs.Words.{edition_of, accounts_of}
use Rattle.words.proofs.Words.{quotas_long}
use Rattle.survey.specs.Clauses.{Refuses}
use Rattle.survey.proofs.Judgement.{verdict_range, verdict_ill, verdict_insolvent}
use Rattle.survey.proofs.begin.Goals as goal

pub returns-in_err-numbers : goal.returns-in_err-numbers
returns-in_err-numbers c =
    let w = c.args.words.now in
    let f : Refuses w = λ s a. verdict_range (table (edition_of w)) s (accounts_of w) a c.in_err-numbers.ensures in
    search rules

pub returns-in_err-low : goal.returns-in_err-low
returns-in_err-low c =
    let w = c.args.words.now in
    let f : Refuses w =
    λ s a. verdict_ill (table (edition_of w)) s (accounts_of w) a c.in_ok-numbers.ensures.0 (quotas_long w) c.in_err-low.ensures in
    search rules

pub returns-then-not-owing : goal.returns-then-not-owing
returns-then-not-owing c =
    let w = c.args.words.now in
    λ s a. verdict_insolvent (table (edition_of w)) s (accounts_of w) a c.in_ok-numbers.ensures.0 (quotas_long w) c.if-not-owing.ensures
