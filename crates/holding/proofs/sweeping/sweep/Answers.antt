-- `holding::sweep` meets its contract. The refusal is the survey's. Past it the heap is that of its blocks, so the walk may start, and leaves the swept blocks.
use Rattle.std.proofs.lemmas.Result.{err_from_is_err_and}
use native.Mathlib.Omega.{arith}
use mathlib.Core.Path.{refl, ap}
use Rattle.rounding.specs.Rounding.{table}
use Rattle.layout.specs.Bytes.{Octets}
use Rattle.results.proofs.Lines.{check_accounted}
use Rattle.words.specs.Words.{edition_of, accounts_of}
use Rattle.survey.specs.Survey.{verdict_in}
use Rattle.holding.specs.Sweeping.{Sweepable}
use Rattle.holding.proofs.SweptAll.{sweep_refuses, sweepable, sweep_gives}
use Rattle.holding.proofs.sweeping.sweep.Goals as goal
use Rattle.holding.proofs.sweeping.sweep.Goals.{In_ok-survey}

-- the heap's bytes are bytes
octets : (c : In_ok-survey) → Octets c.args.heap.now
octets c i = (c.slice_known-1.given i).fits

-- there the walk may start
starts : (c : In_ok-survey) → Sweepable c.args.heap.now
starts c =
    let a = c.args in
    let w = a.words.now in
    sweepable (table (edition_of w)) a.heap.now (accounts_of w) (octets c)
    (check_accounted (table (edition_of w)) a.heap.now (accounts_of w) (verdict_in c.survey.result) c.survey.ensures.told (ap verdict_in c.in_ok-survey.was))

pub returns-in_err-survey : goal.returns-in_err-survey
returns-in_err-survey c =
    let a = c.args in
    let w = a.words.now in
    let p = err_from_is_err_and c.from_residual.result c.from_residual.ensures.1 in
    rw (p.1, p.2) (sweep_refuses (table (edition_of w)) a.heap.now (accounts_of w) (verdict_in c.survey.result) c.survey.ensures.told _ _ refl
    (ap verdict_in c.in_err-survey.was))

pub sweep_blocks-sum-requires : goal.sweep_blocks-sum-requires
sweep_blocks-sum-requires c = starts (goal.at.sweep_blocks-sum-requires c).In_ok-survey

pub overflow_cast-result : goal.overflow_cast-result
overflow_cast-result c =
    let p = starts (goal.at.overflow_cast-result c).In_ok-survey in
    omega (arith, (c.sweep_blocks-sum.ensures p.0 p.1).2)

pub returns : goal.returns
returns c =
    let a = c.args in
    let w = a.words.now in
    sweep_gives (table (edition_of w)) a.heap.now (accounts_of w) (octets (goal.at.returns c).In_ok-survey) (verdict_in c.survey.result)
    c.survey.ensures.told (ap verdict_in c.in_ok-survey.was) _ c.sweep_blocks-sum.result c.sweep_blocks-sum.ensures _ refl
