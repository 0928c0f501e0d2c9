-- `survey::sharing::shared_at` meets its contract: another quota holds the object exactly if the path leads to a record
-- of one.
use Rattle.std.proofs.Common.{◌≡◌, ℕ, is_some, not, eqb, rules, sym, ap, ◌∙◌}
use borrow.Author.Tests.{not-true, not-false}
use Rattle.lists.specs.Lists.{any}
use Rattle.words.specs.Words.{hold_in, holds_of}
use Rattle.survey.specs.Survey.{shares}
use Rattle.survey.specs.Clauses.{sought}
use Rattle.survey.specs.Shares.{is_shared}
use Rattle.survey.proofs.Owning.{shared_own, shared_by}
use Rattle.survey.proofs.Surveys.{known_any}
use Rattle.survey.proofs.sharing.shared_at.Goals as goal
use Rattle.survey.proofs.sharing.shared_at.Goals.{After-on_path}

pub returns-then-not-own_at : goal.returns-then-not-own_at
returns-then-not-own_at c =
    let a = c.args in
    sym (shared_own (holds_of a.words.now) a.quota (hold_in a.words.now a.at) (sym c.own_at.ensures ∙ not-true _ c.if-not-own_at.true-raw))

-- the path's end tells whether the object is shared
tells : (c : After-on_path)
    → let a = c.args in
    is_some c.on_path.result ≡ is_shared (holds_of a.words.now) a.quota (hold_in a.words.now a.at)
unfolding sought shares
tells c =
    let e = c in
    let a = e.args in
    let hs = holds_of a.words.now in
    known_any (shares c.serial_in-serial.result a.quota) hs c.on_path.result (c.on_path.ensures (λ q. not (eqb q a.quota)) (λ q l r p. search rules))
    ∙ ap (λ (x : ℕ). any (shares x a.quota) hs) c.serial_in-serial.ensures
    ∙ sym (shared_by hs a.quota (hold_in a.words.now a.at) (sym e.own_at.ensures ∙ not-false _ e.if-not-own_at.false-raw))

pub returns : goal.returns
returns c = c.is_some.ensures ∙ tells (goal.at.returns c).After-on_path
