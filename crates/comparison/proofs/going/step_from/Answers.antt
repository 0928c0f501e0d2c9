-- The list from a position on is by cases of the position.
use mathlib.Core.Path.{ap, sym, ◌∙◌}
use Rattle.comparison.specs.Differences.{state_in}
use Rattle.comparison.specs.Positions.{differences_from, next_of}
use Rattle.comparison.specs.declared.Position.{Position}
use Rattle.comparison.proofs.going.step_from.Goals as goal

pub returns-in-Start : goal.returns-in-Start
unfolding next_of differences_from
returns-in-Start c =
    let a = c.args in
    c.from_start.ensures ∙ sym (ap (λ (p : Position). next_of p (state_in a.first.now) (state_in a.second.now)) c.in-Start.is)

pub returns-in-Kind : goal.returns-in-Kind
unfolding next_of differences_from
returns-in-Kind c =
    let a = c.args in
    c.from_kind.ensures ∙ sym (ap (λ (p : Position). next_of p (state_in a.first.now) (state_in a.second.now)) c.in-Kind.is)

pub returns-in-Edition : goal.returns-in-Edition
unfolding next_of differences_from
returns-in-Edition c =
    let a = c.args in
    c.from_edition.ensures ∙ sym (ap (λ (p : Position). next_of p (state_in a.first.now) (state_in a.second.now)) c.in-Edition.is)

pub returns-in-Quota : goal.returns-in-Quota
unfolding next_of differences_from
returns-in-Quota c =
    let a = c.args in
    c.from_quota.ensures ∙ sym (ap (λ (p : Position). next_of p (state_in a.first.now) (state_in a.second.now)) c.in-Quota.is)

pub returns-in-Record : goal.returns-in-Record
unfolding next_of differences_from
returns-in-Record c =
    let a = c.args in
    c.from_record.ensures ∙ sym (ap (λ (p : Position). next_of p (state_in a.first.now) (state_in a.second.now)) c.in-Record.is)

pub returns-in-Byte : goal.returns-in-Byte
unfolding next_of differences_from
returns-in-Byte c =
    let a = c.args in
    c.from_byte.ensures ∙ sym (ap (λ (p : Position). next_of p (state_in a.first.now) (state_in a.second.now)) c.in-Byte.is)
