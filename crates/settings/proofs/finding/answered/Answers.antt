-- The two tests are those of `answers`.
use native.Mathlib.Omega.{arith}
use borrow.Author.Tests.{eq-eqb, ne_eqb, le-leb, lt-leb}
use Rattle.settings.specs.Find.{answers}
use Rattle.settings.proofs.finding.answered.Goals as goal

pub returns-then-entry-name : goal.returns-then-entry-name
unfolding answers
returns-then-entry-name c = simp (ne_eqb _ _ c.if-entry-name.true)

pub returns-then-version-entry : goal.returns-then-version-entry
unfolding answers
returns-then-version-entry c =
    let a = c.args in
    simp (eq-eqb _ _ c.if-entry-name.false, lt-leb a.entry.version a.version (omega arith))

pub returns : goal.returns
unfolding answers
returns c =
    let a = c.args in
    simp (eq-eqb _ _ c.if-entry-name.false, le-leb a.entry.version a.version (omega arith))
