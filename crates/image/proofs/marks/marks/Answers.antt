-- The edition is the first byte and the kind the second; a form that is not full has neither (`Marked`).
use native.Mathlib.Omega.{arith}
use mathlib.Core.Path.{sym, ◌∙◌}
use mathlib.Core.List.{◌++◌}
use Prim.Native.Nat.{◌<◌}
use borrow.Author.Rules.{rules}
use borrow.Author.Tests.{not-true, not-false}
use Rattle.layout.specs.Bytes.{bytes}
use Rattle.image.proofs.Marked.{two_bytes}
use Rattle.image.proofs.marks.marks.Goals as goal

pub returns-then-not-form : goal.returns-then-not-form
unfolding bytes
returns-then-not-form c = (rw (not-true _ c.if-not-form.true), omega arith)

pub returns : goal.returns
returns c =
    let a = c.args in
    let e : a.edition < 256 = search rules in
    let k : a.kind < 256 = search rules in (
      two_bytes c.from.result c.from-2.result (rw c.from.ensures e) ∙ (λ i. bytes 1 (c.from.ensures i) ++ bytes 1 (c.from-2.ensures i))
          ∙ sym (rw (not-false _ c.if-not-form.false)),
      omega (arith, e, k, c.from.ensures, c.from-2.ensures),
    )
