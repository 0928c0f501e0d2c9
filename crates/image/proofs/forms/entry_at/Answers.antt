-- An entry has twelve bytes in a full form and eight in another.
use native.Mathlib.Omega.{arith}
use mathlib.Core.Path.{sym}
use Rattle.image_model.specs.Stream.{tail_width}
use Rattle.image.proofs.forms.entry_at.Goals as goal

pub returns-then-form : goal.returns-then-form
unfolding tail_width
returns-then-form c = (sym (rw c.if-form.true), omega arith)

pub returns : goal.returns
unfolding tail_width
returns c = (sym (rw c.if-form.false), omega arith)
