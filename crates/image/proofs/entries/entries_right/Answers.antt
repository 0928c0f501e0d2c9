use native.Mathlib.Omega.{arith}
use mathlib.Core.Path.{sym, ◌∙◌}
use lib.ListN.{drop}
use borrow.Author.Tests.{not-true, not-false}
use Rattle.framing.specs.Frames.{stream_of}
use Rattle.image_model.specs.Stream.{entries_at, entry_width}
use Rattle.image_model.specs.Reading.{entry_right}
use Rattle.image.proofs.Items.{every_none, every_stops, every_goes_on, every_passes}
use Rattle.image.proofs.Decoding.{tail_here, entries_pass}
use Rattle.image.proofs.entries.entries_right.Goals as goal

pub returns-then-not-form : goal.returns-then-not-form
returns-then-not-form c =
    let a = c.args in
    sym (every_passes (entry_right a.form) (entry_width a.form) a.form.quotas (drop entries_at (stream_of a.image.now))
    (entries_pass a.form (not-true _ c.if-not-form.true)))

pub returns-then-not-are_permissions : goal.returns-then-not-are_permissions
returns-then-not-are_permissions c =
    let r = c in
    let at = r in
    let a = at.args in
    let t = stream_of a.image.now in
    every_stops (entry_right a.form) (entry_width a.form) at.loop-i.i a.form.quotas (drop entries_at t) (omega arith) at.loop-i.invariant
    (tail_here a.form t at.loop-i.i (not-false _ c.if-not-form.false) ∙ sym r.are_permissions.ensures ∙ not-true _ c.if-not-are_permissions.true-raw)

pub loop-i-preserved : goal.loop-i-preserved
loop-i-preserved c =
    let r = c in
    let at = r in
    let a = at.args in
    let t = stream_of a.image.now in
    every_goes_on (entry_right a.form) (entry_width a.form) at.loop-i.i a.form.quotas (drop entries_at t) (omega arith) at.loop-i.invariant
    (tail_here a.form t at.loop-i.i (not-false _ c.if-not-form.false) ∙ sym r.are_permissions.ensures ∙ not-false _ c.if-not-are_permissions.false-raw)

pub returns : goal.returns
returns c =
    let at = c in
    let a = at.args in
    every_none (entry_right a.form) (entry_width a.form) at.loop-i.i a.form.quotas (drop entries_at (stream_of a.image.now)) (omega arith)
    ∙ at.loop-i.invariant
