-- The heap begins behind the head of the form.
use mathlib.Core.Path.{ap, ◌∙◌}
use Rattle.image_model.specs.Stream.{head_length}
use Rattle.image_model.specs.Reading.{size_in}
use Rattle.image.proofs.Parses.{form_of_fits}
use Rattle.image.proofs.asking.heap_place.Goals as goal

pub heap_at-requires : goal.heap_at-requires
heap_at-requires c = rw c.form_of-form.ensures (form_of_fits c.args.image.now)

pub returns : goal.returns
unfolding size_in
returns c =
    let h = c in
    let f = h in
    let start = h.heap_at.ensures.0 ∙ ap head_length f.form_of-form.ensures in
    λ i. record { start = start i; size = c.read_quad.ensures i }
