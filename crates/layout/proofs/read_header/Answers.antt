-- The three numbers of a header stand at 0, 2 and 4 of its bytes (`read_three`).
use mathlib.Core.Path.{◌∙◌}
use Rattle.layout.proofs.Fields.{read_three}
use Rattle.layout.proofs.read_header.Goals as goal

pub returns : goal.returns
returns c =
    let start = c in
    let a = start.args in
    let p = c.read_inside.ensures in (
      (λ i. record { size = p.0 i; back = c.read_inside-2.ensures.0 i; serial = c.read_inside-3.ensures.0 i })
          ∙ read_three a.at a.heap.now start.requires,
      p.1,
    )
