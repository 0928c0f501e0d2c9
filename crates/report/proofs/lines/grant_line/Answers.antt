-- The word of the grant, and the tail behind it (`line_tail`).
use mathlib.Core.Path.{sym, ap, ◌∙◌}
use mathlib.Core.List.{List, ◌++◌}
use Prim.Native.Nat.{ℕ}
use Rattle.report.proofs.Loops.{TAIL, line_tail}
use Rattle.report.proofs.lines.grant_line.Goals as goal

pub returns : goal.returns
returns c =
    ap (λ (w : List ℕ). w ++ TAIL) (c.copy_from_slice.ensures.after ∙ c.word_of.ensures) ∙ sym (line_tail c.args.grant)
