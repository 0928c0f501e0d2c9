-- The invariant: the lines of the first `i` grants stand at the front (`put_line_more`).
use mathlib.Core.Path.{◌≡◌}
use lib.ListN.{take}
use Rattle.layout.specs.Bytes.{overwrite}
use Rattle.report.specs.Export.{lines_text}
use Rattle.report.proofs.exporting.put_lines.Given as goal

abbrev pub invariant-loop-i : goal.invariant-loop-i
invariant-loop-i l = l.text ≡ overwrite 0 (lines_text (take l.i l.grants)) l.initial.text
