-- Without room nothing is written (`export_room`), else all lines are (`export_put`).
use native.Mathlib.Omega.{arith}
use mathlib.Core.Path.{ap}
use Rattle.report.specs.Export.{export_told}
use Rattle.report.proofs.Exports.{export_put}
use Rattle.report.proofs.exporting.export_grants.Goals as goal

pub returns : goal.returns
returns c =
    let p = c in
    let e = p in
    let s = e in
    let a = s.args in
    ap export_told
    (export_put a.text.now a.grants (omega arith) s.well_formed.1.0.1.0.1 p.put_lines.new.text
    p.put_lines.ensures)
