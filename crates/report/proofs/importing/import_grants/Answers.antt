use native.Mathlib.Omega.{arith}
use Prim.Native.Nat.{◌*◌}
use mathlib.Core.Path.{ap, sym, ◌∙◌}
use Rattle.report.specs.Import.{import_told, line_of}
use Rattle.report.proofs.Loops.{tail_is}
use Rattle.report.proofs.Imports.{import_start, import_more, import_bad, import_over, import_end}
use Rattle.report.proofs.importing.import_grants.Goals as goal

pub loop-i-init : goal.loop-i-init
loop-i-init c = (omega arith, import_start c.args.text.now)

pub returns-then-i-ge-QUOTAS : goal.returns-then-i-ge-QUOTAS
returns-then-i-ge-QUOTAS c =
    let l = c in
    ap import_told
    (c.refused.ensures
    ∙ import_over l.args.text.now l.loop-i.grants l.loop-i.i l.loop-i.invariant.1
    (omega arith) (omega arith))

pub returns-in-Err : goal.returns-in-Err
returns-in-Err c =
    let m = c in
    let r = m in
    let l = r in
    ap import_told
    (c.refused-in-Err.ensures
    ∙ import_bad l.args.text.now l.loop-i.grants l.loop-i.i l.loop-i.invariant.1
    (omega arith) m.in-Err.refusal r.if-i-ge-QUOTAS.false
    (sym m.in-Err.is ∙ r.read_line.ensures ∙ ap line_of (tail_is (54 * l.loop-i.i) l.args.text.now)))

pub loop-i-preserved : goal.loop-i-preserved
loop-i-preserved c =
    let m = c in
    let r = m in
    let l = r in (
      omega arith,
      import_more l.args.text.now l.loop-i.grants l.loop-i.i l.loop-i.invariant.1 m.in-Ok.grant
          r.if-i-ge-QUOTAS.false (omega arith) (sym m.in-Ok.is ∙ r.read_line.ensures ∙ ap line_of (tail_is (54 * l.loop-i.i) l.args.text.now)),
    )

pub returns : goal.returns
returns c =
    let l = c in
    ap import_told
    (import_end l.args.text.now l.loop-i.grants l.loop-i.i l.loop-i.invariant.1
    (omega arith))
