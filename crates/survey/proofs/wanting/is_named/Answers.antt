-- `survey::wanting::is_named` meets its contract: its tests are those of the definition.
use Rattle.std.proofs.Common.{sym, arith}
use Rattle.lookup.proofs.Reached.{before_block}
use Rattle.survey.proofs.Naming.{named_free, named_other, named_waiting, named_empty, named_by_end}
use Rattle.survey.specs.Survey.{handle_of}
use Rattle.survey.proofs.wanting.is_named.Goals as goal

pub returns-then-block-eq0 : goal.returns-then-block-eq0
returns-then-block-eq0 c =
    let a = c.args in
    sym (named_free (handle_of a.wanted) a.block
    c.if-block-eq0.true)

pub returns-then-wanted-block : goal.returns-then-wanted-block
returns-then-wanted-block c =
    let a = c.args in
    sym (named_other (handle_of a.wanted) a.block
    c.if-wanted-block.true)

pub returns-then-block-eq-QUARANTINED : goal.returns-then-block-eq-QUARANTINED
returns-then-block-eq-QUARANTINED c =
    let a = c.args in
    sym (named_waiting (handle_of a.wanted) a.block
    c.if-block-eq-QUARANTINED.true)

pub returns-then-wanted-eq0 : goal.returns-then-wanted-eq0
returns-then-wanted-eq0 c =
    let a = c.args in
    sym (named_empty (handle_of a.wanted) a.block
    c.if-wanted-eq0.true)

pub returns-then-from-block : goal.returns-then-from-block
returns-then-from-block c =
    let a = c.args in
    sym (before_block (handle_of a.wanted) a.block
    (omega (arith, c.if-from-block.true)))

pub returns : goal.returns
returns c =
    let l = c in
    let q = l in
    let o = q in
    let f = o in
    let a = f.args in
    named_by_end (handle_of a.wanted) a.block
    f.if-block-eq0.false q.if-block-eq-QUARANTINED.false o.if-wanted-block.false l.if-wanted-eq0.false
    (omega (arith, c.if-from-block.false))
