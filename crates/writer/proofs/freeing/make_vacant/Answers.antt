-- `writer::freeing::make_vacant` meets its contract: by the kind the block is made free, or an object of zero bytes with the quarantine's serial is written.
use mathlib.Core.Path.{◌∙◌}
use Rattle.writer.specs.Freeing.{quarantine_block}
use Rattle.writer.proofs.Guards.{vacates_plain, vacates_quarantined}
use Rattle.writer.proofs.freeing.make_vacant.Goals as goal

pub returns-then-kind-eq0 : goal.returns-then-kind-eq0
returns-then-kind-eq0 c =
    let a = c.args in
    let f = vacates_plain a.kind a.block a.heap.now c.if-kind-eq0.true in
    record {
      leaves = c.make_free.ensures.frees ∙ f.0;
      ends = c.make_free.ensures.ends ∙ f.1;
    }

pub returns : goal.returns
unfolding quarantine_block
returns c =
    let a = c.args in
    let f = vacates_quarantined a.kind a.block a.heap.now c.if-kind-eq0.false in
    record {
      leaves = c.put_object.ensures ∙ f.0;
      ends = f.1;
    }
