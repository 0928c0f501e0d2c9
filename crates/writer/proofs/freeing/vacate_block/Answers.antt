-- `writer::freeing::vacate_block` meets its contract: where the test holds the block lies in the heap and is vacated, and where it does not nothing is
-- written.
use mathlib.Core.Path.{sym, ◌∙◌}
use Rattle.writer.proofs.Guards.{inside_of_test, vacates, vacates_nothing}
use Rattle.writer.proofs.freeing.vacate_block.Goals as goal

pub returns-then-not-is_inside : goal.returns-then-not-is_inside
returns-then-not-is_inside c =
    let a = c.args in
    let both = vacates_nothing a.kind a.block a.heap.now (sym c.is_inside.ensures ∙ c.if-not-is_inside.true) in
    record {
      leaves = both.0;
      ends = both.1;
    }

pub make_vacant-requires : goal.make_vacant-requires
make_vacant-requires c = inside_of_test _ _ (sym c.is_inside.ensures ∙ c.if-not-is_inside.false)

pub returns : goal.returns
returns c =
    let a = c.args in
    let f = vacates a.kind a.block a.heap.now (sym c.is_inside.ensures ∙ c.if-not-is_inside.false) in
    let m = c.make_vacant in
    record {
      leaves = m.ensures.leaves ∙ f.0;
      ends = m.ensures.ends ∙ f.1;
    }
