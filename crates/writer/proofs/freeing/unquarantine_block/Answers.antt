-- `writer::freeing::unquarantine_block` meets its contract: where the test holds the block lies in the heap and is unquarantined, and where it does not
-- nothing is written.
use mathlib.Core.Path.{sym, ◌∙◌}
use Rattle.writer.proofs.Guards.{inside_of_test, unquarantines, unquarantines_nothing}
use Rattle.writer.proofs.freeing.unquarantine_block.Goals as goal

pub returns-then-not-is_inside : goal.returns-then-not-is_inside
returns-then-not-is_inside c =
    let a = c.args in
    let both = unquarantines_nothing a.block a.heap.now (sym c.is_inside.ensures ∙ c.if-not-is_inside.true) in
    record {
      frees = both.0;
      ends = both.1;
    }

pub make_unquarantined-requires : goal.make_unquarantined-requires
make_unquarantined-requires c = inside_of_test _ _ (sym c.is_inside.ensures ∙ c.if-not-is_inside.false)

pub returns : goal.returns
returns c =
    let a = c.args in
    let f = unquarantines a.block a.heap.now (sym c.is_inside.ensures ∙ c.if-not-is_inside.false) in
    let m = c.make_unquarantined in
    record {
      frees = m.ensures.frees ∙ f.0;
      ends = m.ensures.ends ∙ f.1;
    }
