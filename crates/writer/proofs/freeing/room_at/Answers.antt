-- `writer::freeing::room_at` meets its contract: the definition goes by what starts at the place, and eight times a size that was found ends in the heap.
use native.Mathlib.Omega.{arith}
use mathlib.Core.Path.{sym, ◌∙◌}
use borrow.Author.Tests.{ne_eqb, eq-eqb}
use Rattle.layout.proofs.Starts.{start_found}
use Rattle.writer.proofs.Rooms.{room_nothing, room_starts}
use Rattle.writer.proofs.freeing.room_at.Goals as goal

pub returns-in_default : goal.returns-in_default
returns-in_default c = sym (room_nothing _ _ (sym c.start_at.ensures ∙ c.in_default.is))

pub returns-then-header-ne0 : goal.returns-then-header-ne0
returns-then-header-ne0 c =
    let a = c.args in
    let h = c.in-Some.header in
    sym (room_starts a.at a.heap.now h (sym c.start_at.ensures ∙ c.in-Some.is) ∙ rw (ne_eqb h.serial 0 c.if-header-ne0.true))

pub overflow_mul-result : goal.overflow_mul-result
overflow_mul-result c =
    let a = c.args in
    let l = (start_found a.at a.heap.now c.in-Some.header (sym c.start_at.ensures ∙ c.in-Some.is)).inside in
    omega arith

pub returns : goal.returns
returns c =
    let a = c.args in
    let h = c.in-Some.header in
    sym (room_starts a.at a.heap.now h (sym c.start_at.ensures ∙ c.in-Some.is) ∙ rw (eq-eqb h.serial 0 c.if-header-ne0.false))
