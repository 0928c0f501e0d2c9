-- `survey::room` meets its contract.
use Rattle.std.proofs.Common.{ℕ, ◌+◌, ap, ◌∙◌, arith}
use Rattle.lookup.specs.Walk.{multiple_from}
use Rattle.survey.proofs.Told.{room_none, room_at, multiple_zero}
use Rattle.survey.proofs.by_value.room.Goals as goal

pub returns-then-heap-fit : goal.returns-then-heap-fit
returns-then-heap-fit c =
    let a = c.args in
    room_none a.unit a.fit a.heap.now (omega (arith, c.if-heap-fit.true))

pub returns-then-unit-eq0 : goal.returns-then-unit-eq0
returns-then-unit-eq0 c =
    let b = c in
    let a = b.args in
    room_at a.unit a.fit a.heap.now (omega (arith, b.if-heap-fit.false)) b.block_at-block.result 0 b.block_at-block.ensures
    (multiple_zero a.unit (a.fit + 8) c.if-unit-eq0.true)

pub returns : goal.returns
returns c =
    let b = c in
    let a = b.args in
    room_at a.unit a.fit a.heap.now (omega (arith, b.if-heap-fit.false)) b.block_at-block.result c.base_in.result b.block_at-block.ensures
    (c.base_in.ensures ∙ ap (λ (u : ℕ). multiple_from u (a.fit + 8)) (c.unit_of.ensures c.if-unit-eq0.false))
