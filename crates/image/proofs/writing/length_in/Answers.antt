-- The bytes in front of the heap and the heap, in whole frames (`length_some`).
use native.Mathlib.Omega.{arith}
use mathlib.Core.Path.{ap, sym, ◌∙◌}
use Prim.Native.Nat.{◌*◌, ◌≤◌}
use borrow.Author.Tests.{not-true, not-false}
use Rattle.framing.proofs.Room.{frames_ceil}
use Rattle.image_model.proofs.Written.{allowed_most}
use Rattle.image.proofs.Puts.{length_none, length_some}
use Rattle.image.proofs.writing.length_in.Goals as goal
use Rattle.image.proofs.writing.length_in.Goals.{After-heap_at}

pub returns-then-not-is_allowed : goal.returns-then-not-is_allowed
returns-then-not-is_allowed c =
    let a = c.args in
    length_none a.form a.size (sym c.is_allowed.ensures ∙ not-true _ c.if-not-is_allowed.true-raw)

-- the heap is short
short : (c : After-heap_at) → c.args.size ≤ 32768
short c =
    let k = c in
    allowed_most k.args.size (sym k.is_allowed.ensures ∙ not-false _ c.if-not-is_allowed.false-raw)

pub overflow_add-end : goal.overflow_add-end
overflow_add-end c = omega (arith, short c, c.heap_at.ensures.1)

pub overflow_mul-result : goal.overflow_mul-result
overflow_mul-result c =
    let l = short (goal.at.overflow_mul-result c).After-heap_at in
    let e = c.div_ceil.ensures ∙ frames_ceil _ in
    omega (arith, l, e, c.heap_at.ensures.1)

pub returns : goal.returns
returns c =
    let a = c.args in
    ap (λ n. 512 * n) (c.div_ceil.ensures ∙ frames_ceil _)
    ∙ length_some a.form a.size c.heap_at.result (sym c.is_allowed.ensures ∙ not-false _ c.if-not-is_allowed.false-raw) c.heap_at.ensures.0
