-- A part that is empty or not inside stays (`zero_none`, `zero_past`); any other is filled with zeros (`filled`).
use native.Mathlib.Omega.{arith}
use mathlib.Core.Path.{◌≡◌, sym, ◌∙◌}
use Prim.Native.Nat.{◌-◌}
use lib.ListN.{length, replicate, length-replicate}
use lib.Seq.{ext_get_or}
use Rattle.std.proofs.lemmas.List.{get_or-replicate}
use Rattle.layout.proofs.Numbers.{part_length}
use Rattle.layout.proofs.Parts.{filled, zero_none, zero_past}
use Rattle.layout.proofs.zero_part.Goals as goal

pub returns-after-loop-byte : goal.returns-after-loop-byte
returns-after-loop-byte c =
    let a = c.args in
    let items = c.loop-byte.byte-items in
    let n = a.end - a.start in
    let long : length items ≡ n = c.loop-byte.auto.byte-items ∙ part_length n a.start a.heap.now (omega arith) in
    filled a.start a.end a.heap.now items c.if-start-end.true c.if-end-heap.true
    (ext_get_or 0 items (replicate n 0) (long ∙ sym (length-replicate n 0))
    (λ k l. c.loop-byte.invariant k (omega arith) ∙ sym (get_or-replicate n k 0 0 (omega arith))))

pub returns-else-end-heap : goal.returns-else-end-heap
returns-else-end-heap c = let a = c.args in sym (zero_past a.start a.end a.heap.now c.if-start-end.true (omega arith))

pub returns-else-start-end : goal.returns-else-start-end
returns-else-start-end c = let a = c.args in sym (zero_none a.start a.end a.heap.now (omega arith))
