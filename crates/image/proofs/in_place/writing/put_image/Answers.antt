-- Accounts that the form does not carry are refused; else the head is made in a part of an array that is as long as it.
use native.Mathlib.Omega.{arith}
use mathlib.Core.Path.{◌≡◌, sym, ◌∙◌}
use borrow.Author.Tests.{not-true, not-false}
use lib.ListN.{length, take}
use lib.Seq.{length-take-le}
use Rattle.words.specs.Words.{accounts_of}
use Rattle.image.proofs.Puts.{put_uncarried}
use Rattle.image.proofs.in_place.writing.put_image.Goals as goal
use Rattle.image.proofs.in_place.writing.put_image.Goals.{After-head-1}

pub returns-then-not-is_carried : goal.returns-then-not-is_carried
returns-then-not-is_carried c =
    let a = c.args in
    put_uncarried a.form a.image.now a.heap.now (accounts_of a.words.now) (sym c.is_carried.ensures ∙ not-true _ c.if-not-is_carried.true-raw)

-- the part is as long as it was asked for
sized : (c : After-head-1)
    → c.heap_at-end.result ≡ length (take c.heap_at-end.result c.head_space-head.result)
sized c =
    let n : length c.head_space-head.result ≡ 4492 = c.head_space-head.type_inv.1.0.1 in
    let h = c in
    sym (length-take-le h.heap_at-end.result c.head_space-head.result (omega (arith, n, h.heap_at-end.ensures.1)))

pub put_with-requires : goal.put_with-requires
put_with-requires c =
    let h = c in
    let k = h in
    let start = k in
    let p = start.requires in
    (sym k.is_carried.ensures ∙ not-false _ h.if-not-is_carried.false-raw, p.0, sym (sized c) ∙ h.heap_at-end.ensures.0, p.1)
