-- `queue::receive_in_place` meets its contract: its two lines come first, and then the first place holds the oldest handle.
use native.Mathlib.Omega.{arith}
use mathlib.Core.Path.{sym, ◌∙◌}
use Rattle.queue.specs.Places.{queue_of}
use Rattle.queue.specs.Results.{receive_number, receive_handle}
use Rattle.queue.proofs.Sending.{receive_damaged, receive_empty, receive_done}
use Rattle.queue.proofs.in_place.receive_in_place.Goals as goal

pub returns-then-count-gt-PLACES : goal.returns-then-count-gt-PLACES
unfolding receive_number receive_handle
returns-then-count-gt-PLACES c =
    let w = c in
    receive_damaged (queue_of w.args.queue.now) (omega (arith, c.if-count-gt-PLACES.true, w.word_at-count.ensures))

pub returns-then-count-eq0 : goal.returns-then-count-eq0
unfolding receive_number receive_handle
returns-then-count-eq0 c =
    let w = c in
    receive_empty (queue_of w.args.queue.now) (omega (arith, c.if-count-gt-PLACES.false, w.word_at-count.ensures))
    (sym w.word_at-count.ensures ∙ c.if-count-eq0.true)

pub returns : goal.returns
unfolding receive_number receive_handle
returns c =
    let o = c in
    let e = o in
    let w = e in
    let u = queue_of w.args.queue.now in
    (λ i. record { queue = c.drop_oldest.ensures i; refusal = 0; handle = o.oldest-handle.ensures i })
    ∙ receive_done u (omega (arith, e.if-count-gt-PLACES.false, w.word_at-count.ensures)) (λ z. e.if-count-eq0.false (w.word_at-count.ensures ∙ z))
