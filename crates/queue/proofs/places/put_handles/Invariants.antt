-- `queue::put_handles` meets its contract. The loop's invariant: the handles before a place are written, and the words before the first place are as they were.
use Prim.Native.Nat.{ℕ, ◌<◌}
use mathlib.Core.Path.{◌≡◌}
use lib.ListN.{length, get_or}
use Rattle.model.specs.Answers.{zero_handle}
use Rattle.queue.specs.Places.{FIRST, QUEUE_WORD_COUNT, HasHandle}
use Rattle.queue.proofs.places.put_handles.Given as goal

abbrev pub invariant-loop-place : goal.invariant-loop-place
invariant-loop-place l =
    (length l.words ≡ QUEUE_WORD_COUNT) × ((p : ℕ) → p < l.place → HasHandle l.words p (get_or l.handle-items p zero_handle))
    × ((j : ℕ) → j < FIRST → get_or l.words j 0 ≡ get_or l.initial.words j 0)
