-- `queue::drop_oldest` meets its contract: every place moves up by one, and the count is written.
use Prim.Native.Nat.{ℕ, ◌-◌}
use mathlib.Core.Path.{ap}
use Rattle.queue.proofs.InWords.{dropped_is}
use Rattle.queue.proofs.places.drop_oldest.Goals as goal

pub returns : goal.returns
returns c =
    let w = c in
    let z = w in
    dropped_is z.args.queue.now c.move_up.new.queue c.told-queue c.move_up.ensures (w.word_at-count.result - 1)
    (ap (λ (n : ℕ). n - 1) w.word_at-count.ensures)
