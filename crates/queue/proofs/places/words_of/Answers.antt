-- `queue::words_of` meets its contract: the words of each place are written, and those before them stay.
use native.Mathlib.Omega.{arith}
use mathlib.Core.Path.{sym, ◌∙◌}
use lib.Seq.{ext_get_or}
use mathlib.Core.Path.{◌≡◌}
use Prim.Native.Nat.{◌<◌}
use lib.ListN.{length}
use Rattle.model.specs.Answers.{zero_handle}
use Rattle.queue.specs.Queue.{PLACES}
use Rattle.queue.specs.Places.{SENDER, RECEIVER, COUNT, handles_of}
use Rattle.queue.proofs.InWords.{handles_long, handles_at}
use Rattle.queue.proofs.places.words_of.Goals as goal

pub returns : goal.returns
returns c =
    let u = c.args.queue in
    let n = c.put_handles.new.words in
    let put = c.put_handles.ensures in
    let long : length u.handles ≡ PLACES = c.well_formed.0.1.1.1.1.1.0.1.0.1 in
    λ i. record {
      sender = put.2 SENDER (omega arith) i;
      receiver = put.2 RECEIVER (omega arith) i;
      count = put.2 COUNT (omega arith) i;
      handles = ext_get_or zero_handle (handles_of n) u.handles (handles_long n ∙ sym long)
          (λ j l.
          let b : j < PLACES = omega (arith, handles_long n) in
          let e = put.1 j b in
          handles_at n j b ∙ (λ k. record { base = e.0 k; length = e.1 k; serial = e.2 k })) i;
    }
