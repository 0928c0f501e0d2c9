-- `queue::move_up` meets its contract: the words behind the first place are copied three words forwards, and the last place becomes zero.
use Prim.Native.Nat.{ℕ, ◌+◌, ◌-◌}
use native.Mathlib.Omega.{arith}
use mathlib.Core.Path.{◌≡◌, ap, ◌∙◌}
use lib.ListN.{get_or}
use Rattle.queue.specs.Places.{FIRST}
use Rattle.queue.proofs.InWords.{last_zero}
use Rattle.queue.proofs.places.move_up.Goals as goal

pub returns : goal.returns
returns c =
    let long = c.told-queue in
    let w = c.args.queue.now in
    let m = c.copy_within.ensures in
    last_zero w c.copy_within.new.self long (m.len ∙ long) (λ j l. m.by_index.1 j 0 l) (λ j f b.
    let at : FIRST + 3 + (j - FIRST) ≡ j + 3 = omega (arith, f) in
    m.by_index.0 j 0 f (omega (arith, long)) ∙ ap (λ (x : ℕ). get_or w x 0) at)
