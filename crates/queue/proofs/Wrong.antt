-- The wrong queues are not first in, first out: each is refuted by a short list of calls that is computed.
use Prim.Native.Nat.{ℕ}
use native.Mathlib.Omega.{arith}
use mathlib.Core.Path.{◌≡◌, refl, ap}
use mathlib.Core.List.{List, [], ◌∷◌}
use lib.ListN.{length}
use Rattle.model.specs.Marked.{handle}
use Rattle.model.specs.declared.Handle.{Handle}
use Rattle.queue.specs.Queue.{empty_queue}
use Rattle.queue.specs.Runs.{Performer, QueueCall, Sends, Receives, traffic, Fifo, FirstInFirstOut}
use Rattle.queue.specs.Wrong.{newest_out, gives_again, keeps_the_last, loses}
use Rattle.queue.proofs.Rows.{rows, one_object}

-- an accepted send of a handle with this base
sends : ℕ → QueueCall
sends b = Sends (one_object 1 100 7).heap (one_object 1 100 7).accounts (handle b 8 1)

-- what is said of a list from an empty queue
said : (run : Performer) → FirstInFirstOut run → (cs : List QueueCall) → Fifo run (traffic run (empty_queue 0 1) cs)
said run d cs = d.always (empty_queue 0 1) refl refl cs

-- the bases of handles
bases : List Handle → ℕ
bases [] = 0
bases (h ∷ hs) = h.base

pub refuted_newest_out : FirstInFirstOut newest_out → ⊥
unfolding rows sends bases newest_out
refuted_newest_out d =
    let e : ◌≡◌ {A = ℕ} 8 16 = ap bases (said newest_out d (Receives ∷ sends 16 ∷ sends 8 ∷ [])).order in
    absurd (omega (arith, e))

pub refuted_gives_again : FirstInFirstOut gives_again → ⊥
unfolding rows sends gives_again
refuted_gives_again d =
    let e : ◌≡◌ {A = ℕ} 1 2 = ap length (said gives_again d (Receives ∷ sends 8 ∷ [])).order in
    absurd (omega (arith, e))

pub refuted_keeps_the_last : FirstInFirstOut keeps_the_last → ⊥
unfolding rows sends keeps_the_last
refuted_keeps_the_last d =
    let e : ◌≡◌ {A = ℕ} 1 0 = ap length ((said keeps_the_last d (sends 8 ∷ [])).all_out.0 refl) in
    absurd (omega (arith, e))

pub refuted_loses : FirstInFirstOut loses → ⊥
unfolding rows sends loses
refuted_loses d =
    let e : ◌≡◌ {A = ℕ} 1 0 = ap length (said loses d (sends 8 ∷ [])).order in
    absurd (omega (arith, e))
