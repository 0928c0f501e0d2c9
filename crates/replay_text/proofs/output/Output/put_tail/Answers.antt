use native.Mathlib.Omega.{arith}
use mathlib.Core.Path.{subst}
use mathlib.Core.List.{List, [], ◌∷◌, ◌++◌}
use Prim.Native.Nat.{ℕ, ◌+◌, ◌≤◌, ◌<◌}
use lib.ListN.{length, drop, get_or}
use Rattle.replay_model.specs.Text.{SPACE, LINE_FEED, decimal}
use Rattle.replay_model.specs.Replay.{tail_of}
use Rattle.replay_text.specs.declared.output.Output.{Output}
use Rattle.replay_text.proofs.Puts.{room_first}
use Rattle.replay_text.proofs.Running.{Running, run_start, run_room, run_more, run_last}
use Rattle.replay_text.proofs.Tails.{tail_next, tail_end}
use Rattle.replay_text.proofs.output.Output.put_tail.Goals as goal

-- what is left, where a number is left and where none is
module _ (ns : List ℕ) (i : ℕ) (o o' : Output) (r : Running (tail_of ns) o o' (tail_of (drop i ns))) where
  next : i < length ns → Running (tail_of ns) o o' ((SPACE ∷ []) ++ (decimal (get_or ns i 0) ++ tail_of (drop (i + 1) ns)))
  next h = subst (Running (tail_of ns) o o') (tail_next i ns h) r

  last : length ns ≤ i → Running (tail_of ns) o o' (LINE_FEED ∷ [])
  last h = subst (Running (tail_of ns) o o') (tail_end i ns h) r

pub loop-n-init : goal.loop-n-init
loop-n-init c = run_start (tail_of c.args.numbers.now) c.args.self.now

pub put_byte-requires : goal.put_byte-requires
put_byte-requires c =
    let ns = c.args.numbers.now in
    let l = c.loop-n in
    let left = decimal (get_or ns l.n-index 0) ++ tail_of (drop (l.n-index + 1) ns) in
    room_first (SPACE ∷ []) left l.self
    (run_room (tail_of ns) c.args.self.now l.self ((SPACE ∷ []) ++ left) c.requires (next ns l.n-index c.args.self.now l.self l.invariant c.loop-n-test.true))

pub put_number-requires : goal.put_number-requires
put_number-requires c =
    let ns = c.args.numbers.now in
    let l = c.loop-n in
    let n = decimal (get_or ns l.n-index 0) in
    let left = tail_of (drop (l.n-index + 1) ns) in
    room_first n left c.put_byte.new.self
    (run_room (tail_of ns) c.args.self.now c.put_byte.new.self (n ++ left) c.requires
    (run_more (tail_of ns) c.args.self.now l.self c.put_byte.new.self (SPACE ∷ []) (n ++ left) c.requires
    (next ns l.n-index c.args.self.now l.self l.invariant c.loop-n-test.true) c.put_byte.ensures))

pub loop-n-preserved : goal.loop-n-preserved
loop-n-preserved c =
    let ns = c.args.numbers.now in
    let l = c.loop-n in
    let n = decimal (get_or ns l.n-index 0) in
    let left = tail_of (drop (l.n-index + 1) ns) in
    run_more (tail_of ns) c.args.self.now c.put_byte.new.self c.put_number.new.self n left c.requires
    (run_more (tail_of ns) c.args.self.now l.self c.put_byte.new.self (SPACE ∷ []) (n ++ left) c.requires
    (next ns l.n-index c.args.self.now l.self l.invariant c.loop-n-test.true) c.put_byte.ensures) c.put_number.ensures

pub put_byte-requires-2 : goal.put_byte-requires-2
put_byte-requires-2 c =
    let ns = c.args.numbers.now in
    let l = c.loop-n in
    run_room (tail_of ns) c.args.self.now l.self (LINE_FEED ∷ []) c.requires
    (last ns l.n-index c.args.self.now l.self l.invariant (omega arith))

pub returns : goal.returns
returns c =
    let ns = c.args.numbers.now in
    let l = c.loop-n in
    run_last (tail_of ns) c.args.self.now l.self c.put_byte-2.new.self (LINE_FEED ∷ []) c.requires
    (last ns l.n-index c.args.self.now l.self l.invariant (omega arith)) c.put_byte-2.ensures
