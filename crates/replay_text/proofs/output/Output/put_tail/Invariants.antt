-- The invariant: the numbers so far are written, and what is left to write is the rest of the line of those that are left.
use lib.ListN.{drop}
use Rattle.replay_model.specs.Replay.{tail_of}
use Rattle.replay_text.proofs.Running.{Running}
use Rattle.replay_text.proofs.output.Output.put_tail.Given as goal

abbrev pub invariant-loop-n : goal.invariant-loop-n
invariant-loop-n l = Running (tail_of l.numbers) l.initial.self l.self (tail_of (drop l.n-index l.numbers))
