-- `survey::holders::put_flags` meets its contract. The loop's invariant: the flags are put on from the walk's place
-- (`Flagging`). Each turn meets a block that ends in the heap, so the rest of the heap gets shorter.
use Rattle.std.proofs.Common.{◌-◌, length}
use Rattle.words.specs.Words.{holds_of}
use Rattle.survey.proofs.Flags.{Flagging}
use Rattle.survey.proofs.holders.put_flags.Given as goal

abbrev pub invariant-loop-i : goal.invariant-loop-i
invariant-loop-i l = Flagging (holds_of l.words) l.heap l.initial.kept l.i l.at l.kept

abbrev pub decreases-loop-i : goal.decreases-loop-i
decreases-loop-i l = length l.heap - l.at
