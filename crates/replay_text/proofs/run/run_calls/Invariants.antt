-- The invariant: the state is reached by a history, the answers so far are written, and what is left to write is the run of the lines that are left.
-- The measure is how much of the input is left.
use mathlib.Core.Path.{◌≡◌}
use lib.ListN.{length}
use Rattle.replay_model.specs.Lines.{lines}
use Rattle.replay_model.specs.Replay.{run_lines}
use Rattle.replay_model.specs.Events.{Reached}
use Rattle.replay_text.proofs.Running.{Running}
use Rattle.replay_text.proofs.run.run_calls.Given as goal

abbrev pub invariant-loop-line : goal.invariant-loop-line
invariant-loop-line l =
    (length l.heap ≡ length l.initial.heap) × Reached l.heap l.current
    × Running (run_lines (lines l.input) l.initial.heap l.initial.current) l.initial.output l.output (run_lines (lines l.left) l.heap l.current)

abbrev pub decreases-loop-line : goal.decreases-loop-line
decreases-loop-line l = length l.left
