-- `replay::print` meets its contract: a replay writes no more bytes than the output has (`replayed_counts`).
use native.Mathlib.Omega.{arith}
use mathlib.Core.Path.{◌≡◌, sym}
use mathlib.Core.List.{List}
use Prim.Native.Nat.{ℕ, ◌≤◌}
use lib.ListN.{length}
use lib.Seq.{length-take-le}
use Rattle.std.specs.Prelude.{Option, Some, None, unwrap_or}
use Rattle.replay_text.specs.Answer.{Result, replayed}
use Rattle.replay_text.proofs.InputRuns.{replayed_counts}
use Rattle.replay.proofs.print.Goals as goal

-- the count is at most the output's length
counts : (s out left : List ℕ) (o : Option ℕ) → ◌≡◌ {A = Result} (record { answer = o; output = left }) (replayed s out)
    → unwrap_or o 0 ≤ length left
counts s out left None e = omega arith
counts s out left (Some n) e = replayed_counts s out left n e

pub returns : goal.returns
returns c =
    let out = c.replay.new.output in
    let h : c.unwrap_or.result ≤ length out = rw c.unwrap_or.ensures (counts c.args.input.now c.args.output.now out c.replay.result c.replay.ensures) in
    (h, sym (length-take-le c.unwrap_or.result out h))
