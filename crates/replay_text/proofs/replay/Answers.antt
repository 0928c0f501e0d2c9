-- An output of OUTPUT bytes has room for every replay (`replay_fits`), so what is written is the replay.
use borrow.Author.Rules.{rules}
use native.Mathlib.Omega.{arith}
use mathlib.Core.Path.{◌≡◌, ap, ◌∙◌}
use mathlib.Core.List.{List}
use Prim.Native.Nat.{ℕ, ◌≤◌}
use lib.ListN.{length}
use Rattle.std.specs.Prelude.{Some}
use Rattle.replay_text.specs.Answer.{Result, replayed}
use Rattle.replay_model.specs.Replay.{OUTPUT}
use Rattle.replay_text.proofs.InputRuns.{replay_room, replay_written}
use Rattle.replay_text.proofs.replay.Goals as goal

pub print_replay-requires : goal.print_replay-requires
print_replay-requires c =
    let o = c.new-printed.result in
    let long : OUTPUT ≤ length o.bytes.now = omega (arith, ap length c.new-printed.ensures.bytes) in
    replay_room c.args.input.now o long c.new-printed.ensures.written

pub returns : goal.returns
returns c =
    let o = c.new-printed.result in
    let o' = c.print_replay.new.output in
    let long : OUTPUT ≤ length o.bytes.now = omega (arith, ap length c.new-printed.ensures.bytes) in
    let written = replay_written c.args.input.now o long c.new-printed.ensures.written o' c.print_replay.ensures in
    let is : (x : List ℕ) → x ≡ o'.bytes.now
    → ◌≡◌ {A = Result} (record { answer = Some o'.written; output = x }) (replayed c.args.input.now c.args.output.now) =
    λ x back. (λ i. record { answer = Some o'.written; output = back i }) ∙ written ∙ ap (replayed c.args.input.now) c.new-printed.ensures.bytes in
    is _ (search rules)
