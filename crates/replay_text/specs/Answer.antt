-- What a replay gives: its answer, and what its output holds.
use Rattle.std.specs.Prelude.{ℕ, List, ◌++◌, cond, ltb, length, drop, Option, Some, None}
use Rattle.replay_model.specs.Replay.{OUTPUT, replay}

-- the answer of a replay, and its output: too short an output stays as it is; else what is printed stands in front, and the bytes behind it stay
pub record Result : Type 0 where
  pub answer : Option ℕ
  pub output : List ℕ

unfoldable pub replayed : List ℕ → List ℕ → Result
replayed s out =
    let printed = replay s in
    let written : Result = record { answer = Some (length printed); output = printed ++ drop (length printed) out } in
    cond (ltb (length out) OUTPUT) (record { answer = None; output = out }) written
