-- One digit more than the power of ten that is not above the number.
use native.Mathlib.Omega.{arith}
use mathlib.Core.Path.{sym}
use Rattle.replay_model.proofs.Decimals.{places_one}
use Rattle.replay_text.proofs.Spelling.{places_log}
use Rattle.replay_text.proofs.digits.count_digits.Goals as goal

pub returns-in-Some : goal.returns-in-Some
returns-in-Some c =
    let l = c.in-Some.ensures in
    let b = l.bound in
    sym (places_log c.in-Some.log 9 c.args.n (omega arith) l.power_le l.next_power_gt)

pub returns-in-None : goal.returns-in-None
returns-in-None c =
    let z = c.in-None.ensures.none in
    sym (places_one 9 c.args.n (omega arith))
