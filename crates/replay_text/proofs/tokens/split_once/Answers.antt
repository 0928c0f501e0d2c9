-- The first mark ends the part in front of it (`cut`); where there is none, the whole is one part (`uncut`).
use native.Mathlib.Omega.{arith}
use mathlib.Core.Path.{sym, ◌∙◌}
use Prim.Native.Nat.{◌+◌, ◌-◌}
use lib.ListN.{length, drop, length-drop}
use lib.Seq.{take_all}
use Rattle.replay_text.proofs.Cuts.{cut, uncut}
use Rattle.replay_text.proofs.tokens.split_once.Goals as goal

pub returns-in_err-at : goal.returns-in_err-at
returns-in_err-at c = rw c.from_residual.ensures (uncut c.args.mark c.args.input.now (sym c.place_of.ensures ∙ c.in_err-at.was))

pub returns : goal.returns
returns c =
    let s = c.args.input.now in
    let at = c.in_ok-at.at in
    rw (take_all (length s - (at + 1)) (drop (at + 1) s) (omega (arith, length-drop (at + 1) s))) (cut c.args.mark s at (sym c.in_ok-at.ensures))
