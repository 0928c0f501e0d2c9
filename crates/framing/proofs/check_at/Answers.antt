use Rattle.std.proofs.Common.{◌≡◌, ℕ, ◌%◌, ◌^◌, drop, refl, ap, ◌∙◌, arith}
use Rattle.framing.specs.Frames.{word_sum, check_of}
use Rattle.framing.proofs.Sums.{wraps_more, wraps_none}
use Rattle.framing.proofs.check_at.Goals as goal

pub loop-i-init : goal.loop-i-init
loop-i-init c = let a = c.args in wraps_none (drop a.at a.image.now)

pub loop-i-preserved : goal.loop-i-preserved
loop-i-preserved c =
    let at = c in
    let a = at.args in
    wraps_more a.image.now a.at at.loop-i.i at.loop-i.sum c.read_u32-sum.result _ (omega arith)
    (omega arith) at.loop-i.invariant c.read_u32-sum.ensures refl

pub returns : goal.returns
unfolding check_of
returns c =
    let at = c in
    let a = at.args in
    let e : at.loop-i.i ≡ 127 = omega arith in
    at.loop-i.invariant ∙ ap (λ (n : ℕ). word_sum n (drop a.at a.image.now) % 2 ^ 32) e
