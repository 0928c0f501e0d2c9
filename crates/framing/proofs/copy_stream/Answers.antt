use Rattle.std.proofs.Common.{◌≡◌, ℕ, length, drop, refl, ap, ◌∙◌, arith}
use Rattle.layout.proofs.Overwrite.{length_overwrite}
use Rattle.framing.specs.Frames.{padded, stream_of}
use Rattle.framing.proofs.Fills.{fill_none}
use Rattle.framing.proofs.Places.{copy_more, copy_all}
use Rattle.framing.proofs.copy_stream.Goals as goal
use Rattle.framing.proofs.copy_stream.Goals.{At-loop-i}

-- the length stays
len : (c : At-loop-i) → length c.loop-i.out ≡ length c.args.out.now
len c =
    let a = c.args in
    ap length c.loop-i.invariant.1 ∙ length_overwrite 0 (padded c.loop-i.i (drop a.from (stream_of a.image.now))) a.out.now

pub loop-i-init : goal.loop-i-init
loop-i-init c = let a = c.args in (refl, fill_none 0 (drop a.from (stream_of a.image.now)) a.out.now)

pub loop-i-preserved : goal.loop-i-preserved
loop-i-preserved c =
    let at = c in
    let a = at.args in
    let l = len (goal.at.loop-i-preserved c).At-loop-i in (
      refl,
      copy_more a.from at.loop-i.i c.stream_at.result (stream_of a.image.now) a.out.now at.loop-i.out (omega arith)
          at.loop-i.invariant.1 c.stream_at.ensures,
    )

pub returns : goal.returns
returns c =
    let at = c in
    let a = at.args in
    let l = len (goal.at.returns c).At-loop-i in
    let e : at.loop-i.i ≡ length a.out.now = omega arith in
    at.loop-i.invariant.1 ∙ copy_all at.loop-i.i (drop a.from (stream_of a.image.now)) a.out.now e
    ∙ ap (λ (n : ℕ). padded n (drop a.from (stream_of a.image.now))) e
