use native.Mathlib.Omega.{arith}
use mathlib.Core.Path.{◌∙◌}
use lib.ListN.{drop}
use Rattle.framing.specs.Frames.{stream_of}
use Rattle.image_model.specs.Stream.{record_width}
use Rattle.image_model.specs.Reading.{record_right}
use Rattle.image.proofs.Items.{every_none, every_stops, every_goes_on}
use Rattle.image.proofs.Decoding.{spare_wrong, spare_right}
use Rattle.image.proofs.records.spares_right.Goals as goal

pub returns-then-read_pair-ne0 : goal.returns-then-read_pair-ne0
returns-then-read_pair-ne0 c =
    let r = c in
    let at = r in
    let a = at.args in
    let t = stream_of a.image.now in
    every_stops record_right record_width at.loop-i.i a.count (drop a.at t) (omega arith) at.loop-i.invariant
    (spare_wrong a.at t at.loop-i.i r.read_pair.result r.read_pair.ensures.0 c.if-read_pair-ne0.true)

pub loop-i-preserved : goal.loop-i-preserved
loop-i-preserved c =
    let r = c in
    let at = r in
    let a = at.args in
    let t = stream_of a.image.now in
    every_goes_on record_right record_width at.loop-i.i a.count (drop a.at t) (omega arith) at.loop-i.invariant
    (spare_right a.at t at.loop-i.i r.read_pair.result r.read_pair.ensures.0 c.if-read_pair-ne0.false)

pub returns : goal.returns
returns c =
    let at = c in
    let a = at.args in
    every_none record_right record_width at.loop-i.i a.count (drop a.at (stream_of a.image.now)) (omega arith) ∙ at.loop-i.invariant
