use mathlib.Core.Path.{◌∙◌}
use Rattle.words.specs.Words.{accounts_of}
use Rattle.words.proofs.Padding.{unpadded_on, blank_unpadded}
use Rattle.words.proofs.Openings.{blank_zero, granting_start, granting_all}
use Rattle.words.proofs.opening.open.Goals as goal

pub loop-i-init : goal.loop-i-init
loop-i-init c =
    let b = c.wipe.ensures in
    (granting_start c.args.grants _ (blank_zero _ b), blank_unpadded b)

pub returns : goal.returns
returns c =
    let e = c in
    let k = e in
    let p = k in
    let at = p in
    let s = at in
    let a = s.args in
    let l = at.loop-i in
    record {
      holds = c.put_kinds.ensures.holds
          ∙ granting_all a.grants s.well_formed.1.0.1.0.1 l.i (accounts_of l.words) l.invariant.0 p.loop-i-test.false a.settings
          k.number.result e.number-2.result k.number.ensures e.number-2.ensures;
      pads = unpadded_on l.invariant.1 c.put_kinds.ensures.pads;
    }
