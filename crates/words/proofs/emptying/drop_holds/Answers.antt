use native.Mathlib.Omega.{arith}
use Rattle.words.specs.Words.{accounts_of}
use Rattle.words.proofs.Words.{holds_long}
use Rattle.words.proofs.Padding.{padded_on}
use Rattle.words.proofs.Dropping.{drops_more, drops_all}
use Rattle.words.proofs.emptying.drop_holds.Goals as goal

pub loop-at-preserved : goal.loop-at-preserved
loop-at-preserved c =
    let n = c in
    let at = n in
    let a = at.args in
    let l = at.loop-at in (
      drops_more a.quota (accounts_of a.words.now) l.at (accounts_of l.words) l.invariant.0
          (omega (arith, n.loop-at-test.true, holds_long a.words.now)) _ c.drop_at.ensures.holds,
      padded_on l.invariant.1 c.drop_at.ensures.pads,
    )

pub returns : goal.returns
returns c =
    let at = c in
    let a = at.args in
    let l = at.loop-at in
    record {
      holds = drops_all a.quota (accounts_of a.words.now) l.at (accounts_of l.words) l.invariant.0
          (omega (arith, c.loop-at-test.false, holds_long a.words.now));
      pads = l.invariant.1;
    }
