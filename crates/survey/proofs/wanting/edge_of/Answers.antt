-- `survey::wanting::edge_of` meets its contract: its tests are those of the definition.
use Rattle.std.proofs.Common.{refl, arith, le-ltb, lt-ltb}
use Rattle.survey.specs.Route.{edge_of}
use Rattle.survey.proofs.wanting.edge_of.Goals as goal

pub returns-then-at-lt8 : goal.returns-then-at-lt8
unfolding edge_of
returns-then-at-lt8 c = let a = c.args in (rw (lt-ltb a.base 8 (omega (arith, c.if-at-lt8.true))) refl, omega arith)

pub returns-then-len-at : goal.returns-then-len-at
unfolding edge_of
returns-then-len-at c =
    let a = c.args in
    (rw (le-ltb a.base 8 (omega (arith, c.if-at-lt8.false)), lt-ltb a.len a.base (omega (arith, c.if-len-at.true))) refl, omega arith)

pub returns : goal.returns
unfolding edge_of
returns c =
    let a = c.args in
    (rw (le-ltb a.base 8 (omega (arith, c.if-at-lt8.false)), le-ltb a.len a.base (omega (arith, c.if-len-at.false))) refl, omega arith)
