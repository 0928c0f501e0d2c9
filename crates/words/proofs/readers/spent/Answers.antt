-- `words::spent` meets its contract: a difference below 0 is 0.
use native.Mathlib.Omega.{arith}
use Rattle.words.proofs.Readings.{spent_is, spent_none}
use Rattle.words.proofs.readers.spent.Goals as goal

pub returns-then-q-ge-QUOTAS : goal.returns-then-q-ge-QUOTAS
returns-then-q-ge-QUOTAS c = let a = c.args in spent_none a.words.now a.quota c.if-q-ge-QUOTAS.true

pub returns-then-grant-remainder : goal.returns-then-grant-remainder
returns-then-grant-remainder c =
    let w = c in
    let e = w in
    let a = e.args in
    omega (arith, c.if-grant-remainder.true, w.word_at-remainder.ensures, w.word_at-grant.ensures, spent_is a.words.now a.quota e.if-q-ge-QUOTAS.false)

pub returns : goal.returns
returns c =
    let w = c in
    let e = w in
    let a = e.args in
    omega (arith, w.word_at-remainder.ensures, w.word_at-grant.ensures, spent_is a.words.now a.quota e.if-q-ge-QUOTAS.false)
