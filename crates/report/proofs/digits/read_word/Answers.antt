use native.Mathlib.Omega.{arith}
use mathlib.Core.Path.{refl}
use lib.ListN.{get_or}
use Rattle.report.specs.Words.{value, number}
use Rattle.report.proofs.Loops.{read_more}
use Rattle.report.proofs.digits.read_word.Goals as goal

pub loop-i-init : goal.loop-i-init
unfolding number
loop-i-init c = refl

pub overflow_mul-n : goal.overflow_mul-n
overflow_mul-n c =
    let l = c in
    let s = l in
    let a = s.args in
    let e = read_more a.text.now s.requires.0 s.requires.1 l.loop-i.i l.loop-i.n (value (get_or a.text.now l.loop-i.i 0))
    (omega arith) l.loop-i.invariant refl in
    omega (arith, e.1)

pub overflow_add-n : goal.overflow_add-n
overflow_add-n c =
    let l = c in
    let s = l in
    let a = s.args in
    let e = read_more a.text.now s.requires.0 s.requires.1 l.loop-i.i l.loop-i.n c.value_of.result (omega arith) l.loop-i.invariant
    c.value_of.ensures in
    omega (arith, e.1)

pub loop-i-preserved : goal.loop-i-preserved
loop-i-preserved c =
    let l = c in
    let s = l in
    let a = s.args in
    let e = read_more a.text.now s.requires.0 s.requires.1 l.loop-i.i l.loop-i.n c.value_of.result (omega arith) l.loop-i.invariant
    c.value_of.ensures in
    e.0
