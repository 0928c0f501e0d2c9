-- `survey::settling::Unsettled::visit` meets its contract: its tests are those of the definition, and that a free block
-- has 8 bytes; each of them decides it where it fails. A serial above the last one can be that of a quarantined block;
-- one that is not is no such serial, since the last is below it.
use Rattle.std.proofs.Common.{◌-◌, sym, ◌∙◌, arith}
use borrow.Author.Tests.{not-true, not-false}
use Rattle.rounding.specs.Rounding.{table}
use Rattle.survey.proofs.Visits.{visit_behind, visit_apart, visit_above, visit_unfit, visit_settled}
use Rattle.survey.proofs.settling.Unsettled.visit.Goals as goal

pub returns-then-before-eq0 : goal.returns-then-before-eq0
returns-then-before-eq0 c =
    let s = c in
    let a = s.args in
    visit_behind (table a.numbers.edition) a.numbers.kind a.numbers.last a.serial a.size (a.whole - a.after) a.before
    s.requires.0 c.if-serial-eq0.true c.if-before-eq0.true

pub returns-then-serial-eq0 : goal.returns-then-serial-eq0
returns-then-serial-eq0 c =
    let s = c in
    let a = s.args in
    visit_apart (table a.numbers.edition) a.numbers.kind a.numbers.last a.serial a.size (a.whole - a.after) a.before
    s.requires.0 c.if-serial-eq0.true c.if-before-eq0.false

pub returns-then-numbers-serial : goal.returns-then-numbers-serial
returns-then-numbers-serial c =
    let s = c in
    let a = s.args in
    visit_above (table a.numbers.edition) a.numbers.kind a.numbers.last a.serial a.size (a.whole - a.after) a.before
    s.requires.0 c.if-numbers-serial.true c.is_waiting.result
    c.is_waiting.ensures

pub returns-then-not-is_fitting : goal.returns-then-not-is_fitting
returns-then-not-is_fitting c =
    let f = c in
    let s = f in
    let a = s.args in
    visit_unfit (table a.numbers.edition) a.numbers.kind a.numbers.last a.serial a.size (a.whole - a.after) a.before
    s.requires.0 f.if-serial-eq0.false
    (λ e. omega (arith, f.if-numbers-serial.false, a.numbers.given)) (sym f.is_fitting.ensures ∙ not-true _ c.if-not-is_fitting.true-raw)

pub returns : goal.returns
returns c =
    let u = c in
    let f = u in
    let e = f in
    let s = e in
    let a = s.args in
    let r = c.settle in
    visit_settled (table a.numbers.edition) a.numbers.kind a.numbers.last a.serial a.size (a.whole - a.after) a.before
    s.requires.0 e.if-serial-eq0.false
    (λ q. omega (arith, f.if-numbers-serial.false, a.numbers.given)) (sym f.is_fitting.ensures ∙ not-false _ u.if-not-is_fitting.false-raw)
    (omega (arith, f.if-numbers-serial.false))
    r.result r.new.self.index.heads r.new.self.index.links r.new.self.owed r.new.self.index.left r.ensures
