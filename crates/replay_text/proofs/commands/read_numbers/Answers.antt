use native.Mathlib.Omega.{arith}
use mathlib.Core.Path.{◌≡◌, ap, sym, subst, ◌∙◌}
use Prim.Native.Nat.{ℕ}
use lib.ListN.{length, replicate, length-replicate, length-set}
use Rattle.replay_model.specs.Text.{SPACE}
use Rattle.replay_model.specs.Lines.{words, numbers}
use Rattle.replay_text.specs.Clauses.{exactly, parts_left}
use Rattle.replay_text.proofs.Gathering.{Gathering, gather_start, gather_few, gather_none, gather_more, gather_done}
use Rattle.replay_text.proofs.commands.read_numbers.Goals as goal

pub loop-value-init : goal.loop-value-init
loop-value-init g c =
    record { long = length-replicate {A = ℕ} g.row.N 0; gathered = gather_start (words c.args.text.now) (replicate {A = ℕ} g.row.N 0) }

pub returns-in_err-left : goal.returns-in_err-left
returns-in_err-left g c =
    let ws = words c.args.text.now in
    let l = c.loop-value in
    let long = l.invariant.long in
    let few = gather_few ws l.value-items l.value-index (omega arith)
    (subst (λ o. Gathering ws l.value-items l.value-index (parts_left SPACE o)) c.in_err-left.was l.invariant.gathered) in
    c.from_residual.ensures ∙ sym few ∙ ap (λ n. exactly n (numbers ws)) long

pub returns-in_err-value : goal.returns-in_err-value
returns-in_err-value g c =
    let ws = words c.args.text.now in
    let l = c.loop-value in
    let p = c.first_part in
    let next = subst (Gathering ws l.value-items l.value-index) (ap (parts_left SPACE) c.in_ok-left.was ∙ p.ensures) l.invariant.gathered in
    c.from_residual-in_err-value.ensures
    ∙ sym (gather_none ws (parts_left SPACE p.result.1) l.value-items l.value-index g.row.N p.result.0.now next (sym c.in_err-value.ensures))

pub loop-value-preserved : goal.loop-value-preserved
loop-value-preserved g c =
    let ws = words c.args.text.now in
    let l = c.loop-value in
    let p = c.first_part in
    let long = l.invariant.long in
    let next = subst (Gathering ws l.value-items l.value-index) (ap (parts_left SPACE) c.in_ok-left.was ∙ p.ensures) l.invariant.gathered in
    record {
      long = length-set l.value-items l.value-index c.in_ok-value.field-0 ∙ long;
      gathered = gather_more ws (parts_left SPACE p.result.1) l.value-items l.value-index p.result.0.now c.in_ok-value.field-0 next (omega arith)
          (sym c.in_ok-value.ensures);
    }

pub returns : goal.returns
returns g c =
    let l = c.loop-value in
    let long = l.invariant.long in
    let full : l.value-index ≡ length l.value-items = omega arith in
    let done = gather_done c.args.text.now l.value-items l.left c.is_none.result c.is_none.ensures
    (subst (λ n. Gathering (words c.args.text.now) l.value-items n (parts_left SPACE l.left)) full l.invariant.gathered) in
    c.then_some.ensures ∙ done ∙ ap (λ n. exactly n (numbers (words c.args.text.now))) long
