use Rattle.std.proofs.Common.{◌≡◌, ℕ, ◌%◌, get_or, sym, refl, ap, ◌∙◌, arith, rules}
use Rattle.survey.specs.Index.{FORKED, slot, bits_of}
use Rattle.survey.proofs.Paths.{link_rises}
use Rattle.survey.proofs.Tracing.{trace_start, trace_none, trace_end, trace_hit, trace_on, sought_other, sought_miss}
use Rattle.survey.proofs.indexing.HoldIndex.on_path.Goals as goal
use Rattle.survey.proofs.indexing.HoldIndex.on_path.Goals.{then-serial_in-serial+else-passes, else-serial_in-serial}

pub returns-then-serial-eq0 : goal.returns-then-serial-eq0
returns-then-serial-eq0 g c test tests = trace_none c.requires.0 test c.args.serial c.requires.1 c.if-serial-eq0.true

pub loop-at-init : goal.loop-at-init
unfolding bits_of
loop-at-init g c test tests =
    let a = c.args in
    let h : c.head_in-at.result ≡ get_or a.self.now.heads (slot a.serial) 0 = c.head_in-at.ensures.0
    ∙ ap (λ (x : ℕ). get_or a.self.now.heads x 0) c.slot_of-slot.ensures.0 in
    trace_start c.requires.0 test a.serial c.if-serial-eq0.false (ap (λ (x : ℕ). x % FORKED) h) refl

pub returns-then-passes : goal.returns-then-passes
returns-then-passes g c test tests =
    let q = c.quota_in-quota.ensures in
    trace_hit c.requires.0 test c.args.serial (c.loop-at.invariant test tests) c.if-serial-eq0.false c.loop-at-test.true
    (sym c.serial_in.ensures ∙ c.if-serial_in-serial.true)
    (sym c.if-passes.true ∙ tests c.quota_in-quota.result (omega (arith, q)) c.passes.result c.passes.ensures ∙ ap test q)

pub loop-at-smaller : goal.loop-at-smaller
loop-at-smaller g c =
    let u = link_rises c.loop-at.bits c.requires.0.growing c.loop-at-test.true in
    omega (arith, u, c.link_in-at.ensures.0, c.loop-at-test.true)

pub loop-at-preserved : goal.loop-at-preserved
loop-at-preserved g c test tests =
    let t = c.loop-at.invariant test tests in
    let live = c.if-serial-eq0.false in
    let l = c.loop-at-test.true in
    trace_on c.requires.0 test c.args.serial t live l (elim c.if-serial_in-serial.branch [
      | then-serial_in-serial+else-passes w ↦
          let q = w.quota_in-quota.ensures in
          sought_miss c.requires.0 test c.args.serial t live l (sym c.serial_in.ensures ∙ w.if-serial_in-serial.true)
          (sym w.if-passes.false ∙ tests w.quota_in-quota.result (omega (arith, q)) w.passes.result w.passes.ensures ∙ ap test q)
      | else-serial_in-serial w ↦
          sought_other c.requires.0 test c.args.serial t live l (λ e. w.if-serial_in-serial.false (c.serial_in.ensures ∙ e))
    ]) c.link_in-at.ensures.0

pub returns : goal.returns
returns g c test tests = trace_end c.requires.0 test c.args.serial (c.loop-at.invariant test tests) (search rules)
