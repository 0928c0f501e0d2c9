use native.Mathlib.Omega.{arith}
use mathlib.Core.Path.{◌≡◌, ap, ◌∙◌}
use Prim.Native.Nat.{ℕ, ◌+◌, ◌*◌, ◌-◌}
use mathlib.Core.List.{List}
use lib.ListN.{length, get_or}
use lib.Seq.{take_all}
use Rattle.accounts.specs.Accounts.{QUOTAS}
use borrow.Rule.Slice.PartMut.{put_mid}
use Rattle.layout.specs.Bytes.{overwrite}
use Rattle.report.specs.Words.{line_text}
use Rattle.report.specs.Export.{lines_text}
use Rattle.report.proofs.Words.{line_length}
use Rattle.report.proofs.Exports.{put_none, put_line_more, line_put}
use Rattle.report.proofs.exporting.put_lines.Goals as goal
use Rattle.report.proofs.exporting.put_lines.Goals.{At-loop-i}

pub loop-i-init : goal.loop-i-init
loop-i-init c =
    let a = c.args in
    put_none a.grants a.text.now

pub loop-i-preserved : goal.loop-i-preserved
loop-i-preserved c =
    let a = c.args in
    let t : length c.loop-i.text ≡ length a.text.now = c.loop-i.auto.text in
    let n : length a.grants ≡ QUOTAS = c.well_formed.1.0.1.0.1 in
    let i = c.loop-i.i in
    let g = get_or a.grants i 0 in
    let e : c.copy_from_slice.new.self ≡ line_text g = c.copy_from_slice.ensures.after ∙ c.grant_line.ensures in
    let l = line_length g in
    put_line_more i a.grants a.text.now c.loop-i.text _ (omega arith) (omega (arith, c.requires)) c.loop-i.invariant
    (ap (λ (new : List ℕ). put_mid (54 * i) (54 * i + 54 - 54 * i) c.loop-i.text new) e
    ∙ line_put (54 * i) c.loop-i.text (line_text g) l (omega (arith, t, c.requires)))

pub returns : goal.returns
returns c =
    let a = c.args in
    let n : length a.grants ≡ QUOTAS = c.well_formed.1.0.1.0.1 in
    c.loop-i.invariant ∙ ap (λ (gs : List ℕ). overwrite 0 (lines_text gs) a.text.now) (take_all c.loop-i.i a.grants (omega arith))
