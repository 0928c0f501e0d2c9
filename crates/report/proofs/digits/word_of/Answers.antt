use native.Mathlib.Omega.{arith}
use mathlib.Core.Path.{◌≡◌, ap, sym, ◌∙◌}
use mathlib.Core.List.{List, replicate, append-nil}
use Prim.Native.Nat.{ℕ}
use lib.ListN.{get_or}
use lib.Seq.{take_all}
use Rattle.layout.specs.Bytes.{overwrite}
use Rattle.layout.proofs.Overwrite.{overwrite_nil, overwrite_fits}
use Rattle.report.specs.Words.{digits}
use Rattle.report.proofs.Hex.{digits_length}
use Rattle.report.proofs.Loops.{put_more, shifted}
use Rattle.report.proofs.digits.word_of.Goals as goal

pub loop-i-init : goal.loop-i-init
loop-i-init c = sym (overwrite_nil 0 (replicate 8 0))

pub loop-i-preserved : goal.loop-i-preserved
loop-i-preserved c =
    let a = c.args in
    let i = c.loop-i.i in
    let n = digits_length 8 a.n in
    let e : c.digit_of.result ≡ get_or (digits 8 a.n) i 0 = c.digit_of.ensures ∙ shifted a.n i (omega arith) in
    put_more i c.digit_of.result (digits 8 a.n) (replicate 8 0) c.loop-i.word (omega arith) (omega arith) e c.loop-i.invariant

pub returns : goal.returns
returns c =
    let a = c.args in
    let n = digits_length 8 a.n in
    c.loop-i.invariant
    ∙ ap (λ (p : List ℕ). overwrite 0 p (replicate 8 0)) (take_all c.loop-i.i (digits 8 a.n) (omega arith))
    ∙ overwrite_fits 0 (digits 8 a.n) (replicate 8 0) (omega arith)
    ∙ rw n (append-nil (digits 8 a.n))
