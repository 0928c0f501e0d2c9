use native.Mathlib.Omega.{arith}
use mathlib.Core.Path.{refl, ap, sym, ◌∙◌}
use Prim.Native.Nat.{ℕ, ◌*◌}
use mathlib.Core.List.{List}
use lib.ListN.{take, drop}
use lib.Seq.{drop-drop}
use Rattle.accounts.specs.declared.Hold.{Hold}
use Rattle.accounts.specs.Accounts.{zero_hold, with_holds, put_hold, opened}
use Rattle.words.specs.Words.{accounts_of}
use Rattle.words.proofs.Padding.{padded_same, padded_on}
use Rattle.framing.specs.Frames.{stream_of}
use Rattle.image_model.specs.declared.Form.{Form}
use Rattle.image_model.specs.Items.{each}
use Rattle.image_model.specs.Stream.{blank, record_width}
use Rattle.image_model.specs.Reading.{record_of}
use Rattle.image.proofs.Items.{read_more}
use Rattle.image.proofs.in_place.reading.put_records.Goals as goal
use Rattle.image.proofs.in_place.reading.put_records.Invariants.{Read}

pub loop-i-init : goal.loop-i-init
unfolding each
loop-i-init c =
    let s = c in
    (λ (f : Form). ap (λ (hs : List Hold). with_holds hs (accounts_of s.args.words.now)) (s.requires.2 f), padded_same s.args.words.now)

pub loop-i-preserved : goal.loop-i-preserved
unfolding blank opened put_hold
loop-i-preserved c =
    let r = c in
    let l = r.loop-i in
    let a = r.args in
    let t = stream_of a.image.now in
    let x = r.read_record-hold.result in (
      λ (f : Form).
          c.put_hold.ensures.holds ∙ ap (put_hold l.i x) (l.invariant.0 f)
          ∙ ap (λ (hs : List Hold). with_holds hs (accounts_of a.words.now))
          (read_more record_of record_width l.i (drop a.at t) (Read f a.at l.i a.image.now) (blank f).holds x zero_hold (omega arith) refl
          (r.read_record-hold.ensures ∙ ap (λ (y : List ℕ). record_of (take 8 y)) (sym (drop-drop (l.i * 8) a.at t)))),
      padded_on l.invariant.1 c.put_hold.ensures.pads,
    )
