use native.Mathlib.Omega.{arith}
use mathlib.Core.Path.{refl, ap, ◌∙◌}
use Prim.Native.Nat.{ℕ}
use mathlib.Core.List.{List}
use lib.ListN.{take, drop}
use Rattle.accounts.specs.declared.Quota.{Quota}
use Rattle.accounts.specs.Accounts.{zero_quota, with_quotas, opened}
use Rattle.words.specs.Words.{accounts_of}
use Rattle.words.proofs.Padding.{padded_same, padded_on}
use Rattle.words.specs.Opening.{with_quota}
use Rattle.framing.specs.Frames.{stream_of}
use Rattle.image_model.specs.Items.{each}
use Rattle.image_model.specs.Stream.{blank, entry_width}
use Rattle.image_model.specs.Reading.{entry_of}
use Rattle.image.proofs.Items.{read_more}
use Rattle.image.proofs.Heads.{entry_place}
use Rattle.image.proofs.in_place.reading.put_entries.Goals as goal
use Rattle.image.proofs.in_place.reading.put_entries.Invariants.{Read}

pub loop-i-init : goal.loop-i-init
unfolding each
loop-i-init c =
    let s = c in
    (ap (λ (qs : List Quota). with_quotas qs (accounts_of s.args.words.now)) s.requires.1, padded_same s.args.words.now)

pub loop-i-preserved : goal.loop-i-preserved
unfolding blank opened
loop-i-preserved c =
    let r = c in
    let p = r in
    let l = p.loop-i in
    let s = p in
    let a = s.args in
    let t = stream_of a.image.now in
    let f = a.form in
    let x = r.read_entry-quota.result in (
      c.put_quota.ensures.holds ∙ ap (with_quota l.i x) (l.invariant.0)
          ∙ ap (λ (qs : List Quota). with_quotas qs (accounts_of a.words.now))
          (read_more (entry_of f) (entry_width f) l.i (drop 12 t) (Read f l.i a.image.now) (blank f).quotas x zero_quota (omega arith) refl
          (r.read_entry-quota.ensures
          ∙ ap (λ (y : List ℕ). entry_of f (take (entry_width f) y)) (entry_place f t l.i p.entry_at.result p.entry_at.ensures.0))),
      padded_on l.invariant.1 c.put_quota.ensures.pads,
    )
