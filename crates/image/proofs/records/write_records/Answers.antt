use native.Mathlib.Omega.{arith}
use mathlib.Core.Path.{◌≡◌, ◌∙◌}
use Prim.Native.Nat.{◌+◌, ◌*◌}
use lib.ListN.{length}
use Rattle.accounts.specs.Accounts.{HOLDS, zero_hold, hold_at}
use Rattle.words.specs.Words.{holds_of}
use Rattle.words.proofs.Words.{holds_long}
use Rattle.layout.specs.Bytes.{overwrite}
use Rattle.image_model.specs.Stream.{record_bytes}
use Rattle.image.proofs.Items.{written_none, written_more}
use Rattle.image_model.proofs.Entries.{record_length}
use Rattle.image.proofs.records.write_records.Goals as goal
use Rattle.image.proofs.records.write_records.Goals.{At-loop-i}

pub loop-i-init : goal.loop-i-init
loop-i-init c = let a = c.args in written_none record_bytes 8 record_length a.at (holds_of a.words.now) a.head.now

pub loop-i-preserved : goal.loop-i-preserved
unfolding hold_at
loop-i-preserved c =
    let w = c in
    let h = w in
    let at = h in
    let start = at in
    let a = start.args in
    let l : length (holds_of a.words.now) ≡ HOLDS = holds_long a.words.now in
    written_more record_bytes 8 record_length a.at at.loop-i.i (holds_of a.words.now) zero_hold a.head.now at.loop-i.head
    w.write_record.new.head (omega arith) (omega arith) at.loop-i.invariant
    (w.write_record.ensures ∙ (λ j. overwrite (a.at + at.loop-i.i * 8) (record_bytes (h.hold_at-hold.ensures j)) at.loop-i.head))
