use native.Mathlib.Omega.{arith}
use mathlib.Core.Path.{◌≡◌, ap, ◌∙◌}
use Prim.Native.Nat.{ℕ}
use lib.ListN.{length, get_or}
use Rattle.accounts.specs.Accounts.{QUOTAS, zero_quota}
use Rattle.words.specs.Words.{quotas_of}
use Rattle.words.proofs.Words.{quotas_long}
use Rattle.layout.specs.Bytes.{overwrite}
use Rattle.image_model.specs.Stream.{entry_bytes, entry_width}
use Rattle.image_model.proofs.Entries.{entry_length}
use Rattle.image.proofs.Items.{written_none, written_more}
use Rattle.image.proofs.Heads.{entry_inside}
use Rattle.image.proofs.entries.write_entries.Goals as goal
use Rattle.image.proofs.entries.write_entries.Goals.{At-loop-i}

pub loop-i-init : goal.loop-i-init
loop-i-init c =
    let a = c.args in
    written_none (entry_bytes a.form) (entry_width a.form) (entry_length a.form) 12 (quotas_of a.words.now) a.head.now

pub loop-i-preserved : goal.loop-i-preserved
loop-i-preserved c =
    let w = c in
    let p = w in
    let q = p in
    let at = q in
    let start = at in
    let a = start.args in
    let i = at.loop-i.i in
    let l : length (quotas_of a.words.now) ≡ QUOTAS = quotas_long a.words.now in
    let last = w.write_entry.new.head in
    let f = a.form in
    written_more (entry_bytes f) (entry_width f) (entry_length f) 12 i (quotas_of a.words.now) zero_quota a.head.now
    at.loop-i.head last
    (omega arith)
    (entry_inside i f.quotas (entry_width f) (length a.head.now) (omega arith) start.requires.1)
    at.loop-i.invariant
    (w.write_entry.ensures
    ∙ (λ j. overwrite p.entry_at.result (entry_bytes f (q.quota_at-quota.ensures j)) at.loop-i.head)
    ∙ ap (λ (n : ℕ). overwrite n (entry_bytes f (get_or (quotas_of a.words.now) i zero_quota)) at.loop-i.head)
    p.entry_at.ensures.0)
