-- The quotas, the last serial, the records, the kind and the edition are put one after the other; each leaves what was put before it.
use mathlib.Core.Path.{ap, ◌∙◌}
use Rattle.accounts.specs.declared.Accounts.{Accounts}
use Rattle.words.proofs.Padding.{unpadded_on}
use Rattle.framing.specs.Frames.{stream_of}
use Rattle.image_model.specs.Stream.{tail_width}
use Rattle.image.proofs.Said.{accounts_read}
use Rattle.image.proofs.in_place.reading.put_accounts.Goals as goal

pub put_entries-requires : goal.put_entries-requires
put_entries-requires c =
    let b = c in
    (b.requires.quotas, ap (λ (k : Accounts). k.quotas) (b.put_blank.ensures.holds b.args.form))

pub returns : goal.returns
unfolding tail_width
returns c =
    let d = c in
    let m = d in
    let r = m in
    let p = r in
    let l = p in
    let e = l in
    let b = e in
    let a = b.args in
    let f = a.form in
    let k = c.put_kinds.ensures.holds in
    let h = r.put_records.ensures.holds f in
    let n = l.set_last_serial.ensures.holds in
    record {
      holds = accounts_read f (stream_of a.image.now) _ p.entry_at.result p.entry_at.ensures.0
          (ap (λ (x : Accounts). x.quotas) k ∙ ap (λ (x : Accounts). x.quotas) h ∙ ap (λ (x : Accounts). x.quotas) n
          ∙ ap (λ (x : Accounts). x.quotas) (e.put_entries.ensures.holds))
          (ap (λ (x : Accounts). x.last_serial) k ∙ ap (λ (x : Accounts). x.last_serial) h ∙ ap (λ (x : Accounts). x.last_serial) n
          ∙ l.read_quad.ensures)
          (ap (λ (x : Accounts). x.holds) k ∙ ap (λ (x : Accounts). x.holds) h)
          (ap (λ (x : Accounts). x.kind) k ∙ m.read_kind.ensures)
          (ap (λ (x : Accounts). x.edition) k ∙ d.read_edition.ensures);
      pads = unpadded_on (unpadded_on (unpadded_on (unpadded_on b.put_blank.ensures.pads e.put_entries.ensures.pads) l.set_last_serial.ensures.pads)
          r.put_records.ensures.pads) c.put_kinds.ensures.pads;
    }
