-- The parts are written one behind the other (`head_written`).
use native.Mathlib.Omega.{arith}
use mathlib.Core.Path.{ap, ◌∙◌}
use borrow.Author.Rules.{rules}
use Prim.Native.Nat.{ℕ}
use mathlib.Core.Bool.{cond}
use mathlib.Core.List.{◌++◌}
use lib.ListN.{take, replicate}
use Rattle.layout.specs.Bytes.{bytes, overwrite, write_number}
use Rattle.image_model.specs.Items.{many}
use Rattle.image_model.specs.Stream.{tail_width, marks_of, record_bytes, head_length}
use Rattle.words.specs.Words.{accounts_of}
use Rattle.words.proofs.Words.{quotas_long, holds_long}
use Rattle.image.proofs.Heads.{head_written}
use Rattle.image.proofs.head.write_head.Goals as goal

pub write_entries-requires : goal.write_entries-requires
unfolding head_length tail_width
write_entries-requires c = (search rules, omega arith)

pub write_records-requires : goal.write_records-requires
unfolding head_length tail_width
write_records-requires c =
    let w₄ = c in
    let w₂ = w₄ in
    let w₁ = w₂ in
    let start = w₁ in
    (start.requires.0.records, omega arith)

pub returns : goal.returns
unfolding tail_width marks_of
returns c =
    let w₆ = c in
    let w₅ = w₆ in
    let w₄ = w₅ in
    let n = w₄ in
    let w₃ = n in
    let w₂ = w₃ in
    let m = w₂ in
    let e = m in
    let d = e in
    let w₁ = d in
    let start = w₁ in
    let a = start.args in
    let words = a.words.now in
    let k = accounts_of words in
    head_written a.form start.requires.0 a.size k (quotas_long words) (holds_long words) a.head.now w₁.write_u16.new.bytes
    w₂.write_u16-2.new.bytes w₃.write_u32.new.bytes
    w₄.write_u32-2.new.bytes
    w₅.write_entries.new.head w₆.write_records.new.head start.requires.1
    w₁.write_u16.ensures m.marks.result
    (m.marks.ensures.0 ∙ (λ i. cond a.form.full (bytes 1 (e.edition.ensures i) ++ bytes 1 (d.kind.ensures i)) (replicate 2 0)))
    w₂.write_u16-2.ensures w₃.write_u32.ensures
    (w₄.write_u32-2.ensures ∙ (λ i. write_number 4 8 (n.last_serial.ensures i) w₃.write_u32.new.bytes))
    (w₅.write_entries.ensures)
    (w₆.write_records.ensures
    ∙ ap (λ (x : ℕ). overwrite x (many record_bytes (take a.form.records k.holds)) w₅.write_entries.new.head) w₆.entry_at.ensures.0)
