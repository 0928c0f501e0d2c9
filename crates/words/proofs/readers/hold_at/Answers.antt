-- `words::hold_at` meets its contract: the record is the one of the table.
use Prim.Native.Nat.{◌/◌, ◌%◌}
use mathlib.Core.Path.{◌∙◌}
use Rattle.words.proofs.Readings.{hold_is, hold_none}
use Rattle.words.proofs.readers.hold_at.Goals as goal

pub returns-then-place-ge-HOLDS : goal.returns-then-place-ge-HOLDS
returns-then-place-ge-HOLDS c =
    let a = c.args in
    c.zero.ensures ∙ hold_none a.words.now a.place c.if-place-ge-HOLDS.true

pub returns : goal.returns
returns c =
    let w = c in
    let a = w.args in
    let rest = c.word_at-rest.ensures in
    (λ i. record { serial = w.word_at-serial.ensures i; quota = rest i % 256; count = rest i / 256 % 256 })
    ∙ hold_is a.words.now a.place w.if-place-ge-HOLDS.false
