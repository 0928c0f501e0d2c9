-- The invariant: the first `i` items stand behind each other (`written_more`).
use mathlib.Core.Path.{◌≡◌}
use lib.ListN.{take}
use Rattle.words.specs.Words.{holds_of}
use Rattle.layout.specs.Bytes.{overwrite}
use Rattle.image_model.specs.Items.{many}
use Rattle.image_model.specs.Stream.{record_bytes}
use Rattle.image.proofs.records.write_records.Given as goal

abbrev pub invariant-loop-i : goal.invariant-loop-i
invariant-loop-i l = l.head ≡ overwrite l.at (many record_bytes (take l.i (holds_of l.words))) l.initial.head
