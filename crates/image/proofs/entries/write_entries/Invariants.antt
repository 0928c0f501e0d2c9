-- The invariant: the first `i` items stand behind each other (`written_more`).
use mathlib.Core.Path.{◌≡◌}
use lib.ListN.{take}
use Rattle.words.specs.Words.{quotas_of}
use Rattle.layout.specs.Bytes.{overwrite}
use Rattle.image_model.specs.Items.{many}
use Rattle.image_model.specs.Stream.{entry_bytes}
use Rattle.image.proofs.entries.write_entries.Given as goal

abbrev pub invariant-loop-i : goal.invariant-loop-i
invariant-loop-i l =
    l.head ≡ overwrite 12 (many (entry_bytes l.form) (take l.i (quotas_of l.words))) l.initial.head
