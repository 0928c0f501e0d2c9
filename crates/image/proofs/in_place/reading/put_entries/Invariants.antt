-- The invariant: the first `i` quotas are read and the others blank (`read_more`).
use mathlib.Core.Path.{◌≡◌}
use Prim.Native.Nat.{ℕ}
use mathlib.Core.List.{List, ◌++◌}
use lib.ListN.{drop}
use Rattle.accounts.specs.declared.Quota.{Quota}
use Rattle.accounts.specs.Accounts.{with_quotas}
use Rattle.words.specs.Words.{accounts_of, Padded}
use Rattle.framing.specs.Frames.{stream_of}
use Rattle.image_model.specs.declared.Form.{Form}
use Rattle.image_model.specs.Items.{each}
use Rattle.image_model.specs.Stream.{blank, entry_width}
use Rattle.image_model.specs.Reading.{entry_of}
use Rattle.image.proofs.in_place.reading.put_entries.Given as goal

-- the quotas when so many are read
abbrev pub Read : Form → ℕ → List ℕ → List Quota
Read f i image = each (entry_of f) (entry_width f) i (drop 12 (stream_of image)) ++ drop i (blank f).quotas

abbrev pub invariant-loop-i : goal.invariant-loop-i
invariant-loop-i l =
    (accounts_of l.words ≡ with_quotas (Read l.form l.i l.image) (accounts_of l.initial.words)) × Padded l.initial.words l.words
