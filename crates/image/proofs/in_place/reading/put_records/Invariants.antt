-- The invariant: the first `i` records are read and the others blank (`read_more`).
use mathlib.Core.Path.{◌≡◌}
use Prim.Native.Nat.{ℕ}
use mathlib.Core.List.{List, ◌++◌}
use lib.ListN.{drop}
use Rattle.accounts.specs.declared.Hold.{Hold}
use Rattle.accounts.specs.Accounts.{with_holds}
use Rattle.words.specs.Words.{accounts_of, Padded}
use Rattle.framing.specs.Frames.{stream_of}
use Rattle.image_model.specs.declared.Form.{Form}
use Rattle.image_model.specs.Items.{each}
use Rattle.image_model.specs.Stream.{blank, record_width}
use Rattle.image_model.specs.Reading.{record_of}
use Rattle.image.proofs.in_place.reading.put_records.Given as goal

-- the records when so many are read
abbrev pub Read : Form → ℕ → ℕ → List ℕ → List Hold
Read f at i image = each record_of record_width i (drop at (stream_of image)) ++ drop i (blank f).holds

abbrev pub invariant-loop-i : goal.invariant-loop-i
invariant-loop-i l = ((f : Form) → accounts_of l.words ≡ with_holds (Read f l.at l.i l.image) (accounts_of l.initial.words))
    × Padded l.initial.words l.words
