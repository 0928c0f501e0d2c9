-- The check in the frames says whether the heap is consistent (`Restores`).
use mathlib.Core.Path.{refl, ap, ◌∙◌}
use mathlib.Core.List.{List}
use Prim.Native.Nat.{ℕ}
use lib.ListN.{drop}
use Rattle.words.specs.Words.{accounts_of}
use Rattle.framing.specs.Frames.{padded, stream_of}
use Rattle.framing.proofs.Padding.{length_padded}
use Rattle.model.specs.Consistent.{allowed}
use Rattle.image.proofs.Restores.{check_answers}
use Rattle.image.proofs.reading.is_consistent_in.Goals as goal
use Rattle.image.proofs.reading.is_consistent_in.Goals.{Start}

-- the bytes of the stream from the place on, and the heap that they are
abbrev stream : Start → List ℕ
stream c = drop c.args.from (stream_of c.args.image.now)

abbrev heap : Start → List ℕ
heap c = padded c.args.size (stream c)

pub returns : goal.returns
returns c =
    let a = c.args in
    c.is_ok.ensures.value
    ∙ check_answers (heap (goal.at.returns c).Start) (heap (goal.at.returns c).Start) (accounts_of a.words.now)
    c.check_in_frames.result c.check_in_frames.ensures refl
    (ap allowed (length_padded a.size (stream (goal.at.returns c).Start)) ∙ c.requires)
