-- The rest of a line, number by number.
use mathlib.Core.Path.{◌≡◌}
use mathlib.Core.List.{List, [], ◌∷◌, ◌++◌}
use Prim.Native.Nat.{ℕ, ◌+◌, ◌≤◌, ◌<◌}
use native.Mathlib.Numerals.{add-one}
use lib.ListN.{length, drop, get_or, drop_of_length-le}
use lib.Seq.{drop-cons}
use Rattle.replay_model.specs.Text.{SPACE, LINE_FEED, decimal}
use Rattle.replay_model.specs.Replay.{tail_of}

pub tail_next : (i : ℕ) (ns : List ℕ) → i < length ns → tail_of (drop i ns) ≡ (SPACE ∷ []) ++ (decimal (get_or ns i 0) ++ tail_of (drop (i + 1) ns))
unfolding tail_of
tail_next i ns h = rw (add-one, drop-cons ns i 0 h)

pub tail_end : (i : ℕ) (ns : List ℕ) → length ns ≤ i → tail_of (drop i ns) ≡ LINE_FEED ∷ []
unfolding tail_of
tail_end i ns h = rw (drop_of_length-le ns h)
