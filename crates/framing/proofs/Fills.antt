-- Filling a part of the image with the stream's bytes, one after the other.
use Rattle.std.proofs.Common.{◌≡◌, ℕ, ◌+◌, ◌<◌, List, length, get_or, drop, set, sym, add-one, get_or-drop}
use Rattle.layout.specs.Bytes.{overwrite}
use Rattle.layout.proofs.Overwrite.{overwrite_nil, overwrite_more}
use Rattle.framing.specs.Frames.{padded}
use Rattle.framing.proofs.Padding.{length_padded, padded_more}

pub fill_none : (to : ℕ) (s image : List ℕ) → image ≡ overwrite to (padded 0 s) image
unfolding padded
fill_none to s image = sym (overwrite_nil to image)

-- one byte more
pub fill_more : (to from i x : ℕ) (s image now : List ℕ) → to + i < length image → now ≡ overwrite to (padded i (drop from s)) image → x ≡ get_or s (from + i) 0
    → set now (to + i) x ≡ overwrite to (padded (i + 1) (drop from s)) image
fill_more to from i x s image now h e f =
    rw (e, f, ← get_or-drop from s i 0, add-one i, padded_more i (drop from s))
    (overwrite_more to (padded i (drop from s)) image i (get_or (drop from s) i 0) (length_padded i (drop from s)) h)
