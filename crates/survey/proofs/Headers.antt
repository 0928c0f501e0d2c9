-- Headers of a heap that lies in a stream: the eight bytes at a place of the stream are those of the heap.
use Rattle.std.proofs.Common.{◌≡◌, ℕ, ◌+◌, ◌-◌, ◌≤◌, List, ◌++◌, length, drop, sym, ap, ◌∙◌, arith, length-append, length-drop, drop-drop, drop_at}
use lib.Seq.{take-append-le, drop-append-le}
use Rattle.layout.specs.Blocks.{read_header, header_at}
use Rattle.layout.proofs.Fields.{header_fits}
use Rattle.framing.specs.Frames.{padded}
use Rattle.framing.proofs.Padding.{length_padded, padded_split}

-- a header is that of the first eight bytes
header_front : (a b : List ℕ) → length a ≡ 8 → header_at 0 (a ++ b) ≡ header_at 0 a
unfolding read_header
header_front a b e =
    let l = length-append a b in
    let l2 = length-drop 2 a in
    let l4 = length-drop 4 a in
    header_fits 0 (a ++ b) (omega arith)
    ∙ (rw (
      take-append-le 2 a b (omega arith),
      drop-append-le 2 a b (omega arith),
      take-append-le 2 (drop 2 a) b (omega arith),
      drop-append-le 4 a b (omega arith),
      take-append-le 4 (drop 4 a) b (omega arith),
    ))
    ∙ sym (header_fits 0 a (omega arith))

pub header_framed : (from at n : ℕ) (t : List ℕ) → at + 8 ≤ n
    → header_at 0 (drop at (padded n (drop from t))) ≡ header_at 0 (padded 8 (drop (from + at) t))
header_framed from at n t h =
    let u = drop from t in
    let k = n - at - 8 in
    let z : n ≡ at + (8 + k) = omega arith in
    ap (λ (m : ℕ). header_at 0 (drop at (padded m u))) z
    ∙ ap (λ (l : List ℕ). header_at 0 (drop at l)) (padded_split at (8 + k) u)
    ∙ ap (header_at 0) (drop_at (padded at u) (padded (8 + k) (drop at u)) at (length_padded at u))
    ∙ ap (header_at 0) (padded_split 8 k (drop at u))
    ∙ header_front (padded 8 (drop at u)) (padded k (drop 8 (drop at u))) (length_padded 8 (drop at u))
    ∙ ap (λ (l : List ℕ). header_at 0 (padded 8 l)) (drop-drop at from t)

-- where the rest from a place on begins
pub rest_place : (s : List ℕ) (at : ℕ) → at ≤ length s → length s - length (drop at s) ≡ at
rest_place s at h = let l = length-drop at s in omega arith
