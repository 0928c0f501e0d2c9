-- What cutting into frames says of whole streams: a stream and its padded copy are cut alike, and frames carry bytes, 504 each.
use mathlib.Core.Path.{◌≡◌, refl, ap, ◌∙◌}
use mathlib.Core.List.{List, [], ◌∷◌, ◌++◌}
use Prim.Native.Nat.{ℕ, zero, suc, ◌+◌, ◌*◌, ◌-◌, ◌/◌, ◌≤◌}
use native.Mathlib.Omega.{arith}
use lib.ListN.{length, take, drop, replicate, length-append, length-drop}
use lib.Seq.{take_at, drop_at}
use Rattle.layout.specs.Bytes.{Octets}
use Rattle.layout.proofs.Rows.{zero_byte}
use Rattle.layout.proofs.Numbers.{part_length, octets_take, octets_drop, octets_append}
use Rattle.framing.specs.Frames.{padded, front_of, frame_of, cut_from, frames_for, cut, uncut, stream_of}
use Rattle.framing.proofs.Padding.{length_padded, padded_split, padded_whole}
use Rattle.framing.proofs.Cut.{length_cut, uncut_cut}

-- padded to less than its length is its front
pub padded_take : (k : ℕ) (s : List ℕ) → k ≤ length s → padded k s ≡ take k s
unfolding padded
padded_take zero s h = refl
padded_take (suc k) [] h = absurd (omega arith)
padded_take (suc k) (x ∷ s) h = ap (λ (l : List ℕ). x ∷ l) (padded_take k s (omega arith))

-- padding bytes gives bytes
pub padded_octets : (k : ℕ) (s : List ℕ) → Octets s → Octets (padded k s)
unfolding padded
padded_octets zero s o i = zero_byte
padded_octets (suc k) [] o zero = zero_byte
padded_octets (suc k) [] o (suc i) = padded_octets k [] o i
padded_octets (suc k) (x ∷ s) o zero = o 0
padded_octets (suc k) (x ∷ s) o (suc i) = padded_octets k s (λ j. o (suc j)) i

-- the front of what is padded, and the rest of it
module _ (j k : ℕ) (s : List ℕ) where
  padded_front : padded j (padded (j + k) s) ≡ padded j s
  padded_front =
      let l = length_padded (j + k) s in
      padded_take j (padded (j + k) s) (omega arith) ∙ ap (take j) (padded_split j k s) ∙ take_at (padded j s) (padded k (drop j s)) j (length_padded j s)

  padded_rest : drop j (padded (j + k) s) ≡ padded k (drop j s)
  padded_rest = ap (drop j) (padded_split j k s) ∙ drop_at (padded j s) (padded k (drop j s)) j (length_padded j s)

frame_alike : (b n : ℕ) (s t : List ℕ) → padded 504 s ≡ padded 504 t → frame_of b n s ≡ frame_of b n t
unfolding frame_of front_of
frame_alike b n s t e = rw e

-- a stream and its padded copy are cut alike
pub cut_padded : (k b n : ℕ) (s : List ℕ) → cut_from k b n (padded (504 * k) s) ≡ cut_from k b n s
unfolding cut_from
cut_padded zero b n s = refl
cut_padded (suc k) b n s =
    let e : 504 * suc k ≡ 504 + 504 * k = omega arith in
    rw (e, frame_alike b n (padded (504 + 504 * k) s) s (padded_front 504 (504 * k) s), padded_rest 504 (504 * k) s, cut_padded k (suc b) n (drop 504 s))

-- what frames carry
pub uncut_length : (k : ℕ) (i : List ℕ) → length i ≡ 512 * k → length (uncut k i) ≡ 504 * k
unfolding uncut
uncut_length zero i e = refl
uncut_length (suc k) i e =
    let p = part_length 504 4 i (omega arith) in
    simp (length-append, p, uncut_length k (drop 512 i) (simp length-drop (omega arith))) (omega arith)

pub uncut_octets : (k : ℕ) (i : List ℕ) → Octets i → Octets (uncut k i)
unfolding uncut
uncut_octets zero i o = λ j. zero_byte
uncut_octets (suc k) i o =
    let a = octets_take 504 (drop 4 i) (octets_drop 4 i o) in
    octets_append (take 504 (drop 4 i)) (uncut k (drop 512 i)) a (uncut_octets k (drop 512 i) (octets_drop 512 i o))

-- a stream in its frames, and back
module _ (t : List ℕ) where
  pub cut_length : length (cut t) ≡ 512 * frames_for (length t)
  unfolding cut
  cut_length = length_cut (frames_for (length t)) 0 (frames_for (length t)) t

  pub cut_frames : length (cut t) / 512 ≡ frames_for (length t)
  cut_frames = let l = cut_length in omega arith

  pub frames_enough : length t ≤ 504 * frames_for (length t)
  unfolding frames_for
  frames_enough = omega arith

  pub cut_stream : stream_of (cut t) ≡ t ++ replicate (504 * frames_for (length t) - length t) 0
  unfolding stream_of cut
  cut_stream =
      let n = frames_for (length t) in
      ap (λ (m : ℕ). uncut m (cut t)) cut_frames ∙ uncut_cut n 0 n t ∙ padded_whole (504 * n) t frames_enough
