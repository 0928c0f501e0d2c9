-- A stream of bytes cut into frames of 512 ("blocks" in document 02; a block is here always one of a heap). A frame is its own number,
-- how many frames there are, 504 bytes of the stream, and a sum that guards them (rules, section 13).
use Rattle.std.specs.Prelude.{ℕ, zero, suc, ◌+◌, ◌*◌, ◌/◌, ◌%◌, ◌^◌, Bool, true, cond, ◌&&◌, List, [], ◌∷◌, ◌++◌}
use Rattle.std.specs.Prelude.{length, take, drop, ◌==◌, nat_le, nat_lt, Option, Some, None}
use Rattle.layout.specs.Bytes.{bytes, number, overwrite}

-- the first k bytes of s; zeros stand where s has no more
unfoldable pub padded : ℕ → List ℕ → List ℕ
padded zero s = []
padded (suc k) [] = 0 ∷ padded k []
padded (suc k) (x ∷ s) = x ∷ padded k s

-- the first n words of four bytes, added
unfoldable pub word_sum : ℕ → List ℕ → ℕ
word_sum zero s = 0
word_sum (suc n) s = number (take 4 s) + word_sum n (drop 4 s)

-- a frame's check: its 127 words before the check, added in 32 bits
unfoldable pub check_of : List ℕ → ℕ
check_of s = word_sum 127 s % 2 ^ 32

-- frame b of n, over the first bytes of s: what stands before the check, and the whole
unfoldable pub front_of : ℕ → ℕ → List ℕ → List ℕ
front_of b n s = bytes 2 b ++ (bytes 2 n ++ padded 504 s)

unfoldable pub frame_of : ℕ → ℕ → List ℕ → List ℕ
frame_of b n s = front_of b n s ++ bytes 4 (check_of (front_of b n s))

-- frames b, b + 1, .. of n, as many as asked for
unfoldable pub cut_from : ℕ → ℕ → ℕ → List ℕ → List ℕ
cut_from zero b n s = []
cut_from (suc left) b n s = frame_of b n s ++ cut_from left (suc b) n (drop 504 s)

-- how many frames hold so many bytes
unfoldable pub frames_for : ℕ → ℕ
frames_for length = (length + 503) / 504

-- a stream in frames
unfoldable pub cut : List ℕ → List ℕ
cut s = cut_from (frames_for (length s)) 0 (frames_for (length s)) s

-- what so many frames carry
unfoldable pub uncut : ℕ → List ℕ → List ℕ
uncut zero i = []
uncut (suc left) i = take 504 (drop 4 i) ++ uncut left (drop 512 i)

-- what all whole frames of an image carry
unfoldable pub stream_of : List ℕ → List ℕ
stream_of i = uncut (length i / 512) i

-- frame b of n says so itself, and its check is the one of its bytes; and so do this frame and those behind it
unfoldable pub frame_right : ℕ → ℕ → List ℕ → Bool
frame_right b n i = number (take 2 i) == b && (number (take 2 (drop 2 i)) == n && number (take 4 (drop 508 i)) == check_of i)

unfoldable pub frames_right : ℕ → ℕ → ℕ → List ℕ → Bool
frames_right zero b n i = true
frames_right (suc left) b n i = frame_right b n i && frames_right left (suc b) n (drop 512 i)

-- whether the frames of so many bytes have room in an image, and their number in two bytes
unfoldable pub has_room : ℕ → ℕ → Bool
has_room bytes room = nat_lt (frames_for bytes) 65536 && nat_le (512 * frames_for bytes) room

-- a stream written as frames: what the image is then, and what is answered
pub record Framed : Type 0 where
  pub image : List ℕ
  pub answer : Option ℕ

unfoldable pub write_frames : List ℕ → List ℕ → Framed
write_frames i s =
    let n = frames_for (length s) in
    cond (has_room (length s) (length i)) (record { image = overwrite 0 (cut s) i; answer = Some (512 * n) }) (record { image = i; answer = None })
