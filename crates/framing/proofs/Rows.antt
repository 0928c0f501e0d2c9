-- The definitions computed at small inputs, among them a stream that ends with a frame and one that does not.
use Rattle.std.proofs.Common.{◌≡◌, ℕ, true, false, List, [], ◌∷◌, ◌++◌, take, drop, replicate, refl}
use Rattle.layout.specs.Bytes.{bytes, number, overwrite}
use Rattle.std.specs.Prelude.{Some, None}
use Rattle.framing.specs.Frames.{padded, word_sum, check_of, front_of, frame_of, cut_from, frames_for, cut, uncut, stream_of, frame_right, frames_right}
use Rattle.framing.specs.Frames.{has_room, write_frames}

-- cut short, and filled with zeros
padded_rows : (padded 1 (7 ∷ 8 ∷ []) ≡ 7 ∷ []) × (padded 3 (7 ∷ 8 ∷ []) ≡ 7 ∷ 8 ∷ 0 ∷ [])
unfolding padded
padded_rows = (refl, refl)

-- words of four bytes, the lowest byte first; a word more than asked for does not count
sum_row : word_sum 2 (1 ∷ 0 ∷ 0 ∷ 0 ∷ 0 ∷ 1 ∷ 0 ∷ 0 ∷ 9 ∷ 0 ∷ 0 ∷ 0 ∷ []) ≡ 257
unfolding word_sum number
sum_row = refl

-- the sum wraps; word 126 counts and word 127 does not
check_rows : (check_of (replicate 8 255) ≡ 4294967294) × (check_of (replicate 504 0 ++ (5 ∷ 0 ∷ 0 ∷ 0 ∷ 7 ∷ 0 ∷ 0 ∷ 0 ∷ [])) ≡ 5)
unfolding check_of word_sum number
check_rows = (refl, refl)

-- frame 1 of 3 in full: 1 + 3 * 65,536 and 10 + 20 * 256 make 201,739
frame_row : frame_of 1 3 (10 ∷ 20 ∷ []) ≡ 1 ∷ 0 ∷ 3 ∷ 0 ∷ 10 ∷ 20 ∷ (replicate 502 0 ++ (11 ∷ 20 ∷ 3 ∷ 0 ∷ []))
unfolding frame_of front_of padded check_of word_sum bytes number
frame_row = refl

frames_rows : (frames_for 0 ≡ 0) × (frames_for 1 ≡ 1) × (frames_for 504 ≡ 1) × (frames_for 505 ≡ 2) × (frames_for 1164 ≡ 3)
unfolding frames_for
frames_rows = (refl, refl, refl, refl, refl)

-- a frame full of 1 and one byte more
stream : List ℕ
stream = replicate 504 1 ++ (2 ∷ [])

image : List ℕ
image = 0 ∷ 0 ∷ 2 ∷ 0 ∷ (replicate 504 1 ++ (126 ∷ 126 ∷ 128 ∷ 126 ∷ (1 ∷ 0 ∷ 2 ∷ 0 ∷ 2 ∷ (replicate 503 0 ++ (3 ∷ 0 ∷ 2 ∷ 0 ∷ [])))))

-- the stream's two frames, and the stream had back from them
cut_rows : (cut stream ≡ image) × (cut [] ≡ []) × (stream_of image ≡ stream ++ replicate 503 0) × (stream_of (take 1023 image) ≡ replicate 504 1)
unfolding cut cut_from frames_for frame_of front_of padded check_of word_sum bytes number stream_of uncut stream image
cut_rows = (refl, refl, refl, refl)

-- both frames are right; not as the first of three, not the second alone, and not with another check or another byte
right_rows : (frames_right 2 0 2 image ≡ true) × (frames_right 2 0 3 image ≡ false) × (frames_right 1 0 2 (drop 512 image) ≡ false)
    × (frame_right 1 2 (drop 512 image) ≡ true) × (frame_right 1 2 (overwrite 508 (4 ∷ []) (drop 512 image)) ≡ false)
    × (frame_right 1 2 (overwrite 507 (1 ∷ []) (drop 512 image)) ≡ false)
unfolding frames_right frame_right check_of word_sum number overwrite stream image
right_rows = (refl, refl, refl, refl, refl, refl)

-- as long as the frames, one byte longer, one shorter; and a number of frames that two bytes do not hold
room_rows : (has_room 505 1024 ≡ true) × (has_room 505 1023 ≡ false) × (has_room 33029640 33553920 ≡ true) × (has_room 33029641 33554432 ≡ false)
unfolding has_room frames_for
room_rows = (refl, refl, refl, refl)

write_rows : (write_frames (replicate 1026 9) stream ≡ record { image = image ++ (9 ∷ 9 ∷ []); answer = Some 1024 })
    × (write_frames (replicate 1023 9) stream ≡ record { image = replicate 1023 9; answer = None })
    × (write_frames (9 ∷ []) [] ≡ record { image = 9 ∷ []; answer = Some 0 })
unfolding write_frames has_room cut cut_from frames_for frame_of front_of padded check_of word_sum bytes number overwrite stream image
write_rows = (refl, refl, refl)
