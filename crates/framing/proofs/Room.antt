-- Writing frames: without room nothing is written, with room all of them are.
use Rattle.std.proofs.Common.{◌≡◌, ℕ, ◌+◌, ◌*◌, ◌/◌, ◌<◌, ◌≤◌, true, ltb, List, ◌++◌, length, sym, arith, length-append, le-ltb, lt-ltb, le-leb}
use borrow.Author.Tests.{lt-leb}
use Rattle.layout.specs.Bytes.{overwrite}
use Rattle.std.specs.Int.{div_ceil}
use Rattle.framing.proofs.Rows
use Rattle.std.specs.Prelude.{Some, None}
use Rattle.framing.specs.Frames.{cut, cut_from, frames_for, has_room, write_frames}

-- how many frames a stream has, as std's div_ceil says it
pub frames_ceil : (n : ℕ) → div_ceil n 504 ≡ (n + 503) / 504
frames_ceil n = omega arith

-- the stream is longer than the longest
pub too_long : (i head body : List ℕ) → 33029640 < length head + length body → record { image = i; answer = None } ≡ write_frames i (head ++ body)
unfolding write_frames has_room frames_for
too_long i head body h =
    let n : 65536 ≤ (length (head ++ body) + 503) / 504 = simp length-append (omega arith) in
    rw (le-ltb ((length (head ++ body) + 503) / 504) 65536 n)

module _ (i head body : List ℕ) (n : ℕ) (h : length head + length body ≤ 33029640) (e : n ≡ (length head + length body + 503) / 504) where
  count : frames_for (length (head ++ body)) ≡ n
  unfolding frames_for
  count = rw length-append (sym e)

  countable : ltb n 65536 ≡ true
  countable = lt-ltb n 65536 (omega arith)

  -- the image is too short
  pub too_short : length i < 512 * n → record { image = i; answer = None } ≡ write_frames i (head ++ body)
  unfolding write_frames has_room
  too_short l = rw (count, countable, lt-leb (512 * n) (length i) l)

  pub fits : (i' : List ℕ) → 512 * n ≤ length i → i' ≡ overwrite 0 (cut_from n 0 n (head ++ body)) i
      → record { image = i'; answer = Some (512 * n) } ≡ write_frames i (head ++ body)
  unfolding write_frames has_room cut
  fits i' l f = rw (count, countable, le-leb (512 * n) (length i) l, f)
