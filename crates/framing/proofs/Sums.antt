-- The sum of words: one word more, and that it reads no further than its words.
use Rattle.std.proofs.Common.{◌≡◌, ℕ, zero, suc, ◌+◌, ◌*◌, ◌%◌, ◌^◌, ◌<◌, ◌≤◌, List, ◌++◌, length, take, drop, refl, ◌∙◌, add-one, arith, length-drop}
use Rattle.std.proofs.Common.{drop-drop, le-leb}
use native.Mathlib.Nat.{mod-add-mod}
use lib.Seq.{take-append-le, drop-append-le}
use Rattle.layout.specs.Bytes.{number, read_number}
use Rattle.framing.proofs.Rows
use Rattle.framing.specs.Frames.{word_sum}

pub word_sum_more : (n : ℕ) (s : List ℕ) → word_sum (suc n) s ≡ word_sum n s + number (take 4 (drop (4 * n) s))
unfolding word_sum
word_sum_more zero s = omega arith
word_sum_more (suc n) s =
    let ih = word_sum_more n (drop 4 s) in
    let e : 4 + 4 * n ≡ 4 * suc n = omega arith in
    let f : number (take 4 (drop (4 * n) (drop 4 s))) ≡ number (take 4 (drop (4 * suc n) s)) = rw (drop-drop (4 * n) 4 s, e) in
    omega arith

pub word_sum_front : (n : ℕ) (p q : List ℕ) → 4 * n ≤ length p → word_sum n (p ++ q) ≡ word_sum n p
unfolding word_sum
word_sum_front zero p q h = refl
word_sum_front (suc n) p q h =
    let l : 4 ≤ length p = omega arith in
    rw (take-append-le 4 p q l, drop-append-le 4 p q l, word_sum_front n (drop 4 p) q (simp length-drop (omega arith)))

pub wraps_none : (s : List ℕ) → 0 ≡ word_sum 0 s % 2 ^ 32
unfolding word_sum
wraps_none s = refl

-- one word more of a sum that wraps
pub wraps_more : (image : List ℕ) (at i sum w r : ℕ) → at + 508 ≤ length image → i < 127 → sum ≡ word_sum i (drop at image) % 2 ^ 32
    → w ≡ read_number 4 (at + 4 * i) image
    → r ≡ (sum + w) % 2 ^ 32 → r ≡ word_sum (i + 1) (drop at image) % 2 ^ 32
unfolding read_number
wraps_more image at i sum w r h l e f g =
    let fits : at + 4 * i + 4 ≤ length image = omega arith in
    let word : w ≡ number (take 4 (drop (4 * i) (drop at image))) = f ∙ rw (le-leb (at + 4 * i + 4) (length image) fits, drop-drop (4 * i) at image) in
    g ∙ rw (e, mod-add-mod, word, add-one i, word_sum_more i (drop at image))
