-- Cutting into frames and back: the lengths, one frame more, and that each is had back from the other.
use Rattle.std.proofs.Common.{◌≡◌, ℕ, zero, suc, ◌+◌, ◌*◌, ◌%◌, ◌^◌, ◌<◌, ◌≤◌, true, eqb, List, [], ◌∷◌, ◌++◌, length, take, drop, sym, refl, ap, ◌∙◌}
use Rattle.std.proofs.Common.{append_assoc, append-nil, add-zero, mod-lt, zero-add, add-one, arith, lit<, length-append, length-drop, take-append-drop}
use Rattle.std.proofs.Common.{length-take, drop-drop, take_at, drop_at, eq-eqb, eqb-true}
use Rattle.lists.proofs.Bools.{and_parts}
use Rattle.layout.specs.Bytes.{bytes, number, Octets, overwrite, write_number}
use Rattle.layout.proofs.Numbers.{bytes_length, number_fits, bytes_at, part_length, octets_drop}
use Rattle.layout.proofs.Overwrite.{overwrite_nil, overwrite_two, overwrite_fits}
use Rattle.framing.specs.Frames.{padded, word_sum, check_of, front_of, frame_of, cut_from, uncut, frame_right, frames_right}
use Rattle.framing.proofs.Padding.{length_padded, padded_split}
use Rattle.framing.proofs.Sums.{word_sum_front}

pub length_front : (b n : ℕ) (s : List ℕ) → length (front_of b n s) ≡ 508
unfolding front_of
length_front b n s = simp (length-append, bytes_length, length_padded)

pub length_frame : (b n : ℕ) (s : List ℕ) → length (frame_of b n s) ≡ 512
unfolding frame_of
length_frame b n s = simp (length-append, bytes_length, length_front)

pub length_cut : (k b n : ℕ) (s : List ℕ) → length (cut_from k b n s) ≡ 512 * k
unfolding cut_from
length_cut zero b n s = refl
length_cut (suc k) b n s = simp (length-append, length_frame, length_cut k (suc b) n (drop 504 s)) (omega arith)

-- one frame more, behind those that were cut
pub cut_more : (k b n : ℕ) (s : List ℕ) → cut_from (suc k) b n s ≡ cut_from k b n s ++ frame_of (b + k) n (drop (504 * k) s)
unfolding cut_from
cut_more zero b n s = simp (append-nil, add-zero)
cut_more (suc k) b n s =
    let e : suc b + k ≡ b + suc k = omega arith in
    let f : 504 + 504 * k ≡ 504 * suc k = omega arith in
    rw (cut_more k (suc b) n (drop 504 s), drop-drop (504 * k) 504 s, e, f, append_assoc)

-- the bytes of a frame in front of what follows it
module _ (b n : ℕ) (s q : List ℕ) where
  frame_drop : drop 512 (frame_of b n s ++ q) ≡ q
  frame_drop = drop_at (frame_of b n s) q 512 (length_frame b n s)

  frame_bytes : take 504 (drop 4 (frame_of b n s ++ q)) ≡ padded 504 s
  unfolding frame_of front_of
  frame_bytes =
      let c = bytes 4 (check_of (front_of b n s)) in
      let l : length (bytes 2 b ++ bytes 2 n) ≡ 4 = simp (length-append, bytes_length) in
      let e : frame_of b n s ++ q ≡ (bytes 2 b ++ bytes 2 n) ++ (padded 504 s ++ (c ++ q)) = simp append_assoc in
      rw (e, drop_at (bytes 2 b ++ bytes 2 n) (padded 504 s ++ (c ++ q)) 4 l) (take_at (padded 504 s) (c ++ q) 504 (length_padded 504 s))

-- back from a cut stream: the stream, padded
pub uncut_cut : (k b n : ℕ) (s : List ℕ) → uncut k (cut_from k b n s) ≡ padded (504 * k) s
unfolding cut_from uncut padded
uncut_cut zero b n s = refl
uncut_cut (suc k) b n s =
    let q = cut_from k (suc b) n (drop 504 s) in
    let e : 504 + 504 * k ≡ 504 * suc k = omega arith in
    rw (frame_bytes b n s q, frame_drop b n s q, uncut_cut k (suc b) n (drop 504 s), ← e) (sym (padded_split 504 (504 * k) s))

-- a frame's parts, and its check
parts : (b n : ℕ) (s q : List ℕ) → frame_of b n s ++ q ≡ bytes 2 b ++ (bytes 2 n ++ (padded 504 s ++ (bytes 4 (check_of (front_of b n s)) ++ q)))
unfolding frame_of front_of
parts b n s q = simp append_assoc

last : (b n : ℕ) (s q : List ℕ) → number (take 4 (drop 508 (frame_of b n s ++ q))) ≡ check_of (front_of b n s)
unfolding frame_of check_of
last b n s q =
    let f = front_of b n s in
    let c = bytes 4 (word_sum 127 f % 2 ^ 32) in
    rw (append_assoc f c q, drop_at f (c ++ q) 508 (length_front b n s), take_at c q 4 (bytes_length 4 (word_sum 127 f % 2 ^ 32)))
    (number_fits 4 (word_sum 127 f % 2 ^ 32) (mod-lt (word_sum 127 f) (lit< tt)))

small : (x : ℕ) → x < 65536 → x < 256 ^ 2
small x h = h

-- the numbers of a frame in front of what follows it
module _ (b n : ℕ) (s q : List ℕ) where
  frame_check : check_of (frame_of b n s ++ q) ≡ check_of (front_of b n s)
  unfolding check_of frame_of
  frame_check =
      let l = length_front b n s in
      rw (append_assoc (front_of b n s) (bytes 4 (word_sum 127 (front_of b n s) % 2 ^ 32)) q)
      (ap (λ (x : ℕ). x % 2 ^ 32) (word_sum_front 127 (front_of b n s) (bytes 4 (word_sum 127 (front_of b n s) % 2 ^ 32) ++ q) (omega arith)))

  frame_is_right : b < 65536 → n < 65536 → frame_right b n (frame_of b n s ++ q) ≡ true
  unfolding frame_right
  frame_is_right hb hn =
      let c = bytes 4 (check_of (front_of b n s)) in
      let p = padded 504 s in
      let split : frame_of b n s ++ q ≡ bytes 2 b ++ (bytes 2 n ++ (p ++ (c ++ q))) = parts b n s q in
      let x : number (take 2 (frame_of b n s ++ q)) ≡ b =
      rw (split, take_at (bytes 2 b) (bytes 2 n ++ (p ++ (c ++ q))) 2 (bytes_length 2 b)) (number_fits 2 b (small b hb)) in
      let y : number (take 2 (drop 2 (frame_of b n s ++ q))) ≡ n =
      rw (
        split,
        drop_at (bytes 2 b) (bytes 2 n ++ (p ++ (c ++ q))) 2 (bytes_length 2 b),
        take_at (bytes 2 n) (p ++ (c ++ q)) 2 (bytes_length 2 n),
      ) (number_fits 2 n (small n hn)) in
      let z : number (take 4 (drop 508 (frame_of b n s ++ q))) ≡ check_of (frame_of b n s ++ q) = last b n s q ∙ sym frame_check in
      rw (
        eq-eqb (number (take 2 (frame_of b n s ++ q))) b x,
        eq-eqb (number (take 2 (drop 2 (frame_of b n s ++ q)))) n y,
        eq-eqb (number (take 4 (drop 508 (frame_of b n s ++ q)))) (check_of (frame_of b n s ++ q)) z,
      )

-- what was cut is right
pub cut_right : (k b n : ℕ) (s : List ℕ) → b + k < 65536 → n < 65536 → frames_right k b n (cut_from k b n s) ≡ true
unfolding cut_from frames_right
cut_right zero b n s h l = refl
cut_right (suc k) b n s h l =
    let q = cut_from k (suc b) n (drop 504 s) in
    rw (frame_is_right b n s q (omega arith) l, frame_drop b n s q) (cut_right k (suc b) n (drop 504 s) (omega arith) l)

-- two writes side by side, the second at a place
beside : (at k : ℕ) (a b i : List ℕ) → length a ≡ k → at + (k + length b) ≤ length i → overwrite (at + k) b (overwrite at a i) ≡ overwrite at (a ++ b) i
beside at k a b i e h = rw (← e) (overwrite_two at a b i (rw e h))

front_parts : (at b n : ℕ) (t i : List ℕ) → overwrite at ((bytes 2 b ++ bytes 2 n) ++ padded 504 t) i ≡ overwrite at (front_of b n t) i
unfolding front_of
front_parts at b n t i = rw append_assoc

-- the check reads what was written
check_written : (at : ℕ) (f i : List ℕ) → length f ≡ 508 → at + 508 ≤ length i → check_of (drop at (overwrite at f i)) ≡ check_of f
unfolding check_of
check_written at f i l h =
    let n : at + length f ≤ length i = omega arith in
    let t : length (take at i) ≡ at = simp length-take (omega arith) in
    rw (overwrite_fits at f i n, drop_at (take at i) (f ++ drop (at + length f) i) at t)
    (ap (λ (x : ℕ). x % 2 ^ 32) (word_sum_front 127 f (drop (at + length f) i) (omega arith)))

-- a frame written part by part is written whole
pub frame_written : (at b n c : ℕ) (t i₀ i₁ i₂ i₃ i₄ : List ℕ) → at + 512 ≤ length i₀ → i₁ ≡ write_number 2 at b i₀ → i₂ ≡ write_number 2 (at + 2) n i₁
    → i₃ ≡ overwrite (at + 4) (padded 504 t) i₂ → c ≡ check_of (drop at i₃) → i₄ ≡ write_number 4 (at + 508) c i₃ → i₄ ≡ overwrite at (frame_of b n t) i₀
unfolding write_number frame_of
frame_written at b n c t i₀ i₁ i₂ i₃ i₄ h e₁ e₂ e₃ e₄ e₅ =
    let p = padded 504 t in
    let f = front_of b n t in
    let lb = bytes_length 2 b in
    let ln = bytes_length 2 n in
    let lp = length_padded 504 t in
    let lf = length_front b n t in
    let lc = bytes_length 4 c in
    let two : i₂ ≡ overwrite at (bytes 2 b ++ bytes 2 n) i₀ = e₂ ∙ rw (e₁, beside at 2 (bytes 2 b) (bytes 2 n) i₀ lb (omega arith)) in
    let l4 : length (bytes 2 b ++ bytes 2 n) ≡ 4 = simp (length-append, lb, ln) in
    let three : i₃ ≡ overwrite at f i₀ = e₃ ∙ rw (two, beside at 4 (bytes 2 b ++ bytes 2 n) p i₀ l4 (omega arith)) (front_parts at b n t i₀) in
    let d : check_of (drop at i₃) ≡ check_of f = rw three (check_written at f i₀ lf (omega arith)) in
    e₅ ∙ rw (e₄, d, three, beside at 508 f (bytes 4 (check_of f)) i₀ lf (rw (bytes_length 4 (check_of f)) (omega arith)))

-- one frame more, behind those that are written
pub frames_more : (b n count : ℕ) (s i₀ i i' : List ℕ) → 512 * count ≤ length i₀ → b < count → i ≡ overwrite 0 (cut_from b 0 n s) i₀
    → i' ≡ overwrite (512 * b) (frame_of b n (drop (504 * b) s)) i → i' ≡ overwrite 0 (cut_from (b + 1) 0 n s) i₀
frames_more b n count s i₀ i i' h l e f =
    let k = length_cut b 0 n s in
    let m = length_frame b n (drop (504 * b) s) in
    let z : 0 + 512 * b ≡ 512 * b = omega arith in
    f ∙ rw (e, ← z, beside 0 (512 * b) (cut_from b 0 n s) (frame_of b n (drop (504 * b) s)) i₀ k (omega arith), add-one b, cut_more b 0 n s, zero-add b)

-- no frame is written yet
pub frames_none : (n : ℕ) (s i : List ℕ) → i ≡ overwrite 0 (cut_from 0 0 n s) i
unfolding cut_from
frames_none n s i = sym (overwrite_nil 0 i)

padded_exact : (s t : List ℕ) (k : ℕ) → length s ≡ k → padded k (s ++ t) ≡ s
unfolding padded
padded_exact [] t zero e = refl
padded_exact [] t (suc k) e = absurd (omega arith)
padded_exact (x ∷ s) t zero e = absurd (omega arith)
padded_exact (x ∷ s) t (suc k) e = ap (λ (l : List ℕ). x ∷ l) (padded_exact s t k (omega arith))

module _ (i : List ℕ) (o : Octets i) (h : 512 ≤ length i) where
  five_parts : i ≡ take 2 i ++ (take 2 (drop 2 i) ++ (take 504 (drop 4 i) ++ (take 4 (drop 508 i) ++ drop 512 i)))
  five_parts =
      sym (rw (
        sym (drop-drop 4 508 i),
        take-append-drop 4 (drop 508 i),
        sym (drop-drop 504 4 i),
        take-append-drop 504 (drop 4 i),
        sym (drop-drop 2 2 i),
        take-append-drop 2 (drop 2 i),
      ) (take-append-drop 2 i))

  module _ (b n : ℕ) (r : List ℕ) (eb : number (take 2 i) ≡ b) (en : number (take 2 (drop 2 i)) ≡ n) where
    s : List ℕ
    s = take 504 (drop 4 i) ++ r

    front_again : front_of b n s ≡ take 2 i ++ (take 2 (drop 2 i) ++ take 504 (drop 4 i))
    unfolding front_of s
    front_again =
        rw (
          ← eb,
          ← en,
          bytes_at 2 0 i o (omega arith),
          bytes_at 2 2 i o (omega arith),
          padded_exact (take 504 (drop 4 i)) r 504 (part_length 504 4 i (omega arith)),
        )

    whole_again : i ≡ front_of b n s ++ (take 4 (drop 508 i) ++ drop 512 i)
    whole_again = five_parts ∙ rw (front_again, append_assoc, append_assoc)

    check_again : check_of i ≡ check_of (front_of b n s)
    unfolding check_of
    check_again =
        let l = length_front b n s in
        ap (λ (x : List ℕ). word_sum 127 x % 2 ^ 32) whole_again
        ∙ ap (λ (x : ℕ). x % 2 ^ 32) (word_sum_front 127 (front_of b n s) (take 4 (drop 508 i) ++ drop 512 i) (omega arith))

    frame_once_more : number (take 4 (drop 508 i)) ≡ check_of i → frame_of b n s ++ drop 512 i ≡ i
    unfolding frame_of
    frame_once_more ec =
        let c : bytes 4 (check_of (front_of b n s)) ≡ take 4 (drop 508 i) = rw (← check_again, ← ec) (bytes_at 4 508 i o (omega arith)) in
        rw (c, append_assoc) (sym whole_again)

  frame_again : (b n : ℕ) (r : List ℕ) → frame_right b n i ≡ true → frame_of b n (take 504 (drop 4 i) ++ r) ++ drop 512 i ≡ i
  unfolding frame_right s
  frame_again b n r e =
      let x = and_parts (eqb (number (take 2 i)) b) _ e in
      let y = and_parts (eqb (number (take 2 (drop 2 i))) n) _ x.1 in
      frame_once_more b n r (eqb-true (number (take 2 i)) b x.0) (eqb-true (number (take 2 (drop 2 i))) n y.0)
      (eqb-true (number (take 4 (drop 508 i))) (check_of i) y.1)

pub cut_uncut : (k b n : ℕ) (i : List ℕ) → Octets i → length i ≡ 512 * k → frames_right k b n i ≡ true → cut_from k b n (uncut k i) ≡ i
unfolding cut_from uncut frames_right
cut_uncut zero b n [] o l r = refl
cut_uncut zero b n (x ∷ i) o l r = absurd (omega arith)
cut_uncut (suc k) b n i o l r =
    let w = and_parts (frame_right b n i) (frames_right k (suc b) n (drop 512 i)) r in
    let p = take 504 (drop 4 i) in
    let u = uncut k (drop 512 i) in
    let lp : length p ≡ 504 = part_length 504 4 i (omega arith) in
    rw (drop_at p u 504 lp, cut_uncut k (suc b) n (drop 512 i) (octets_drop 512 i o) (simp length-drop (omega arith)) w.1)
    (frame_again i o (omega arith) b n u w.0)
