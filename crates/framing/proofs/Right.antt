-- What the numbers of a frame say, and of the frames behind it.
use Rattle.std.proofs.Common.{◌≡◌, ℕ, suc, ◌+◌, ◌-◌, ◌*◌, ◌<◌, ◌≤◌, Bool, true, false, ◌&&◌, eqb, List, length, take, drop, sym, ◌∙◌, add-one, arith, drop-drop}
use Rattle.std.proofs.Common.{eq-eqb, ne_eqb, le-leb}
use Rattle.layout.specs.Bytes.{number, read_number}
use Rattle.framing.proofs.Rows
use Rattle.framing.specs.Frames.{check_of, frame_right, frames_right}

module _ (at : ℕ) (i : List ℕ) (h : at + 512 ≤ length i) where
  read_at : (k j : ℕ) → j + k ≤ 512 → read_number k (at + j) i ≡ number (take k (drop j (drop at i)))
  unfolding read_number
  read_at k j l = rw (le-leb (at + j + k) (length i) (omega arith), drop-drop j at i)

  read_first : read_number 2 at i ≡ number (take 2 (drop at i))
  unfolding read_number
  read_first = rw (le-leb (at + 2) (length i) (omega arith))

  module _ (b n x : ℕ) (first : x ≡ read_number 2 at i) where
    pub wrong_number : (x ≡ b → ⊥) → false ≡ frame_right b n (drop at i)
    unfolding frame_right
    wrong_number f = rw (ne_eqb (number (take 2 (drop at i))) b (λ e. f (first ∙ read_first ∙ e)))

    module _ (is : x ≡ b) (y : ℕ) (second : y ≡ read_number 2 (at + 2) i) where
      one : eqb (number (take 2 (drop at i))) b ≡ true
      one = eq-eqb (number (take 2 (drop at i))) b (sym read_first ∙ sym first ∙ is)

      pub wrong_count : (y ≡ n → ⊥) → false ≡ frame_right b n (drop at i)
      unfolding frame_right
      wrong_count f = rw (one, ne_eqb (number (take 2 (drop 2 (drop at i)))) n (λ e. f (second ∙ read_at 2 2 (omega arith) ∙ e)))

      pub right_by_check : y ≡ n → (z c : ℕ) → z ≡ read_number 4 (at + 508) i → c ≡ check_of (drop at i) → eqb z c ≡ frame_right b n (drop at i)
      unfolding frame_right
      right_by_check g z c e f =
          rw (one, eq-eqb (number (take 2 (drop 2 (drop at i)))) n (sym (read_at 2 2 (omega arith)) ∙ sym second ∙ g), e ∙ read_at 4 508 (omega arith), f)

-- the frames from one on
abbrev pub right_from : ℕ → ℕ → List ℕ → Bool
right_from b n i = frames_right (n - b) b n (drop (512 * b) i)

pub right_more : (b n : ℕ) (i : List ℕ) → b < n → right_from b n i ≡ (frame_right b n (drop (512 * b) i) && right_from (b + 1) n i)
unfolding frames_right
right_more b n i h =
    let e : n - b ≡ suc (n - (b + 1)) = omega arith in
    let f : 512 * b + 512 ≡ 512 * (b + 1) = omega arith in
    rw (e, drop-drop 512 (512 * b) i, f, ← add-one b)

pub right_none : (b n : ℕ) (i : List ℕ) → n ≤ b → true ≡ right_from b n i
unfolding frames_right
right_none b n i h = let e : n - b ≡ 0 = omega arith in rw e

-- a frame that is not right, and one that is: what is found of the frames behind it is found of all
module _ (b n : ℕ) (i : List ℕ) (r : Bool) (l : b < n) (e : r ≡ frame_right b n (drop (512 * b) i)) (all : right_from b n i ≡ frames_right n 0 n i) where
  pub right_stops : r ≡ false → false ≡ frames_right n 0 n i
  right_stops f = sym (rw (sym e ∙ f) at (sym all ∙ right_more b n i l))

  pub right_goes_on : r ≡ true → right_from (b + 1) n i ≡ frames_right n 0 n i
  right_goes_on f = rw (sym e ∙ f) at (sym (right_more b n i l) ∙ all)
