-- Numbers of a stream, byte by byte, and parts of a part.
use mathlib.Core.Path.{◌≡◌, ap, sym, ◌∙◌}
use mathlib.Core.List.{List, [], ◌∷◌}
use mathlib.Core.Bool.{Bool, true, false, cond}
use Prim.Native.Nat.{ℕ, zero, suc, ◌+◌, ◌*◌, ◌≤◌, ◌<◌}
use native.Mathlib.Omega.{arith}
use native.Mathlib.Nat.{add-zero, zero-add, suc-add}
use lib.ListN.{take, drop, get_or}
use lib.Seq.{take-nil, get_or-take, get_or-drop, take-take, drop-drop}
use Rattle.accounts.specs.declared.Quota.{Quota}
use Rattle.accounts.specs.Accounts.{ALL_PERMISSIONS}
use Rattle.layout.specs.Bytes.{number}
use Rattle.image_model.specs.declared.Form.{Form}
use Rattle.image_model.specs.Items.{all_zero}
use Rattle.image_model.specs.Stream.{form_2, tail_right, tail_width, tail_of, entries_at, entry_width, record_width}
use Rattle.image_model.specs.Reading.{entry_of, entry_right, record_of, record_right}
use Rattle.image.proofs.Zeros.{zeros_number, number_zeros}

number_front : (k : ℕ) (s : List ℕ) → number (take (suc k) s) ≡ get_or s 0 0 + 256 * number (take k (drop 1 s))
unfolding number
number_front k [] = rw (take-nil {A = ℕ} k)
number_front k (b ∷ s) = omega arith

number_at : (k at : ℕ) (s : List ℕ) → number (take (suc k) (drop at s)) ≡ get_or s at 0 + 256 * number (take k (drop (at + 1) s))
number_at k at s =
    let z = add-zero at in
    number_front k (drop at s) ∙ rw (get_or-drop at s 0 0, z, drop-drop 1 at s)

pub pair_at : (at : ℕ) (s : List ℕ) → get_or s at 0 + 256 * get_or s (at + 1) 0 ≡ number (take 2 (drop at s))
unfolding number
pair_at at s =
    let a = number_at 1 at s in
    let b = number_at 0 (at + 1) s in
    omega arith

pub quad_at : (at : ℕ) (s : List ℕ) → number (take 2 (drop at s)) + 65536 * number (take 2 (drop (at + 2) s)) ≡ number (take 4 (drop at s))
unfolding number
quad_at at s =
    let e : at + 1 + 1 ≡ at + 2 = omega arith in
    let a = number_at 3 at s in
    let b : number (take 3 (drop (at + 1) s)) ≡ get_or s (at + 1) 0 + 256 * number (take 2 (drop (at + 2) s)) = rw e at (number_at 2 (at + 1) s) in
    let p = pair_at at s in
    omega arith

-- a part of what was taken
drop_take : (j k : ℕ) (s : List ℕ) → drop j (take (j + k) s) ≡ take k (drop j s)
drop_take zero k s = rw (zero-add k)
drop_take (suc j) k [] = rw (take-nil {A = ℕ} (suc j + k), take-nil {A = ℕ} k)
drop_take (suc j) k (x ∷ s) = rw (suc-add j k) (drop_take j k s)

module _ (at : ℕ) (t : List ℕ) where
  pub first_part : (k w : ℕ) → k ≤ w → take k (take w (drop at t)) ≡ take k (drop at t)
  first_part k w h = take-take k w (drop at t) h

  pub later_part : (j k : ℕ) → drop j (take (j + k) (drop at t)) ≡ take k (drop (at + j) t)
  later_part j k = drop_take j k (drop at t) ∙ ap (take k) (drop-drop j at t)

  pub byte_part : (j w : ℕ) → j < w → get_or (take w (drop at t)) j 0 ≡ get_or t (at + j) 0
  byte_part j w h = get_or-take w (drop at t) j 0 h ∙ get_or-drop at t j 0

  byte_at : (n : ℕ) → get_or (take 4 (drop n t)) 0 0 ≡ get_or t n 0
  byte_at n = get_or-take 4 (drop n t) 0 0 (omega arith) ∙ get_or-drop n t 0 0 ∙ ap (λ (m : ℕ). get_or t m 0) (add-zero n)

  -- an entry and a record, number by number
  entry_here : Bool → Quota
  entry_here x =
      record {
        grant = number (take 4 (drop at t));
        remainder = number (take 4 (drop (at + 4) t));
        permissions = cond x (get_or t (at + 8) 0) ALL_PERMISSIONS;
      }

  entry_in : Bool → List ℕ → Quota
  entry_in x s =
      record { grant = number (take 4 s); remainder = number (take 4 (drop 4 s)); permissions = cond x (get_or (drop 8 s) 0 0) ALL_PERMISSIONS }

  same_entry : (x : Bool) → entry_here x ≡ entry_in x (take (8 + cond x 4 0) (drop at t))
  unfolding entry_here entry_in
  same_entry true =
      rw (first_part 4 12 (omega arith), later_part 4 8, take-take 4 8 (drop (at + 4) t) (omega arith), later_part 8 4, byte_at (at + 8))
  same_entry false = rw (first_part 4 8 (omega arith), later_part 4 4, take-take 4 4 (drop (at + 4) t) (omega arith))

  pub entry_read : (f : Form) (full : Bool) → f.full ≡ full → (q : Quota)
      → q
      ≡ record {
        grant = number (take 4 (drop at t));
        remainder = number (take 4 (drop (at + 4) t));
        permissions = cond full (get_or t (at + 8) 0) ALL_PERMISSIONS;
      }
      → q ≡ entry_of f (take (entry_width f) (drop at t))
  unfolding entry_here entry_in entry_of tail_of tail_width
  entry_read f full e q g = g ∙ ap entry_here (sym e) ∙ same_entry f.full

  pub record_read : record { serial = number (take 4 (drop at t)); quota = get_or t (at + 4) 0; count = get_or t (at + 5) 0 }
      ≡ record_of (take record_width (drop at t))
  unfolding record_of
  record_read = rw (first_part 4 8 (omega arith), byte_part 4 8 (omega arith), byte_part 5 8 (omega arith))

  spare_read : record_right (take record_width (drop at t)) ≡ all_zero (take 2 (drop (at + 6) t))
  unfolding record_right
  spare_read = ap all_zero (later_part 6 2)

-- entry i of a full form: what stands behind grant and remainder
pub tail_here : (f : Form) (t : List ℕ) (i : ℕ) → f.full ≡ true
    → entry_right f (take (entry_width f) (drop (i * entry_width f) (drop entries_at t))) ≡ tail_right form_2 (take 4 (drop (12 + i * 12 + 8) t))
unfolding entry_right tail_right tail_width form_2
tail_here f t i e = rw (e, drop-drop (i * 12) 12 t, later_part (12 + i * 12) t 8 4)

pub entries_pass : (f : Form) → f.full ≡ false → (s : List ℕ) → entry_right f s ≡ true
unfolding entry_right tail_right
entries_pass f e s = rw e

-- record i of those from a place on: its spare bytes are not zero, or they are
module _ (at : ℕ) (t : List ℕ) (i r : ℕ) (is : r ≡ number (take 2 (drop (at + i * 8 + 6) t))) where
  spare_at : record_right (take record_width (drop (i * record_width) (drop at t))) ≡ all_zero (take 2 (drop (at + i * 8 + 6) t))
  spare_at = rw (drop-drop (i * 8) at t) (spare_read (at + i * 8) t)

  pub spare_wrong : (r ≡ 0 → ⊥) → record_right (take record_width (drop (i * record_width) (drop at t))) ≡ false
  spare_wrong n = spare_at ∙ number_zeros (take 2 (drop (at + i * 8 + 6) t)) (λ e. n (is ∙ e))

  pub spare_right : r ≡ 0 → record_right (take record_width (drop (i * record_width) (drop at t))) ≡ true
  spare_right n = spare_at ∙ zeros_number (take 2 (drop (at + i * 8 + 6) t)) (sym is ∙ n)
