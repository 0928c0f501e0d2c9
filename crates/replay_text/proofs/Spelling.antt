-- Digits one by one: how many a number has, and how a loop writes them from the last one on.
use mathlib.Core.Path.{◌≡◌, ap, sym, subst, ◌∙◌}
use mathlib.Core.List.{List, [], ◌∷◌, ◌++◌, append_assoc}
use Prim.Native.Nat.{ℕ, zero, suc, ◌+◌, ◌-◌, ◌*◌, ◌/◌, ◌%◌, ◌^◌, ◌≤◌, ◌<◌}
use native.Mathlib.Omega.{arith}
use native.Mathlib.Numerals.{add-one}
use native.Mathlib.Nat.{div-lt_iff_lt-mul, le-div_iff_mul-le, pow-suc}
use lib.ListN.{length, take, set, length-append}
use lib.Seq.{length-take-le, set-append_left, take-suc-set, take-set-lt}
use Rattle.replay_model.proofs.Decimals.{places_one, places_more, length_digits}
use Rattle.replay_model.specs.Text.{digits, places}

-- as many digits as the powers of ten on both sides say
power : (k : ℕ) → 1 ≤ 10 ^ k
power zero = omega arith
power (suc k) = rw pow-suc (omega (arith, power k))

pub places_log : (k fuel n : ℕ) → k ≤ fuel → 10 ^ k ≤ n → n < 10 * 10 ^ k → places fuel n ≡ k + 1
places_log zero fuel n f l h = omega (arith, places_one fuel n (omega (arith, h)))
places_log (suc k) zero n f l h = absurd (omega arith)
places_log (suc k) (suc fuel) n f l h =
    let low : 10 ^ k * 10 ≤ n = rw pow-suc at l in
    let high : n < 10 * (10 ^ k * 10) = rw pow-suc at h in
    let on = places_log k fuel (n / 10) (omega arith) ((le-div_iff_mul-le {k = 10} {x = 10 ^ k} {y = n} (omega arith)).1 low)
    ((div-lt_iff_lt-mul {k = 10} {x = n} {y = 10 * 10 ^ k} (omega arith)).1 (omega arith)) in
    omega (arith, on, places_more fuel n (omega (arith, power k)))

-- the digits that are left and those that are written are all of them
pub record Spelling (n : ℕ) (s : List ℕ) (left rest : ℕ) (s' : List ℕ) : Type 0 where
  pub done : List ℕ
  pub bytes : s' ≡ take left s ++ done
  pub whole : digits left rest ++ done ≡ digits (length s) n

spelled : (n : ℕ) (s : List ℕ) (left rest : ℕ) (s' : List ℕ) (c : Spelling n s left rest s') → left + length c.done ≡ length s
spelled n s left rest s' c =
    omega (arith, length_digits left rest, length_digits (length s) n, simp length-append at (ap length c.whole))

spell_on : (n : ℕ) (s : List ℕ) (left rest : ℕ) (s' : List ℕ) → Spelling n s (left + 1) rest s'
    → Spelling n s left (rest / 10) (set s' left (48 + rest % 10))
unfolding digits
spell_on n s left rest s' c =
    let l = spelled n s (left + 1) rest s' c in
    let d = 48 + rest % 10 in
    let t : length (take (suc left) s) ≡ suc left = length-take-le (suc left) s (omega arith) in
    record {
      done = d ∷ c.done;
      bytes =
          ap (λ (x : List ℕ). set x left d) (c.bytes ∙ ap (λ (k : ℕ). take k s ++ c.done) (add-one left))
          ∙ set-append_left (take (suc left) s) c.done left d (omega arith)
          ∙ ap (λ (x : List ℕ). x ++ c.done) (sym (take-set-lt (suc left) s left d (omega arith)) ∙ take-suc-set s left d (omega arith))
          ∙ append_assoc (take left s) (d ∷ []) c.done;
      whole = sym (append_assoc (digits left (rest / 10)) (d ∷ []) c.done)
          ∙ ap (λ (k : ℕ). digits k rest ++ c.done) (sym (add-one left)) ∙ c.whole;
    }

pub spell_more : (n : ℕ) (s : List ℕ) (left rest : ℕ) (s' : List ℕ) → 0 < left → Spelling n s left rest s'
    → Spelling n s (left - 1) (rest / 10) (set s' (left - 1) (48 + rest % 10))
spell_more n s left rest s' p c =
    let e : left ≡ left - 1 + 1 = omega arith in
    spell_on n s (left - 1) rest s' (subst (λ (k : ℕ). Spelling n s k rest s') e c)

pub spell_end : (n : ℕ) (s : List ℕ) (left rest : ℕ) (s' : List ℕ) → left ≤ 0 → Spelling n s left rest s' → s' ≡ digits (length s) n
unfolding digits
spell_end n s left rest s' h c =
    let z : left ≡ 0 = omega arith in
    c.bytes ∙ ap (λ (k : ℕ). take k s ++ c.done) z ∙ ap (λ (k : ℕ). digits k rest ++ c.done) (sym z) ∙ c.whole
