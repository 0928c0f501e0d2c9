-- The lines of a text one by one: what is known once the first i of them are read, and what import then gives.
use mathlib.Core.Path.{◌≡◌, refl, ap, sym, ◌∙◌}
use mathlib.Core.List.{List, [], ◌∷◌, ◌++◌, append_assoc}
use Prim.Native.Nat.{ℕ, zero, suc, ◌+◌, ◌*◌, ◌-◌, ◌≤◌, ◌<◌}
use native.Mathlib.Omega.{arith}
use native.Mathlib.Numerals.{add-one}
use lib.ListN.{length, take, drop, get_or, set, replicate, length-set, length-drop, drop_of_length-le, take-append-drop}
use lib.Seq.{take-suc-set, drop-set-lt, drop-drop, drop-cons}
use Rattle.std.specs.Prelude.{Ok, Err}
use Rattle.accounts.specs.Accounts.{QUOTAS}
use Rattle.report.specs.Import.{Lines, Good, Wrong, line_of, in_front, with_line, lines_from, taken, bad_at, imported, import_of}
use Rattle.report.specs.declared.ReportRefusal.{ReportRefusal}
use Rattle.report.specs.declared.ReportRefusal.TheVariants.{TooMany}
use Rattle.report.proofs.Rows

-- the definition at a text that is not empty, and at its end
pub lines_step : (left n : ℕ) (s : List ℕ) → 0 < length s → lines_from (suc left) n s ≡ with_line n (line_of s) (lines_from left (suc n) (drop 54 s))
unfolding lines_from
lines_step left n [] h = absurd (omega arith)
lines_step left n (c ∷ s) h = refl

pub lines_over : (n : ℕ) (s : List ℕ) → 0 < length s → lines_from 0 n s ≡ Wrong TooMany n
unfolding lines_from
lines_over n [] h = absurd (omega arith)
lines_over n (c ∷ s) h = refl

pub lines_end : (left n : ℕ) → lines_from left n [] ≡ Good (replicate left 0)
unfolding lines_from
lines_end zero n = refl
lines_end (suc left) n = refl

-- what lines say behind grants that are read already
unfoldable pub behind : List ℕ → Lines → Lines
behind gs (Good hs) = Good (gs ++ hs)
behind gs (Wrong r n) = Wrong r n

pub behind_none : (l : Lines) → behind [] l ≡ l
unfolding behind
behind_none (Good gs) = refl
behind_none (Wrong r n) = refl

behind_more : (gs : List ℕ) (g : ℕ) (l : Lines) → behind gs (in_front g l) ≡ behind (gs ++ (g ∷ [])) l
unfolding behind in_front
behind_more gs g (Good hs) = ap Good (sym (append_assoc gs (g ∷ []) hs))
behind_more gs g (Wrong r n) = refl

-- i lines of t are read
pub record Importing (t : List ℕ) (grants : List ℕ) (i : ℕ) : Type 0 where
  pub long : length grants ≡ QUOTAS
  pub rest : drop i grants ≡ replicate (QUOTAS - i) 0
  pub so_far : lines_from QUOTAS 1 t ≡ behind (take i grants) (lines_from (QUOTAS - i) (suc i) (drop (54 * i) t))

pub import_start : (t : List ℕ) → Importing t (replicate QUOTAS 0) 0
import_start t = record { long = refl; rest = refl; so_far = sym (behind_none (lines_from QUOTAS 1 t)) }

module _ (t gs : List ℕ) (i : ℕ) (w : Importing t gs i) where
  -- what is left of the text, and how it stands one line later
  left_over : 54 * i < length t → 0 < length (drop (54 * i) t)
  left_over h = omega (arith, length-drop (54 * i) t)

  next_line : drop 54 (drop (54 * i) t) ≡ drop (54 * (i + 1)) t
  next_line = let e : 54 * i + 54 ≡ 54 * (i + 1) = omega arith in drop-drop 54 (54 * i) t ∙ ap (λ (n : ℕ). drop n t) e

  this_line : i < QUOTAS → 54 * i < length t → lines_from (QUOTAS - i) (suc i) (drop (54 * i) t)
      ≡ with_line (suc i) (line_of (drop (54 * i) t)) (lines_from (QUOTAS - (i + 1)) (suc (suc i)) (drop (54 * (i + 1)) t))
  this_line h l =
      let e : QUOTAS - i ≡ suc (QUOTAS - (i + 1)) = omega arith in
      rw (e, lines_step (QUOTAS - (i + 1)) (suc i) (drop (54 * i) t) (left_over l), next_line)

  pub import_more : (g : ℕ) → i < QUOTAS → 54 * i < length t → Ok g ≡ line_of (drop (54 * i) t) → Importing t (set gs i g) (i + 1)
  unfolding with_line
  import_more g h l e =
      let n = w.long in
      let k : length (set gs i g) ≡ QUOTAS = length-set gs i g ∙ n in
      let later = lines_from (QUOTAS - (i + 1)) (suc (suc i)) (drop (54 * (i + 1)) t) in
      let front : take (i + 1) (set gs i g) ≡ take i gs ++ (g ∷ []) = rw (add-one i) (take-suc-set gs i g (omega arith)) in
      let zeros : get_or gs i 0 ∷ drop (suc i) gs ≡ 0 ∷ replicate (QUOTAS - (i + 1)) 0 =
      let e : QUOTAS - i ≡ suc (QUOTAS - (i + 1)) = omega arith in
      sym (drop-cons gs i 0 (omega arith)) ∙ w.rest ∙ ap (λ (m : ℕ). replicate m 0) e in
      record {
        long = k;
        rest = drop-set-lt (i + 1) gs i g (omega arith) ∙ ap (λ (m : ℕ). drop m gs) (add-one i) ∙ ap (λ (l : List ℕ). drop 1 l) zeros;
        so_far =
            w.so_far ∙ rw (this_line h l, ← e)
            (behind_more (take i gs) g later
            ∙ (λ j. behind (sym front j) (lines_from (QUOTAS - (i + 1)) (suc (sym (add-one i) j)) (drop (54 * (i + 1)) t))));
      }

  -- a bad line, one too many, and the end
  module _ (l : 54 * i < length t) where
    pub import_bad : (r : ReportRefusal) → i < QUOTAS → Err r ≡ line_of (drop (54 * i) t) → bad_at r (i + 1) ≡ import_of t
    unfolding import_of imported behind with_line
    import_bad r h e =
        let f : lines_from QUOTAS 1 t ≡ Wrong r (suc i) = w.so_far ∙ rw (this_line h l, ← e) in
        ap (bad_at r) (add-one i) ∙ sym (ap imported f)

    pub import_over : QUOTAS ≤ i → bad_at TooMany (i + 1) ≡ import_of t
    unfolding import_of imported behind
    import_over h =
        let e : QUOTAS - i ≡ 0 = omega arith in
        let f : lines_from QUOTAS 1 t ≡ Wrong TooMany (suc i) = w.so_far ∙ rw (e, lines_over (suc i) (drop (54 * i) t) (left_over l)) in
        ap (bad_at TooMany) (add-one i) ∙ sym (ap imported f)

  pub import_end : length t ≤ 54 * i → taken gs ≡ import_of t
  unfolding import_of imported behind
  import_end h =
      let f : lines_from QUOTAS 1 t ≡ Good gs =
      w.so_far ∙ rw (drop_of_length-le t h, lines_end (QUOTAS - i) (suc i), ← w.rest) (ap Good (take-append-drop i gs)) in
      sym (ap imported f)
