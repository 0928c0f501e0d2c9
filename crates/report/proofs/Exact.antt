-- Import takes exactly the lines that export writes, and what it refuses is told by the first bad line (rules 18.6 and 18.9).
use mathlib.Core.Path.{◌≡◌, refl, ap, sym, ◌∙◌}
use mathlib.Core.List.{List, [], ◌∷◌, ◌++◌, append_assoc, append-nil}
use mathlib.Core.Logic.{◌⊎◌, inl, inr, ⊎_elim, ◌↔◌}
use Prim.Native.Nat.{ℕ, zero, suc, ◌+◌, ◌-◌, ◌≤◌, ◌<◌}
use native.Mathlib.Omega.{arith}
use lib.ListN.{length, drop, replicate, length-append}
use lib.Seq.{drop_at}
use Rattle.std.specs.Prelude.{Result, Ok, Err}
use Rattle.accounts.specs.Accounts.{QUOTAS}
use Rattle.report.specs.Words.{line_text}
use Rattle.report.specs.Import.{Lines, Good, Wrong, line_of, in_front, with_line, lines_from, taken, bad_at, imported, import_of}
use Rattle.report.specs.Export.{lines_text}
use Rattle.report.specs.Exact.{Small, GoodLines, FirstBad}
use Rattle.report.specs.declared.ReportRefusal.{ReportRefusal}
use Rattle.report.specs.declared.ReportRefusal.TheVariants.{TooMany}
use Rattle.report.specs.declared.Imported.{Imported}
use Rattle.report.specs.declared.BadLine.{BadLine}
use Rattle.report.proofs.Words.{line_length, line_says, line_told}
use Rattle.report.proofs.Imports.{lines_step, lines_over, lines_end, behind, behind_none}

-- good lines in front of any text
in_front_behind : (g : ℕ) (gs : List ℕ) (l : Lines) → in_front g (behind gs l) ≡ behind (g ∷ gs) l
unfolding in_front behind
in_front_behind g gs (Good hs) = refl
in_front_behind g gs (Wrong r n) = refl

module _ (g : ℕ) (q : List ℕ) where
  not_empty : 0 < length (line_text g ++ q)
  not_empty = omega (arith, line_length g, length-append (line_text g) q)

  line_dropped : drop 54 (line_text g ++ q) ≡ q
  line_dropped = drop_at (line_text g) q 54 (line_length g)

pub read_lines : (left n : ℕ) (gs q : List ℕ) → Small gs → length gs ≤ left
    → lines_from left n (lines_text gs ++ q) ≡ behind gs (lines_from (left - length gs) (n + length gs) q)
unfolding lines_text with_line
read_lines left n [] q s h =
    let e : left ≡ left - 0 = omega arith in
    let f : n ≡ n + 0 = omega arith in
    sym (behind_none (lines_from left n q)) ∙ (λ i. behind [] (lines_from (e i) (f i) q))
read_lines zero n (g ∷ gs) q s h = absurd (omega arith)
read_lines (suc left) n (g ∷ gs) q s h =
    let r = lines_text gs ++ q in
    let e : left - length gs ≡ suc left - suc (length gs) = omega arith in
    let f : suc n + length gs ≡ n + suc (length gs) = omega arith in
    rw (
      append_assoc (line_text g) (lines_text gs) q,
      lines_step left n (line_text g ++ r) (not_empty g r),
      line_says g r s.0,
      line_dropped g r,
      read_lines left (suc n) gs q s.1 (omega arith),
      in_front_behind g gs (lines_from (left - length gs) (suc n + length gs) q),
    )
    (λ i. behind (g ∷ gs) (lines_from (e i) (f i) q))

-- and what any text is
abbrev Outcome : ℕ → ℕ → List ℕ → Lines → Type 0
Outcome left n s (Good gs) = GoodLines left s gs
Outcome left n s (Wrong r m) = FirstBad left n s r m

end_outcome : (left n : ℕ) → GoodLines left [] (replicate left 0)
unfolding lines_text
end_outcome left n =
    let e : left ≡ left - 0 = omega arith in
    record { listed = []; small = tt; fits = omega arith; lines = refl; grants = ap (λ (k : ℕ). replicate k 0) e }

bad_outcome : (left n : ℕ) (s : List ℕ) (r : ReportRefusal) → 0 < length s → ((0 ≡ left) × (r ≡ TooMany)) ⊎ ((0 < left) × (line_of s ≡ Err r))
    → FirstBad left n s r n
unfolding lines_text
bad_outcome left n s r h w = record { listed = []; small = tt; behind = s; there = h; lines = refl; which = omega arith; why = w }

good_outcome : (left n : ℕ) (s : List ℕ) (g : ℕ) (l : Lines) → line_of s ≡ Ok g → Outcome left (suc n) (drop 54 s) l
    → Outcome (suc left) n s (in_front g l)
unfolding in_front lines_text
good_outcome left n s g (Good gs) e o =
    let t = line_told s g e in
    let k : left - length o.listed ≡ suc left - suc (length o.listed) = omega arith in
    record {
      listed = g ∷ o.listed;
      small = (t.small, o.small);
      fits = omega (arith, o.fits);
      lines = sym t.again ∙ ap (λ (q : List ℕ). line_text g ++ q) o.lines;
      grants = ap (λ (q : List ℕ). g ∷ q) (o.grants ∙ ap (λ (k : ℕ). o.listed ++ replicate k 0) k);
    }
good_outcome left n s g (Wrong r m) e o =
    let t = line_told s g e in
    record {
      listed = g ∷ o.listed;
      small = (t.small, o.small);
      behind = o.behind;
      there = o.there;
      lines = sym t.again ∙ ap (λ (q : List ℕ). line_text g ++ q) o.lines ∙ sym (append_assoc (line_text g) (lines_text o.listed) o.behind);
      which = omega (arith, o.which);
      why = later o.why;
    }
  where
    later : ((length o.listed ≡ left) × (r ≡ TooMany)) ⊎ ((length o.listed < left) × (line_of o.behind ≡ Err r))
        → ((suc (length o.listed) ≡ suc left) × (r ≡ TooMany)) ⊎ ((suc (length o.listed) < suc left) × (line_of o.behind ≡ Err r))
    later (inl w) = inl (ap suc w.0, w.1)
    later (inr w) = inr (omega (arith, w.0), w.1)

outcome_line : (left n : ℕ) (s : List ℕ) (l : Lines) → 0 < length s → Outcome left (suc n) (drop 54 s) l → (one : Result ℕ ReportRefusal) → line_of s ≡ one
    → Outcome (suc left) n s (with_line n one l)
unfolding with_line
outcome_line left n s l h o (Ok g) e = good_outcome left n s g l e o
outcome_line left n s l h o (Err r) e = bad_outcome (suc left) n s r h (inr (omega arith, e))

outcome : (left n : ℕ) (s : List ℕ) → Outcome left n s (lines_from left n s)
outcome zero n [] = rw (lines_end 0 n) (end_outcome 0 n)
outcome zero n (c ∷ s) = rw (lines_over n (c ∷ s) (omega arith)) (bad_outcome 0 n (c ∷ s) TooMany (omega arith) (inl (refl, refl)))
outcome (suc left) n [] = rw (lines_end (suc left) n) (end_outcome (suc left) n)
outcome (suc left) n (c ∷ s) =
    let r = drop 54 (c ∷ s) in
    rw (lines_step left n (c ∷ s) (omega arith))
    (outcome_line left n (c ∷ s) (lines_from left (suc n) r) (omega arith) (outcome left (suc n) r) (line_of (c ∷ s)) refl)

-- both ways: which texts are accepted, and with what grants
accepted_lines : (l : Lines) (t gs : List ℕ) → Outcome QUOTAS 1 t l → imported l ≡ taken gs → GoodLines QUOTAS t gs
unfolding imported
accepted_lines (Good hs) t gs o e = let f : hs ≡ gs = ap (λ (x : Imported). x.grants) e in rw (← f) o
accepted_lines (Wrong r n) t gs o e =
    let a : ◌≡◌ {A = Result (Unit {0}) BadLine} (Err (record { refusal = r; line = n })) (Ok tt) = ap (λ (x : Imported). x.answer) e in
    let z : ◌≡◌ {A = ℕ} 0 1 = cc in
    absurd (omega arith)

pub import_accepts : (t gs : List ℕ) → (import_of t ≡ taken gs) ↔ GoodLines QUOTAS t gs
unfolding import_of imported behind
import_accepts t gs = (accepted_lines (lines_from QUOTAS 1 t) t gs (outcome QUOTAS 1 t), back)
  where
    back : GoodLines QUOTAS t gs → imported (lines_from QUOTAS 1 t) ≡ taken gs
    back w =
        let k = w.listed in
        let e : t ≡ lines_text k ++ [] = w.lines ∙ sym (append-nil (lines_text k)) in
        rw (e, read_lines QUOTAS 1 k [] w.small w.fits, lines_end (QUOTAS - length k) (1 + length k)) (ap taken (sym w.grants))

-- which are refused, by what, and at which line
refused_lines : (l : Lines) (t : List ℕ) (r : ReportRefusal) (n : ℕ) → Outcome QUOTAS 1 t l → imported l ≡ bad_at r n → FirstBad QUOTAS 1 t r n
unfolding imported
refused_lines (Good hs) t r n o e =
    let a : ◌≡◌ {A = Result (Unit {0}) BadLine} (Ok tt) (Err (record { refusal = r; line = n })) = ap (λ (x : Imported). x.answer) e in
    let z : ◌≡◌ {A = ℕ} 0 1 = cc in
    absurd (omega arith)
refused_lines (Wrong q m) t r n o e =
    let a : ◌≡◌ {A = Result (Unit {0}) BadLine} (Err (record { refusal = q; line = m })) (Err (record { refusal = r; line = n })) = ap (λ
    (x : Imported). x.answer) e in
    let b : ◌≡◌ {A = BadLine} (record { refusal = q; line = m }) (record { refusal = r; line = n }) = cc in
    let p : q ≡ r = ap (λ (x : BadLine). x.refusal) b in
    let k : m ≡ n = ap (λ (x : BadLine). x.line) b in
    rw (← p, ← k) o

-- the lines in front of the bad one are read, and then it is met
module _ (t : List ℕ) (r : ReportRefusal) (n : ℕ) (w : FirstBad QUOTAS 1 t r n) where
  met : length w.listed ≤ QUOTAS → lines_from (QUOTAS - length w.listed) (1 + length w.listed) w.behind ≡ Wrong r n → import_of t ≡ bad_at r n
  unfolding import_of imported behind
  met h e = rw (w.lines, read_lines QUOTAS 1 w.listed w.behind w.small h, e)

  over : (length w.listed ≡ QUOTAS) × (r ≡ TooMany) → import_of t ≡ bad_at r n
  over y =
      let e : QUOTAS - length w.listed ≡ 0 = omega (arith, y.0) in
      met (omega (arith, y.0)) (rw (e, lines_over (1 + length w.listed) w.behind w.there, y.1) (ap (Wrong TooMany) (sym w.which)))

  wrong : (length w.listed < QUOTAS) × (line_of w.behind ≡ Err r) → import_of t ≡ bad_at r n
  unfolding with_line
  wrong y =
      let e : QUOTAS - length w.listed ≡ suc (QUOTAS - suc (length w.listed)) = omega (arith, y.0) in
      met (omega (arith, y.0))
      (rw (e, lines_step (QUOTAS - suc (length w.listed)) (1 + length w.listed) w.behind w.there, y.1) (ap (Wrong r) (sym w.which)))

pub import_refuses : (t : List ℕ) (r : ReportRefusal) (n : ℕ) → (import_of t ≡ bad_at r n) ↔ FirstBad QUOTAS 1 t r n
unfolding import_of
import_refuses t r n =
    let there = refused_lines (lines_from QUOTAS 1 t) t r n (outcome QUOTAS 1 t) in
    (there, λ (w : FirstBad QUOTAS 1 t r n). ⊎_elim (over t r n w) (wrong t r n w) w.why)
