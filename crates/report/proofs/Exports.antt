-- Lines written one behind the other, and what export leaves and answers.
use mathlib.Core.Path.{◌≡◌, refl, sym, ◌∙◌}
use mathlib.Core.List.{List, [], ◌∷◌, ◌++◌, append_assoc, append-nil}
use Prim.Native.Nat.{ℕ, ◌+◌, ◌*◌, ◌-◌, ◌≤◌, ◌<◌}
use native.Mathlib.Omega.{arith}
use native.Mathlib.Numerals.{add-one}
use native.Mathlib.Nat.{suc-mul}
use lib.ListN.{length, take, drop, get_or, length-append}
use lib.Seq.{take-suc, length-take-le, drop-drop}
use borrow.Rule.Slice.PartMut.{put_mid}
use borrow.Author.Tests.{lt-ltb, le-ltb}
use Rattle.std.specs.Prelude.{Ok, Err}
use Rattle.layout.specs.Bytes.{overwrite}
use Rattle.layout.proofs.Overwrite.{overwrite_nil, overwrite_two, overwrite_fits}
use Rattle.report.specs.Words.{line_text}
use Rattle.report.specs.Export.{lines_text, Written, export_of}
use Rattle.report.specs.declared.ReportRefusal.TheVariants.{Room}
use Rattle.report.proofs.Words.{line_length}

pub lines_length : (gs : List ℕ) → length (lines_text gs) ≡ length gs * 54
unfolding lines_text
lines_length [] = refl
lines_length (g ∷ gs) =
    let l : length (line_text g ++ lines_text gs) ≡ length (line_text g) + length (lines_text gs) = length-append (line_text g) (lines_text gs) in
    omega (arith, line_length g, lines_length gs, suc-mul (length gs) 54)

pub lines_both : (xs ys : List ℕ) → lines_text (xs ++ ys) ≡ lines_text xs ++ lines_text ys
unfolding lines_text
lines_both [] ys = refl
lines_both (x ∷ xs) ys = rw (lines_both xs ys) (sym (append_assoc (line_text x) (lines_text xs) (lines_text ys)))

lines_more : (gs : List ℕ) (i : ℕ) → i < length gs → lines_text (take (i + 1) gs) ≡ lines_text (take i gs) ++ line_text (get_or gs i 0)
unfolding lines_text
lines_more gs i h = rw (add-one i, take-suc gs i 0 h, lines_both (take i gs) (get_or gs i 0 ∷ []), append-nil (line_text (get_or gs i 0)))

-- no line is written yet, and one more behind those that are
pub put_none : (gs s : List ℕ) → s ≡ overwrite 0 (lines_text (take 0 gs)) s
unfolding lines_text
put_none gs s = sym (overwrite_nil 0 s)

pub put_line_more : (i : ℕ) (gs s₀ s s' : List ℕ) → i < length gs → length gs * 54 ≤ length s₀ → s ≡ overwrite 0 (lines_text (take i gs)) s₀
    → s' ≡ overwrite (54 * i) (line_text (get_or gs i 0)) s → s' ≡ overwrite 0 (lines_text (take (i + 1) gs)) s₀
put_line_more i gs s₀ s s' h l e f =
    let m = lines_text (take i gs) in
    let y = line_text (get_or gs i 0) in
    let n : length m ≡ 54 * i = omega (arith, lines_length (take i gs), length-take-le i gs (omega arith)) in
    let k = line_length (get_or gs i 0) in
    let two : overwrite (0 + length m) y (overwrite 0 m s₀) ≡ overwrite 0 (m ++ y) s₀ = overwrite_two 0 m y s₀ (omega arith) in
    let p : 54 * i ≡ 0 + length m = omega arith in
    f ∙ rw (e, lines_more gs i h, p) two

pub line_put : (at : ℕ) (s new : List ℕ) → length new ≡ 54 → at + 54 ≤ length s → put_mid at (at + 54 - at) s new ≡ overwrite at new s
line_put at s new e l =
    let k : at + 54 - at ≡ 54 = omega arith in
    let f = overwrite_fits at new s (omega arith) in
    rw (k, drop-drop 54 at s) (sym (rw e at f))

-- what export leaves
take_none : (t : List ℕ) → take 0 t ≡ []
take_none [] = refl
take_none (x ∷ t) = refl

module _ (t gs : List ℕ) where
  pub export_room : length t < 1728 → ◌≡◌ {A = Written} (record { text = t; answer = Err Room }) (export_of t gs)
  unfolding export_of
  export_room h = sym (rw (lt-ltb (length t) 1728 h))

  pub export_put : 1728 ≤ length t → length gs ≡ 32 → (s : List ℕ) → s ≡ overwrite 0 (lines_text gs) t
      → ◌≡◌ {A = Written} (record { text = s; answer = Ok 1728 }) (export_of t gs)
  unfolding export_of
  export_put h l s e =
      let n : length (lines_text gs) ≡ 1728 = omega (arith, lines_length gs) in
      let m : 0 + length (lines_text gs) ≡ 1728 = omega arith in
      let f : s ≡ lines_text gs ++ drop 1728 t =
      e ∙ overwrite_fits 0 (lines_text gs) t (omega arith) ∙ (λ i. take_none t i ++ (lines_text gs ++ drop (m i) t)) in
      rw (le-ltb (length t) 1728 h, f)
