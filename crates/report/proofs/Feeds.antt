-- A line may be cut at its line feed or after 54 characters: import is the same (rule 18.10).
use mathlib.Core.Path.{◌≡◌, refl, ap, sym, ◌∙◌}
use mathlib.Core.List.{List, [], ◌∷◌, ◌++◌, map, append_assoc, append-nil}
use mathlib.Core.Bool.{Bool, true, false, cond, false≢true}
use Prim.Native.Nat.{ℕ, zero, suc, ◌%◌, ◌^◌}
use native.Mathlib.Omega.{arith}
use lib.ListN.{length, drop, get_or, replicate}
use lib.Dec.{eqb}
use borrow.Author.Tests.{ne_eqb, ltb-true}
use Rattle.std.specs.Prelude.{Result, Ok, Err}
use Rattle.lists.proofs.Bools.{and_parts}
use Rattle.report.specs.Words.{value, is_digit, all_digits, digits, mark, text, line_text, words_right, words, all_zero}
use Rattle.report.specs.Import.{line_of, with_line, lines_from}
use Rattle.report.specs.Exact.{to_line_feed, lines_by_feed}
use Rattle.report.specs.declared.ReportRefusal.TheVariants.{Reserved}
use Rattle.report.specs.declared.ReportRefusal.{ReportRefusal}
use Rattle.report.proofs.Hex.{digits_are}
use Rattle.report.proofs.Words.{text_right, text_words, words_text, words_length, line_length, line_told}
use Rattle.report.proofs.Loops.{line_wrong}

-- a line feed is no digit, so a line goes to its own
digits_pass : (d r : List ℕ) → all_digits d ≡ true → to_line_feed (d ++ r) ≡ d ++ to_line_feed r
unfolding to_line_feed all_digits is_digit value
digits_pass [] r e = refl
digits_pass (c ∷ d) r e =
    let w = and_parts (is_digit c) (all_digits d) e in
    rw (ne_eqb c 10 (λ z. absurd (omega (arith, ltb-true 16 16 (rw z at w.0)))), digits_pass d r w.1)

pub text_pass : (n : ℕ) (ns q : List ℕ) → to_line_feed (text (n ∷ ns) ++ q) ≡ text (n ∷ ns)
unfolding text mark to_line_feed
text_pass n [] q = rw (append_assoc (digits 8 n) (10 ∷ []) q, digits_pass (digits 8 n) (10 ∷ q) (digits_are 8 n))
text_pass n (m ∷ ns) q =
    rw (append_assoc (digits 8 n) (32 ∷ text (m ∷ ns)) q, digits_pass (digits 8 n) (32 ∷ (text (m ∷ ns) ++ q)) (digits_are 8 n), text_pass m ns q)

feed_front : (s : List ℕ) → to_line_feed s ++ drop (length (to_line_feed s)) s ≡ s
unfolding to_line_feed
feed_front [] = refl
feed_front (c ∷ s) = go (eqb c 10) (feed_front s)
  where
    go : (t : Bool) → to_line_feed s ++ drop (length (to_line_feed s)) s ≡ s
        → cond t (c ∷ []) (c ∷ to_line_feed s) ++ drop (length (cond t (c ∷ []) (c ∷ to_line_feed s))) (c ∷ s) ≡ c ∷ s
    go true e = refl
    go false e = ap (λ (l : List ℕ). c ∷ l) e

-- what a line of six words says, whatever stands behind it
line_words : List ℕ → Result ℕ ReportRefusal
line_words ws = cond (all_zero (drop 1 ws)) (Ok (get_or ws 0 0)) (Err Reserved)

right_says : (s : List ℕ) → words_right 6 s ≡ true → line_of s ≡ line_words (words 6 s)
unfolding line_of line_words words
right_says s e = rw e

text_is_right : (ws q : List ℕ) → length ws ≡ 6 → words_right 6 (text ws ++ q) ≡ true
text_is_right ws q l = rw l at (text_right ws q)

text_says : (ws q : List ℕ) → length ws ≡ 6 → line_of (text ws ++ q) ≡ line_words (map (λ n. n % 16 ^ 8) ws)
text_says ws q l =
    let e : words 6 (text ws ++ q) ≡ map (λ n. n % 16 ^ 8) ws = ap (λ (k : ℕ). words k (text ws ++ q)) (sym l) ∙ text_words ws q in
    right_says (text ws ++ q) (text_is_right ws q l) ∙ ap line_words e

-- a text that begins with a line has its first line feed at that line's end
feeds_text : (ws q : List ℕ) → length ws ≡ 6 → to_line_feed (text ws ++ q) ≡ text ws
feeds_text [] q l = absurd (omega arith)
feeds_text (n ∷ ns) q l = text_pass n ns q

pub feed_says : (s : List ℕ) → line_of (to_line_feed s) ≡ line_of s
feed_says s = go (words_right 6 s) refl (words_right 6 u) refl
  where
    u : List ℕ
    u = to_line_feed s

    ws : List ℕ
    ws = words 6 s

    vs : List ℕ
    vs = words 6 u

    go : (x : Bool) → words_right 6 s ≡ x → (y : Bool) → words_right 6 u ≡ y → line_of u ≡ line_of s
    go true x y e =
        let q = drop 54 s in
        let f : text ws ++ q ≡ s = words_text 6 s x in
        let g : u ≡ text ws ++ [] = ap to_line_feed (sym f) ∙ feeds_text ws q (words_length 6 s) ∙ sym (append-nil (text ws)) in
        ap line_of g ∙ text_says ws [] (words_length 6 s) ∙ sym (text_says ws q (words_length 6 s)) ∙ ap line_of f
    go false x true e =
        let q = drop 54 u ++ drop (length u) s in
        let f : text vs ++ q ≡ s =
        sym (append_assoc (text vs) (drop 54 u) (drop (length u) s)) ∙ ap (λ (l : List ℕ). l ++ drop (length u) s) (words_text 6 u e) ∙ feed_front s in
        absurd (false≢true (sym x ∙ ap (words_right 6) (sym f) ∙ text_is_right vs q (words_length 6 u)))
    go false x false e = sym (line_wrong u e) ∙ line_wrong s x

feed_length : (s : List ℕ) (g : ℕ) → line_of s ≡ Ok g → length (to_line_feed s) ≡ 54
unfolding line_text
feed_length s g e =
    let f = (line_told s g e).again in
    ap (λ (l : List ℕ). length (to_line_feed l)) (sym f) ∙ ap length (text_pass g (replicate 5 0) (drop 54 s)) ∙ line_length g

-- line by line
feed_line : (left n : ℕ) (s : List ℕ) → ((q : List ℕ) → lines_by_feed left (suc n) q ≡ lines_from left (suc n) q) → (l : Result ℕ ReportRefusal) → line_of s ≡ l
    → with_line n l (lines_by_feed left (suc n) (drop (length (to_line_feed s)) s)) ≡ with_line n l (lines_from left (suc n) (drop 54 s))
unfolding with_line
feed_line left n s ih (Ok g) e = rw (feed_length s g e, ih (drop 54 s))
feed_line left n s ih (Err r) e = refl

pub cut_either_way : (left n : ℕ) (s : List ℕ) → lines_by_feed left n s ≡ lines_from left n s
unfolding lines_by_feed lines_from
cut_either_way zero n [] = refl
cut_either_way zero n (c ∷ s) = refl
cut_either_way (suc left) n [] = refl
cut_either_way (suc left) n (c ∷ s) =
    rw (feed_says (c ∷ s)) (feed_line left n (c ∷ s) (cut_either_way left (suc n)) (line_of (c ∷ s)) refl)
