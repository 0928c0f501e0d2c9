use Rattle.std.proofs.Common.{◌≡◌, ℕ, ◌+◌, ◌-◌, ◌*◌, ◌<◌, List, get_or, drop, sym, ap, ◌∙◌, arith, eqb-true, get_or-take, get_or-drop}
use lib.Bits.{bit_or, or_add_and, and_le_l, and_le_r}
use Rattle.lists.proofs.Bools.{by_eq}
use Rattle.words.specs.Words.{FIRST}
use Rattle.survey.proofs.indexing.are_blank.Goals as goal

-- bits that come to none
none : (a b : ℕ) → bit_or a b ≡ 0 → (a ≡ 0) × (b ≡ 0)
none a b e = let s = or_add_and a b in (omega (arith, and_le_r a b), omega (arith, and_le_l a b))

more : (words : List ℕ) (bits i : ℕ) → (bits ≡ 0 → (j : ℕ) → j < i → get_or words j 0 ≡ 0)
    → bit_or bits (get_or words i 0) ≡ 0 → (j : ℕ) → j < i + 1 → get_or words j 0 ≡ 0
more words bits i f e j l =
    let z = none bits (get_or words i 0) e in
    by_eq j i (λ q. ap (λ (x : ℕ). get_or words x 0) q ∙ z.1) (λ q. f z.0 j (omega (arith, q)))

pub loop-word-preserved : goal.loop-word-preserved
loop-word-preserved c =
    let l = c.loop-word in
    more _ l.bits l.word-index l.invariant

pub returns : goal.returns
returns c t =
    let l = c.loop-word in
    let ws = c.args.words.now in
    let from = c.args.from in
    let z = l.invariant (eqb-true l.bits 0 t) in
    let read : (j : ℕ) → j < 2 * c.args.count → get_or ws (FIRST + 2 * from + j) 0 ≡ 0 =
    λ j h.
    sym (get_or-take _ (drop (FIRST + 2 * from) ws) j 0 (omega arith) ∙ get_or-drop (FIRST + 2 * from) ws j 0)
    ∙ z j (omega (arith, c.loop-word-test.false)) in
    λ p low high.
    let one : FIRST + 2 * from + 2 * (p - from) ≡ FIRST + 2 * p = omega arith in
    let two : FIRST + 2 * from + (2 * (p - from) + 1) ≡ FIRST + 2 * p + 1 = omega arith in (
      ap (λ (x : ℕ). get_or ws x 0) (sym one) ∙ read (2 * (p - from)) (omega arith),
      ap (λ (x : ℕ). get_or ws x 0) (sym two) ∙ read (2 * (p - from) + 1) (omega arith),
    )
