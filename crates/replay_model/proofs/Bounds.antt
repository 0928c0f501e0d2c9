-- The output of every replay is short enough: an answer's line is at most six times as long as the line that asked for it, and a heap has at most
-- 4,096 blocks.
use Rattle.std.specs.Prelude.{Option, Some, None}
use mathlib.Core.Path.{◌≡◌, refl, sym}
use mathlib.Core.List.{List, [], ◌∷◌, ◌++◌}
use mathlib.Core.Bool.{Bool, true, false, cond}
use Prim.Native.Nat.{ℕ, suc, ◌+◌, ◌*◌, ◌≤◌, ◌<◌}
use native.Mathlib.Omega.{arith}
use lib.Dec.{ltb, eqb}
use borrow.Author.Tests.{ltb-true, ltb-false, eqb-true}
use lib.ListN.{length, get_or, replicate, length-append}
use Rattle.accounts.specs.declared.Accounts.{Accounts}
use Rattle.layout.specs.Blocks.{Block, size, total_size, parse}
use Rattle.lookup.proofs.Parsed.{total_parsed}
use Rattle.lists.specs.Lists.{total, or_else}
use Rattle.model.specs.Answers.{Values}
use Rattle.model.specs.Objects.{blocks_of}
use Rattle.accounts.specs.Accounts.{plain}
use Rattle.model.specs.Calls.{Outcome, listing_from, open_heap}
use Rattle.model.specs.Step.{own_step}
use Rattle.model.specs.declared.ListedBlock.{ListedBlock}
use Rattle.model.specs.declared.Call.{Call}
use Rattle.model.specs.declared.Call.TheVariants.{Allocate, AllocateArray, Claim as Claims, Release, FreeAll, Reallocate}
use Rattle.replay_model.specs.Text.{text, LINE_FEED, SPACE, decimal, read_number}
use Rattle.replay_model.specs.Lines.{onto, split, lines, words, join_number, numbers}
use Rattle.replay_model.specs.Commands.{Opening, handle_in, word_of, taking, call_of, named, phrase_of, phrase_call, line_call, line_opening}
use Rattle.replay_model.specs.Replay.{LONGEST, OUTPUT, tail_of, ok_line, no_line, bad_line, gives_handle, handle_numbers, answer_numbers}
use Rattle.replay_model.specs.Replay.{answer_line, block_line, block_lines, heap_lines, ending, on_call, run_lines, run_opened, run_opening}
use Rattle.replay_model.specs.Replay.{run_input, replay}
use Rattle.replay_model.specs.Events.{Reached, Granted}
use Rattle.replay_model.specs.declared.Word.{Word}
use Rattle.replay_model.specs.declared.Word.TheVariants.{Open, Alloc, Array, Claim, Free, All, Realloc, Unknown}
use Rattle.replay_model.proofs.Rows
use Rattle.replay_model.proofs.Decimals.{decimal_most}
use Rattle.replay_model.proofs.Names.{same_lengths}
use Rattle.replay_model.proofs.Reaching.{reached_length, reached_next}
use Rattle.replay_model.proofs.Openings.{opening_granted, opened_by}

-- a line's numbers: a space and at most ten digits each, and the line feed
tail_most : (ns : List ℕ) → length (tail_of ns) ≤ 11 * length ns + 1
unfolding tail_of
tail_most [] = omega arith
tail_most (n ∷ ns) = omega (arith, length-append (decimal n) (tail_of ns), decimal_most n, tail_most ns)

-- an answer's line
ok_most : (ns : List ℕ) → length ns ≤ 3 → length (ok_line ns) ≤ 36
unfolding ok_line
ok_most ns h = omega (arith, tail_most ns)

no_most : (n : ℕ) → length (no_line n) ≤ 14
unfolding no_line
no_most n = omega (arith, tail_most (n ∷ []))

numbers_most : (c : Call) (v : Values) → length (answer_numbers c v) ≤ 3
unfolding answer_numbers handle_numbers
numbers_most c v = go (gives_handle c)
  where
    go : (t : Bool) → length (cond t (handle_numbers v.handle) (v.amount ∷ [])) ≤ 3
    go true = omega arith
    go false = omega arith

answer_most : (c : Call) (v : Values) → length (answer_line c v) ≤ 36
unfolding answer_line
answer_most c v = go (eqb v.refusal 0)
  where
    go : (t : Bool) → length (cond t (ok_line (answer_numbers c v)) (no_line v.refusal)) ≤ 36
    go true = ok_most (answer_numbers c v) (numbers_most c v)
    go false = omega (arith, no_most v.refusal)

-- the list: a line for each block
block_most : (b : ListedBlock) → length (block_line b) ≤ 33
unfolding block_line
block_most b =
    omega (
      arith,
      length-append (decimal b.offset) (tail_of (b.size ∷ (b.serial ∷ []))),
      decimal_most b.offset,
      tail_most
          (b.size ∷ (b.serial ∷ [])),
    )

blocks_most : (at : ℕ) (bs : List Block) → length (block_lines (listing_from at bs)) ≤ 33 * length bs
unfolding block_lines listing_from
blocks_most at [] = omega arith
blocks_most at (b ∷ bs) =
    let l : ListedBlock = record { offset = at; size = size b; serial = b.serial } in
    omega (arith, length-append (block_line l) (block_lines (listing_from (at + size b) bs)), block_most l, blocks_most (at + size b) bs)

-- each block has at least eight bytes
eights : (bs : List Block) → 8 * length bs ≤ total_size bs
unfolding total_size
eights [] = omega arith
eights (b ∷ bs) = omega (arith, eights bs)

blocks_within : (s : List ℕ) → total_size (blocks_of s) ≤ length s
unfolding blocks_of or_else total_size
blocks_within s = go (parse s) refl
  where
    go : (o : Option (List Block)) → parse s ≡ o → total_size (or_else [] o) ≤ length s
    go None e = omega arith
    go (Some bs) e = omega (arith, total_parsed s bs e)

abbrev list_most : ℕ
list_most = 135168

heap_most : (s : List ℕ) → length s ≤ 32768 → length (heap_lines s) ≤ list_most
unfolding heap_lines
heap_most s h = omega (arith, blocks_most 0 (blocks_of s), eights (blocks_of s), blocks_within s)

ending_most : (l s : List ℕ) → length s ≤ 32768 → length (ending l s) ≤ list_most
unfolding ending bad_line tail_of
ending_most [] s h = heap_most s h
ending_most (b ∷ l) s h = omega arith

-- the bytes of parts, each with the mark behind it
abbrev spans : List (List ℕ) → ℕ
spans ps = total (λ p. length p + 1) ps

onto_spans : (b : ℕ) (ps : List (List ℕ)) (n : ℕ) → spans ps ≡ n + 1 → spans (onto b ps) ≡ n + 2
unfolding onto total
onto_spans b [] n e = absurd (omega arith)
onto_spans b (p ∷ ps) n e = omega arith

spans_split : (mark : ℕ) (s : List ℕ) → spans (split mark s) ≡ length s + 1
unfolding split total
spans_split mark [] = refl
spans_split mark (b ∷ s) = go (eqb b mark) (spans_split mark s)
  where
    go : (t : Bool) → spans (split mark s) ≡ length s + 1 → spans (cond t ([] ∷ split mark s) (onto b (split mark s))) ≡ suc (length s) + 1
    go true e = omega arith
    go false e = omega (arith, onto_spans b (split mark s) (length s) e)

-- a number has a digit, a call has a number, and a name has three letters
number_least : (w : List ℕ) (n : ℕ) → read_number w ≡ Some n → 1 ≤ length w
unfolding read_number
number_least [] n e = let z : ◌≡◌ {A = ℕ} 0 1 = cc in absurd (omega arith)
number_least (b ∷ w) n e = omega arith

numbers_least : (ws : List (List ℕ)) (ns : List ℕ) → numbers ws ≡ Some ns → 2 * length ns ≤ spans ws
unfolding numbers join_number total
numbers_least [] ns e = let q : ns ≡ [] = cc in rw q (omega arith)
numbers_least (w ∷ ws) ns e = go (read_number w) refl (numbers ws) (λ ms. numbers_least ws ms) e
  where
    go : (o : Option ℕ) → read_number w ≡ o → (p : Option (List ℕ)) → ((ms : List ℕ) → p ≡ Some ms → 2 * length ms ≤ spans ws) → join_number o p
        ≡ Some ns
        → 2 * length ns ≤ length w + 1 + spans ws
    go None a p ih f = let z : ◌≡◌ {A = ℕ} 0 1 = cc in absurd (omega arith)
    go (Some n) a None ih f = let z : ◌≡◌ {A = ℕ} 0 1 = cc in absurd (omega arith)
    go (Some n) a (Some ms) ih f =
        let q : n ∷ ms ≡ ns = cc in
        rw (sym q) (omega (arith, number_least w n a, ih ms refl))

taking_some : (k : ℕ) (ns : List ℕ) (c d : Call) → taking k ns d ≡ Some c → length ns ≡ k
unfolding taking
taking_some k ns c d e = go (eqb (length ns) k) refl e
  where
    go : (t : Bool) → eqb (length ns) k ≡ t → cond t (Some d) None ≡ Some c → length ns ≡ k
    go true q f = eqb-true (length ns) k q
    go false q f = let z : ◌≡◌ {A = ℕ} 0 1 = cc in absurd (omega arith)

call_least : (x : Word) (ns : List ℕ) (c : Call) → call_of x ns ≡ Some c → (1 ≤ length ns) × (x ≡ Unknown → ⊥)
unfolding call_of
call_least Open ns c e = let z : ◌≡◌ {A = ℕ} 0 1 = cc in absurd (omega arith)
call_least Alloc ns c e = (
  omega (arith, taking_some 2 ns c (Allocate (get_or ns 0 0) (get_or ns 1 0)) e),
  λ q. let z : ◌≡◌ {A = ℕ} 0 1 =
      cc in omega arith,
)
call_least Array ns c e = (
  omega (arith, taking_some 3 ns c (AllocateArray (get_or ns 0 0) (get_or ns 1 0) (get_or ns 2 0)) e),
  λ q. let z : ◌≡◌ {A = ℕ} 0
      1 = cc in omega arith,
)
call_least Claim ns c e = (
  omega (arith, taking_some 4 ns c (Claims (get_or ns 0 0) (handle_in ns)) e),
  λ q. let z : ◌≡◌ {A = ℕ} 0 1 =
      cc in omega arith,
)
call_least Free ns c e = (
  omega (arith, taking_some 4 ns c (Release (get_or ns 0 0) (handle_in ns)) e),
  λ q. let z : ◌≡◌ {A = ℕ} 0 1 =
      cc in omega arith,
)
call_least All ns c e = (omega (arith, taking_some 1 ns c (FreeAll (get_or ns 0 0)) e), λ q. let z : ◌≡◌ {A = ℕ} 0 1 = cc in omega arith)
call_least Realloc ns c e =
    (omega (arith, taking_some 5 ns c (Reallocate (get_or ns 0 0) (handle_in ns) (get_or ns 4 0)) e), λ q. let z : ◌≡◌ {A = ℕ} 0 1 = cc in omega arith)
call_least Unknown ns c e = let z : ◌≡◌ {A = ℕ} 0 1 = cc in absurd (omega arith)

short_unknown : (w : List ℕ) → length w < 3 → word_of w ≡ Unknown
unfolding word_of
short_unknown w h =
    rw (
      same_lengths w (text "open") (λ e. omega arith),
      same_lengths w (text "alloc") (λ e. omega arith),
      same_lengths w (text "array") (λ e. omega arith),
      same_lengths w (text "claim") (λ e. omega arith),
      same_lengths w (text "free") (λ e. omega arith),
      same_lengths w (text "all") (λ e. omega arith),
      same_lengths w (text "realloc") (λ e. omega arith),
    )

word_least : (w : List ℕ) → (word_of w ≡ Unknown → ⊥) → 3 ≤ length w
word_least w h = go (ltb (length w) 3) refl
  where
    go : (t : Bool) → ltb (length w) 3 ≡ t → 3 ≤ length w
    go true e = absurd (h (short_unknown w (ltb-true (length w) 3 e)))
    go false e = ltb-false (length w) 3 e

phrase_least : (ps : List (List ℕ)) (c : Call) → phrase_call (phrase_of ps) ≡ Some c → 6 ≤ spans ps
unfolding phrase_call phrase_of named total
phrase_least [] c e = let z : ◌≡◌ {A = ℕ} 0 1 = cc in absurd (omega arith)
phrase_least (w ∷ ws) c e = go (numbers ws) (λ ns. numbers_least ws ns) e
  where
    go : (p : Option (List ℕ)) → ((ns : List ℕ) → p ≡ Some ns → 2 * length ns ≤ spans ws) → phrase_call (named (word_of w) p) ≡ Some c
        → 6 ≤ length w + 1 + spans ws
    go None h f = let z : ◌≡◌ {A = ℕ} 0 1 = cc in absurd (omega arith)
    go (Some ns) h f =
        let l = call_least (word_of w) ns c f in
        omega (arith, l.0, word_least w l.1, h ns refl)

-- so a line that asks for a call has six bytes with its line feed
line_least : (l : List ℕ) (c : Call) → line_call l ≡ Some c → 6 ≤ length l + 1
unfolding line_call
line_least l c e = omega (arith, phrase_least (words l) c e, spans_split SPACE l)

-- the run of the lines behind an opening
bad_most : length bad_line ≤ list_most
unfolding bad_line tail_of
bad_most = omega arith

run_most : (ls : List (List ℕ)) (s : List ℕ) (k : Accounts) → Reached s k → length (run_lines ls s k) ≤ 6 * spans ls + list_most
unfolding run_lines on_call total
run_most [] s k r = omega (arith, bad_most)
run_most (l ∷ []) s k r = omega (arith, ending_most l s (reached_length s k r))
run_most (l ∷ (m ∷ ls)) s k r = go (line_call l) refl (λ s' k'. run_most (m ∷ ls) s' k')
  where
    go : (o : Option Call) → line_call l ≡ o → ((s' : List ℕ) (k' : Accounts) → Reached s' k'
        → length (run_lines (m ∷ ls) s' k') ≤ 6 * spans (m ∷ ls) + list_most)
        → length (on_call o (λ c. answer_line c (own_step c s k).values ++ run_lines (m ∷ ls) (own_step c s k).heap (own_step c s k).accounts))
        ≤ 6 * (length l + 1 + spans (m ∷ ls)) + list_most
    go None e ih = omega (arith, bad_most)
    go (Some c) e ih =
        let t = own_step c s k in
        omega (
          arith,
          length-append (answer_line c t.values) (run_lines (m ∷ ls) t.heap t.accounts),
          answer_most c t.values,
          line_least l c e,
          ih t.heap t.accounts (reached_next s k c t.heap t.accounts t.values r refl),
        )

-- the run of an opening, and of all lines
ok_short : length (ok_line []) ≡ 3
unfolding ok_line tail_of
ok_short = refl

opened_most : (s grants : List ℕ) (ls : List (List ℕ)) → Granted grants
    → length (run_opened (open_heap plain s grants) ls) ≤ 6 * spans ls + list_most + 14
unfolding run_opened
opened_most s grants ls g = go (eqb (open_heap plain s grants).values.refusal 0) refl
  where
    o : Outcome
    o = open_heap plain s grants

    go : (t : Bool) → eqb o.values.refusal 0 ≡ t
        → length (cond t (ok_line [] ++ run_lines ls o.heap o.accounts) (no_line o.values.refusal)) ≤ 6 * spans ls + list_most + 14
    go true e =
        omega (
          arith,
          length-append (ok_line []) (run_lines ls o.heap o.accounts),
          ok_short,
          run_most ls o.heap o.accounts
              (opened_by s grants g (eqb-true o.values.refusal 0 e)),
        )
    go false e = omega (arith, no_most o.values.refusal)

input_most : (ls : List (List ℕ)) → length (run_input ls) ≤ 6 * spans ls + list_most + 14
unfolding run_input run_opening total
input_most [] = omega (arith, bad_most)
input_most (l ∷ []) = omega (arith, bad_most)
input_most (l ∷ (m ∷ ls)) = go (line_opening l) (λ o. opening_granted l o)
  where
    go : (p : Option Opening) → ((o : Opening) → p ≡ Some o → Granted o.grants)
        → length (run_opening p (m ∷ ls)) ≤ 6 * (length l + 1 + spans (m ∷ ls)) + list_most + 14
    go None g = omega (arith, bad_most)
    go (Some o) g = omega (arith, opened_most (replicate o.heap 0) o.grants (m ∷ ls) (g o refl))

-- THE BOUND: no input prints more than OUTPUT bytes
pub replay_fits : (s : List ℕ) → length (replay s) ≤ OUTPUT
unfolding replay
replay_fits s = go (ltb LONGEST (length s)) refl
  where
    go : (t : Bool) → ltb LONGEST (length s) ≡ t → length (cond t bad_line (run_input (lines s))) ≤ OUTPUT
    go true e = omega (arith, bad_most)
    go false e = omega (arith, ltb-false LONGEST (length s) e, input_most (lines s), spans_split LINE_FEED s)
