-- The run of a whole input, by where its first line ends and what it asks for; and what is written of it is the replay.
use mathlib.Core.Path.{◌≡◌, ap, sym, ◌∙◌}
use mathlib.Core.List.{List, [], ◌∷◌, ◌++◌}
use mathlib.Core.Bool.{Bool, true, false, cond}
use Prim.Native.Nat.{ℕ, ◌+◌, ◌≤◌, ◌<◌}
use native.Mathlib.Omega.{arith}
use lib.Dec.{ltb}
use borrow.Author.Tests.{lt-ltb, le-ltb}
use lib.ListN.{length, drop, replicate, length-append}
use Rattle.std.specs.Prelude.{Some, None}
use Rattle.layout.specs.Bytes.{overwrite}
use Rattle.layout.proofs.Overwrite.{overwrite_fits}
use Rattle.accounts.specs.Accounts.{plain}
use Rattle.model.specs.Calls.{open_heap}
use Rattle.replay_model.specs.Text.{LINE_FEED}
use Rattle.replay_model.specs.Lines.{split, lines}
use Rattle.replay_model.specs.Commands.{Opening, line_opening}
use Rattle.replay_model.specs.Replay.{LONGEST, OUTPUT, bad_line, run_opened, run_opening, run_input, replay}
use Rattle.replay_text.specs.Answer.{Result, replayed}
use Rattle.replay_text.specs.declared.output.Output.{Output}
use Rattle.replay_text.specs.Clauses.{Cut, Room, Put}
use Rattle.replay_text.proofs.Cuts.{split_some}
use Rattle.replay_model.proofs.Bounds.{replay_fits}

-- no line ends
pub input_unended : (input : List ℕ) → split LINE_FEED input ≡ input ∷ [] → bad_line ≡ run_input (lines input)
unfolding run_input
input_unended input e = sym (rw e)

-- the first line, and what stands behind it
module _ (input line rest : List ℕ) (c : Cut LINE_FEED input line rest) where
  first_line : run_input (lines input) ≡ run_opening (line_opening line) (lines rest)
  unfolding run_input
  first_line =
      let x = split_some LINE_FEED rest in
      ap run_input c.parts ∙ rw x.2

  pub input_bad : line_opening line ≡ None → bad_line ≡ run_input (lines input)
  unfolding run_opening
  input_bad e = sym (first_line ∙ rw e)

  pub input_opens : (o : Opening) → line_opening line ≡ Some o
      → run_opened (open_heap plain (replicate o.heap 0) o.grants) (lines rest) ≡ run_input (lines input)
  unfolding run_opening
  input_opens o e = sym (first_line ∙ rw e)

-- there is room for every replay
module _ (s : List ℕ) (o : Output) (long : OUTPUT ≤ length o.bytes.now) (begun : o.written ≡ 0) where
  pub replay_room : Room (replay s) o
  replay_room = record { fits = omega (arith, replay_fits s) }

  -- what is written is the replay, and the rest of the output stays
  pub replay_written : (o' : Output) → Put (replay s) o o' → record { answer = Some o'.written; output = o'.bytes.now } ≡ replayed s o.bytes.now
  unfolding replayed
  replay_written o' p =
      let out = o.bytes.now in
      let n : o'.written ≡ length (replay s) = omega (arith, p.next) in
      let b : o'.bytes.now ≡ replay s ++ drop (length (replay s)) out =
      p.bytes ∙ ap (λ (at : ℕ). overwrite at (replay s) out) begun
      ∙ overwrite_fits 0 (replay s) out (omega (arith, replay_fits s)) ∙ ap (λ (k : ℕ). replay s ++ drop k out) zero_add in
      (λ i. record { answer = Some (n i); output = b i })
      ∙ sym (ap (λ (t : Bool). cond t (record { answer = None; output = out })
      (record { answer = Some (length (replay s)); output = replay s ++ drop (length (replay s)) out })) (le-ltb (length out) OUTPUT long))
    where
      zero_add : 0 + length (replay s) ≡ length (replay s)
      zero_add = omega arith

pub replay_short : (s out : List ℕ) → length out < OUTPUT → record { answer = None; output = out } ≡ replayed s out
unfolding replayed
replay_short s out h = sym (rw (lt-ltb (length out) OUTPUT h))

-- too long an input, and another
pub replay_too_long : (s : List ℕ) → LONGEST < length s → bad_line ≡ replay s
unfolding replay
replay_too_long s h = sym (rw (lt-ltb LONGEST (length s) h))

pub replay_runs : (s : List ℕ) → length s ≤ LONGEST → run_input (lines s) ≡ replay s
unfolding replay
replay_runs s h = sym (rw (le-ltb LONGEST (length s) h))

-- a replay writes no more bytes than the output has
pub replayed_counts : (s out out' : List ℕ) (n : ℕ) → record { answer = Some n; output = out' } ≡ replayed s out → n ≤ length out'
unfolding replayed
replayed_counts s out out' n e = go (ltb (length out) OUTPUT) e
  where
    go : (t : Bool)
        → ◌≡◌ {A = Result} (record { answer = Some n; output = out' })
        (cond t (record { answer = None; output = out }) (record
        { answer = Some (length (replay s)); output = replay s ++ drop (length (replay s)) out }))
        → n ≤ length out'
    go true f =
        let q : Some n ≡ None = ap (λ (r : Result). r.answer) f in
        let z : ◌≡◌ {A = ℕ} 0 1 = cc in
        absurd (omega arith)
    go false f =
        let a : Some n ≡ Some (length (replay s)) = ap (λ (r : Result). r.answer) f in
        let c : n ≡ length (replay s) = cc in
        let l : length out' ≡ length (replay s) + length (drop (length (replay s)) out) =
        ap (λ (r : Result). length r.output) f ∙ length-append (replay s) (drop (length (replay s)) out) in
        omega arith
