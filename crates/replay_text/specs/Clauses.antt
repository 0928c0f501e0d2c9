-- What the functions of this crate say of parts of an input and of an output.
use Rattle.std.specs.Prelude.{ℕ, ◌+◌, ◌≤◌, ◌≡◌, List, [], ◌∷◌, ◌++◌, cond, eqb, length, replicate, Some, None, Option, Result, Ok, Err}
use Rattle.std.specs.Borrow.{Bor}
use Rattle.layout.specs.Bytes.{overwrite}
use Rattle.model.specs.Answers.{Values, refusal_number}
use Rattle.model.specs.declared.Handle.{Handle}
use Rattle.model.specs.declared.Refusal.{Refusal}
use Rattle.replay_model.specs.Lines.{split}
use Rattle.replay_model.specs.Commands.{Opening}
use Rattle.replay_text.specs.declared.output.Output.{Output}
use Rattle.replay_text.specs.declared.Opening.{Opening as OpenLine}

-- a part of s, and what stands behind the first byte `mark`, which ends it
pub record Cut (mark : ℕ) (s part rest : List ℕ) : Type 0 where
  pub whole : s ≡ part ++ (mark ∷ rest)
  pub parts : split mark s ≡ part ∷ split mark rest

-- the parts of what is left of a text, none behind the last
abbrev pub parts_left : ℕ → Option (Bor (List ℕ)) → List (List ℕ)
parts_left mark None = []
parts_left mark (Some rest) = split mark rest.now

-- an output has room for a text behind what is written
pub record Room (text : List ℕ) (o : Output) : Type 0 where
  pub fits : o.written + length text ≤ length o.bytes.now

-- a text was written behind what was written of an output, and it is the same bytes that are lent
pub record Put (text : List ℕ) (before after : Output) : Type 0 where
  pub bytes : after.bytes.now ≡ overwrite before.written text before.bytes.now
  pub next : after.written ≡ before.written + length text
  pub same_reference : after.bytes.ghost_name ≡ before.bytes.ghost_name

-- the numbers that an answer with these values prints: its handle and its amount, or its refusal
abbrev pub Tells : Values → Result (Handle × ℕ) Refusal → Type 0
Tells v (Ok (h, n)) = (v.refusal ≡ 0) × (v.handle ≡ h) × (v.amount ≡ n)
Tells v (Err r) = v.refusal ≡ refusal_number r

-- so many zeros
pub record Zeros (n : ℕ) (s : List ℕ) : Type 0 where
  pub long : length s ≡ n
  pub zeros : s ≡ replicate n 0

-- these numbers, where there are exactly so many
unfoldable pub exactly : ℕ → Option (List ℕ) → Option (List ℕ)
exactly k None = None
exactly k (Some ns) = cond (eqb (length ns) k) (Some ns) None

-- an opening as it was read, if one is asked for
abbrev pub opening_line : Option Opening → Option OpenLine
opening_line None = None
opening_line (Some o) = Some (record { heap = o.heap; grants = o.grants })
