-- A text written piece by piece: the pieces that are written and the rest are the whole text, so that there is room for the next piece.
use mathlib.Core.Path.{◌≡◌, refl, sym, subst, ◌∙◌}
use mathlib.Core.List.{List, [], ◌++◌, append_assoc, append-nil}
use Prim.Native.Nat.{ℕ}
use Rattle.replay_text.specs.declared.output.Output.{Output}
use Rattle.replay_text.specs.Clauses.{Room, Put}
use Rattle.replay_text.proofs.Puts.{put_none, put_two, room_first, room_next}

-- of the text `whole`, which is written to the output o, all but the rest is written
pub record Running (whole : List ℕ) (o o' : Output) (rest : List ℕ) : Type 0 where
  pub done : List ℕ
  pub all : whole ≡ done ++ rest
  pub put : Put done o o'

pub run_start : (whole : List ℕ) (o : Output) → Running whole o o whole
run_start whole o = record { done = []; all = refl; put = put_none o }

-- room for what is left, and so for the next piece of it
pub run_room : (whole : List ℕ) (o o' : Output) (rest : List ℕ) → Room whole o → Running whole o o' rest → Room rest o'
run_room whole o o' rest h r = room_next r.done rest o o' (subst (λ (x : List ℕ). Room x o) r.all h) r.put

-- a piece more
pub run_more : (whole : List ℕ) (o o' o'' : Output) (piece rest : List ℕ) → Room whole o → Running whole o o' (piece ++ rest) → Put piece o' o''
    → Running whole o o'' rest
run_more whole o o' o'' piece rest h r p =
    let e : whole ≡ (r.done ++ piece) ++ rest = r.all ∙ sym (append_assoc r.done piece rest) in
    let g : Room ((r.done ++ piece) ++ rest) o = subst (λ (x : List ℕ). Room x o) e h in
    record { done = r.done ++ piece; all = e; put = put_two r.done piece o o' o'' (room_first (r.done ++ piece) rest o g) r.put p }

-- the last piece
pub run_last : (whole : List ℕ) (o o' o'' : Output) (piece : List ℕ) → Room whole o → Running whole o o' piece → Put piece o' o'' → Put whole o o''
run_last whole o o' o'' piece h r p =
    subst (λ (x : List ℕ). Put x o o'') (sym r.all) (put_two r.done piece o o' o'' (subst (λ (x : List ℕ). Room x o) r.all h) r.put p)

-- nothing is left
pub run_done : (whole : List ℕ) (o o' : Output) → Running whole o o' [] → Put whole o o'
run_done whole o o' r = subst (λ (x : List ℕ). Put x o o') (sym (r.all ∙ append-nil r.done)) r.put
