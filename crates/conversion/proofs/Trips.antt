-- A move keeps the state: read from what was moved it is the state read from the image, in the other form (rule 17.5); and moving back gives the very
-- bytes of the image (rule 17.8). Both follow from the round trips of writing and reading.
use mathlib.Core.Path.{◌≡◌, refl, ap, sym, ◌∙◌}
use mathlib.Core.List.{List, ◌++◌}
use Prim.Native.Nat.{ℕ, ◌≤◌}
use native.Mathlib.Omega.{arith}
use native.Mathlib.Nat.{zero-add}
use lib.ListN.{length, take, drop}
use lib.Seq.{take_at}
use Rattle.accounts.specs.declared.Accounts.{Accounts}
use Rattle.layout.specs.Bytes.{Octets, overwrite}
use Rattle.layout.proofs.Overwrite.{overwrite_fits}
use Rattle.image_model.specs.declared.Form.{Form}
use Rattle.image_model.specs.Stream.{form_1, form_2, carries, image_of, image_length}
use Rattle.image_model.specs.Reading.{form_of, size_in, accounts_in, heap_in}
use Rattle.image_model.specs.Answers.{Imaged, RestoredTo}
use Rattle.image_model.specs.Images.{write_image, read_image, Accepts}
use Rattle.image_model.proofs.Places.{Known, known_1, known_2, same_number}
use Rattle.image_model.proofs.Written.{image_has_length, written_read, image_says}
use Rattle.image_model.proofs.Read.{read_written}
use Rattle.image_model.proofs.Trips.{accepts_write, write_answer}
use Rattle.conversion.specs.Moves.{moved, move_up, move_down}
use Rattle.conversion.proofs.Accepted.{Movable, moves_exactly, moved_writes, heap_length}

-- the bytes that a move answers for
abbrev pub front : Imaged → List ℕ
front r = take r.length r.image

module _ (from to : Form) (known : Known from) (other : Known to) (i o : List ℕ) (octets : Octets i) (done : (moved from to i o).refusal ≡ 0) where
  m : Movable from to i o
  m = (moves_exactly from to i o).0 done

  s : List ℕ
  s = heap_in i

  k : Accounts
  k = accounts_in i

  -- the state read can be written in both forms, and in the one that it was moved from it is the image
  accepts : Accepts (form_of i) s k
  unfolding s k
  accepts = (read_written i (heap_in i) octets m.reads).0

  is_from : form_of i ≡ from
  is_from = same_number (form_of i) from accepts.known known m.form

  accepts_from : Accepts from s k
  accepts_from =
      let a = accepts in
      let c = ap (λ (f : Form). carries f k) (sym is_from) ∙ a.carried in
      record { known = known; extent = a.extent; octets = a.octets; consistent = a.consistent; typed = a.typed; carried = c }

  image_is : image_of from s k ≡ i
  unfolding s k
  image_is = rw (← is_from) (read_written i (heap_in i) octets m.reads).1

  accepts_to : Accepts to s k
  unfolding k
  accepts_to =
      let a = accepts in
      record { known = other; extent = a.extent; octets = a.octets; consistent = a.consistent; typed = a.typed; carried = m.carried }

  writes : moved from to i o ≡ write_image to o s k
  unfolding s k
  writes = moved_writes from to i o (heap_in i) m.reads m.form

  -- what was moved is the other form's image of that state
  is_image : front (moved from to i o) ≡ image_of to s k
  is_image =
      let w = writes in
      let e : (write_image to o s k).refusal ≡ 0 = sym (ap (λ (x : Imaged). x.refusal) w) ∙ done in
      ap front w ∙ (write_answer to o s k e other accepts.typed).1

  reads_back : (h : List ℕ) → length h ≡ length s → read_image (front (moved from to i o)) h ≡ record { heap = s; accounts = k; refusal = 0 }
  reads_back h l = ap (λ (j : List ℕ). read_image j h) is_image ∙ written_read to s k accepts_to h l

  -- so read from either it is the same, into any heap of that length
  pub move_exactly : (form_of (front (moved from to i o)) ≡ to)
      × ((h : List ℕ) → length h ≡ size_in i → read_image (front (moved from to i o)) h ≡ read_image i h)
  unfolding s
  move_exactly = (
    ap form_of is_image ∙ (image_says to s k accepts_to).0,
    λ h l. reads_back h (l ∙ sym (heap_length i))
        ∙ sym (rw image_is at (written_read from s k accepts_from h (l ∙ sym (heap_length i)))),
  )

  -- and moved back it is the image, byte for byte
  pub back : (o' : List ℕ) → length i ≤ length o'
      → moved to from (front (moved from to i o)) o' ≡ record { image = overwrite 0 i o'; refusal = 0; length = length i }
  back o' l =
      let n : image_length from (length s) ≡ length i = sym (image_has_length from s k known accepts.typed) ∙ ap length image_is in
      let w = image_says to s k accepts_to in
      let r = ap (λ (x : RestoredTo). x.refusal) (written_read to s k accepts_to s refl) in
      let g = moved_writes to from (image_of to s k) o' s r (ap (λ (x : Form). x.number) w.0) in
      ap (λ (j : List ℕ). moved to from j o') is_image
      ∙ g
      ∙ (λ j. write_image from o' (w.1 j) (w.2 j))
      ∙ accepts_write from o' s k accepts_from (omega arith)
      ∙ (λ j. record { image = overwrite 0 (image_is j) o'; refusal = 0; length = n j })

  pub back_again : (o' : List ℕ) → length i ≤ length o'
      → ((moved to from (front (moved from to i o)) o').refusal ≡ 0) × (front (moved to from (front (moved from to i o)) o') ≡ i)
  back_again o' l =
      let w : overwrite 0 i o' ≡ i ++ drop (length i) o' = overwrite_fits 0 i o' (omega arith) ∙ rw (zero-add (length i)) in
      rw (back o' l) (refl, ap (take (length i)) w ∙ take_at i (drop (length i) o') (length i) refl)

module _ (i o o' : List ℕ) (octets : Octets i) (room : length i ≤ length o') where
  -- up and then down, down and then up: the same bytes
  pub up_down : (move_up i o).refusal ≡ 0 → ((move_down (front (move_up i o)) o').refusal ≡ 0) × (front (move_down (front (move_up i o)) o') ≡ i)
  up_down e = back_again form_1 form_2 known_1 known_2 i o octets e o' room

  pub down_up : (move_down i o).refusal ≡ 0 → ((move_up (front (move_down i o)) o').refusal ≡ 0) × (front (move_up (front (move_down i o)) o') ≡ i)
  down_up e = back_again form_2 form_1 known_2 known_1 i o octets e o' room
