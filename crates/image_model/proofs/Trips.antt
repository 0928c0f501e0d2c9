-- Both round trips, in what the writer and the reader leave and answer: the reader accepts exactly what the writer writes, and gives back what
-- was written; and what it accepted is written again, byte for byte.
use mathlib.Core.Path.{◌≡◌, ap, sym, ◌∙◌}
use mathlib.Core.List.{List, ◌++◌, append-nil}
use mathlib.Core.Bool.{true, false, not}
use mathlib.Core.Logic.{◌↔◌}
use Prim.Native.Nat.{ℕ, ◌≤◌}
use native.Mathlib.Omega.{arith}
use native.Mathlib.Nat.{zero-add}
use lib.ListN.{length, take, drop}
use lib.Seq.{take_at, drop_at, take-length, drop-length}
use lib.Dec.{ltb}
use borrow.Author.Tests.{ltb-false, le-ltb, not-false}
use Rattle.accounts.specs.declared.Accounts.{Accounts}
use Rattle.layout.specs.Bytes.{Octets, overwrite}
use Rattle.layout.proofs.Overwrite.{overwrite_fits}
use Rattle.lists.specs.Lists.{any}
use Rattle.model.specs.Consistent.{allowed}
use Rattle.model.specs.Refusals.{line_holds, line_1, line_2}
use Rattle.lists.proofs.Bools.{or_neither}
use Rattle.image_model.specs.Stream.{carries, image_of, image_length, Typed}
use Rattle.image_model.specs.Reading.{form_of, heap_in, accounts_in}
use Rattle.image_model.specs.Answers.{Imaged, RestoredTo}
use Rattle.image_model.specs.Images.{own_consistent, line_28, put_lines, write_lines, write_image, read_image, Accepts}
use Rattle.image_model.specs.declared.Form.{Form}
use Rattle.image_model.proofs.Places.{Known}
use Rattle.image_model.proofs.Refusals.{write_accepted_exactly, accepted_write}
use Rattle.image_model.proofs.Written.{image_has_length, written_read, image_says}
use Rattle.image_model.proofs.Read.{read_written}

-- the reader accepts exactly the images of what can be written, into a heap of that length
pub accepts_exactly : (i h : List ℕ) → Octets i
    → ((read_image i h).refusal ≡ 0) ↔ ((f : Form) × (s : List ℕ) × (k : Accounts) × Accepts f s k × (i ≡ image_of f s k) × (length h ≡ length s))
accepts_exactly i h o = (
  λ e. let w = read_written i h o e in (form_of i, heap_in i, accounts_in i, w.0, sym w.1, w.2),
  λ x. rw x.4 (ap (λ (r : RestoredTo). r.refusal) (written_read x.0 x.1 x.2 x.3 h x.5)),
)

-- two states have the same image only if they are the same, in the same form
pub image_told_apart : (f g : Form) (s u : List ℕ) (k l : Accounts) → Accepts f s k → Accepts g u l → image_of f s k ≡ image_of g u l
    → (f ≡ g) × (s ≡ u) × (k ≡ l)
image_told_apart f g s u k l a b e =
    let x = image_says f s k a in
    let y = image_says g u l b in
    (sym x.0 ∙ ap form_of e ∙ y.0, sym x.1 ∙ ap heap_in e ∙ y.1, sym x.2 ∙ ap accounts_in e ∙ y.2)

module _ (f : Form) (o s : List ℕ) (k : Accounts) where
  -- no line of the writer holds exactly if the length is allowed, the state is consistent, the form carries the accounts and the lent image has room
  room : any line_holds (write_lines f o s k) ≡ false
      → (allowed (length s) ≡ true) × (own_consistent s k ≡ true) × (carries f k ≡ true) × (image_length f (length s) ≤ length o)
  unfolding any write_lines put_lines line_1 line_2 line_28
  room e =
      let a = or_neither (not (allowed (length s))) _ e in
      let b = or_neither (not (own_consistent s k)) _ a.1 in
      let c = or_neither (not (carries f k)) _ b.1 in
      let d = or_neither (ltb (length o) (image_length f (length s))) false c.1 in (
        not-false (allowed (length s)) a.0,
        not-false (own_consistent s k) b.0,
        not-false (carries f k) c.0,
        ltb-false (length o) (image_length f (length s)) d.0,
      )

  has_room : Accepts f s k → image_length f (length s) ≤ length o → any line_holds (write_lines f o s k) ≡ false
  unfolding any write_lines put_lines line_1 line_2 line_28
  has_room a l = rw (a.extent, a.consistent, a.carried, le-ltb (length o) (image_length f (length s)) l)

  -- what the writer accepts, of bytes and of accounts of their type, can be written
  pub write_accepts : (write_image f o s k).refusal ≡ 0 → Known f → Octets s → Typed k → Accepts f s k × (image_length f (length s) ≤ length o)
  write_accepts e n b y =
      let r = room ((write_accepted_exactly f o s k).0 e) in
      (record { known = n; extent = r.0; octets = b; consistent = r.1; typed = y; carried = r.2 }, r.3)

  -- and what can be written is accepted where there is room for it
  pub accepts_write : Accepts f s k → image_length f (length s) ≤ length o
      → write_image f o s k ≡ record { image = overwrite 0 (image_of f s k) o; refusal = 0; length = image_length f (length s) }
  accepts_write a l = accepted_write f o s k ((write_accepted_exactly f o s k).1 (has_room a l))

  -- the writer answers how many bytes it wrote: these are the image, and every byte behind them is as it was
  pub write_answer : (write_image f o s k).refusal ≡ 0 → Known f → Typed k
      → (length (image_of f s k) ≡ (write_image f o s k).length)
      × (take (write_image f o s k).length (write_image f o s k).image ≡ image_of f s k)
      × (drop (write_image f o s k).length (write_image f o s k).image ≡ drop (write_image f o s k).length o)
  write_answer e n y =
      let l = image_has_length f s k n y in
      let r = (room ((write_accepted_exactly f o s k).0 e)).3 in
      let m = image_length f (length s) in
      let w : overwrite 0 (image_of f s k) o ≡ image_of f s k ++ drop m o =
      overwrite_fits 0 (image_of f s k) o (omega arith) ∙ rw (zero-add (length (image_of f s k)), l) in
      rw (accepted_write f o s k e, w)
      (l, take_at (image_of f s k) (drop m o) m l, drop_at (image_of f s k) (drop m o) m l)

  -- written, then read into any heap of that length: the heap and the accounts that were written
  pub write_then_read : (h : List ℕ) → (write_image f o s k).refusal ≡ 0 → Known f → Octets s → Typed k → length h ≡ length s
      → read_image (take (write_image f o s k).length (write_image f o s k).image) h ≡ record { heap = s; accounts = k; refusal = 0 }
  write_then_read h e n b y l = rw (write_answer e n y).1 (written_read f s k (write_accepts e n b y).0 h l)

-- read, then written in the image's form: the very image, at the front of any lent image with room for it
pub read_then_write : (i h o : List ℕ) → Octets i → (read_image i h).refusal ≡ 0 → length i ≤ length o
    → write_image (form_of i) o (heap_in i) (accounts_in i) ≡ record { image = overwrite 0 i o; refusal = 0; length = length i }
read_then_write i h o b e l =
    let w = read_written i h b e in
    let n = image_has_length (form_of i) (heap_in i) (accounts_in i) w.0.known w.0.typed in
    let m : image_length (form_of i) (length (heap_in i)) ≡ length i = sym n ∙ ap length w.1 in
    accepts_write (form_of i) o (heap_in i) (accounts_in i) w.0 (omega arith) ∙ (λ j. record { image = overwrite 0 (w.1 j) o; refusal = 0; length = m j })

-- i is what the writer leaves of this state, in a buffer of that length
pub record WrittenAs (f : Form) (s : List ℕ) (k : Accounts) (i : List ℕ) : Type 0 where
  pub known : Known f
  pub octets : Octets s
  pub typed : Typed k
  pub writes : write_image f i s k ≡ record { image = i; refusal = 0; length = length i }

written_as_image : (f : Form) (s : List ℕ) (k : Accounts) (i : List ℕ) → WrittenAs f s k i → Accepts f s k × (i ≡ image_of f s k)
written_as_image f s k i w =
    let r = ap (λ (x : Imaged). x.refusal) w.writes in
    let t = (write_answer f i s k r w.known w.typed).1 in
    ((write_accepts f i s k r w.known w.octets w.typed).0, sym (take-length i) ∙ rw w.writes at t)

image_written_as : (i h : List ℕ) → Octets i → (read_image i h).refusal ≡ 0 → WrittenAs (form_of i) (heap_in i) (accounts_in i) i
image_written_as i h b e =
    let w = (read_written i h b e).0 in
    let again : overwrite 0 i i ≡ i = overwrite_fits 0 i i (omega arith) ∙ rw (zero-add (length i), drop-length i) (append-nil i) in
    record {
      known = w.known;
      octets = w.octets;
      typed = w.typed;
      writes = read_then_write i h i b e (omega arith) ∙ (λ j. record { image = again j; refusal = 0; length = length i });
    }

-- the reader accepts exactly what the writer writes, into a heap of the length written
pub reads_what_is_written : (i h : List ℕ) → Octets i
    → ((read_image i h).refusal ≡ 0) ↔ ((f : Form) × (s : List ℕ) × (k : Accounts) × WrittenAs f s k i × (length h ≡ length s))
reads_what_is_written i h o = (
  λ e. (form_of i, heap_in i, accounts_in i, image_written_as i h o e, (read_written i h o e).2),
  λ x. let w = written_as_image x.0 x.1 x.2 i x.3 in (accepts_exactly i h o).1 (x.0, x.1, x.2, w.0, w.1, x.4),
)
