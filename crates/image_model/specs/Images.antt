-- Writing, reading and restoring images (rules 13.5 to 13.9, 13.19): the lines of each, and what each leaves and
-- answers.
use Rattle.std.specs.Prelude.{ℕ, zero, suc, ◌/◌, ◌%◌, ◌≡◌, List, [], ◌∷◌, ◌++◌, Bool, true, not, ◌||◌, length, ltb, eqb, Some}
use Rattle.rounding.specs.Rounding.{table}
use Rattle.accounts.specs.declared.Accounts.{Accounts}
use Rattle.accounts.specs.Accounts.{zero_accounts}
use Rattle.layout.specs.Bytes.{Octets, overwrite}
use Rattle.lists.specs.Lists.{is_none}
use Rattle.model.specs.Consistent.{allowed, consistent as is_consistent}
use Rattle.model.specs.Refusals.{Line, ◌when◌, first_refusal, line_1, line_2}
use Rattle.framing.specs.Frames.{frames_right, stream_of}
use Rattle.image_model.specs.Stream.{form_numbered, marks_right, carries, image_of, image_length, Typed}
use Rattle.image_model.specs.Reading.{marks_in, form_in, form_of, size_in, accounts_in, heap_in, contents_right}
use Rattle.image_model.specs.Answers.{Imaged, RestoredTo}
use Rattle.image_model.specs.declared.Form.{Form}

-- rule 23.5: a state is consistent by the table of its own edition
abbrev pub own_consistent : List ℕ → Accounts → Bool
own_consistent s k = is_consistent (table k.edition) s k

-- 28: the form has no room for something in the accounts
unfoldable pub line_28 : Form → Accounts → Line
line_28 f k = 28 when not (carries f k)

-- 25 of the writer: the lent image is shorter than the image to write
unfoldable pub put_lines : Form → List ℕ → List ℕ → Accounts → List Line
put_lines f o s k = line_28 f k ∷ (25 when ltb (length o) (image_length f (length s))) ∷ []

unfoldable pub write_lines : Form → List ℕ → List ℕ → Accounts → List Line
write_lines f o s k = line_1 s ∷ line_2 (table k.edition) s k ∷ put_lines f o s k

-- 21: the image has no byte, or not whole frames
unfoldable pub line_21 : List ℕ → Line
line_21 i = 21 when eqb (length i) 0 || not (eqb (length i % 512) 0)

-- 22: a frame's number, count or check is wrong
unfoldable pub line_22 : List ℕ → Line
line_22 i =
    let n = length i / 512 in
    22 when not (frames_right n 0 n i)

-- 23: no such form, or the two bytes behind its number are wrong
unfoldable pub line_23 : List ℕ → Line
line_23 i = 23 when is_none (form_in i) || not (marks_right (form_of i) (marks_in (stream_of i)))

-- 24: the heap's length, the number of frames or a byte that carries nothing is wrong
unfoldable pub line_24 : List ℕ → Line
line_24 i = 24 when not (contents_right i)

-- 25 of the reader: the lent heap has another length
unfoldable pub line_25 : List ℕ → List ℕ → Line
line_25 i h = 25 when not (eqb (length h) (size_in i))

-- 26: heap and accounts are not consistent
unfoldable pub line_26 : List ℕ → Line
line_26 i = 26 when not (own_consistent (heap_in i) (accounts_in i))

unfoldable pub shape_lines : List ℕ → List Line
shape_lines i = line_21 i ∷ line_22 i ∷ line_23 i ∷ line_24 i ∷ []

unfoldable pub read_lines : List ℕ → List ℕ → List Line
read_lines i h = shape_lines i ++ (line_25 i h ∷ line_26 i ∷ [])

-- the reader's lines of an image alone, with no heap lent
unfoldable pub examine_lines : List ℕ → List Line
examine_lines i = shape_lines i ++ (line_26 i ∷ [])

-- what is due where there is no refusal; else the lent image as it was, the number and no byte
unfoldable pub unless_written : ℕ → List ℕ → Imaged → Imaged
unless_written zero o done = done
unless_written (suc n) o done = record { image = o; refusal = suc n; length = 0 }

-- what is due where there is no refusal; else the lent heap as it was, accounts of zeros and the number
unfoldable pub unless_read : ℕ → List ℕ → RestoredTo → RestoredTo
unless_read zero h done = done
unless_read (suc n) h done = record { heap = h; accounts = zero_accounts; refusal = suc n }

-- the image of s and k at the front of the lent image o, whose other bytes stay; the answer is how many bytes were written
unfoldable pub write_image : Form → List ℕ → List ℕ → Accounts → Imaged
write_image f o s k =
    let done : Imaged = record { image = overwrite 0 (image_of f s k) o; refusal = 0; length = image_length f (length s) } in
    unless_written (first_refusal (write_lines f o s k)) o done

-- what the image i says, the heap into the lent heap h
unfoldable pub read_image : List ℕ → List ℕ → RestoredTo
read_image i h =
    let done : RestoredTo = record { heap = heap_in i; accounts = accounts_in i; refusal = 0 } in
    unless_read (first_refusal (read_lines i h)) h done

-- rule 13.19: an image restored where a heap and accounts are in use: what it says, or both as they were where it is
-- refused
unfoldable pub kept_unless : ℕ → Accounts → Accounts → Accounts
kept_unless zero k read = read
kept_unless (suc n) k read = k

unfoldable pub restore_image : List ℕ → List ℕ → Accounts → RestoredTo
restore_image i h k =
    let r = read_image i h in
    record { heap = r.heap; accounts = kept_unless r.refusal k r.accounts; refusal = r.refusal }

-- a heap and accounts whose image in form f can be written and read again
pub record Accepts (f : Form) (s : List ℕ) (k : Accounts) : Type 0 where
  pub known : form_numbered f.number ≡ Some f
  pub extent : allowed (length s) ≡ true
  pub octets : Octets s
  pub consistent : own_consistent s k ≡ true
  pub typed : Typed k
  pub carried : carries f k ≡ true
