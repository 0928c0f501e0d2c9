-- What the bytes of an image say (rule 13.2, read backwards), on any bytes. A number that is no form's is read as form 1, so that each of these
-- is there for every image; line 23 refuses it.
use Rattle.std.specs.Prelude.{ℕ, ◌+◌, ◌/◌, List, ◌++◌, Bool, ◌&&◌, length, take, drop, get_or, eqb, Option}
use Rattle.accounts.specs.declared.Quota.{Quota}
use Rattle.accounts.specs.declared.Hold.{Hold}
use Rattle.accounts.specs.declared.Accounts.{Accounts}
use Rattle.layout.specs.Bytes.{number}
use Rattle.lists.specs.Lists.{or_else}
use Rattle.model.specs.Consistent.{allowed}
use Rattle.framing.specs.Frames.{padded, frames_for, stream_of}
use Rattle.image_model.specs.Items.{each, every, all_zero}
use Rattle.image_model.specs.Stream.{form_1, form_numbered, tail_of, tail_right, with_marks, blank, entry_width, record_width, entries_at, records_at}
use Rattle.image_model.specs.Stream.{head_length}
use Rattle.image_model.specs.declared.Form.{Form}

-- an entry and a record from their bytes, and whether the bytes that carry nothing are right
unfoldable pub entry_of : Form → List ℕ → Quota
entry_of f s = tail_of f (drop 8 s) (record { grant = number (take 4 s); remainder = number (take 4 (drop 4 s)); permissions = 0 })

unfoldable pub entry_right : Form → List ℕ → Bool
entry_right f s = tail_right f (drop 8 s)

unfoldable pub record_of : List ℕ → Hold
record_of s = record { serial = number (take 4 s); quota = get_or s 4 0; count = get_or s 5 0 }

unfoldable pub record_right : List ℕ → Bool
record_right s = all_zero (drop 6 s)

-- of a stream: the two bytes behind the form's number, and the heap's length
abbrev pub marks_in : List ℕ → List ℕ
marks_in t = take 2 (drop 2 t)

abbrev pub length_in : List ℕ → ℕ
length_in t = number (take 4 (drop 4 t))

module _ (f : Form) (t : List ℕ) where
  -- the accounts and the heap that a stream of form f says
  unfoldable pub accounts_of : Accounts
  accounts_of =
      with_marks f (marks_in t) (record {
        quotas = each (entry_of f) (entry_width f) f.quotas (drop entries_at t) ++ drop f.quotas (blank f).quotas;
        last_serial = number (take 4 (drop 8 t));
        holds = each record_of record_width f.records (drop (records_at f) t) ++ drop f.records (blank f).holds;
        kind = 0;
        edition = 0;
      })

  unfoldable pub heap_of : List ℕ
  heap_of = padded (length_in t) (drop (head_length f) t)

  -- every byte of an entry or a record that carries nothing is right
  unfoldable pub items_right : Bool
  items_right = every (entry_right f) (entry_width f) f.quotas (drop entries_at t) && every record_right record_width f.records (drop (records_at f) t)

-- the form that an image names, none for another number; and the one it is read as
unfoldable pub form_in : List ℕ → Option Form
form_in i = form_numbered (number (take 2 (stream_of i)))

unfoldable pub form_of : List ℕ → Form
form_of i = or_else form_1 (form_in i)

-- what an image says: the heap's length, the accounts, the heap
unfoldable pub size_in : List ℕ → ℕ
size_in i = length_in (stream_of i)

unfoldable pub accounts_in : List ℕ → Accounts
accounts_in i = accounts_of (form_of i) (stream_of i)

unfoldable pub heap_in : List ℕ → List ℕ
heap_in i = heap_of (form_of i) (stream_of i)

-- the heap's length is allowed, the frames are as many as it needs, and every byte that carries nothing is right: behind the heap, in entries
-- and in records (rule 13.7, line 24)
unfoldable pub contents_right : List ℕ → Bool
contents_right i =
    let f = form_of i in
    let t = stream_of i in
    let H = size_in i in
    allowed H
    && (eqb (length i / 512) (frames_for (head_length f + H))
    && (all_zero (drop (head_length f + H) t)
    && items_right f t))
