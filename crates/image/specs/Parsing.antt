-- What the tests of an image alone find, those before the lent heap and its consistency are looked at.
use Rattle.std.specs.Prelude.{ℕ, zero, suc, ◌≤◌, List, [], ◌∷◌, not, cond, length, drop, eqb, Result, Ok, Err, Option, Some, None}
use Rattle.accounts.specs.declared.Accounts.{Accounts}
use Rattle.accounts.specs.Accounts.{QUOTAS, HOLDS, zero_accounts}
use Rattle.layout.specs.Bytes.{overwrite}
use Rattle.model.specs.Consistent.{allowed}
use Rattle.model.specs.Refusals.{◌when◌, first_refusal}
use Rattle.framing.specs.Frames.{padded}
use Rattle.image_model.specs.declared.Form.{Form}
use Rattle.image_model.specs.declared.ImageRefusal.{ImageRefusal}
use Rattle.image_model.specs.Answers.{image_refusal_number, Imaged, RestoredTo}
use Rattle.image_model.specs.Stream.{form_1, head_length, image_of, image_length}
use Rattle.image_model.specs.Reading.{form_of, size_in, accounts_in}
use Rattle.image_model.specs.Images.{own_consistent, shape_lines, examine_lines, put_lines, unless_written, unless_read}
use Rattle.image.specs.declared.Parsed.{Parsed}

-- a form that the library's arrays have room for
pub record FormFits (f : Form) : Type 0 where
  pub quotas : f.quotas ≤ QUOTAS
  pub records : f.records ≤ HOLDS

abbrev pub known_form : Option Form → Option Form
known_form (Some f) = Some f
known_form None = None

-- an image's form, heap length and accounts, or the number of the refusal that its own bytes give
pub record Parts : Type 0 where
  pub refusal : ℕ
  pub form : Form
  pub size : ℕ
  pub accounts : Accounts

-- a refused image has no parts: form 1, no byte and zero accounts stand for them
unfoldable pub shape_parts : Result (Form × ℕ) ImageRefusal → Accounts → Parts
shape_parts (Ok (f, n)) k = record { refusal = 0; form = f; size = n; accounts = k }
shape_parts (Err r) k = record { refusal = image_refusal_number r; form = form_1; size = 0; accounts = k }

abbrev pub parts_of : Parsed → Parts
parts_of p = shape_parts p.shape p.accounts

unfoldable pub unless_parts : ℕ → Parts → Parts
unless_parts zero parts = parts
unless_parts (suc n) parts = record { refusal = suc n; form = form_1; size = 0; accounts = zero_accounts }

unfoldable pub parts_in : List ℕ → Parts
parts_in i = unless_parts (first_refusal (shape_lines i)) (record { refusal = 0; form = form_of i; size = size_in i; accounts = accounts_in i })

-- the same where the state has to be consistent too
unfoldable pub examined_in : List ℕ → Parts
examined_in i = unless_parts (first_refusal (examine_lines i)) (record { refusal = 0; form = form_of i; size = size_in i; accounts = accounts_in i })

-- the length of an image of a heap of so many bytes in a form, 0 where no heap has that length
unfoldable pub length_for : Form → ℕ → ℕ
length_for f n = cond (allowed n) (image_length f n) 0

-- what is left of writing once heap and accounts are known to be consistent
unfoldable pub put_image : Form → List ℕ → List ℕ → Accounts → Imaged
put_image f o s k =
    let done : Imaged = record { image = overwrite 0 (image_of f s k) o; refusal = 0; length = image_length f (length s) } in
    unless_written (first_refusal (put_lines f o s k)) o done

-- what is left of reading once a stream t is known to hold accounts k and a heap of n bytes
unfoldable pub restore : Form → ℕ → List ℕ → List ℕ → Accounts → RestoredTo
restore f n t h k =
    let s = padded n (drop (head_length f) t) in
    let done : RestoredTo = record { heap = s; accounts = k; refusal = 0 } in
    unless_read (first_refusal ((25 when not (eqb (length h) n)) ∷ (26 when not (own_consistent s k)) ∷ [])) h done
