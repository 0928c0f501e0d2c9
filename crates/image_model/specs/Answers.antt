-- What the writer and the reader leave and answer, as values: for each answer type, the paper's number and values of each of its cases.
use Rattle.std.specs.Prelude.{ℕ, List, Result, Ok, Err}
use Rattle.accounts.specs.declared.Accounts.{Accounts}
use Rattle.model.specs.Answers.{refusal_number}
use Rattle.image_model.specs.declared.ImageRefusal.{ImageRefusal}
use Rattle.image_model.specs.declared.ImageRefusal.TheVariants.{Call, ImageLength, FrameWrong, FormNumber, Contents, Room, Unsound}
use Rattle.image_model.specs.declared.ImageRefusal.TheVariants.{HeapLengths, NotCarried, FormsDiffer}

-- the numbers of document 02, and those of the calls for what is theirs
abbrev pub image_refusal_number : ImageRefusal → ℕ
image_refusal_number (Call r) = refusal_number r
image_refusal_number ImageLength = 21
image_refusal_number FrameWrong = 22
image_refusal_number FormNumber = 23
image_refusal_number Contents = 24
image_refusal_number Room = 25
image_refusal_number Unsound = 26
image_refusal_number HeapLengths = 27
image_refusal_number NotCarried = 28
image_refusal_number FormsDiffer = 29

-- what the writer leaves in the lent image, its refusal's number, 0 where it is accepted, and the bytes that it wrote
pub record Imaged : Type 0 where
  pub image : List ℕ
  pub refusal : ℕ
  pub length : ℕ

-- what the reader leaves in the lent heap, the accounts that it hands back, and its refusal's number, 0 where it is accepted
pub record RestoredTo : Type 0 where
  pub heap : List ℕ
  pub accounts : Accounts
  pub refusal : ℕ

-- the same of an image and the writer's answer
unfoldable pub imaged : List ℕ → Result ℕ ImageRefusal → Imaged
imaged o (Ok n) = record { image = o; refusal = 0; length = n }
imaged o (Err r) = record { image = o; refusal = image_refusal_number r; length = 0 }

-- and of a heap, accounts and the reader's answer
unfoldable pub restored_to : List ℕ → Accounts → Result Unit ImageRefusal → RestoredTo
restored_to s k (Ok tt) = record { heap = s; accounts = k; refusal = 0 }
restored_to s k (Err r) = record { heap = s; accounts = k; refusal = image_refusal_number r }
