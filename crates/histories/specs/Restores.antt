-- Restores (rule 13.16): after an image is read, demand 3 speaks of the image's history and of the events since.
-- `Continues` says it of an image that was written in the history that reads it, `ReadAnywhere` of any image and any
-- board.
use Rattle.std.specs.Prelude.{◌≡◌, List, ◌∷◌, ◌++◌, ℕ, length, take, Some}
use Rattle.accounts.specs.declared.Accounts.{Accounts}
use Rattle.ledger.specs.Ledger.{Ledger, Event, Saved, Restored, read_ledger, ledger_of}
use Rattle.ledger.specs.History.{by_own, History, Leads}
use Rattle.ledger.specs.Demand3.{Holds}
use Rattle.ledger.specs.Same.{Same}
use Rattle.image_model.specs.declared.Form.{Form}
use Rattle.image_model.specs.Stream.{form_numbered}
use Rattle.image_model.specs.Answers.{RestoredTo}
use Rattle.image_model.specs.Images.{write_image}

-- the bytes that the writer wrote
abbrev pub written_image : Form → List ℕ → List ℕ → Accounts → List ℕ
written_image f o s k = take (write_image f o s k).length (write_image f o s k).image

-- whatever reads an image into a lent heap
abbrev pub Reader : Type 0
Reader = List ℕ → List ℕ → RestoredTo

module _ (tables : ℕ → ℕ → ℕ) (begun : Ledger) (early : List Event) (s₁ : List ℕ) (k₁ : Accounts) where
  -- what a read of an image leaves that was written in the history: the heap and the accounts written; a history with
  -- the restore in it; the image's own history again; and a ledger that says what it said when the image was written
  pub record Continues (mid : List Event) (r : RestoredTo) : Type 0 where
    pub state : r ≡ record { heap = s₁; accounts = k₁; refusal = 0 }
    pub goes_on : History tables (by_own tables) begun
        (Restored r.heap r.accounts ∷ (mid ++ (Saved s₁ k₁ ∷ early))) r.heap r.accounts
    pub again : History tables (by_own tables) begun early r.heap r.accounts
    pub ledger : Same (ledger_of begun (Restored r.heap r.accounts ∷ (mid ++ (Saved s₁ k₁ ∷ early))))
        (ledger_of begun early)

  -- what it leaves of an image of s₁ and k₁, to which these events led from that beginning, in a lent heap h of any
  -- board
  pub record Elsewhere (h : List ℕ) (r : RestoredTo) : Type 0 where
    -- the heap and the accounts written, and the history that led to them
    pub state : r ≡ record { heap = s₁; accounts = k₁; refusal = 0 }
    pub again : History tables (by_own tables) begun early r.heap r.accounts
    -- the ledger that is read off them says what the image's ledger said
    pub ledger : Same (read_ledger r.heap r.accounts) (ledger_of begun early)
    -- whatever leads on from there, demand 3 speaks of the image's history and of that, at every split
    pub holds : (since : List Event) (s : List ℕ) (k : Accounts)
        → Leads tables (by_own tables) r.heap r.accounts since s k
        → (front back : List Event) → since ++ early ≡ back ++ front
        → Holds (tables k.edition) (by_own tables) begun front back s k
    -- and a board's own history, if it has one, goes on with the restore, which makes it the image's history too
    pub goes_on : (there : Ledger) (es : List Event) (k : Accounts) → History tables (by_own tables) there es h k
        → History tables (by_own tables) there (Restored r.heap r.accounts ∷ es) r.heap r.accounts
    pub taken_over : (there : Ledger) (es since : List Event) (s : List ℕ) (k : Accounts)
        → History tables (by_own tables) there (since ++ (Restored r.heap r.accounts ∷ es)) s k
        → History tables (by_own tables) begun (since ++ early) s k

-- every image of a state of a history, in any form, read into any heap of its length
pub record ReadAnywhere (tables : ℕ → ℕ → ℕ) (read : Reader) : Type 0 where
  pub always : (begun : Ledger) (early : List Event) (s₁ : List ℕ) (k₁ : Accounts)
      → History tables (by_own tables) begun early s₁ k₁
      → (f : Form) (o h : List ℕ) → form_numbered f.number ≡ Some f
      → (write_image f o s₁ k₁).refusal ≡ 0 → length h ≡ length s₁
      → Elsewhere tables begun early s₁ k₁ h (read (written_image f o s₁ k₁) h)
