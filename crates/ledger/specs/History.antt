-- Histories (rule 10.1): every list of calls, refused ones included, from an accepted opening of one heap, with writes inside live objects in between.
use Rattle.std.specs.Prelude.{ℕ, ◌<◌, ◌^◌, ◌≡◌, List, [], ◌∷◌, Bool, true, false, length, get_or}
use Rattle.accounts.specs.declared.Accounts.{Accounts}
use Rattle.accounts.specs.declared.settings.Settings.{Settings}
use Rattle.accounts.specs.Accounts.{QUOTAS, HOLDS, zero_quota, zero_hold}
use Rattle.layout.specs.Bytes.{Octets}
use Rattle.lists.specs.Lists.{any}
use Rattle.model.specs.Answers.{accepted}
use Rattle.model.specs.Objects.{objects_of}
use Rattle.model.specs.Consistent.{allowed, consistent as is_consistent}
use Rattle.model.specs.Calls.{Outcome, open_heap}
use Rattle.model.specs.Step.{step}
use Rattle.model.specs.declared.Handle.{Handle}
use Rattle.model.specs.declared.Call.{Call}
use Rattle.ledger.specs.Ledger.{covers, bytes_in, Ledger, Event, Called, Wrote, Saved, Restored, empty, read_ledger}

-- whatever performs a call on a heap and its accounts
abbrev pub Run : Type 0
Run = Call → List ℕ → Accounts → Outcome

-- the calls of the rules, each by the table of the heap's own edition
abbrev pub by_own : (ℕ → ℕ → ℕ) → Run
by_own tables c s k = step (tables k.edition) c s k

-- an accepted opening: any bytes of an allowed length, any 32-bit grants
pub record Opened (settings : Settings) (grants : List ℕ) (s : List ℕ) (k : Accounts) : Type 0 where
  pub before : List ℕ
  pub quotas : length grants ≡ QUOTAS
  pub narrow : (q : ℕ) → get_or grants q 0 < 2 ^ 32
  pub opens : open_heap settings before grants ≡ record { heap = s; accounts = k; values = accepted }

-- a heap and accounts that an image which is accepted may give back, whatever led to them: a consistent state, with all
-- quotas and records (rule 3.2), grants of 32 bits and counts of one byte, as every image has them
pub record Restorable (unit : ℕ → ℕ) (s : List ℕ) (k : Accounts) : Type 0 where
  pub extent : allowed (length s) ≡ true
  pub octets : Octets s
  pub consistent : is_consistent unit s k ≡ true
  pub quotas : length k.quotas ≡ QUOTAS
  pub records : length k.holds ≡ HOLDS
  pub narrow : (q : ℕ) → (get_or k.quotas q zero_quota).grant < 2 ^ 32
  pub counts : (i : ℕ) → (get_or k.holds i zero_hold).count < 2 ^ 8

-- how a history begins, and the ledger at its beginning: with an accepted opening and the empty ledger of its settings and grants, or with a state that was
-- read and the ledger read off it
pub data Begins (tables : ℕ → ℕ → ℕ) (begun : Ledger) (s : List ℕ) (k : Accounts) : Type 0 where
  Opening : (settings : Settings) (grants : List ℕ) → begun ≡ empty settings grants → Opened settings grants s k → Begins tables begun s k
  Restoring : begun ≡ read_ledger s k → Restorable (tables k.edition) s k → Begins tables begun s k

-- a byte lies in one of these objects
unfoldable pub in_object : ℕ → List Handle → Bool
in_object i os = any (λ o. covers (bytes_in o) i) os

-- bytes inside live objects are written in whatever way, and nobody writes any others
pub record Written (s s' : List ℕ) : Type 0 where
  pub same_length : length s' ≡ length s
  pub octets : Octets s'
  pub inside : (i : ℕ) → in_object i (objects_of s) ≡ false → get_or s' i 0 ≡ get_or s i 0

-- the events, the newest first, that lead to a heap and its accounts
abbrev pub History : (ℕ → ℕ → ℕ) → Run → Ledger → List Event → List ℕ → Accounts → Type 0
History tables run begun [] s k = Begins tables begun s k
History tables run begun (Called c v ∷ es) s k =
    (s₀ : List ℕ) × (k₀ : Accounts) × History tables run begun es s₀ k₀ × (run c s₀ k₀ ≡ record { heap = s; accounts = k; values = v })
History tables run begun (Wrote ∷ es) s k = (s₀ : List ℕ) × History tables run begun es s₀ k × Written s₀ s
History tables run begun (Saved s₀ k₀ ∷ es) s k = History tables run begun es s k × (s ≡ s₀) × (k ≡ k₀)
History tables run begun (Restored s₁ k₁ ∷ es) s k =
    (s₀ : List ℕ) × (k₀ : Accounts) × History tables run begun es s₀ k₀ × (length s ≡ length s₀) × Restorable (tables k.edition) s k × (s ≡ s₁) × (k ≡ k₁)

-- the events, the newest first, that lead from one heap and its accounts to another: a history without its beginning
module _ (tables : ℕ → ℕ → ℕ) (run : Run) (s₁ : List ℕ) (k₁ : Accounts) where
  abbrev pub Leads : List Event → List ℕ → Accounts → Type 0
  Leads [] s k = (s ≡ s₁) × (k ≡ k₁)
  Leads (Called c v ∷ es) s k =
      (s₀ : List ℕ) × (k₀ : Accounts) × Leads es s₀ k₀ × (run c s₀ k₀ ≡ record { heap = s; accounts = k; values = v })
  Leads (Wrote ∷ es) s k = (s₀ : List ℕ) × Leads es s₀ k × Written s₀ s
  Leads (Saved s₀ k₀ ∷ es) s k = Leads es s k × (s ≡ s₀) × (k ≡ k₀)
  Leads (Restored s₂ k₂ ∷ es) s k =
      (s₀ : List ℕ) × (k₀ : Accounts) × Leads es s₀ k₀ × (length s ≡ length s₀) × Restorable (tables k.edition) s k
      × (s ≡ s₂) × (k ≡ k₂)
