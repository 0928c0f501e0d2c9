-- Stale handles (rules 24.1 to 24.3): once an object has left, no call reaches anything through a handle with its serial.
use Rattle.std.specs.Prelude.{ℕ, ◌≤◌, ◌≡◌, true, false, cond, eqb, drop, Some}
use mathlib.Core.List.{List, [], ◌∷◌, ◌++◌, map, Memᴰ}
use Rattle.accounts.specs.declared.Accounts.{Accounts}
use Rattle.rounding.specs.Rounding.{unit}
use Rattle.lists.specs.Lists.{any}
use Rattle.model.specs.Answers.{refusal_number, refused}
use Rattle.model.specs.Objects.{objects_of}
use Rattle.model.specs.Refusals.{Line, ◌when◌, line_holds, first_refusal, lines_of, line_for}
use Rattle.model.specs.Rows.{row_of, arguments_of}
use Rattle.model.specs.Calls.{unchanged}
use Rattle.model.specs.declared.Handle.{Handle}
use Rattle.model.specs.declared.Call.{Call}
use Rattle.model.specs.declared.Refusal.{Refusal}
use Rattle.model.specs.declared.Refusal.TheVariants.{NoSuchObject}
use Rattle.ledger.specs.Ledger.{Ledger, Event, Restored, unrestored, ledger_of}
use Rattle.ledger.specs.History.{Run, History}
use Rattle.ledger.specs.Demand3.{objects_in}
use Rattle.safety.specs.Arguments.{handle_of}

-- the ledger has an object with this serial
abbrev pub HasSerial : ℕ → Ledger → Type 0
HasSerial n l = (o : Handle) × Memᴰ o (objects_in l) × (o.serial ≡ n)

-- what stands in front of a line
abbrev pub in_front_of : Refusal → List Refusal → List Refusal
in_front_of r [] = []
in_front_of r (x ∷ xs) = cond (eqb (refusal_number r) (refusal_number x)) [] (x ∷ in_front_of r xs)

-- the lines of a call with a handle that stand in front of line 5 and can hold in a history, where 1 and 2 never do; these look
-- at no byte of the heap and at no table
unfoldable pub lines_before_5 : Call → Accounts → List Line
lines_before_5 c k =
    map (λ r. line_for unit r (row_of c) (arguments_of c) [] k) (in_front_of NoSuchObject (drop 2 (lines_of (row_of c))))

-- what a call with a stale handle answers
unfoldable pub stale_refusal : Call → Accounts → ℕ
stale_refusal c k = first_refusal (lines_before_5 c k ++ ((5 when true) ∷ []))

-- the handle names nothing: every call with it is refused and changes nothing, by 5 where none of these lines holds
pub record NamesNothing (run : Run) (s : List ℕ) (k : Accounts) (h : Handle) : Type 0 where
  pub refuses : (c : Call) → handle_of c ≡ Some h → run c s k ≡ unchanged s k (refused (stale_refusal c k))
  pub by_5 : (c : Call) → handle_of c ≡ Some h → any line_holds (lines_before_5 c k) ≡ false → run c s k ≡ unchanged s k (refused 5)

pub record StaleForever (tables : ℕ → ℕ → ℕ) (run : Run) : Type 0 where
  -- an object was there after `front` and had left after `middle`, and no image was read since `front`: whatever comes behind, a handle with its serial,
  -- whole or narrowed, names nothing
  pub always : (begun : Ledger) (front middle back : List Event) (s : List ℕ) (k : Accounts) → History tables run begun (back ++ (middle ++ front)) s k
      → unrestored back ≡ true → unrestored middle ≡ true
      → (h : Handle) → HasSerial h.serial (ledger_of begun front) → (HasSerial h.serial (ledger_of begun (middle ++ front)) → ⊥)
      → NamesNothing run s k h
  -- after an image was read: a serial that had been given when the image was written, and that no object of it has
  pub restored : (begun : Ledger) (front back : List Event) (s₁ : List ℕ) (k₁ : Accounts) (s : List ℕ) (k : Accounts)
      → History tables run begun (back ++ (Restored s₁ k₁ ∷ front)) s k → unrestored back ≡ true
      → (h : Handle) → h.serial ≤ k₁.last_serial → ((o : Handle) → Memᴰ o (objects_of s₁) → o.serial ≡ h.serial → ⊥) → NamesNothing run s k h
