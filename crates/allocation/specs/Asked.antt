-- What a call has asked its survey for, and what it has learnt by it before it changes anything.
use Rattle.std.specs.Prelude.{ℕ, ◌≤◌, ◌<◌, ◌≡◌, List, ◌∷◌, Bool, true, Option, Result, Ok, Err}
use Rattle.rounding.specs.Rounding.{table, object_length, alignment}
use Rattle.accounts.specs.declared.Accounts.{Accounts}
use Rattle.accounts.specs.Accounts.{QUOTAS, ALLOCATE, permits, lowest_unused}
use Rattle.lookup.specs.declared.Met.{Met}
use Rattle.lookup.specs.Walk.{find_fit}
use Rattle.lists.specs.Lists.{any}
use Rattle.model.specs.Answers.{refusal_number, verdict_values}
use Rattle.model.specs.Calls.{check}
use Rattle.model.specs.Refusals.{Line, first_refusal, line_1, line_2, line_3, line_4, line_12, greatest_length}
use Rattle.model.specs.declared.Handle.{Handle}
use Rattle.model.specs.declared.Refusal.{Refusal}
use Rattle.survey.specs.declared.Wanted.{Wanted}
use Rattle.survey.specs.declared.Known.{Known}
use Rattle.survey.specs.Survey.{shares, handle_of, verdict_in, known_of}
use Rattle.allocation.specs.Ready.{Checked, Holding}

-- a request of n bytes, which is a length, is for an object of z bytes at a multiple of u
pub record Rounded (edition n z u : ℕ) : Type 0 where
  pub some : 0 < n
  pub short : n ≤ greatest_length
  pub size : z ≡ object_length (table edition) n
  pub unit : u ≡ alignment (table edition) n

-- the survey is asked for a handle and a quota, and for room for an object where n is a length
pub record Asks (edition q : ℕ) (h : Handle) (n : ℕ) (w : Wanted) : Type 0 where
  pub handle : handle_of w ≡ h
  pub quota : w.quota ≡ q
  pub rounded : 0 < n → n ≤ greatest_length → Rounded edition n w.need w.unit

-- the first lines of a request for n bytes, where the survey gives v: one of them refuses it, or none holds
pub record Admitted (k : Accounts) (v : Result Known Refusal) (q n : ℕ) (a : Result Known Refusal) : Type 0 where
  pub refuses : (x : Refusal) → a ≡ Err x → (unit : ℕ → ℕ) (s : List ℕ) → verdict_values (verdict_in v) ≡ (check unit s k).values → (rest : List Line)
      → first_refusal (line_1 s ∷ line_2 unit s k ∷ line_3 q ∷ line_12 ALLOCATE k q ∷ line_4 n ∷ rest) ≡ refusal_number x
  pub accepts : (x : Known) → a ≡ Ok x → (v ≡ Ok x) × (q < QUOTAS) × (permits ALLOCATE q k ≡ true) × (0 < n) × (n ≤ greatest_length)

-- lines 1 to 3, 12 and 4 do not hold of a request for an object of z bytes at a multiple of u
pub record Requested (s : List ℕ) (k : Accounts) (q z u : ℕ) : Type 0 where
  pub checked : Checked (table k.edition) s k q
  pub permitted : permits ALLOCATE q k ≡ true
  pub asked : ℕ
  pub rounded : Rounded k.edition asked z u

-- and the lowest unused record and the first block with room are known
pub record Grantable (s : List ℕ) (k : Accounts) (q z u : ℕ) (low : Option ℕ) (fit : Option (Met × ℕ)) : Type 0 where
  pub requested : Requested s k q z u
  pub lowest : low ≡ lowest_unused k
  pub room : fit ≡ find_fit u z s

-- the quota's record for the object of a block stands at a place, and it is known whether another quota has one
pub record Droppable (s : List ℕ) (k : Accounts) (q : ℕ) (m : Met) (i : ℕ) (shared : Bool) : Type 0 where
  pub holding : Holding (table k.edition) s k q m i
  pub others : shared ≡ any (shares m.serial q) k.holds

-- lines 1 to 3, 12 and 4 do not hold of what the survey was asked for, and this is what it knows
pub record Exchangeable (s : List ℕ) (k : Accounts) (w : Wanted) (x : Known) : Type 0 where
  pub requested : Requested s k w.quota w.need w.unit
  pub known : x ≡ known_of s k w
