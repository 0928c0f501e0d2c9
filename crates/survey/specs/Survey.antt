-- What the survey gives, by the definitions of `model`, `accounts` and `lookup`.
use Rattle.model.specs.declared.Refusal.{Refusal}
use Rattle.std.specs.Prelude.{◌≡◌, ℕ, Bool, cond, not, ◌&&◌, List, length, ◌==◌, nat_lt, Option, Some, None, Result, Ok, Err}
use Rattle.rounding.specs.Rounding.{table}
use Rattle.accounts.specs.declared.Accounts.{Accounts}
use Rattle.accounts.specs.declared.Hold.{Hold}
use Rattle.accounts.specs.Accounts.{HOLDS, first_from, find_hold, lowest_unused}
use Rattle.layout.specs.Blocks.{header_at}
use Rattle.model.specs.Answers.{verdict_values}
use Rattle.model.specs.Consistent.{is_of}
use Rattle.model.specs.Calls.{check}
use Rattle.model.specs.declared.Handle.{Handle}
use Rattle.lookup.specs.declared.Met.{Met}
use Rattle.lookup.specs.Walk.{headed, find_object, find_fit}
use Rattle.survey.specs.declared.Wanted.{Wanted}
use Rattle.survey.specs.declared.Known.{Known}

-- the handle that was asked for
abbrev pub handle_of : Wanted → Handle
handle_of w = record { base = w.base; length = w.length; serial = w.serial }

-- the place that a number of a record stands for
unfoldable pub place_of : ℕ → Option ℕ
place_of n = cond (nat_lt n HOLDS) (Some n) None

-- the block by the header at a place
unfoldable pub block_at : ℕ → List ℕ → Met
block_at at s = headed at (header_at at s)

-- the block that was found, or none
unfoldable pub block_of : Bool → ℕ → List ℕ → Option Met
block_of found at s = cond found (Some (block_at at s)) None

-- the block that a number stands for, none where it is the heap's length or more
unfoldable pub fit_place : ℕ → List ℕ → Option Met
fit_place fit s = cond (nat_lt fit (length s)) (Some (block_at fit s)) None

-- h is a record of another quota for the object with this serial
unfoldable pub shares : ℕ → ℕ → Hold → Bool
shares serial q h = is_of serial h && not (h.quota == q)

-- what a survey that accepts knows: the lowest unused record, the block whose object the handle names, the quota's
-- record for it and another quota's, and the first free block with room for a new object, with its base
abbrev pub known_of : List ℕ → Accounts → Wanted → Known
known_of s k w =
    record {
      low = lowest_unused k;
      object = find_object (handle_of w) s;
      holder = find_hold w.serial w.quota k;
      other = first_from (shares w.serial w.quota) 0 k.holds;
      fit = find_fit w.unit w.need s;
    }

-- the verdict of a survey
abbrev pub verdict_in : Result Known Refusal → Result (Unit {0}) Refusal
verdict_in (Ok x) = Ok tt
verdict_in (Err r) = Err r

-- the survey: its verdict is that of the check (rule 8.35), and where that accepts, it knows all that was asked for
pub record Survey (s : List ℕ) (k : Accounts) (w : Wanted) (r : Result Known Refusal) : Type 0 where
  pub told : verdict_values (verdict_in r) ≡ (check (table k.edition) s k).values
  pub known : (x : Known) → r ≡ Ok x → x ≡ known_of s k w
