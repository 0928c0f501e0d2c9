-- The row of the table of section 8 that a call has, and what its lines are tested for.
use Rattle.std.specs.Prelude.{ℕ, ◌*◌, List}
use Rattle.accounts.specs.declared.Accounts.{Accounts}
use Rattle.model.specs.Answers.{zero_handle}
use Rattle.model.specs.Refusals.{Line, Arguments, arguments, row_lines}
use Rattle.model.specs.declared.Row.{Row}
use Rattle.model.specs.declared.Row.TheVariants.{Check, Quota, FreeAll as Emptying, Object, Held, Claim as Claiming, Room, Exchange}
use Rattle.model.specs.declared.Call.{Call}
use Rattle.model.specs.declared.Call.TheVariants.{Allocate, AllocateArray, Claim, Release, FreeAll, Sweep}
use Rattle.model.specs.declared.Call.TheVariants.{Reallocate, Lend, Remaining, CanRelease, ListBlock, ClearPermissions}

abbrev pub row_of : Call → Row
row_of (Allocate q n) = Room
row_of (AllocateArray q count size) = Room
row_of (Claim q h) = Claiming
row_of (Release q h) = Held
row_of (FreeAll q) = Emptying
row_of Sweep = Check
row_of (Reallocate q h n) = Exchange
row_of (Lend h) = Object
row_of (Remaining q) = Quota
row_of (CanRelease q h) = Held
row_of (ListBlock at) = Check
row_of (ClearPermissions q n) = Quota

-- rule 8.12: for an array the length is the product
abbrev pub arguments_of : Call → Arguments
arguments_of (Allocate q n) = arguments q zero_handle n
arguments_of (AllocateArray q count size) = arguments q zero_handle (count * size)
arguments_of (Claim q h) = arguments q h 0
arguments_of (Release q h) = arguments q h 0
arguments_of (FreeAll q) = arguments q zero_handle 0
arguments_of Sweep = arguments 0 zero_handle 0
arguments_of (Reallocate q h n) = arguments q h n
arguments_of (Lend h) = arguments 0 h 0
arguments_of (Remaining q) = arguments q zero_handle 0
arguments_of (CanRelease q h) = arguments q h 0
arguments_of (ListBlock at) = arguments 0 zero_handle 0
arguments_of (ClearPermissions q n) = arguments q zero_handle 0

-- the lines of a call
abbrev pub call_lines : (ℕ → ℕ) → Call → List ℕ → Accounts → List Line
call_lines unit c s k = row_lines unit (row_of c) (arguments_of c) s k
