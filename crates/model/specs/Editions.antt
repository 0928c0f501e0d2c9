-- What heaps of either edition answer, and which of them are consistent (rules, section 23): both sides of each row of edition 2's table, through calls, and
-- objects that fit their unit by one edition and not by the other.
use Rattle.std.specs.Prelude.{ℕ, ◌-◌, List, [], ◌∷◌, replicate, take}
use Rattle.accounts.specs.declared.settings.Kind.TheVariants.{Plain, Quarantine}
use Rattle.accounts.specs.declared.settings.Edition.TheVariants.{Second}
use Rattle.accounts.specs.declared.settings.Settings.{Settings}
use Rattle.accounts.specs.Accounts.{QUOTAS, plain, with_holds, with_edition}
use Rattle.rounding.specs.Rounding.{table}
use Rattle.model.specs.Answers.{Values, refused, given, amount_of}
use Rattle.model.specs.Calls.{Outcome, open_heap, check}
use Rattle.model.specs.Step.{own_step}
use Rattle.model.specs.Marked.{handle}
use Rattle.model.specs.Tables.{places, state}
use Rattle.model.specs.Units.{Placed, placed, heap_with, accounts_with}
use Rattle.model.specs.declared.Call.{Call}
use Rattle.model.specs.declared.Call.TheVariants.{Allocate, AllocateArray, Release, Sweep, Reallocate}

-- the settings and the length of a fresh heap, calls, and their answers
pub data Asked : Type 0 where
  asked : Settings → ℕ → List Call → List Values → Asked

-- the answers of calls, one after the other, each by the heap's own edition
unfoldable pub own_values : Outcome → List Call → List Values
own_values t [] = []
own_values t (c ∷ cs) =
    let u = own_step c t.heap t.accounts in
    u.values ∷ own_values u cs

unfoldable pub got_values : Asked → List Values
got_values (asked g H cs vs) =
    let t = open_heap g (replicate H 255) (100000 ∷ replicate (QUOTAS - 1) 0) in
    own_values (state t.heap (with_holds (take places t.accounts.holds) t.accounts)) cs

unfoldable pub wanted_values : Asked → List Values
wanted_values (asked g H cs vs) = vs

abbrev pub second : Settings
second = record { kind = Plain; edition = Second }

-- the last request of a row, which gets a base of its unit and the whole of it, and the first of the next
unfoldable pub short_requests : List Asked
short_requests =
    asked second 4112 (Allocate 0 4088 ∷ []) (given (handle 8 4088 1) ∷ [])
    ∷ asked second 4112 (Allocate 0 4089 ∷ []) (given (handle 16 4096 1) ∷ [])
    ∷ asked second 4104 (Allocate 0 4089 ∷ []) (refused 11 ∷ [])
    ∷ asked plain 4104 (Allocate 0 4089 ∷ []) (given (handle 8 4096 1) ∷ [])
    ∷ asked second 8224 (Allocate 0 8176 ∷ []) (given (handle 16 8176 1) ∷ [])
    ∷ asked second 8224 (Allocate 0 8177 ∷ []) (given (handle 32 8192 1) ∷ [])
    ∷ asked plain 8224 (Allocate 0 8177 ∷ []) (given (handle 8 8184 1) ∷ []) ∷ []

unfoldable pub long_requests : List Asked
long_requests =
    asked second 16448 (Allocate 0 16352 ∷ []) (given (handle 32 16352 1) ∷ [])
    ∷ asked second 16448 (Allocate 0 16353 ∷ []) (given (handle 64 16384 1) ∷ [])
    ∷ asked plain 16448 (Allocate 0 16353 ∷ []) (given (handle 16 16368 1) ∷ []) ∷ []

-- no heap has a place for 32,768 bytes in either edition
unfoldable pub longest_requests : List Asked
longest_requests =
    asked second 32768 (Allocate 0 32705 ∷ Allocate 0 32704 ∷ []) (refused 11 ∷ given (handle 64 32704 1) ∷ [])
    ∷ asked plain 32768 (Allocate 0 32705 ∷ []) (given (handle 32 32736 1) ∷ []) ∷ []

-- the other requests, and a heap with quarantine
unfoldable pub other_requests : List Asked
other_requests =
    asked second 4128 (AllocateArray 0 3 1363 ∷ Release 0 (handle 16 4096 1) ∷ Allocate 0 8 ∷ Reallocate 0 (handle 8 8 2) 4089 ∷ [])
    (given (handle 16 4096 1) ∷ amount_of 4104 ∷ given (handle 8 8 2) ∷ given (handle 32 4096 3) ∷ [])
    ∷ asked (record { kind = Quarantine; edition = Second }) 4112 (Allocate 0 4089 ∷ Release 0 (handle 16 4096 1) ∷ Sweep ∷ Allocate 0 4089 ∷ [])
    (given (handle 16 4096 1) ∷ amount_of 4104 ∷ amount_of 4104 ∷ given (handle 16 4096 2) ∷ []) ∷ []

-- the refusal that the check gives for a state with one object and this number as its edition, by its own table
unfoldable pub refusal_in : ℕ → Placed → ℕ
refusal_in e p =
    let k = with_edition e (accounts_with p) in
    (check (table k.edition) (heap_with p) k).values.refusal

-- consistent by both
unfoldable pub fitting_both : List Placed
fitting_both =
    placed 8 4088 0 ∷ placed 16 4096 0 ∷ placed 16 8176 0 ∷ placed 32 8192 0 ∷ placed 32 16352 0 ∷ placed 64 16384 0 ∷ placed 64 32704 0 ∷ []

-- by edition 1 alone: the base, then the length
unfoldable pub fitting_first : List Placed
fitting_first =
    placed 8 4096 0 ∷ placed 8 8176 0 ∷ placed 16 8192 0 ∷ placed 16 16352 0 ∷ placed 32 16384 0 ∷ placed 32 32704 32
    ∷ placed 16 4104 0 ∷ placed 8 8184 0 ∷ placed 32 8208 0 ∷ placed 32 16368 0 ∷ placed 32 32736 0 ∷ []
