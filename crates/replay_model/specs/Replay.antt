-- The replay program (rules, section 11), as a function from input bytes to output bytes.
use Rattle.std.specs.Prelude.{ℕ, List, [], ◌∷◌, ◌++◌, Bool, true, false, cond, ltb, eqb, length, replicate, Option, Some, None}
use Rattle.accounts.specs.declared.Accounts.{Accounts}
use Rattle.model.specs.Answers.{Values}
use Rattle.model.specs.Objects.{blocks_of}
use Rattle.accounts.specs.Accounts.{plain}
use Rattle.model.specs.Calls.{Outcome, open_heap, listing_from}
use Rattle.model.specs.Step.{own_step}
use Rattle.model.specs.declared.Handle.{Handle}
use Rattle.model.specs.declared.ListedBlock.{ListedBlock}
use Rattle.model.specs.declared.Call.{Call}
use Rattle.model.specs.declared.Call.TheVariants.{Allocate, AllocateArray, Claim, Release, FreeAll, Reallocate, Lend, Remaining, CanRelease, ListBlock}
use Rattle.model.specs.declared.Call.TheVariants.{ClearPermissions, Sweep}
use Rattle.replay_model.specs.Text.{text, decimal, SPACE, LINE_FEED}
use Rattle.replay_model.specs.Lines.{lines}
use Rattle.replay_model.specs.Commands.{Opening, line_opening, line_call}

-- rule 11.1: the most bytes of an input
abbrev pub LONGEST : ℕ
LONGEST = 65536

-- rule 11.14, the rest of a line: a space in front of each number, and the line feed
unfoldable pub tail_of : List ℕ → List ℕ
tail_of [] = LINE_FEED ∷ []
tail_of (n ∷ ns) = SPACE ∷ (decimal n ++ tail_of ns)

-- rules 11.4, 11.6 and 11.9: the three kinds of answer
unfoldable pub ok_line : List ℕ → List ℕ
ok_line ns = text "ok" ++ tail_of ns

unfoldable pub no_line : ℕ → List ℕ
no_line n = text "no" ++ tail_of (n ∷ [])

unfoldable pub bad_line : List ℕ
bad_line = text "bad" ++ tail_of []

-- whether a call answers a handle; the others that have a name answer an amount
abbrev pub gives_handle : Call → Bool
gives_handle (Allocate q n) = true
gives_handle (AllocateArray q count size) = true
gives_handle (Claim q h) = false
gives_handle (Release q h) = false
gives_handle (FreeAll q) = false
gives_handle Sweep = false
gives_handle (Reallocate q h n) = true
gives_handle (Lend h) = false
gives_handle (Remaining q) = false
gives_handle (CanRelease q h) = false
gives_handle (ListBlock at) = false
gives_handle (ClearPermissions q n) = false

-- rule 11.4, the numbers of an accepted call's answer: base, length and serial, or the amount
unfoldable pub handle_numbers : Handle → List ℕ
handle_numbers h = h.base ∷ (h.length ∷ (h.serial ∷ []))

unfoldable pub answer_numbers : Call → Values → List ℕ
answer_numbers c v = cond (gives_handle c) (handle_numbers v.handle) (v.amount ∷ [])

-- rules 11.4 and 11.6: the line of a call
unfoldable pub answer_line : Call → Values → List ℕ
answer_line c v = cond (eqb v.refusal 0) (ok_line (answer_numbers c v)) (no_line v.refusal)

-- rule 11.8: the line of a block
unfoldable pub block_line : ListedBlock → List ℕ
block_line b = decimal b.offset ++ tail_of (b.size ∷ (b.serial ∷ []))

unfoldable pub block_lines : List ListedBlock → List ℕ
block_lines [] = []
block_lines (b ∷ bs) = block_line b ++ block_lines bs

unfoldable pub heap_lines : List ℕ → List ℕ
heap_lines s = block_lines (listing_from 0 (blocks_of s))

-- rules 11.8 and 11.11, the end of an input: the list, where nothing stands behind the last line feed
unfoldable pub ending : List ℕ → List ℕ → List ℕ
ending [] s = heap_lines s
ending (b ∷ rest) s = bad_line

-- rule 11.9: what a call of a line leads to, `bad` where there is none
unfoldable pub on_call : Option Call → (Call → List ℕ) → List ℕ
on_call None run = bad_line
on_call (Some c) run = run c

-- rule 11.7, the lines behind the opening, on a heap and its accounts: a call is answered, and the next line is run on what the call leaves
unfoldable pub run_lines : List (List ℕ) → List ℕ → Accounts → List ℕ
run_lines [] s k = bad_line
run_lines (l ∷ []) s k = ending l s
run_lines (l ∷ (m ∷ ls)) s k =
    on_call (line_call l) (λ c. answer_line c (own_step c s k).values ++ run_lines (m ∷ ls) (own_step c s k).heap (own_step c s k).accounts)

-- rule 11.12: behind a refused opening nothing is read
unfoldable pub run_opened : Outcome → List (List ℕ) → List ℕ
run_opened o ls =
    let run = ok_line [] ++ run_lines ls o.heap o.accounts in
    cond (eqb o.values.refusal 0) run (no_line o.values.refusal)

-- an opening: of a heap of so many bytes, all zero before it as after it
unfoldable pub run_opening : Option Opening → List (List ℕ) → List ℕ
run_opening None ls = bad_line
run_opening (Some o) ls = run_opened (open_heap plain (replicate o.heap 0) o.grants) ls

-- rules 11.5 and 11.11, the lines of an input: the first opens the heap; where no line ends there is none
unfoldable pub run_input : List (List ℕ) → List ℕ
run_input [] = bad_line
run_input (l ∷ []) = bad_line
run_input (l ∷ (m ∷ ls)) = run_opening (line_opening l) (m ∷ ls)

-- rule 11.1: the length is judged first
unfoldable pub replay : List ℕ → List ℕ
replay s =
    let run = run_input (lines s) in
    cond (ltb LONGEST (length s)) bad_line run

-- the length of an output that is enough for every input
abbrev pub OUTPUT : ℕ
OUTPUT = 589824
