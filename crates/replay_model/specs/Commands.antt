-- What a line asks for (rules 11.4 and 11.5): an opening, or one of six calls. A name is followed by exactly as many numbers as its call takes.
use Rattle.std.specs.Prelude.{ℕ, ◌+◌, List, [], ◌∷◌, cond, eqb, length, get_or, drop, Option, Some, None}
use Rattle.accounts.specs.Accounts.{QUOTAS}
use Rattle.model.specs.declared.Handle.{Handle}
use Rattle.model.specs.declared.Call.{Call}
use Rattle.model.specs.declared.Call.TheVariants.{Allocate, AllocateArray, Claim, Release, FreeAll, Reallocate}
use Rattle.replay_model.specs.Text.{text, same}
use Rattle.replay_model.specs.Lines.{words, numbers}
use Rattle.replay_model.specs.declared.Word.{Word}
use Rattle.replay_model.specs.declared.Word.TheVariants.{Open, Alloc, Array, Claim as ClaimWord, Free, All, Realloc, Unknown}

-- the names of rule 11.4
unfoldable pub word_of : List ℕ → Word
word_of w =
    cond (same w (text "open")) Open
    (cond (same w (text "alloc")) Alloc
    (cond (same w (text "array")) Array
    (cond (same w (text "claim")) ClaimWord
    (cond (same w (text "free")) Free
    (cond (same w (text "all")) All
    (cond (same w (text "realloc")) Realloc
    Unknown))))))

-- the handle of the three numbers behind the quota
abbrev pub handle_in : List ℕ → Handle
handle_in ns = record { base = get_or ns 1 0; length = get_or ns 2 0; serial = get_or ns 3 0 }

-- this call, where there are exactly so many numbers
unfoldable pub taking : ℕ → List ℕ → Call → Option Call
taking k ns c = cond (eqb (length ns) k) (Some c) None

-- rule 11.4: a name with its numbers as a call; the quota comes first
unfoldable pub call_of : Word → List ℕ → Option Call
call_of Open ns = None
call_of Alloc ns = taking 2 ns (Allocate (get_or ns 0 0) (get_or ns 1 0))
call_of Array ns = taking 3 ns (AllocateArray (get_or ns 0 0) (get_or ns 1 0) (get_or ns 2 0))
call_of ClaimWord ns = taking 4 ns (Claim (get_or ns 0 0) (handle_in ns))
call_of Free ns = taking 4 ns (Release (get_or ns 0 0) (handle_in ns))
call_of All ns = taking 1 ns (FreeAll (get_or ns 0 0))
call_of Realloc ns = taking 5 ns (Reallocate (get_or ns 0 0) (handle_in ns) (get_or ns 4 0))
call_of Unknown ns = None

-- rule 11.4, an opening: the heap's length, and a grant for each quota
pub record Opening : Type 0 where
  pub heap : ℕ
  pub grants : List ℕ

unfoldable pub opening_of : Word → List ℕ → Option Opening
opening_of Open ns = cond (eqb (length ns) (QUOTAS + 1)) (Some (record { heap = get_or ns 0 0; grants = drop 1 ns })) None
opening_of Alloc ns = None
opening_of Array ns = None
opening_of ClaimWord ns = None
opening_of Free ns = None
opening_of All ns = None
opening_of Realloc ns = None
opening_of Unknown ns = None

-- a line's name and numbers; none where what stands behind the name is not all numbers
pub record Phrase : Type 0 where
  pub name : Word
  pub values : List ℕ

unfoldable pub named : Word → Option (List ℕ) → Option Phrase
named x None = None
named x (Some ns) = Some (record { name = x; values = ns })

unfoldable pub phrase_of : List (List ℕ) → Option Phrase
phrase_of [] = None
phrase_of (w ∷ ws) = named (word_of w) (numbers ws)

unfoldable pub phrase_call : Option Phrase → Option Call
phrase_call None = None
phrase_call (Some p) = call_of p.name p.values

unfoldable pub phrase_opening : Option Phrase → Option Opening
phrase_opening None = None
phrase_opening (Some p) = opening_of p.name p.values

-- what a line asks for; none for a line of a wrong form
unfoldable pub line_call : List ℕ → Option Call
line_call l = phrase_call (phrase_of (words l))

unfoldable pub line_opening : List ℕ → Option Opening
line_opening l = phrase_opening (phrase_of (words l))
