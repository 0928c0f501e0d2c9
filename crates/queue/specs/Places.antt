-- A queue as words: its sender, its receiver, its count, then base, length and serial of each place. The words hold nothing else.
use Rattle.std.specs.Prelude.{ℕ, ◌+◌, ◌*◌, ◌≤◌, ◌<◌, ◌≡◌, List, length, get_or}
use Rattle.words.specs.Words.{tabulate}
use Rattle.model.specs.Answers.{zero_handle}
use Rattle.model.specs.declared.Handle.{Handle}
use Rattle.queue.specs.declared.Queue.{Queue}
use Rattle.queue.specs.Queue.{PLACES}

-- where sender, receiver and count stand, where the first and the last place begin, and the number of words
abbrev pub SENDER : ℕ
SENDER = 0

abbrev pub RECEIVER : ℕ
RECEIVER = 1

abbrev pub COUNT : ℕ
COUNT = 2

abbrev pub FIRST : ℕ
FIRST = 3

abbrev pub LAST : ℕ
LAST = 3 * PLACES

abbrev pub QUEUE_WORD_COUNT : ℕ
QUEUE_WORD_COUNT = FIRST + 3 * PLACES

-- the handle in a place
abbrev pub handle_in : List ℕ → ℕ → Handle
handle_in words p = record { base = get_or words (FIRST + 3 * p) 0; length = get_or words (FIRST + 3 * p + 1) 0; serial = get_or words (FIRST + 3 * p + 2) 0 }

unfoldable pub handles_of : List ℕ → List Handle
handles_of words = tabulate PLACES (handle_in words) 0

-- the queue
abbrev pub queue_of : List ℕ → Queue
queue_of words = record { sender = get_or words SENDER 0; receiver = get_or words RECEIVER 0; count = get_or words COUNT 0; handles = handles_of words }

-- the words of one place, and of all; the words before the first place are as they were
abbrev pub HasHandle : List ℕ → ℕ → Handle → Type 0
HasHandle words p h =
    (get_or words (FIRST + 3 * p) 0 ≡ h.base) × (get_or words (FIRST + 3 * p + 1) 0 ≡ h.length) × (get_or words (FIRST + 3 * p + 2) 0 ≡ h.serial)

abbrev pub HasHandles : List Handle → List ℕ → List ℕ → Type 0
HasHandles hs words words' =
    (length words' ≡ QUEUE_WORD_COUNT) × ((p : ℕ) → p < PLACES → HasHandle words' p (get_or hs p zero_handle))
    × ((j : ℕ) → j < FIRST → get_or words' j 0 ≡ get_or words j 0)

-- every place has moved up by one, and the words before the first place are as they were; behind the last place there are zeros
abbrev pub MovedUp : List ℕ → List ℕ → Type 0
MovedUp words words' =
    (length words' ≡ QUEUE_WORD_COUNT) × ((j : ℕ) → j < FIRST → get_or words' j 0 ≡ get_or words j 0)
    × ((j : ℕ) → FIRST ≤ j → j < QUEUE_WORD_COUNT → get_or words' j 0 ≡ get_or words (j + 3) 0)
