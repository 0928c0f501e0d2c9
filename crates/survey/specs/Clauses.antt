-- What the crate's own functions ask and promise.
use Rattle.std.specs.Prelude.{◌≡◌, ℕ, ◌+◌, ◌%◌, ◌<◌, ◌≤◌, Bool, true, false, ◌&&◌, ◌⊎◌, List, length, drop}
use Rattle.std.specs.Prelude.{slice_index, slice_set, Option, Some, None, Err}
use Rattle.rounding.specs.Rounding.{table}
use Rattle.accounts.specs.declared.Hold.{Hold}
use Rattle.accounts.specs.Accounts.{QUOTAS, HOLDS, lowest_unused}
use Rattle.layout.specs.Blocks.{Block, cut}
use Rattle.framing.specs.Frames.{padded, stream_of}
use Rattle.lists.specs.Lists.{all}
use Rattle.model.specs.Answers.{verdict_values}
use Rattle.model.specs.Calls.{check}
use Rattle.model.specs.Consistent.{allowed, in_range, is_of}
use Rattle.model.specs.declared.Refusal.TheVariants.{Inconsistent}
use Rattle.audit.specs.Keys.{well_formed, keys_of}
use Rattle.audit.specs.Audit.{behind, visit, audit_parsed}
use Rattle.audit.specs.Clauses.{Settled, Owing}
use Rattle.audit.specs.Fitting.{fits_block, fitting}
use Rattle.words.specs.Words.{serial_in, rest_in, last_of, kind_of, edition_of, quotas_of, holds_of, accounts_of}
use Rattle.survey.specs.Index.{SLOTS, LINKS, FORKED, fork, plain, Leads, Ascends, keys_left, waiting, Linked, Built}
use Rattle.survey.specs.Survey.{place_of}
use Rattle.survey.specs.declared.numbers.Numbers.{Numbers}
use Rattle.survey.specs.declared.settling.Unsettled.{Unsettled}
use Rattle.survey.specs.declared.walking.Walked.{Walked}

-- the records from a place on are all zero
abbrev pub Blank : List ℕ → ℕ → Type 0
Blank words from = (p : ℕ) → from ≤ p → p < HOLDS → (serial_in words p ≡ 0) × (rest_in words p ≡ 0)

-- some records from a place on are
abbrev pub Zeros : List ℕ → ℕ → ℕ → Type 0
Zeros words from count = (p : ℕ) → from ≤ p → p < from + count → (serial_in words p ≡ 0) × (rest_in words p ≡ 0)

-- `hang` puts a record into the one empty link at the end of its path
pub record Hung (bits root i : ℕ) (links links' : List ℕ) : Type 0 where
  pub place : ℕ
  pub way : ℕ
  pub inside : place < i
  pub empty : HOLDS ≤ slice_index links (place + fork way)
  pub put : links' ≡ slice_set links (place + fork way) i
  pub leads : Leads links' bits root i

-- a used record has a serial, and its quota passes a test
unfoldable pub sought : (ℕ → Bool) → ℕ → Hold → Bool
sought test serial h = is_of serial h && test h.quota

-- a test is what a closure answers of each quota that a record can have
abbrev pub Tests : (ℕ → Bool → Type 0) → (ℕ → Bool) → Type 0
Tests post test = (q : ℕ) → q < 256 → (r : Bool) → post q r → r ≡ test q

-- `enter_all` enters every used record, counts them, and finds the lowest unused one
pub record Index (words heads links : List ℕ) (low used : ℕ) : Type 0 where
  pub well : all well_formed (holds_of words) ≡ true
  pub built : Built words HOLDS heads links
  pub counted : used ≡ waiting HOLDS (keys_of (holds_of words))
  pub lowest : place_of low ≡ lowest_unused (accounts_of words)

-- the arrays as the walk wants them
pub record Ready (words heads links owed : List ℕ) (left : ℕ) : Type 0 where
  pub well : all well_formed (holds_of words) ≡ true
  pub heads_long : length heads ≡ SLOTS
  pub links_long : length links ≡ LINKS
  pub owed_long : length owed ≡ QUOTAS
  pub up : Ascends (plain links)
  pub linked : Linked words heads links
  pub heads_inside : (x : ℕ) → x < SLOTS → slice_index heads x < FORKED + HOLDS
  pub waits : left ≡ waiting HOLDS (keys_left words heads links)

-- `settle`: the open records of a serial are closed, and the quota of each pays, once; or there is none, or a quota
-- cannot pay
abbrev pub Done : ℕ → ℕ → List ℕ → List ℕ → List ℕ → List ℕ → Bool → List ℕ → List ℕ → List ℕ → ℕ → Type 0
Done serial charge words heads links owed r heads' links' owed' left' =
    Settled serial charge (keys_left words heads links) owed r (keys_left words heads' links') owed' × (r ≡ true → Ready words heads' links' owed' left')

-- `visit` takes a block of 8 bytes or more that is as it must be and fits, and leaves what the definition leaves, and
-- the arrays ready for the next block; or says that the block is shorter, not as it must be, or does not fit
abbrev pub Visited : (ℕ → ℕ) → ℕ → ℕ → ℕ → ℕ → ℕ → ℕ → List ℕ → List ℕ → List ℕ → List ℕ → Bool → List ℕ → List ℕ → List ℕ → ℕ → Type 0
Visited unit kind last serial size end before words heads links owed true heads' links' owed' left' =
    (8 ≤ size)
    × Ready words heads' links' owed' left'
    × (visit last serial size (behind before (keys_left words heads links) owed) ≡ Some (behind serial (keys_left words heads' links') owed'))
    × (fits_block unit kind serial size end ≡ true)
Visited unit kind last serial size end before words heads links owed false heads' links' owed' left' =
    8 ≤ size → (visit last serial size (behind before (keys_left words heads links) owed) ≡ None) ⊎ (fits_block unit kind serial size end ≡ false)

-- the blocks from a place on, behind a block with a serial: whether the audit passes them, with these keys and debts,
-- and their objects fit
unfoldable pub judged : (ℕ → ℕ) → ℕ → ℕ → ℕ → Option (List Block) → ℕ → List ℕ → List ℕ → Bool
judged unit kind last at blocks before keys owed = audit_parsed last blocks (Some (behind before keys owed)) && fitting unit kind at blocks

-- `walk` from a place on asks for arrays that are ready
pub record Stage (s words heads links owed : List ℕ) (left at : ℕ) : Type 0 where
  pub inside : at ≤ length s
  pub even : at % 8 ≡ 0
  pub ready : Ready words heads links owed left

-- and comes to a place from which on as much is judged
abbrev pub WalkedTo : (ℕ → ℕ) → ℕ → ℕ → ℕ → List ℕ → List ℕ → Bool → ℕ → ℕ → ℕ → List ℕ → List ℕ → List ℕ → ℕ → Type 0
WalkedTo unit kind last edge s words whole at back before heads links owed left =
    Stage s words heads links owed left at × (length s < at + edge)
    × (whole ≡ judged unit kind last at (cut back (drop at s)) before (keys_left words heads links) owed)

-- `begin` knows of the accounts all that the verdict asks of them alone; or they are refused with whatever heap
pub record Begins (words : List ℕ) (u : Unsettled) (n : Numbers) (low : ℕ) : Type 0 where
  pub ranged : in_range (accounts_of words) ≡ true
  pub last : n.last ≡ last_of words
  pub kind : n.kind ≡ kind_of words
  pub edition : n.edition ≡ edition_of words
  pub index : Index words u.index.heads u.index.links low u.index.left
  pub debts : Owing (quotas_of words) true u.owed

abbrev pub Refuses : List ℕ → Type 0
Refuses words =
    (s : List ℕ) → allowed (length s) ≡ true
    → verdict_values (Err Inconsistent) ≡ (check (table (edition_of words)) s (accounts_of words)).values

-- the same of the struct in which the walk has the arrays: ready for it, a block settled, a block visited
abbrev pub ReadyFor : List ℕ → Unsettled → Type 0
ReadyFor words u = Ready words u.index.heads u.index.links u.owed u.index.left

abbrev pub SettledBy : ℕ → ℕ → List ℕ → Unsettled → Bool → Unsettled → Type 0
SettledBy serial charge words u r v =
    Done serial charge words u.index.heads u.index.links u.owed r v.index.heads v.index.links v.owed v.index.left

abbrev pub VisitedBy : Numbers → ℕ → ℕ → ℕ → ℕ → List ℕ → Unsettled → Bool → Unsettled → Type 0
VisitedBy n serial size end before words u r v =
    Visited (table n.edition) n.kind n.last serial size end before words u.index.heads u.index.links u.owed
    r v.index.heads v.index.links v.owed v.index.left

-- the stage of a walk, what is judged from a place that it came to, and from the start of the heap
abbrev pub StageOf : List ℕ → List ℕ → Unsettled → ℕ → Type 0
StageOf s words u at = Stage s words u.index.heads u.index.links u.owed u.index.left at

abbrev pub judged_from : Numbers → ℕ → ℕ → ℕ → List ℕ → List ℕ → Unsettled → Bool
judged_from n at back before s words u =
    judged (table n.edition) n.kind n.last at (cut back (drop at s)) before (keys_left words u.index.heads u.index.links) u.owed

abbrev pub judged_of : Numbers → Walked → List ℕ → List ℕ → Unsettled → Bool
judged_of n w s words u = judged_from n w.at w.back w.before s words u

abbrev pub judged_whole : Numbers → List ℕ → List ℕ → Unsettled → Bool
judged_whole n s words u = judged_from n 0 0 1 s words u

abbrev pub WalkedBy : Numbers → ℕ → List ℕ → List ℕ → Bool → Walked → Unsettled → Type 0
WalkedBy n edge s words whole w u =
    WalkedTo (table n.edition) n.kind n.last edge s words whole w.at w.back w.before u.index.heads u.index.links u.owed u.index.left

-- the heap that has n bytes of an image's stream from a place on
abbrev pub heap_in : ℕ → ℕ → List ℕ → List ℕ
heap_in from n image = padded n (drop from (stream_of image))
