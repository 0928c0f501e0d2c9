-- Packets in demand 3's lists (rules 21.10 to 21.12): how a send joins a history, and how long a packet lives.
use Rattle.std.specs.Prelude.{ℕ, ◌+◌, ◌≤◌, ◌<◌, ◌≡◌, true, cond, eqb}
use mathlib.Core.List.{List, [], ◌∷◌, ◌++◌, Memᴰ}
use Rattle.accounts.specs.declared.Accounts.{Accounts}
use Rattle.model.specs.Answers.{lent}
use Rattle.model.specs.Objects.{lookup, found}
use Rattle.model.specs.Calls.{Outcome, unchanged, claim, release, lend}
use Rattle.model.specs.declared.Handle.{Handle}
use Rattle.model.specs.declared.Call.TheVariants.{Claim, Release}
use Rattle.ledger.specs.Ledger.{Entry, Ledger, Event, Called, holds_of, unrestored, ledger_of}
use Rattle.ledger.specs.History.{History, by_own}
use Rattle.queue.specs.declared.Queue.{Queue}
use Rattle.queue.specs.Queue.{PLACES, waiting, send, receive}

-- a quota has holds on the object with a serial, by the ledger; and nobody has
abbrev pub HoldsIn : ℕ → ℕ → Ledger → Type 0
HoldsIn q serial l = (e : Entry) × Memᴰ e l.entries × (e.object.serial ≡ serial) × (0 < holds_of q e)

abbrev pub NobodyHolds : ℕ → Ledger → Type 0
NobodyHolds serial l = (q : ℕ) → HoldsIn q serial l → ⊥

-- the object that a handle names
abbrev pub packet : Handle → List ℕ → Handle
packet h s = found (lookup h s)

-- by a family of tables, one for each edition; a state goes by that of its own
module _ (tables : ℕ → ℕ → ℕ) where
  -- the calls that a send is made of: a claim for the receiver, and on what it leaves a release for the sender
  abbrev pub claimed_by : List ℕ → Accounts → Queue → Handle → Outcome
  claimed_by s k u h = claim (tables k.edition) s k u.receiver h

  abbrev pub released_by : List ℕ → Accounts → Queue → Handle → Outcome
  released_by s k u h = release (tables k.edition) (claimed_by s k u h).heap (claimed_by s k u h).accounts u.sender h

  -- rule 21.10: what a send counts as, the newest event first; nothing where it is refused
  unfoldable pub send_events : List ℕ → Accounts → Queue → Handle → List Event
  send_events s k u h =
      cond (eqb (send (tables k.edition) s k u h).refusal 0)
      (Called (Release u.sender h) (released_by s k u h).values ∷ Called (Claim u.receiver h) (claimed_by s k u h).values ∷ []) []

  -- what holds of a send made next after a history
  pub record Joins (begun : Ledger) (es : List Event) (s : List ℕ) (k : Accounts) (u : Queue) (h : Handle) : Type 0 where
    -- it goes on with the history as its events say
    pub joined : History tables (by_own tables) begun (send_events s k u h ++ es) (send (tables k.edition) s k u h).heap
        (send (tables k.edition) s k u h).accounts
    -- where it is accepted, both calls are
    pub claims : (send (tables k.edition) s k u h).refusal ≡ 0 → (claimed_by s k u h).values.refusal ≡ 0
    pub releases : (send (tables k.edition) s k u h).refusal ≡ 0 → (released_by s k u h).values.refusal ≡ 0
    -- and the receiver holds the packet then
    pub held : (send (tables k.edition) s k u h).refusal ≡ 0 → HoldsIn u.receiver (packet h s).serial (ledger_of begun (send_events s k u h ++ es))

  -- what holds of a packet o, sent with the handle h to the quota q, after the events `later` that followed those up to its send
  pub record Lives (begun : Ledger) (sent later : List Event) (s : List ℕ) (k : Accounts) (q : ℕ) (h o : Handle) : Type 0 where
    -- rule 21.11: while the receiver has held it at every point since, lend gives the handle's bytes, at their place. No image was read since
    pub live : unrestored later ≡ true → ((late early : List Event) → later ≡ late ++ early → HoldsIn q o.serial (ledger_of begun (early ++ sent)))
        → lend (tables k.edition) s k h ≡ unchanged s k (lent (record { start = h.base; end = h.base + h.length }))
    -- rule 21.12: when nobody holds it, lend gives 5
    pub gone : NobodyHolds o.serial (ledger_of begun (later ++ sent)) → (lend (tables k.edition) s k h).values.refusal ≡ 5
    -- and a queue in which it is the oldest gives its handle, whatever has become of the packet
    pub still_given : (u : Queue) (rest : List Handle) → u.count ≤ PLACES → waiting u ≡ h ∷ rest → ((receive u).refusal ≡ 0) × ((receive u).handle ≡ h)

  pub record Packets : Type 0 where
    pub joins : (begun : Ledger) (es : List Event) (s : List ℕ) (k : Accounts) → History tables (by_own tables) begun es s k → (u : Queue) (h : Handle)
        → Joins begun es s k u h
    pub lives : (begun : Ledger) (es : List Event) (s : List ℕ) (k : Accounts) → History tables (by_own tables) begun es s k → (u : Queue) (h : Handle)
        → (send (tables k.edition) s k u h).refusal ≡ 0 → (later : List Event) (s' : List ℕ) (k' : Accounts)
        → History tables (by_own tables) begun (later ++ (send_events s k u h ++ es)) s' k'
        → Lives begun (send_events s k u h ++ es) later s' k' u.receiver h (packet h s)
