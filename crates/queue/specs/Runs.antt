-- Lists of sends and receives on one queue (rules 21.8 and 21.9): a call takes the queue as its forerunner left it, and whatever heap and accounts there are.
use Rattle.std.specs.Prelude.{ℕ, ◌≤◌, ◌≡◌, List, [], ◌∷◌, ◌++◌, cond, ◌↔◌, length, eqb}
use Rattle.accounts.specs.declared.Accounts.{Accounts}
use Rattle.model.specs.declared.Handle.{Handle}
use Rattle.queue.specs.declared.Queue.{Queue}
use Rattle.queue.specs.Queue.{PLACES, Sent, Received, waiting, send, receive}

-- whatever performs a send and a receive
pub record Performer : Type 0 where
  pub sends : List ℕ → Accounts → Queue → Handle → Sent
  pub receives : Queue → Received

-- rules 21.8 and 23.4: the queue of the rules. Each send goes by the table of the edition in its own accounts
abbrev pub by_rules : (ℕ → ℕ → ℕ) → Performer
by_rules tables = record { sends = λ s k u h. send (tables k.edition) s k u h; receives = receive }

-- a call on a queue
pub data QueueCall : Type 0 where
  Sends : List ℕ → Accounts → Handle → QueueCall
  Receives : QueueCall

-- the queue after some calls, the handles that were accepted for sending, and those that were given, both in order
pub record Traffic : Type 0 where
  pub queue : Queue
  pub accepted : List Handle
  pub given : List Handle

-- one more handle at the end, where the call was accepted
unfoldable pub and_then : ℕ → Handle → List Handle → List Handle
and_then refusal h hs = cond (eqb refusal 0) (hs ++ (h ∷ [])) hs

module _ (run : Performer) where
  unfoldable pub next : QueueCall → Traffic → Traffic
  next (Sends s k h) t =
      let r = run.sends s k t.queue h in
      record { queue = r.queue; accepted = and_then r.refusal h t.accepted; given = t.given }
  next Receives t =
      let r = run.receives t.queue in
      record { queue = r.queue; accepted = t.accepted; given = and_then r.refusal r.handle t.given }

  -- a list of calls, the newest first
  unfoldable pub traffic : Queue → List QueueCall → Traffic
  traffic u [] = record { queue = u; accepted = []; given = [] }
  traffic u (c ∷ cs) = next c (traffic u cs)

  -- what holds after a list: each call of a list is the next one after a shorter list
  pub record Fifo (t : Traffic) : Type 0 where
    -- rule 21.8: those given are the first of those accepted, in that order; the others wait
    pub order : t.accepted ≡ t.given ++ waiting t.queue
    -- rule 21.9: a receive made next is refused by 52 exactly if all are out; else it gives the next of them
    pub all_out : ((run.receives t.queue).refusal ≡ 52) ↔ (t.accepted ≡ t.given)
    pub next_out : (run.receives t.queue).refusal ≡ 0
        → t.accepted ≡ t.given ++ ((run.receives t.queue).handle ∷ waiting (run.receives t.queue).queue)
    -- it is refused by nothing else, since no call leaves a count above 16
    pub no_other : ((run.receives t.queue).refusal ≡ 52 → ⊥) → (run.receives t.queue).refusal ≡ 0
    pub sized : t.queue.count ≤ PLACES

  pub record FirstInFirstOut : Type 0 where
    pub always : (u : Queue) → u.count ≡ 0 → length u.handles ≡ PLACES → (cs : List QueueCall) → Fifo (traffic u cs)
