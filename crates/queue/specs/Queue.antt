-- Packet queues (rules, section 21): handles on their way from a sending quota to a receiving one.
use Rattle.std.specs.Prelude.{ℕ, zero, suc, ◌+◌, ◌-◌, List, [], ◌∷◌, ◌++◌, get_or, set, take, drop, replicate, ltb, eqb}
use Rattle.accounts.specs.declared.Accounts.{Accounts}
use Rattle.model.specs.Answers.{zero_handle}
use Rattle.model.specs.Refusals.{Line, ◌when◌, first_refusal}
use Rattle.model.specs.Calls.{Outcome, claim, release, can_release}
use Rattle.model.specs.declared.Handle.{Handle}
use Rattle.queue.specs.declared.Queue.{Queue}

-- rule 21.1: how many handles a queue has room for
abbrev pub PLACES : ℕ
PLACES = 16

-- rule 21.2: a new queue
abbrev pub empty_queue : ℕ → ℕ → Queue
empty_queue sender receiver = record { sender = sender; receiver = receiver; count = 0; handles = replicate PLACES zero_handle }

-- rule 21.1: the handles on their way, the oldest first
unfoldable pub waiting : Queue → List Handle
waiting u = take u.count u.handles

-- one handle more, behind the others
abbrev pub with_handle : Handle → Queue → Queue
with_handle h u = record { sender = u.sender; receiver = u.receiver; count = u.count + 1; handles = set u.handles u.count h }

-- one handle less, the oldest: every place moves up by one, and the last place becomes zero
unfoldable pub without_oldest : Queue → Queue
without_oldest u = record { sender = u.sender; receiver = u.receiver; count = u.count - 1; handles = drop 1 u.handles ++ (zero_handle ∷ []) }

-- rule 21.3, line 53: the count is one that no queue has
unfoldable pub line_53 : Queue → Line
line_53 u = 53 when ltb PLACES u.count

-- line 51: there is no room
unfoldable pub line_51 : Queue → Line
line_51 u = 51 when eqb u.count PLACES

-- line 52: nothing is on its way
unfoldable pub line_52 : Queue → Line
line_52 u = 52 when eqb u.count 0

-- the refusal that a call of the heap gives, whatever it is, as a line
unfoldable pub line_of : Outcome → Line
line_of t = t.values.refusal when ltb 0 t.values.refusal

-- what a send leaves, and its refusal's number, 0 where it is accepted
pub record Sent : Type 0 where
  pub heap : List ℕ
  pub accounts : Accounts
  pub queue : Queue
  pub refusal : ℕ

-- rule 21.5: a refused send leaves what came in
unfoldable pub sent_unless : ℕ → List ℕ → Accounts → Queue → Sent → Sent
sent_unless zero s k u done = done
sent_unless (suc n) s k u done = record { heap = s; accounts = k; queue = u; refusal = suc n }

module _ (unit : ℕ → ℕ) where
  -- rule 21.4: both calls of the heap are asked on the state that came in
  unfoldable pub send_lines : List ℕ → Accounts → Queue → Handle → List Line
  send_lines s k u h = line_53 u ∷ line_51 u ∷ line_of (claim unit s k u.receiver h) ∷ line_of (can_release unit s k u.sender h) ∷ []

  -- rule 21.6: the receiver claims, then the sender releases
  unfoldable pub send : List ℕ → Accounts → Queue → Handle → Sent
  send s k u h =
      let c = claim unit s k u.receiver h in
      let r = release unit c.heap c.accounts u.sender h in
      let done : Sent = record { heap = r.heap; accounts = r.accounts; queue = with_handle h u; refusal = 0 } in
      sent_unless (first_refusal (send_lines s k u h)) s k u done

-- what a receive leaves and gives
pub record Received : Type 0 where
  pub queue : Queue
  pub refusal : ℕ
  pub handle : Handle

unfoldable pub received_unless : ℕ → Queue → Received → Received
received_unless zero u done = done
received_unless (suc n) u done = record { queue = u; refusal = suc n; handle = zero_handle }

-- rule 21.7: the oldest handle, and the queue without it; heap and accounts are no part of it
unfoldable pub receive_lines : Queue → List Line
receive_lines u = line_53 u ∷ line_52 u ∷ []

unfoldable pub receive : Queue → Received
receive u =
    let done : Received = record { queue = without_oldest u; refusal = 0; handle = get_or u.handles 0 zero_handle } in
    received_unless (first_refusal (receive_lines u)) u done
