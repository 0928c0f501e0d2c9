-- First in, first out: over any list of sends and receives from an empty queue, what was accepted is what was given and then what waits.
-- An accepted send puts its handle behind those that wait, an accepted receive takes the first of them away, and a refused call leaves the queue.
use Prim.Native.Nat.{ℕ, zero, suc, ◌-◌, ◌≤◌, ◌<◌}
use native.Mathlib.Omega.{arith}
use native.Mathlib.Numerals.{add-one}
use mathlib.Core.Path.{◌≡◌, refl, ap, sym, ◌∙◌}
use mathlib.Core.List.{List, [], ◌∷◌, ◌++◌, append_assoc, append-nil, cons≢nil}
use mathlib.Core.Bool.{Bool, true, false}
use mathlib.Core.Logic.{◌⊎◌, inl, inr}
use lib.ListN.{length, get_or, take, drop, length-append, length-drop, length-set}
use lib.Seq.{take-suc-set, take-append-le}
use lib.Dec.{ltb, eqb}
use borrow.Author.Tests.{ltb-false, eqb-true, eqb-false, ne_eqb}
use Rattle.accounts.specs.declared.Accounts.{Accounts}
use Rattle.rounding.specs.Rounding.{table}
use Rattle.model.specs.Answers.{zero_handle}
use Rattle.model.specs.Refusals.{Line, first_refusal}
use Rattle.model.specs.declared.Handle.{Handle}
use Rattle.queue.specs.declared.Queue.{Queue}
use Rattle.queue.specs.Queue.{PLACES, waiting, with_handle, without_oldest, line_53, line_51, send_lines}
use Rattle.queue.specs.Queue.{Sent, sent_unless, send, receive}
use Rattle.queue.specs.Runs.{by_rules, QueueCall, Sends, Receives, Traffic, and_then, next, traffic, Fifo, FirstInFirstOut}
use Rattle.queue.proofs.Sending.{receive_empty, receive_done}

-- a queue that is not damaged
pub record Sized (u : Queue) : Type 0 where
  pub few : u.count ≤ PLACES
  pub long : length u.handles ≡ PLACES

-- one handle more waits behind the others
waiting_more : (u : Queue) (h : Handle) → Sized u → u.count < PLACES → waiting (with_handle h u) ≡ waiting u ++ (h ∷ [])
unfolding waiting
waiting_more u h z l = rw add-one (take-suc-set u.handles u.count h (omega (arith, z.long)))

-- the first of those that wait is the oldest
taken_first : (hs : List Handle) (n : ℕ) → 0 < n → n ≤ length hs → take n hs ≡ get_or hs 0 zero_handle ∷ take (n - 1) (drop 1 hs ++ (zero_handle ∷ []))
taken_first hs zero p l = absurd (omega arith)
taken_first [] (suc n) p l = absurd (omega arith)
taken_first (x ∷ xs) (suc n) p l =
    let one : suc n - 1 ≡ n = omega arith in
    ap (λ (t : List Handle). x ∷ t) (sym (take-append-le n xs (zero_handle ∷ []) (omega arith)) ∙ ap (λ (m : ℕ). take m (xs ++ (zero_handle ∷ []))) (sym one))

waiting_first : (u : Queue) → Sized u → 0 < u.count → waiting u ≡ get_or u.handles 0 zero_handle ∷ waiting (without_oldest u)
unfolding waiting without_oldest
waiting_first u z p = taken_first u.handles u.count p (omega (arith, z.few, z.long))

-- either way of a send
abbrev Way : Queue → Handle → ℕ → Queue → Type 0
Way u h n r = ((n ≡ 0) × (r ≡ with_handle h u) × (u.count < PLACES)) ⊎ ((0 < n) × (r ≡ u))

room : (u : Queue) (rest : List Line) → first_refusal (line_53 u ∷ line_51 u ∷ rest) ≡ 0 → u.count < PLACES
unfolding first_refusal line_53 line_51
room u rest e = go (ltb PLACES u.count) (eqb u.count PLACES) refl refl
  where
    go : (a b : Bool) → ltb PLACES u.count ≡ a → eqb u.count PLACES ≡ b → u.count < PLACES
    go true b x y = absurd (omega (arith, rw x at e))
    go false true x y = absurd (omega (arith, rw (x, y) at e))
    go false false x y = let ne = eqb-false u.count PLACES y in omega (arith, ltb-false PLACES u.count x, ne)

send_way : (unit : ℕ → ℕ) (s : List ℕ) (k : Accounts) (u : Queue) (h : Handle) → Way u h (send unit s k u h).refusal (send unit s k u h).queue
unfolding send sent_unless send_lines
send_way unit s k u h = go (first_refusal (send_lines unit s k u h)) refl
  where
    go : (n : ℕ) → first_refusal (send_lines unit s k u h) ≡ n → Way u h (send unit s k u h).refusal (send unit s k u h).queue
    go zero e = rw e (inl (refl, refl, room u _ e))
    go (suc n) e = rw e (inr (omega arith, refl))

-- either way of a receive, where the queue is not damaged
abbrev Gives : Queue → ℕ → Handle → Queue → Type 0
Gives u n h r = ((n ≡ 0) × (waiting u ≡ h ∷ waiting r) × Sized r) ⊎ ((n ≡ 52) × (r ≡ u) × (waiting u ≡ []))

shorter : (u : Queue) → Sized u → Sized (without_oldest u)
unfolding without_oldest
shorter u z = record { few = omega (arith, z.few); long = simp (length-append, length-drop) (omega (arith, z.long)) }

nothing : (u : Queue) → u.count ≡ 0 → waiting u ≡ []
unfolding waiting
nothing u e = rw e

receive_way : (u : Queue) → Sized u → Gives u (receive u).refusal (receive u).handle (receive u).queue
receive_way u z = go (eqb u.count 0) refl
  where
    go : (t : Bool) → eqb u.count 0 ≡ t → Gives u (receive u).refusal (receive u).handle (receive u).queue
    go true e = let c = eqb-true u.count 0 e in rw (← receive_empty u z.few c) (inr (refl, refl, nothing u c))
    go false e = let c = eqb-false u.count 0 e in rw (← receive_done u z.few c) (inl (refl, waiting_first u z (omega (arith, c)), shorter u z))

-- what every call keeps
record Kept (t : Traffic) : Type 0 where
  sized : Sized t.queue
  order : t.accepted ≡ t.given ++ waiting t.queue

longer : (u : Queue) (h : Handle) → Sized u → u.count < PLACES → Sized (with_handle h u)
longer u h z l = record { few = omega arith; long = simp length-set z.long }

module _ (tables : ℕ → ℕ → ℕ) where
  abbrev sent : List ℕ → Accounts → Handle → Traffic → Sent
  sent s k h t = send (tables k.edition) s k t.queue h

  sends_keep : (s : List ℕ) (k : Accounts) (h : Handle) (t : Traffic) → Kept t
      → Kept (next (by_rules tables) (Sends s k h) t)
  unfolding next and_then
  sends_keep s k h t z = go (send_way (tables k.edition) s k t.queue h)
    where
      go : Way t.queue h (sent s k h t).refusal (sent s k h t).queue
          → Kept (next (by_rules tables) (Sends s k h) t)
      go (inl (n, e, l)) =
          record {
            sized = rw e (longer t.queue h z.sized l);
            order = rw (n, e, waiting_more t.queue h z.sized l, z.order, append_assoc);
          }
      go (inr (n, e)) =
          record {
            sized = rw e z.sized;
            order = rw (ne_eqb (sent s k h t).refusal 0 (λ x. omega arith), e) z.order;
          }

  receives_keep : (t : Traffic) → Kept t → Kept (next (by_rules tables) Receives t)
  unfolding next and_then
  receives_keep t z = go (receive_way t.queue z.sized)
    where
      go : Gives t.queue (receive t.queue).refusal (receive t.queue).handle (receive t.queue).queue
          → Kept (next (by_rules tables) Receives t)
      go (inl (n, e, l)) = record { sized = l; order = rw n (z.order ∙ rw (e, append_assoc)) }
      go (inr (n, e, l)) = record { sized = rw e z.sized; order = rw (n, e) z.order }

  traffic_kept : (u : Queue) → u.count ≡ 0 → length u.handles ≡ PLACES → (cs : List QueueCall)
      → Kept (traffic (by_rules tables) u cs)
  unfolding traffic
  traffic_kept u c l [] = record { sized = record { few = omega arith; long = l }; order = sym (nothing u c) }
  traffic_kept u c l (Sends s k h ∷ cs) = sends_keep s k h (traffic (by_rules tables) u cs) (traffic_kept u c l cs)
  traffic_kept u c l (Receives ∷ cs) = receives_keep (traffic (by_rules tables) u cs) (traffic_kept u c l cs)

-- a list is the same with others behind it only if there are none
nothing_behind : (xs ys : List Handle) → xs ++ ys ≡ xs → ys ≡ []
nothing_behind [] ys e = e
nothing_behind (x ∷ xs) ys e = nothing_behind xs ys (cc)

module _ (t : Traffic) (z : Kept t) where
  abbrev Ways : Type 0
  Ways = Gives t.queue (receive t.queue).refusal (receive t.queue).handle (receive t.queue).queue

  there : Ways → (receive t.queue).refusal ≡ 52 → t.accepted ≡ t.given
  there (inl (n, w, r)) e = absurd (omega (arith, n, e))
  there (inr (n, r, w)) e = z.order ∙ rw w (append-nil t.given)

  back : Ways → t.accepted ≡ t.given → (receive t.queue).refusal ≡ 52
  back (inl (n, w, r)) e = absurd (cons≢nil (sym w ∙ nothing_behind t.given (waiting t.queue) (sym z.order ∙ e)))
  back (inr (n, r, w)) e = n

  out : Ways → (receive t.queue).refusal ≡ 0 → t.accepted ≡ t.given ++ ((receive t.queue).handle ∷ waiting (receive t.queue).queue)
  out (inl (n, w, r)) e = z.order ∙ rw w
  out (inr (n, r, w)) e = absurd (omega (arith, n, e))

  other : Ways → ((receive t.queue).refusal ≡ 52 → ⊥) → (receive t.queue).refusal ≡ 0
  other (inl (n, w, r)) f = n
  other (inr (n, r, w)) f = absurd (f n)

  fifo : (tables : ℕ → ℕ → ℕ) → Fifo (by_rules tables) t
  fifo tables =
      let w = receive_way t.queue z.sized in
      record { order = z.order; all_out = (there w, back w); next_out = out w; no_other = other w; sized = z.sized.few }

-- THE THEOREM, for every family of tables, one for each edition: the sends of a list may be made on heaps of either
pub first_in_first_out_of : (tables : ℕ → ℕ → ℕ) → FirstInFirstOut (by_rules tables)
first_in_first_out_of tables =
    record { always = λ u c l cs. fifo (traffic (by_rules tables) u cs) (traffic_kept tables u c l cs) tables }

-- and so of the send that the contracts name
pub first_in_first_out : FirstInFirstOut (by_rules table)
first_in_first_out = first_in_first_out_of table
