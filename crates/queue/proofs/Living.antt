-- Packets in demand 3's lists: a send joins a history as a claim and a release, and a packet lives as long as its receiver holds it.
-- A refused send leaves heap and accounts, so the list stays as it is. The rest is demand 3's: an object whose serial is held at every point since is live at
-- its place, and a live object has a record, which is a hold of the ledger.
use Rattle.std.specs.Prelude.{Option, Some, None}
use Prim.Native.Nat.{ℕ, zero, suc, ◌+◌, ◌≤◌, ◌<◌}
use native.Mathlib.Omega.{arith}
use mathlib.Core.Path.{◌≡◌, refl, ap, sym, subst, ◌∙◌}
use mathlib.Core.List.{List, [], ◌∷◌, ◌++◌, Memᴰ, cons≢nil}
use mathlib.Core.Bool.{Bool, true, false}
use mathlib.Core.Logic.{◌⊎◌, inl, inr, ⊎_elim}
use lib.ListN.{length, get_or, take}
use lib.Dec.{ltb, eqb}
use borrow.Author.Tests.{eq-eqb, ne_eqb}
use Rattle.accounts.specs.declared.Hold.{Hold}
use Rattle.accounts.specs.declared.Accounts.{Accounts}
use Rattle.rounding.specs.Rounding.{Units, table}
use Rattle.rounding.proofs.Editions.{table_is}
use Rattle.lists.specs.Lists.{is_none}
use Rattle.model.specs.Answers.{lent, zero_handle}
use Rattle.model.specs.Objects.{objects_of, lookup}
use Rattle.model.specs.Consistent.{allowed, consistent}
use Rattle.model.specs.Holds.{count_of}
use Rattle.model.specs.Refusals.{Line, ◌when◌, first_refusal, line_1, line_2, line_5, row_lines}
use Rattle.model.specs.Calls.{Outcome, unless, unchanged, can_release, lend}
use Rattle.model.specs.Step.{step}
use Rattle.model.specs.declared.Handle.{Handle}
use Rattle.model.specs.declared.Call.TheVariants.{Claim, Release}
use Rattle.model.proofs.StepFrame.{step_keeps}
use Rattle.model.proofs.Consistent.{consistent_accounted, accounted_facts}
use Rattle.model.proofs.Lookup.{Narrowed, names_exactly, lookup_named, found_serial}
use Rattle.invariant.proofs.Counts.{counted_used, member_count}
use Rattle.ledger.specs.Ledger.{Ledger, Event, Called, ledger_of}
use Rattle.ledger.specs.History.{by_own, History}
use Rattle.ledger.specs.Demand3.{AsRecorded, objects_in}
use Rattle.ledger.proofs.Narrowing.{held_found}
use Rattle.ledger.proofs.Theorem.{demand_3_of}
use Rattle.queue.specs.declared.Queue.{Queue}
use Rattle.queue.specs.Queue.{PLACES, waiting, line_53, line_51, line_of, send_lines, sent_unless, send, receive}
use Rattle.queue.specs.Packets.{HoldsIn, NobodyHolds, packet, claimed_by, released_by, send_events, Joins, Lives, Packets}
use Rattle.queue.proofs.Sending.{line_gives, line_none, receive_done}
use Rattle.queue.proofs.Moving.{named, left, both_made, receiver_has, packet_lives}

-- a call whose line does not refuse is accepted
line_accepts : (t : Outcome) (rest : List Line) → first_refusal (line_of t ∷ rest) ≡ 0 → (t.values.refusal ≡ 0) × (first_refusal rest ≡ 0)
line_accepts t rest e = go t.values.refusal refl
  where
    go : (n : ℕ) → t.values.refusal ≡ n → (t.values.refusal ≡ 0) × (first_refusal rest ≡ 0)
    go zero z = (z, sym (line_none t rest z) ∙ e)
    go (suc n) z = absurd (omega (arith, sym (line_gives t rest (suc n) z (omega arith)) ∙ e))

-- where no line refuses, neither call does
none_refuses : (a b : Bool) (t r : Outcome) → first_refusal ((53 when a) ∷ (51 when b) ∷ line_of t ∷ line_of r ∷ []) ≡ 0
    → (t.values.refusal ≡ 0) × (r.values.refusal ≡ 0)
unfolding first_refusal
none_refuses true b t r e = absurd (omega (arith, e))
none_refuses false true t r e = absurd (omega (arith, e))
none_refuses false false t r e = let x = line_accepts t (line_of r ∷ []) e in (x.0, (line_accepts r [] x.1).0)

-- what is waiting is given
first_of : (hs rest : List Handle) (n : ℕ) (h : Handle) → take n hs ≡ h ∷ rest → (0 < n) × (get_or hs 0 zero_handle ≡ h)
first_of hs rest zero h e = absurd (cons≢nil (sym e))
first_of [] rest (suc n) h e = absurd (cons≢nil (sym e))
first_of (x ∷ xs) rest (suc n) h e = (omega arith, cc)

pub given_still : (u : Queue) (h : Handle) (rest : List Handle) → u.count ≤ PLACES → waiting u ≡ h ∷ rest → ((receive u).refusal ≡ 0) × ((receive u).handle ≡ h)
unfolding waiting
given_still u h rest l w =
    let f = first_of u.handles rest u.count h w in
    rw (← receive_done u l (λ z. omega (arith, f.0))) (refl, f.1)

-- lend where heap and accounts are consistent
module _ (unit : ℕ → ℕ) (s : List ℕ) (k : Accounts) (a : allowed (length s) ≡ true) (w : consistent unit s k ≡ true) (h : Handle) where
  lend_gives : (o : Handle) → lookup h s ≡ Some o → lend unit s k h ≡ unchanged s k (lent (record { start = h.base; end = h.base + h.length }))
  unfolding lend row_lines first_refusal line_1 line_2 line_5 is_none unless
  lend_gives o e = rw (a, w, e)

  lend_refuses : lookup h s ≡ None → (lend unit s k h).values.refusal ≡ 5
  unfolding lend row_lines first_refusal line_1 line_2 line_5 is_none unless
  lend_refuses e = rw (a, w, e)

module _ (tables : ℕ → ℕ → ℕ) where
  -- a send, accepted or not
  record Accepted (s : List ℕ) (k : Accounts) (u : Queue) (h : Handle) : Type 0 where
    zero : (send (tables k.edition) s k u h).refusal ≡ 0
    claims : (claimed_by tables s k u h).values.refusal ≡ 0
    can : (can_release (tables k.edition) s k u.sender h).values.refusal ≡ 0
    heap : (released_by tables s k u h).heap ≡ (send (tables k.edition) s k u h).heap
    accounts : (released_by tables s k u h).accounts ≡ (send (tables k.edition) s k u h).accounts

  record Refused (s : List ℕ) (k : Accounts) (u : Queue) (h : Handle) : Type 0 where
    some : 0 < (send (tables k.edition) s k u h).refusal
    heap : s ≡ (send (tables k.edition) s k u h).heap
    accounts : k ≡ (send (tables k.edition) s k u h).accounts

  send_cases : (s : List ℕ) (k : Accounts) (u : Queue) (h : Handle) → Accepted s k u h ⊎ Refused s k u h
  unfolding send sent_unless send_lines line_53 line_51
  send_cases s k u h = go (first_refusal (send_lines (tables k.edition) s k u h)) refl
    where
      go : (n : ℕ) → first_refusal (send_lines (tables k.edition) s k u h) ≡ n → Accepted s k u h ⊎ Refused s k u h
      go zero e =
          let x = none_refuses (ltb PLACES u.count) (eqb u.count PLACES) (claimed_by tables s k u h)
          (can_release (tables k.edition) s k u.sender h) e in
          inl (record { zero = rw e; claims = x.0; can = x.1; heap = rw e; accounts = rw e })
      go (suc n) e = inr (record { some = rw e (omega arith); heap = rw e; accounts = rw e })

  -- the events of a send
  -- a claim keeps the edition, and with it the table
  same_table : (s : List ℕ) (k : Accounts) (u : Queue) (h : Handle) → (claimed_by tables s k u h).accounts.edition ≡ k.edition
  unfolding step
  same_table s k u h = (step_keeps (tables k.edition) (Claim u.receiver h) s k).same_edition

  accepted_events : (s : List ℕ) (k : Accounts) (u : Queue) (h : Handle) → (send (tables k.edition) s k u h).refusal ≡ 0
      → send_events tables s k u h
      ≡ Called (Release u.sender h) (released_by tables s k u h).values ∷ Called (Claim u.receiver h) (claimed_by tables s k u h).values ∷ []
  unfolding send_events
  accepted_events s k u h e = rw (eq-eqb (send (tables k.edition) s k u h).refusal 0 e)

  refused_events : (s : List ℕ) (k : Accounts) (u : Queue) (h : Handle) → 0 < (send (tables k.edition) s k u h).refusal → send_events tables s k u h ≡ []
  unfolding send_events
  refused_events s k u h e = rw (ne_eqb (send (tables k.edition) s k u h).refusal 0 (λ x. omega arith))

module _ (tables : ℕ → ℕ → ℕ) (units : (e : ℕ) → Units (tables e)) (begun : Ledger) where
  -- a count above 0 is a hold of the ledger, and a live object is held
  module _ (es : List Event) (s : List ℕ) (k : Accounts) (past : History tables (by_own tables) begun es s k) where
    abbrev after : AsRecorded (tables k.edition) (by_own tables) (ledger_of begun es) s k
    after = ((demand_3_of tables units).always begun es [] s k past).agrees

    counted_holds : (q serial : ℕ) → 0 < count_of serial q k.holds → HoldsIn q serial (ledger_of begun es)
    counted_holds q serial p =
        let h : Hold = record { serial = serial; quota = q; count = count_of serial q k.holds } in
        let r = after.record_held h (member_count k.holds serial q p) (counted_used h p) in
        (r.0, r.1, r.2, omega (arith, r.3, r.4))

    live_held : (o : Handle) → Memᴰ o (objects_of s) → (q : ℕ) × HoldsIn q o.serial (ledger_of begun es)
    unfolding objects_of
    live_held o m =
        let f = (accounted_facts s k (consistent_accounted (tables k.edition) s k after.kept_consistent)).recorded o m in
        let r = after.record_held f.0 f.1 f.2 in
        (f.0.quota, (r.0, r.1, r.2 ∙ f.3, omega (arith, r.3, r.4)))

    -- nobody holds an object with the serial: no handle with it names one
    names_none : (h : Handle) (serial : ℕ) → h.serial ≡ serial → NobodyHolds serial (ledger_of begun es) → lookup h s ≡ None
    names_none h serial same f = go (lookup h s) refl
      where
        go : (x : Option Handle) → lookup h s ≡ x → lookup h s ≡ None
        go None e = e
        go (Some o) e =
            let r = live_held o (lookup_named h s o e).1 in
            absurd (f r.0 (subst (λ (n : ℕ). HoldsIn r.0 n (ledger_of begun es)) (found_serial h s o e ∙ same) r.1))

  module _ (es : List Event) (s : List ℕ) (k : Accounts) (past : History tables (by_own tables) begun es s k) (u : Queue) (h : Handle) where
    abbrev sent_events : List Event
    sent_events = send_events tables s k u h ++ es

    -- it joins the list
    joined : Accepted tables s k u h ⊎ Refused tables s k u h
        → History tables (by_own tables) begun sent_events (send (tables k.edition) s k u h).heap (send (tables k.edition) s k u h).accounts
    unfolding step
    joined (inl a) =
        rw (accepted_events tables s k u h a.zero) (
          (claimed_by tables s k u h).heap,
          (claimed_by tables s k u h).accounts,
          (s, k, past, refl),
          ap (λ (n : ℕ). step (tables n) (Release u.sender h) (claimed_by tables s k u h).heap (claimed_by tables s k u h).accounts)
              (same_table tables s k u h)
              ∙ (λ i. record { heap = a.heap i; accounts = a.accounts i; values = (released_by tables s k u h).values }),
        )
    joined (inr a) = rw (refused_events tables s k u h a.some, ← a.heap, ← a.accounts) past

    -- an accepted send
    module _ (a : Accepted tables s k u h) where
      made : released_by tables s k u h ≡ left tables units begun es s k past u.sender u.receiver h a.claims a.can
      made = both_made tables units begun es s k past u.sender u.receiver h a.claims a.can

      both_done : (released_by tables s k u h).values.refusal ≡ 0
      both_done = ap (λ (t : Outcome). t.values.refusal) made

      holds_now : HoldsIn u.receiver (packet h s).serial (ledger_of begun sent_events)
      holds_now =
          counted_holds sent_events (send (tables k.edition) s k u h).heap (send (tables k.edition) s k u h).accounts (joined (inl a))
          u.receiver (packet h s).serial
          (subst (λ (x : Accounts). 0 < count_of (packet h s).serial u.receiver x.holds) (sym (ap (λ (t : Outcome). t.accounts) made) ∙ a.accounts)
          (receiver_has tables units begun es s k past u.sender u.receiver h a.claims a.can))

      recorded_now : Memᴰ (packet h s) (objects_in (ledger_of begun sent_events))
      recorded_now =
          (after sent_events (send (tables k.edition) s k u h).heap (send (tables k.edition) s k u h).accounts (joined (inl a))).live_recorded
          (packet h s)
          (subst (λ (x : List ℕ). Memᴰ (packet h s) (objects_of x)) (sym (ap (λ (t : Outcome). t.heap) made) ∙ a.heap)
          (packet_lives tables units begun es s k past u.sender u.receiver h a.claims a.can))

      narrowed : Narrowed h (packet h s)
      narrowed =
          (names_exactly h (packet h s)).0
          (lookup_named h s (packet h s) (named tables units begun es s k past u.sender u.receiver h a.claims a.can)).0

    accepted : (send (tables k.edition) s k u h).refusal ≡ 0 → Accepted tables s k u h
    accepted e = ⊎_elim (λ a. a) (λ a. absurd (omega (arith, e, a.some))) (send_cases tables s k u h)

    joins_of : Joins tables begun es s k u h
    joins_of =
        record {
          joined = joined (send_cases tables s k u h);
          claims = λ e. (accepted e).claims;
          releases = λ e. both_done (accepted e);
          held = λ e. holds_now (accepted e);
        }

    -- any point behind it
    lives_of : (send (tables k.edition) s k u h).refusal ≡ 0 → (later : List Event) (s' : List ℕ) (k' : Accounts)
        → History tables (by_own tables) begun (later ++ sent_events) s' k' → Lives tables begun sent_events later s' k' u.receiver h (packet h s)
    lives_of e later s' k' now =
        let o = packet h s in
        let b = accepted e in
        let w = after (later ++ sent_events) s' k' now in
        record {
          live =
              λ r f.
              lend_gives (tables k'.edition) s' k' w.length_allowed w.kept_consistent h o
              (held_found tables units begun s' k' h o (narrowed b) sent_events later now r (recorded_now b)
              (λ late early q. (let x = f late early q in (x.0, u.receiver, x.1, x.2, x.3))));
          gone =
              λ f.
              lend_refuses (tables k'.edition) s' k' w.length_allowed w.kept_consistent h
              (names_none (later ++ sent_events) s' k' now h o.serial (narrowed b).serial f);
          still_given = λ v rest. given_still v h rest;
        }

-- THE THEOREM, for every family of tables, and so for those of both editions
pub packets_of : (tables : ℕ → ℕ → ℕ) → ((e : ℕ) → Units (tables e)) → Packets tables
packets_of tables units = record { joins = joins_of tables units; lives = lives_of tables units }

pub packets : Packets table
packets = packets_of table table_is
