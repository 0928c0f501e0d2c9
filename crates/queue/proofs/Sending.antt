-- Sends and receives, case by case: which line refuses, or what is left.
use Prim.Native.Nat.{ℕ, zero, suc, ◌≤◌, ◌<◌}
use native.Mathlib.Omega.{arith}
use mathlib.Core.Path.{◌≡◌, refl, ap, sym, ◌∙◌}
use mathlib.Core.List.{List, [], ◌∷◌}
use lib.ListN.{get_or}
use borrow.Author.Tests.{lt-ltb, le-ltb, eq-eqb, ne_eqb}
use Rattle.rounding.specs.Rounding.{table}
use Rattle.accounts.specs.declared.Accounts.{Accounts}
use Rattle.model.specs.Answers.{Values, zero_handle}
use Rattle.model.specs.Refusals.{Line, first_refusal}
use Rattle.model.specs.Calls.{Outcome, claim, release, can_release}
use Rattle.model.specs.Step.{step}
use Rattle.model.specs.declared.Handle.{Handle}
use Rattle.model.specs.declared.Call.TheVariants.{Claim}
use Rattle.model.proofs.Refusals.{refused_changes_nothing}
use Rattle.model.proofs.StepFrame.{step_keeps}
use Rattle.queue.specs.declared.Queue.{Queue}
use Rattle.queue.specs.Queue.{PLACES, with_handle, without_oldest, line_53, line_51, line_52, line_of, Sent, sent_unless, send_lines, send}
use Rattle.queue.specs.Queue.{received_unless, receive_lines, receive}

-- a send that is refused leaves what came in
abbrev pub kept : List ℕ → Accounts → Queue → ℕ → Sent
kept s k u n = record { heap = s; accounts = k; queue = u; refusal = n }

kept_unless : (s : List ℕ) (k : Accounts) (u : Queue) (done : Sent) (m n : ℕ) → m ≡ n → 0 < n → sent_unless m s k u done ≡ kept s k u n
unfolding sent_unless
kept_unless s k u done m zero e p = absurd (omega arith)
kept_unless s k u done m (suc n) e p = rw e

-- a call's refusal as a line
pub line_gives : (t : Outcome) (rest : List Line) (n : ℕ) → t.values.refusal ≡ n → 0 < n → first_refusal (line_of t ∷ rest) ≡ n
unfolding line_of first_refusal
line_gives t rest n e p = rw (e, lt-ltb 0 n p)

pub line_none : (t : Outcome) (rest : List Line) → t.values.refusal ≡ 0 → first_refusal (line_of t ∷ rest) ≡ first_refusal rest
unfolding line_of first_refusal
line_none t rest e = rw e

-- a claim that is refused leaves the accounts
claim_refused : (unit : ℕ → ℕ) (s : List ℕ) (k : Accounts) (q : ℕ) (h : Handle) (k₁ : Accounts) (v : Values)
    → record { heap = s; accounts = k₁; values = v } ≡ claim unit s k q h → 0 < v.refusal → k₁ ≡ k
unfolding step
claim_refused unit s k q h k₁ v e p = go v.refusal refl
  where
    go : (n : ℕ) → v.refusal ≡ n → k₁ ≡ k
    go zero z = absurd (omega arith)
    go (suc n) z =
        ap (λ (t : Outcome). t.accounts) e
        ∙ ap (λ (t : Outcome). t.accounts) (refused_changes_nothing unit (Claim q h) s k n (sym (ap (λ (t : Outcome). t.values.refusal) e) ∙ z))

module _ (unit : ℕ → ℕ) (s : List ℕ) (k : Accounts) (u : Queue) (h : Handle) where
  pub send_damaged : PLACES < u.count → kept s k u 53 ≡ send unit s k u h
  unfolding send send_lines line_53 first_refusal
  send_damaged e = sym (kept_unless s k u _ _ 53 (rw (lt-ltb PLACES u.count e)) (omega arith))

  module _ (whole : u.count ≤ PLACES) where
    pub send_full : u.count ≡ PLACES → kept s k u 51 ≡ send unit s k u h
    unfolding send send_lines line_53 line_51 first_refusal
    send_full e = sym (kept_unless s k u _ _ 51 (rw (le-ltb PLACES u.count whole, eq-eqb u.count PLACES e)) (omega arith))

    module _ (room : u.count ≡ PLACES → ⊥) where
      -- the two lines of the queue do not hold
      heap_lines : first_refusal (send_lines unit s k u h)
          ≡ first_refusal (line_of (claim unit s k u.receiver h) ∷ line_of (can_release unit s k u.sender h) ∷ [])
      unfolding send_lines line_53 line_51 first_refusal
      heap_lines = rw (le-ltb PLACES u.count whole, ne_eqb u.count PLACES room)

      pub send_unclaimed : (n : ℕ) → (claim unit s k u.receiver h).values.refusal ≡ n → 0 < n → kept s k u n ≡ send unit s k u h
      unfolding send
      send_unclaimed n e p =
          sym (kept_unless s k u _ _ n
          (heap_lines ∙ line_gives (claim unit s k u.receiver h) (line_of (can_release unit s k u.sender h) ∷ []) n e p) p)

      -- the same of a claim that was made
      pub send_stopped : (k₁ : Accounts) (v : Values) → record { heap = s; accounts = k₁; values = v } ≡ claim unit s k u.receiver h → 0 < v.refusal
          → kept s k₁ u v.refusal ≡ send unit s k u h
      send_stopped k₁ v e p =
          let same = claim_refused unit s k u.receiver h k₁ v e p in
          ap (λ (a : Accounts). kept s a u v.refusal) same ∙ send_unclaimed v.refusal (sym (ap (λ (t : Outcome). t.values.refusal) e)) p

      module _ (claims : (claim unit s k u.receiver h).values.refusal ≡ 0) where
        release_line : first_refusal (send_lines unit s k u h) ≡ first_refusal (line_of (can_release unit s k u.sender h) ∷ [])
        release_line = heap_lines ∙ line_none (claim unit s k u.receiver h) (line_of (can_release unit s k u.sender h) ∷ []) claims

        pub send_unreleased : (n : ℕ) → (can_release unit s k u.sender h).values.refusal ≡ n → 0 < n → kept s k u n ≡ send unit s k u h
        unfolding send
        send_unreleased n e p = sym (kept_unless s k u _ _ n (release_line ∙ line_gives (can_release unit s k u.sender h) [] n e p) p)

        -- a claim and then a release
        abbrev done : Outcome → Sent
        done c =
            let r = release unit c.heap c.accounts u.sender h in
            record { heap = r.heap; accounts = r.accounts; queue = with_handle h u; refusal = 0 }

        send_done : (can_release unit s k u.sender h).values.refusal ≡ 0 → done (claim unit s k u.receiver h) ≡ send unit s k u h
        unfolding send sent_unless first_refusal
        send_done e = rw (release_line ∙ line_none (can_release unit s k u.sender h) [] e)

        pub send_made : (s' : List ℕ) (k₁ k₂ : Accounts) (v₁ v₂ : Values) → record { heap = s; accounts = k₁; values = v₁ } ≡ claim unit s k u.receiver h
            → (can_release unit s k u.sender h).values.refusal ≡ 0 → record { heap = s'; accounts = k₂; values = v₂ } ≡ release unit s k₁ u.sender h
            → record { heap = s'; accounts = k₂; queue = with_handle h u; refusal = 0 } ≡ send unit s k u h
        send_made s' k₁ k₂ v₁ v₂ e c f =
            ap (λ (r : Outcome). record { heap = r.heap; accounts = r.accounts; queue = with_handle h u; refusal = 0 }) f ∙ ap done e ∙ send_done c

-- a claim keeps the edition
pub claim_edition : (s : List ℕ) (k : Accounts) (q : ℕ) (h : Handle) → (claim (table k.edition) s k q h).accounts.edition ≡ k.edition
unfolding step
claim_edition s k q h = (step_keeps (table k.edition) (Claim q h) s k).same_edition

-- a receive
module _ (u : Queue) where
  pub receive_damaged : PLACES < u.count → record { queue = u; refusal = 53; handle = zero_handle } ≡ receive u
  unfolding receive receive_lines line_53 first_refusal received_unless
  receive_damaged e = rw (lt-ltb PLACES u.count e)

  pub receive_empty : u.count ≤ PLACES → u.count ≡ 0 → record { queue = u; refusal = 52; handle = zero_handle } ≡ receive u
  unfolding receive receive_lines line_53 line_52 first_refusal received_unless
  receive_empty e z = rw (le-ltb PLACES u.count e, eq-eqb u.count 0 z)

  pub receive_done : u.count ≤ PLACES → (u.count ≡ 0 → ⊥)
      → record { queue = without_oldest u; refusal = 0; handle = get_or u.handles 0 zero_handle } ≡ receive u
  unfolding receive receive_lines line_53 line_52 first_refusal received_unless
  receive_done e z = rw (le-ltb PLACES u.count e, ne_eqb u.count 0 z)
