-- A send with a handle that names nothing is refused and changes nothing: by a line of the queue, else as the claim for
-- the receiver is. `stale_forever` (safety) says when a handle names nothing.
use Prim.Native.Nat.{ℕ, ◌≤◌, ◌<◌}
use native.Mathlib.Omega.{arith}
use mathlib.Core.Path.{◌≡◌, refl, ap, sym}
use mathlib.Core.List.{List, [], ◌∷◌, ◌++◌}
use mathlib.Core.Bool.{Bool, true, false}
use lib.Dec.{ltb, eqb}
use borrow.Author.Tests.{ltb-true, ltb-false, eqb-true, eqb-false}
use Rattle.accounts.specs.declared.Accounts.{Accounts}
use Rattle.model.specs.Refusals.{Line, ◌when◌, first_refusal, line_3, line_12}
use Rattle.model.specs.Calls.{Outcome}
use Rattle.model.specs.Step.{step}
use Rattle.model.specs.declared.Handle.{Handle}
use Rattle.model.specs.declared.Call.TheVariants.{Claim}
use Rattle.ledger.specs.History.{by_own}
use Rattle.safety.specs.Stale.{lines_before_5, stale_refusal, NamesNothing}
use Rattle.queue.specs.declared.Queue.{Queue}
use Rattle.queue.specs.Queue.{PLACES, line_53, line_51, send}
use Rattle.queue.specs.Stale.{stale_send_refusal}
use Rattle.queue.proofs.Sending.{kept, send_damaged, send_full, send_unclaimed}

-- lines of which the last holds and none has the number 0 give some refusal
positive : (a b : Bool) → 0 < first_refusal ((3 when a) ∷ (12 when b) ∷ (5 when true) ∷ [])
unfolding first_refusal
positive true b = omega arith
positive false true = omega arith
positive false false = omega arith

module _ (tables : ℕ → ℕ → ℕ) (s : List ℕ) (k : Accounts) (h : Handle)
    (nothing : NamesNothing (by_own tables) s k h) where
  -- what the claim that such a send asks for is refused by
  claim_positive : (q : ℕ) → 0 < stale_refusal (Claim q h) k
  unfolding stale_refusal lines_before_5 line_3 line_12
  claim_positive q = positive _ _

  module _ (u : Queue) where
    abbrev Refused : ℕ → Type 0
    Refused n = send (tables k.edition) s k u h ≡ kept s k u n

    abbrev rest : List Line
    rest = lines_before_5 (Claim u.receiver h) k ++ ((5 when true) ∷ [])

    module _ (whole : u.count ≤ PLACES) where
      unclaimed : (u.count ≡ PLACES → ⊥) → Refused (stale_refusal (Claim u.receiver h) k)
      unfolding step
      unclaimed room =
          let r = ap (λ (t : Outcome). t.values.refusal) (nothing.refuses (Claim u.receiver h) refl) in
          sym (send_unclaimed (tables k.edition) s k u h whole room _ r (claim_positive u.receiver))

      full : (b : Bool) → eqb u.count PLACES ≡ b → Refused (first_refusal ((51 when b) ∷ rest))
      unfolding first_refusal stale_refusal
      full true e = sym (send_full (tables k.edition) s k u h whole (eqb-true u.count PLACES e))
      full false e = unclaimed (eqb-false u.count PLACES e)

    damaged : (b : Bool) → ltb PLACES u.count ≡ b
        → Refused (first_refusal ((53 when b) ∷ (51 when eqb u.count PLACES) ∷ rest))
    unfolding first_refusal
    damaged true d = sym (send_damaged (tables k.edition) s k u h (ltb-true PLACES u.count d))
    damaged false d = full (omega (arith, ltb-false PLACES u.count d)) (eqb u.count PLACES) refl

    -- THE LAW
    pub stale_send : send (tables k.edition) s k u h
        ≡ record { heap = s; accounts = k; queue = u; refusal = stale_send_refusal u h k }
    unfolding stale_send_refusal line_53 line_51
    stale_send = damaged (ltb PLACES u.count) refl
