-- A list of releases on a good state: the first one and the others behind it, accepted exactly where each is possible in turn.
use mathlib.Core.Path.{◌≡◌, ap, subst}
use Prim.Native.Nat.{ℕ}
use mathlib.Core.List.{List, ◌∷◌}
use mathlib.Core.Bool.{true}
use borrow.Author.Tests.{eqb-true}
use Rattle.accounts.specs.declared.Accounts.{Accounts}
use Rattle.layout.specs.Blocks.{Block, render}
use Rattle.lists.specs.Lists.{all}
use Rattle.model.specs.Objects.{blocks_of}
use Rattle.model.specs.Calls.{Outcome, State, state_of, released, release}
use Rattle.model.specs.declared.Handle.{Handle}
use Rattle.lists.proofs.Bools.{and_left}
use Rattle.invariant.proofs.Good.{Good}
use Rattle.invariant.proofs.Heaps.{good_heap, heap_again}
use Rattle.invariant.proofs.Releasing.{Possible, Fitting, possible_good, possible_fitting, does, did, did_good, did_fitting, did_accounted}
use Rattle.cleanup.specs.Releases.{Drop, Answered, Cleaned, cleaned, accepted_throughout, Fits}
use Rattle.cleanup.proofs.Exchange.{answer}

-- what stands in front of a clean-up
abbrev pub behind : Answered → Cleaned → Cleaned
behind a c = record { heap = c.heap; accounts = c.accounts; answers = a ∷ c.answers }

module _ (unit : ℕ → ℕ) where
  -- a good state whose objects fit their units, with permissions that are such
  pub record Consistent (t : State) : Type 0 where
    pub good : Good t
    pub fitting : Fitting unit t

  -- a list of releases on such a state
  abbrev pub after : List Drop → State → Cleaned
  after ds t = cleaned (release unit) ds (render t.blocks) t.accounts

  abbrev pub Accepted : List Drop → State → Type 0
  Accepted ds t = accepted_throughout (after ds t).answers ≡ true

  module _ (t : State) (g : Consistent t) (d : Drop) (o : Handle) (p : Possible d.quota d.handle o t) where
    -- a release that is possible leaves such a state
    pub next_consistent : Consistent (released d.quota o t)
    next_consistent =
        record {
          good = possible_good d.quota d.handle o t g.good p;
          fitting = possible_fitting d.quota d.handle o t g.good p unit g.fitting;
        }

    -- and is the first of a list, with the others behind it
    pub after_first : (ds : List Drop) → after (d ∷ ds) t ≡ behind (answer d.quota o t) (after ds (released d.quota o t))
    unfolding cleaned
    after_first ds =
        ap (λ (r : Outcome). behind (record { quota = d.quota; values = r.values }) (cleaned (release unit) ds r.heap r.accounts))
        (does d.quota d.handle o t g.good p unit g.fitting)

    -- the others are accepted throughout
    pub rest_accepted : (ds : List Drop) → Accepted (d ∷ ds) t → Accepted ds (released d.quota o t)
    unfolding accepted_throughout all
    rest_accepted ds e = rw (after_first ds) at e

    -- and if they are, so is the list
    pub first_accepted : (ds : List Drop) → Accepted ds (released d.quota o t) → Accepted (d ∷ ds) t
    unfolding accepted_throughout all
    first_accepted ds e = rw (after_first ds) e

  -- the first of a list that is accepted throughout is possible
  pub first_possible : (t : State) → Consistent t → (d : Drop) (ds : List Drop) → Accepted (d ∷ ds) t → (o : Handle) × Possible d.quota d.handle o t
  unfolding cleaned accepted_throughout all
  first_possible t g d ds e =
      let r = did unit (render t.blocks) t.accounts d.quota d.handle (eqb-true _ 0 (and_left _ _ e)) in
      let here : List Block → Type 0 = λ bs. Possible d.quota d.handle r.0 (record { blocks = bs; accounts = t.accounts }) in
      (r.0, subst here (good_heap t g.good).blocks r.1)

  -- and begins in such a state, whose heap is the one that it began with
  module _ (d : Drop) (ds : List Drop) (s : List ℕ) (k : Accounts) (f : Fits s k)
      (e : accepted_throughout (cleaned (release unit) (d ∷ ds) s k).answers ≡ true) where
    taken : (release unit s k d.quota d.handle).values.refusal ≡ 0
    unfolding cleaned accepted_throughout all
    taken = eqb-true _ 0 (and_left _ _ e)

    pub begins_consistent : Consistent (state_of s k)
    begins_consistent =
        record {
          good = did_good unit s k d.quota d.handle taken f.octets f.quotas f.narrow;
          fitting = did_fitting unit s k d.quota d.handle taken;
        }

    pub begins_again : render (blocks_of s) ≡ s
    begins_again = heap_again s k f.octets (did_accounted unit s k d.quota d.handle taken)
