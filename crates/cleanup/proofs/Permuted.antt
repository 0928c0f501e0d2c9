-- Clean-up in any order, by one table of units: the inner law of the theorem.
-- A permutation is made of exchanges of neighbours. Two releases that are neighbours may be exchanged, so each such step keeps acceptance, heap bytes and
-- accounts, and exchanges two answers at most. An accepted first release shows that the state is good, and each release keeps it so.
use mathlib.Core.Path.{◌≡◌, refl, ap, sym, subst, ◌∙◌}
use Prim.Native.Nat.{ℕ}
use mathlib.Core.List.Perm
use mathlib.Core.List.Permᴰ
use mathlib.Core.List.{List, [], ◌∷◌, Permᴰ, cons≢nil}
use mathlib.Core.Bool.{true}
use Rattle.accounts.specs.declared.Accounts.{Accounts}
use Rattle.layout.specs.Blocks.{render}
use Rattle.lists.specs.Lists.{all}
use Rattle.model.specs.Calls.{State, state_of, released, release}
use Rattle.cleanup.specs.Releases.{Drop, cleaned, accepted_throughout, Fits, SameCleanup, AnyOrder}
use Rattle.cleanup.proofs.Exchange.{answer, exchanged}
use Rattle.cleanup.proofs.Accepting.{Consistent, after, Accepted, behind, next_consistent, after_first, first_possible, rest_accepted}
use Rattle.cleanup.proofs.Accepting.{begins_consistent, begins_again}

module _ (unit : ℕ → ℕ) where
  -- the claim, of a good state
  abbrev Same : List Drop → List Drop → State → Type 0
  Same ds es t = SameCleanup (release unit) ds es (render t.blocks) t.accounts

  -- a list does as itself
  itself : (ds : List Drop) (t : State) → Accepted unit ds t → Same ds ds t
  itself ds t e = record { accepted = e; heap = refl; accounts = refl; answers = Permᴰ.refl _ }

  -- lists that do the same still do behind a release
  same_behind : (t : State) → Consistent unit t → (d : Drop) (ds es : List Drop) → Accepted unit (d ∷ ds) t
      → ((u : State) → Consistent unit u → Accepted unit ds u → Same ds es u)
      → Same (d ∷ ds) (d ∷ es) t
  unfolding accepted_throughout all
  same_behind t g d ds es e f =
      let r = first_possible unit t g d ds e in
      let s = f (released d.quota r.0 t) (next_consistent unit t g d r.0 r.1) (rest_accepted unit t g d r.0 r.1 ds e) in
      let x = after_first unit t g d r.0 r.1 ds in
      let y = after_first unit t g d r.0 r.1 es in
      record {
        accepted = rw y s.accepted;
        heap = rw (x, y) s.heap;
        accounts = rw (x, y) s.accounts;
        answers = rw (x, y) (Permᴰ.cons refl s.answers);
      }

  -- two neighbours are exchanged
  same_exchanged : (t : State) → Consistent unit t → (d e : Drop) (ds : List Drop) → Accepted unit (d ∷ e ∷ ds) t → Same (d ∷ e ∷ ds) (e ∷ d ∷ ds) t
  unfolding accepted_throughout all
  same_exchanged t g d e ds a =
      let r = first_possible unit t g d (e ∷ ds) a in
      let u = released d.quota r.0 t in
      let gu = next_consistent unit t g d r.0 r.1 in
      let au = rest_accepted unit t g d r.0 r.1 (e ∷ ds) a in
      let q = first_possible unit u gu e ds au in
      let x = exchanged t g.good d e r.0 q.0 r.1 q.1 in
      let v = released e.quota q.0 t in
      let gv = next_consistent unit t g e q.0 x.before in
      let done = after unit ds (released e.quota q.0 u) in
      let one : after unit (d ∷ e ∷ ds) t ≡ behind (answer d.quota r.0 t) (behind (answer e.quota q.0 u) done) =
      after_first unit t g d r.0 r.1 (e ∷ ds) ∙ ap (behind (answer d.quota r.0 t)) (after_first unit u gu e q.0 q.1 ds) in
      let two : after unit (e ∷ d ∷ ds) t ≡ behind (answer e.quota q.0 t) (behind (answer d.quota r.0 v) done) =
      after_first unit t g e q.0 x.before (d ∷ ds) ∙ ap (behind (answer e.quota q.0 t)) (after_first unit v gv d r.0 x.after ds
      ∙ ap (λ (w : State). behind (answer d.quota r.0 v) (after unit ds w)) (sym x.state)) in
      record {
        accepted = rw two (rest_accepted unit u gu e q.0 q.1 ds au);
        heap = rw (one, two);
        accounts = rw (one, two);
        answers = rw (one, two) (x.answers _);
      }

  -- so every permutation does the same
  permuted : {ds es : List Drop} → Permᴰ ds es → (t : State) → Consistent unit t → Accepted unit ds t → Same ds es t
  permuted Permᴰ.nil t g a = itself [] t a
  permuted (Permᴰ.cons {a = d} {l₁ = ds} {l₂ = es} e p) t g a =
      subst (λ (x : Drop). Same (d ∷ ds) (x ∷ es) t) e (same_behind t g d ds es a (permuted p))
  permuted (Permᴰ.swap {a = d} {b = e} {b' = c} {l = ds} x y) t g a =
      subst (λ (z : Drop). Same (d ∷ e ∷ ds) (z ∷ c ∷ ds) t) y (subst (λ (z : Drop). Same (d ∷ e ∷ ds) (e ∷ z ∷ ds) t) x (same_exchanged t g d e ds a))
  permuted (Permᴰ.trans p q) t g a =
      let x = permuted p t g a in
      let y = permuted q t g x.accepted in
      record { accepted = y.accepted; heap = y.heap ∙ x.heap; accounts = y.accounts ∙ x.accounts; answers = Permᴰ.trans x.answers y.answers }

  -- a list that is accepted throughout is empty, or begins in a good state
  same_in_any : (ds es : List Drop) → Permᴰ ds es → (s : List ℕ) (k : Accounts) → Fits s k
      → accepted_throughout (cleaned (release unit) ds s k).answers ≡ true
      → SameCleanup (release unit) ds es s k
  unfolding cleaned accepted_throughout all
  same_in_any [] [] p s k f a = record { accepted = refl; heap = refl; accounts = refl; answers = Permᴰ.nil }
  same_in_any [] (e ∷ es) p s k f a = absurd (cons≢nil (sym (Perm.nil-eq ∣ p ∣₁)))
  same_in_any (d ∷ ds) es p s k f a =
      let same = begins_again unit d ds s k f a in
      subst (λ (x : List ℕ). SameCleanup (release unit) (d ∷ ds) es x k) same (permuted p (state_of s k) (begins_consistent unit d ds s k f a) (rw same a))

  -- so of a list whose releases all go by one table
  pub any_order_by : AnyOrder (release unit)
  any_order_by = record { always = same_in_any }
