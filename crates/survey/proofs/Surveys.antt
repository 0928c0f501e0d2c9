-- The survey by its parts: one that refuses, another quota's record, and the block with room.
use Rattle.std.specs.Prelude.{Option, Some, None, Err, is_some}
use Rattle.std.proofs.Common.{◌≡◌, ℕ, zero, suc, ◌+◌, ◌%◌, ◌<◌, ◌≤◌, Bool, true, false, cond, ◌&&◌, ◌||◌, eqb, leb, List, [], ◌∷◌, length, get_or, sym}
use Rattle.std.proofs.Common.{refl, ap, ◌∙◌, arith, le-ltb, eq-eqb, ne_eqb, leb-true}
use Rattle.rounding.specs.Rounding.{table}
use Rattle.accounts.specs.declared.Accounts.{Accounts}
use Rattle.accounts.specs.declared.Hold.{Hold}
use Rattle.accounts.specs.Accounts.{zero_hold, first_from}
use Rattle.accounts.proofs.Laws.{found_first, nothing_none}
use Rattle.layout.specs.Blocks.{greatest_heap}
use Rattle.lists.specs.Lists.{any, first}
use Rattle.model.specs.Consistent.{allowed}
use Rattle.lists.proofs.Bools.{and_left, and_right, by_eq}
use Rattle.model.specs.Answers.{verdict_values}
use Rattle.model.specs.Calls.{check}
use Rattle.model.specs.declared.Refusal.{Refusal}
use Rattle.lookup.specs.Walk.{has_room, met, fitted, find_fit}
use Rattle.lookup.proofs.Fits.{fit_zero, fit_first}
use Rattle.survey.specs.declared.Wanted.{Wanted}
use Rattle.survey.specs.Survey.{fit_place, Survey}
use Rattle.survey.specs.Route.{Seeking}
use Rattle.survey.proofs.Routes.{seeking_end}

-- a survey that refuses knows nothing
pub refuses : {s : List ℕ} {k : Accounts} {w : Wanted} {r : Refusal} → verdict_values (Err r) ≡ (check (table k.edition) s k).values → Survey s k w (Err r)
refuses t = record { told = t; known = λ x e. (let no : ◌≡◌ {A = ℕ} 0 1 = cc in absurd (omega arith)) }

-- the lengths that a heap may have
pub allowed_range : (n : ℕ) → allowed n ≡ true → (64 ≤ n) × (n ≤ greatest_heap)
unfolding allowed
allowed_range n e =
    let w = and_right (eqb (n % 8) 0) (leb 64 n && leb n greatest_heap) e in
    (leb-true 64 n (and_left (leb 64 n) (leb n greatest_heap) w), leb-true n greatest_heap (and_right (leb 64 n) (leb n greatest_heap) w))

-- some record passes a test, or none
any_at : (p : Hold → Bool) (hs : List Hold) (i : ℕ) → i < length hs → p (get_or hs i zero_hold) ≡ true → any p hs ≡ true
unfolding any
any_at p [] i l e = absurd (omega arith)
any_at p (h ∷ hs) zero l e = rw e
any_at p (h ∷ hs) (suc i) l e = rw (any_at p hs i (omega arith) e) (go (p h))
  where
    go : (x : Bool) → (x || true) ≡ true
    go true = refl
    go false = refl

any_none : (p : Hold → Bool) (hs : List Hold) → ((j : ℕ) → j < length hs → p (get_or hs j zero_hold) ≡ false) → any p hs ≡ false
unfolding any
any_none p [] f = refl
any_none p (h ∷ hs) f = rw (f 0 (omega arith)) (any_none p hs (λ j l. f (suc j) (omega arith)))

pub known_any : (p : Hold → Bool) (hs : List Hold) (o : Option ℕ) → o ≡ first_from p 0 hs → is_some o ≡ any p hs
known_any p hs None e = sym (any_none p hs (nothing_none p hs (sym e)))
known_any p hs (Some n) e = let f = found_first p hs n (sym e) in sym (any_at p hs n f.within f.passes)

-- the block with room, none where the alignment is 0
pub fit_known : (unit need : ℕ) (s : List ℕ) {a n at fit left fit' : ℕ} → ((unit ≡ 0 → ⊥) → a ≡ unit) → ((unit ≡ 0 → ⊥) → n ≡ need) → Seeking a n s at fit left
    → length s < at + 8
    → fit' ≡ cond (eqb unit 0) (length s) fit → fitted unit (fit_place fit' s) ≡ find_fit unit need s
unfolding fit_place
fit_known unit need s {fit = fit} {fit' = fit'} x y g l e =
    by_eq unit 0
    (λ z.
    let f : fit' ≡ length s = e ∙ rw (eq-eqb unit 0 z) in
    ap (λ (k : ℕ). fitted unit (fit_place k s)) f ∙ rw (le-ltb (length s) (length s) (omega arith)) (sym (fit_zero unit need s z)))
    (λ z.
    let f : fit' ≡ fit = e ∙ rw (ne_eqb unit 0 z) in
    let k : first (has_room unit need) (met s) ≡ fit_place fit s = rw (x z, y z) at (seeking_end g l) in
    ap (λ (j : ℕ). fitted unit (fit_place j s)) f ∙ ap (fitted unit) (sym k) ∙ sym (fit_first unit need s (omega (arith, z))))
