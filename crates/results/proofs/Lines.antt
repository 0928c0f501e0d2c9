-- The refusal of a call by its lines, from what the check has answered: every call but open begins with the check's two lines.
use Rattle.std.specs.Prelude.{Result, Ok, Err}
use Prim.Native.Nat.{ℕ, zero, suc, ◌/◌, ◌%◌, ◌≤◌, ◌<◌}
use native.Mathlib.Nat.{not-suc-le-zero}
use native.Mathlib.Omega.{arith}
use mathlib.Core.Path.{◌≡◌, refl, ap, sym, ◌∙◌}
use mathlib.Core.List.{List, [], ◌∷◌}
use mathlib.Core.Bool.{Bool, true, false, not, ◌||◌}
use lib.ListN.{length}
use lib.Dec.{leb}
use borrow.Author.Tests.{leb-true, le-leb, lt-leb, eq-eqb, not-false}
use Rattle.accounts.specs.declared.Accounts.{Accounts}
use Rattle.accounts.specs.Accounts.{QUOTAS, quota_at, permits}
use Rattle.model.specs.Answers.{Values, refused, refusal_number, verdict_values}
use Rattle.model.specs.Refusals.{Line, ◌when◌, first_refusal, line_1, line_2, line_3, line_12, check_lines, row_lines}
use Rattle.lists.specs.Lists.{all, any}
use Rattle.model.specs.Consistent.{allowed, accounted, consistent}
use Rattle.model.specs.Calls.{Outcome, unless, unchanged, check}
use Rattle.model.specs.declared.Refusal.{Refusal}
use Rattle.lists.proofs.Bools.{and_left, and_right, or_neither}
use Rattle.model.proofs.Answers.{refusal_number_is}
use Rattle.model.proofs.Consistent.{consistent_accounted}
use Rattle.model.proofs.Refusals.{Numbered, check_by_lines, refusal_of_lines, answers_none, unless_refused}

-- the first two lines decide, or the others do
first_two : (a b : Line) (rest : List Line) (n : ℕ) → first_refusal (a ∷ b ∷ []) ≡ suc n → first_refusal (a ∷ b ∷ rest) ≡ suc n
unfolding first_refusal
first_two (m when true) b rest n e = e
first_two (m when false) (l when true) rest n e = e
first_two (m when false) (l when false) rest n e = absurd (omega arith)

after_two : (a b : Line) (rest : List Line) → Numbered (a ∷ b ∷ []) → first_refusal (a ∷ b ∷ []) ≡ 0 → first_refusal (a ∷ b ∷ rest) ≡ first_refusal rest
unfolding first_refusal all
after_two (m when true) b rest d e = absurd (omega (arith, leb-true 1 m (and_left (leb 1 m) _ d)))
after_two (m when false) (l when true) rest d e = absurd (omega (arith, leb-true 1 l (and_left (leb 1 l) _ (and_right (leb 1 m) _ d))))
after_two (m when false) (l when false) rest d e = refl

-- a refusal's number is not 0
pub number_some : (r : Refusal) → (n : ℕ) × (refusal_number r ≡ suc n)
number_some r = go (refusal_number r) (refusal_number_is r).1
  where
    go : (x : ℕ) → 1 ≤ x → (n : ℕ) × (x ≡ suc n)
    go zero h = absurd (not-suc-le-zero h)
    go (suc n) h = (n, refl)

module _ (unit : ℕ → ℕ) (s : List ℕ) (k : Accounts) (v : Result (Unit {0}) Refusal) (told : verdict_values v ≡ (check unit s k).values) (rest : List Line) where
  checked : (verdict_values v).refusal ≡ first_refusal (check_lines unit s k)
  checked = ap (λ (x : Values). x.refusal) told ∙ refusal_of_lines (check_by_lines unit s k)

  -- what the check refuses is refused, whatever lines follow
  pub check_refuses : (r : Refusal) → v ≡ Err r → first_refusal (line_1 s ∷ line_2 unit s k ∷ rest) ≡ refusal_number r
  unfolding row_lines verdict_values
  check_refuses r e =
      let n = number_some r in
      let f : first_refusal (line_1 s ∷ line_2 unit s k ∷ []) ≡ suc n.0 = sym checked
      ∙ ap (λ (x : Result (Unit {0}) Refusal). (verdict_values x).refusal) e ∙ n.1 in
      first_two (line_1 s) (line_2 unit s k) rest n.0 f ∙ sym n.1

  -- what it accepts goes on to them
  pub check_accepts : v ≡ Ok tt → first_refusal (line_1 s ∷ line_2 unit s k ∷ rest) ≡ first_refusal rest
  unfolding row_lines verdict_values
  check_accepts e =
      after_two (line_1 s) (line_2 unit s k) rest (check_by_lines unit s k).numbered (sym checked
      ∙ ap (λ (x : Result (Unit {0}) Refusal). (verdict_values x).refusal) e)

-- a refused outcome
pub refused_is : (n : ℕ) (s : List ℕ) (k : Accounts) (done : Outcome) (r : Refusal) → n ≡ refusal_number r
    → unchanged s k (refused (refusal_number r)) ≡ unless n s k done
refused_is n s k done r e = let m = number_some r in rw m.1 (sym (unless_refused n m.0 s k done (e ∙ m.1)))

-- an accepted one
pub accepted_is : (n : ℕ) (s : List ℕ) (k : Accounts) (done : Outcome) → n ≡ 0 → done ≡ unless n s k done
unfolding unless
accepted_is n s k done e = rw e

-- a line that holds is given, and one that does not leads on to the next
pub line_refuses : (n : ℕ) (t : Bool) (rest : List Line) → t ≡ true → first_refusal ((n when t) ∷ rest) ≡ n
unfolding first_refusal
line_refuses n t rest e = rw e

pub line_passes : (n : ℕ) (t : Bool) (rest : List Line) → t ≡ false → first_refusal ((n when t) ∷ rest) ≡ first_refusal rest
unfolding first_refusal
line_passes n t rest e = rw e

-- 3: the quota's number
pub line_3_refuses : (q : ℕ) (rest : List Line) → QUOTAS ≤ q → first_refusal (line_3 q ∷ rest) ≡ 3
unfolding line_3
line_3_refuses q rest h = line_refuses 3 (leb QUOTAS q) rest (le-leb QUOTAS q h)

pub line_3_passes : (q : ℕ) (rest : List Line) → q < QUOTAS → first_refusal (line_3 q ∷ rest) ≡ first_refusal rest
unfolding line_3
line_3_passes q rest h = line_passes 3 (leb QUOTAS q) rest (lt-leb QUOTAS q h)

-- a state that the check accepts has an allowed length and is consistent
pub check_accounted : (unit : ℕ → ℕ) (s : List ℕ) (k : Accounts) (v : Result (Unit {0}) Refusal) → verdict_values v ≡ (check unit s k).values → v ≡ Ok tt
    → (allowed (length s) ≡ true) × (accounted s k ≡ true) × (consistent unit s k ≡ true)
unfolding row_lines line_1 line_2 any verdict_values
check_accounted unit s k v told e =
    let z : (check unit s k).values.refusal ≡ 0 = sym (ap (λ (x : Values). x.refusal) told)
    ∙ ap (λ (x : Result (Unit {0}) Refusal). (verdict_values x).refusal) e in
    let n = (answers_none (check_by_lines unit s k)).0 z in
    let p = or_neither (not (allowed (length s))) (not (consistent unit s k) || false) n in
    let q = or_neither (not (consistent unit s k)) false p.1 in
    let f = not-false (consistent unit s k) q.0 in
    (not-false (allowed (length s)) p.0, consistent_accounted unit s k f, f)

-- 12: the permission, by the bit of the quota's number
pub line_12_refuses : (bit q : ℕ) (k : Accounts) (rest : List Line) → (quota_at q k).permissions / bit % 2 ≡ 0 → first_refusal (line_12 bit k q ∷ rest) ≡ 12
unfolding line_12 permits
line_12_refuses bit q k rest e = line_refuses 12 (not (permits bit q k)) rest (rw e)

pub line_12_passes : (bit q : ℕ) (k : Accounts) (rest : List Line) → permits bit q k ≡ true → first_refusal (line_12 bit k q ∷ rest) ≡ first_refusal rest
unfolding line_12
line_12_passes bit q k rest e = line_passes 12 (not (permits bit q k)) rest (rw e)

-- a bit that is not 0 is 1
pub permitted : (bit q : ℕ) (k : Accounts) → ((quota_at q k).permissions / bit % 2 ≡ 0 → ⊥) → permits bit q k ≡ true
unfolding permits
permitted bit q k e = eq-eqb ((quota_at q k).permissions / bit % 2) 1 (omega (arith, e))
