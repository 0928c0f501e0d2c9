-- Links without the flags of closed records.
use Rattle.std.proofs.Common.{◌≡◌, ℕ, ◌+◌, ◌%◌, ◌<◌, ◌≤◌, List, length, get_or, set, sym, ap, ◌∙◌, arith, length-set, get_or-set_other, get_or-set_same}
use Rattle.std.proofs.Common.{ext_get_or, le-ltb, lt-ltb}
use lib.ListN.{length-map, get_or-map}
use Rattle.lists.proofs.Bools.{by_eq}
use Rattle.accounts.specs.Accounts.{HOLDS}
use Rattle.survey.specs.Index.{CLOSED, inner, plain}

-- a place in the table, and one behind it
pub inner_place : (n : ℕ) → n < HOLDS → inner n ≡ n
unfolding inner
inner_place n l = rw (lt-ltb n HOLDS l)

pub inner_end : (n : ℕ) → HOLDS ≤ n → inner n ≡ HOLDS
unfolding inner
inner_end n l = rw (le-ltb n HOLDS l)

-- links without flags
pub plain_at : (links : List ℕ) (x : ℕ) → get_or (plain links) x 0 ≡ inner (get_or links x 0 % CLOSED)
unfolding plain inner
plain_at links x = get_or-map (λ v. inner (v % CLOSED)) links x 0

plain_long : (links : List ℕ) → length (plain links) ≡ length links
unfolding plain
plain_long links = length-map links (λ v. inner (v % CLOSED))

pub plain_closed : (links : List ℕ) (p : ℕ) → p < length links → plain (set links p (get_or links p 0 + CLOSED)) ≡ plain links
plain_closed links p l =
    let v = get_or links p 0 + CLOSED in
    let w : v % CLOSED ≡ get_or links p 0 % CLOSED = omega arith in
    ext_get_or 0 (plain (set links p v)) (plain links) (plain_long (set links p v) ∙ length-set links p v ∙ sym (plain_long links))
    (λ x h.
    plain_at (set links p v) x
    ∙ by_eq x p
    (λ e. ap (λ (y : ℕ). inner (get_or (set links p v) y 0 % CLOSED)) e ∙ ap (λ (y : ℕ). inner (y % CLOSED)) (get_or-set_same links p v 0 l) ∙ ap inner w
    ∙ ap (λ (y : ℕ). inner (get_or links y 0 % CLOSED)) (sym e))
    (λ e. ap (λ (y : ℕ). inner (y % CLOSED)) (get_or-set_other links p x v 0 e))
    ∙ sym (plain_at links x))
