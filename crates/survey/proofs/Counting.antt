-- Of how many elements a test holds, counted from the first one on.
use Rattle.std.proofs.Common.{◌≡◌, ℕ, suc, ◌+◌, ◌<◌, ◌≤◌, Bool, true, false, List, length, get_or, drop, refl, add-one, arith, drop-cons}
use lib.Seq.{drop-length}
use Rattle.lists.specs.Lists.{total}
use Rattle.survey.specs.Shares.{one_if, how_many}

module _ {A : Type 0} (p : A → Bool) (xs : List A) (d : A) where
  -- the elements before place i were counted
  pub record Counted (i count : ℕ) : Type 0 where
    pub few : count ≤ i
    pub inside : i ≤ length xs
    pub rest : count + how_many p (drop i xs) ≡ how_many p xs

  pub counted_start : Counted 0 0
  counted_start = record { few = omega arith; inside = omega arith; rest = omega arith }

  one_small : (t : Bool) → one_if t ≤ 1
  one_small true = omega arith
  one_small false = omega arith

  module _ {i count : ℕ} (c : Counted i count) where
    -- the next one is counted
    pub counted_next : i < length xs → (n : ℕ) → n ≡ one_if (p (get_or xs i d)) → Counted (i + 1) (count + n)
    unfolding how_many total
    counted_next l n e =
        let s = one_small (p (get_or xs i d)) in
        let k : how_many p (drop i xs) ≡ one_if (p (get_or xs i d)) + how_many p (drop (suc i) xs) = rw (drop-cons xs i d l) refl in
        record {
          few = omega (arith, c.few, e, s);
          inside = omega arith;
          rest = rw (add-one i) (omega (arith, c.rest, k, e));
        }

    -- all were
    pub counted_all : length xs ≤ i → count ≡ how_many p xs
    unfolding how_many total
    counted_all l =
        let q : i ≡ length xs = omega (arith, c.inside) in
        let k : how_many p (drop i xs) ≡ 0 = rw (q, drop-length) refl in
        omega (arith, c.rest, k)
