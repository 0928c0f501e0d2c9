-- The numbers of a text, read word by word into an array: those that were read and those of the words that are left are all of them.
use mathlib.Core.Path.{◌≡◌, refl, ap, sym, subst, ◌∙◌}
use mathlib.Core.Bool.{Bool, true, false, not}
use mathlib.Core.List.{List, [], ◌∷◌, ◌++◌, append-nil, append_assoc}
use Prim.Native.Nat.{ℕ, ◌+◌, ◌<◌}
use native.Mathlib.Omega.{arith}
use native.Mathlib.Numerals.{add-one}
use borrow.Author.Tests.{eq-eqb, ne_eqb}
use lib.ListN.{length, take, set, length-append}
use lib.Seq.{length-take-le, take-length, take-suc-set}
use Rattle.std.specs.Prelude.{Some, None, Option}
use Rattle.std.specs.Option.{is_some}
use Rattle.std.specs.Bool.{then_some}
use Rattle.std.specs.Borrow.{Bor}
use Rattle.replay_model.specs.Text.{SPACE, read_number}
use Rattle.replay_model.specs.Lines.{join_number, numbers, words}
use Rattle.replay_text.specs.Clauses.{exactly, parts_left}
use Rattle.replay_text.proofs.Cuts.{split_some}

-- numbers in front of others, if the others are numbers
unfoldable pub prepend : List ℕ → Option (List ℕ) → Option (List ℕ)
prepend xs None = None
prepend xs (Some ns) = Some (xs ++ ns)

prepend_nil : (o : Option (List ℕ)) → o ≡ prepend [] o
unfolding prepend
prepend_nil None = refl
prepend_nil (Some ns) = refl

-- the words ws begin with `count` numbers, which are in the array; the words `rest` are left
pub record Gathering (ws : List (List ℕ)) (values : List ℕ) (count : ℕ) (rest : List (List ℕ)) : Type 0 where
  pub told : numbers ws ≡ prepend (take count values) (numbers rest)

pub gather_start : (ws : List (List ℕ)) (values : List ℕ) → Gathering ws values 0 ws
gather_start ws values = record { told = prepend_nil (numbers ws) }

-- fewer numbers than the array has
pub gather_few : (ws : List (List ℕ)) (values : List ℕ) (count : ℕ) → count < length values → Gathering ws values count []
    → exactly (length values) (numbers ws) ≡ None
unfolding numbers prepend exactly
gather_few ws values count h g =
    let l : length (take count values) ≡ count = length-take-le count values (omega arith) in
    let q : numbers ws ≡ Some (take count values) = g.told ∙ ap Some (append-nil (take count values)) in
    rw (q, ne_eqb (length (take count values)) (length values) (λ e. omega arith))

-- a word that is no number
pub gather_none : (ws rest : List (List ℕ)) (values : List ℕ) (count k : ℕ) (w : List ℕ) → Gathering ws values count (w ∷ rest) → read_number w ≡ None
    → exactly k (numbers ws) ≡ None
unfolding numbers join_number prepend exactly
gather_none ws rest values count k w g e =
    let q : numbers ws ≡ None = g.told ∙ rw e in
    rw q

-- one number more
prepend_more : (xs : List ℕ) (n : ℕ) (o : Option (List ℕ)) → prepend xs (join_number (Some n) o) ≡ prepend (xs ++ (n ∷ [])) o
unfolding join_number prepend
prepend_more xs n None = refl
prepend_more xs n (Some ns) = ap Some (sym (append_assoc xs (n ∷ []) ns))

pub gather_more : (ws rest : List (List ℕ)) (values : List ℕ) (count : ℕ) (w : List ℕ) (n : ℕ) → Gathering ws values count (w ∷ rest)
    → count < length values → read_number w ≡ Some n → Gathering ws (set values count n) (count + 1) rest
unfolding numbers
gather_more ws rest values count w n g h e =
    let t : take (count + 1) (set values count n) ≡ take count values ++ (n ∷ []) = rw add-one (take-suc-set values count n h) in
    record {
      told =
          g.told
          ∙ ap (λ (o : Option ℕ). prepend (take count values) (join_number o (numbers rest))) e
          ∙ prepend_more (take count values) n (numbers rest)
          ∙ ap (λ (xs : List ℕ). prepend xs (numbers rest)) (sym t);
    }

-- more numbers than the array has
too_many : (xs : List ℕ) (o : Option ℕ) (p : Option (List ℕ)) → exactly (length xs) (prepend xs (join_number o p)) ≡ None
unfolding join_number prepend exactly
too_many xs None p = refl
too_many xs (Some n) None = refl
too_many xs (Some n) (Some ns) = rw (ne_eqb (length (xs ++ (n ∷ ns))) (length xs) (λ e. omega (arith, e, length-append xs (n ∷ ns))))

pub gather_full : (ws rest : List (List ℕ)) (values : List ℕ) (w : List ℕ) → Gathering ws values (length values) (w ∷ rest)
    → exactly (length values) (numbers ws) ≡ None
unfolding numbers
gather_full ws rest values w g =
    ap (exactly (length values)) (g.told ∙ ap (λ (xs : List ℕ). prepend xs (join_number (read_number w) (numbers rest))) (take-length values))
    ∙ too_many values (read_number w) (numbers rest)

-- as many numbers as the array has
pub gather_end : (ws : List (List ℕ)) (values : List ℕ) → Gathering ws values (length values) [] → exactly (length values) (numbers ws) ≡ Some values
unfolding numbers prepend exactly
gather_end ws values g =
    let q : numbers ws ≡ Some values = g.told ∙ ap Some (append-nil (take (length values) values) ∙ take-length values) in
    rw (q, eq-eqb (length values) (length values) refl)

-- the array is full: the numbers are those of the text, if nothing is left of it
pub gather_done : (text values : List ℕ) (left : Option (Bor (List ℕ))) (b : Bool) → is_some left ≡ not b
    → Gathering (words text) values (length values) (parts_left SPACE left) → then_some b values ≡ exactly (length values) (numbers (words text))
gather_done text values None true e g = sym (gather_end (words text) values g)
gather_done text values None false e g = let z : ◌≡◌ {A = ℕ} 0 1 = cc in absurd (omega arith)
gather_done text values (Some rest) true e g = let z : ◌≡◌ {A = ℕ} 0 1 = cc in absurd (omega arith)
gather_done text values (Some rest) false e g =
    let x = split_some SPACE rest.now in
    sym (gather_full (words text) x.1 values x.0 (subst (Gathering (words text) values (length values)) x.2 g))
