-- Objects in their units, of any table: block by block, a block in front adding its own test; and the tests of one object by its block's size and end.
use Rattle.std.specs.Prelude.{Option, Some, None}
use Prim.Native.Nat.{ℕ, ◌+◌, ◌*◌, ◌-◌, ◌/◌, ◌%◌, ◌≤◌}
use native.Mathlib.Nat.{div-add-mod', add-mul-mod_self_right}
use native.Mathlib.Omega.{arith}
use mathlib.Core.Path.{◌≡◌, refl, ap, sym, ◌∙◌}
use mathlib.Core.Bool.{Bool, true, false, ◌&&◌, and_assoc}
use mathlib.Core.List.{List, []}
use borrow.Author.Tests.{le-leb, eq-eqb, ne_eqb}
use lib.Dec.{eqb, leb}
use lib.ListN.{length}
use Rattle.accounts.specs.declared.Accounts.{Accounts}
use Rattle.accounts.specs.Accounts.{permissions, permissible}
use Rattle.layout.specs.Blocks.{Block, size, QUARANTINED, in_front, parse}
use Rattle.lists.specs.Lists.{all, or_else}
use Rattle.model.specs.Objects.{objects_from, objects, blocks_of, objects_of}
use Rattle.model.specs.Consistent.{fits_unit, in_units, in_kind, in_range, accounted_blocks, accounted_parsed, accounted, consistent}
use Rattle.lists.proofs.Bools.{and_no, by_eq}
use Rattle.audit.specs.Fitting.{fits_block, fitting}

-- a block's size is its object's length and the header; behind the header is the object's base
own_length : (b : Block) → size b - 8 ≡ length b.body
own_length b = omega arith

own_base : (at : ℕ) (b : Block) → at + size b - length b.body ≡ at + 8
own_base at b = omega arith

-- the parts of a test in another order
swapped : (a d e : Bool) → (a && (e && d)) ≡ (e && (a && d))
swapped true d e = refl
swapped false d true = refl
swapped false d false = refl

pub fitting_front : (unit : ℕ → ℕ) (kind at : ℕ) (b : Block) (rest : Option (List Block))
    → fitting unit kind at (in_front b rest) ≡ (fits_block unit kind b.serial (size b) (at + size b) && fitting unit kind (at + size b) rest)
unfolding fitting in_front fits_block all in_units in_kind objects_from
fitting_front unit kind at b None = sym (and_no (fits_block unit kind b.serial (size b) (at + size b)) false refl)
fitting_front unit kind at b (Some bs) =
    by_eq b.serial 0
    (λ z. rw z)
    (λ z.
    by_eq b.serial QUARANTINED
    (λ y. rw y (swapped (all (in_units unit) (objects_from (at + size b) bs)) (all (in_kind kind) bs) (eqb kind 1)))
    (λ y.
    rw (ne_eqb b.serial 0 z, ne_eqb b.serial QUARANTINED y, own_length b, own_base at b)
    (and_assoc (fits_unit unit (at + 8) (length b.body)) (all (in_units unit) (objects_from (at + size b) bs)) (all (in_kind kind) bs))))

-- the test of a heap and its permissions, where the numbers of the accounts are in range, is `accounted` with that
pub fitting_consistent : (unit : ℕ → ℕ) (s : List ℕ) (k : Accounts) → in_range k ≡ true
    → (accounted s k && (fitting unit k.kind 0 (parse s) && all permissible (permissions k))) ≡ consistent unit s k
unfolding consistent accounted accounted_parsed fitting objects_of objects blocks_of or_else
fitting_consistent unit s k e = rw e (go (parse s))
  where
    whole : (a d p : Bool) → ((a && d) && p) ≡ (a && (p && (d && true)))
    whole true true true = refl
    whole true true false = refl
    whole true false true = refl
    whole true false false = refl
    whole false d p = refl

    go : (o : Option (List Block)) → (accounted_parsed o k && (fitting unit k.kind 0 o && all permissible (permissions k)))
        ≡ (accounted_parsed o k
        && (all (in_units unit) (objects_from 0 (or_else [] o)) && (all permissible (permissions k) && (all (in_kind k.kind) (or_else [] o) && true))))
    go None = refl
    go (Some bs) =
        ap (λ (x : Bool). accounted_blocks bs k && x)
        (whole (all (in_units unit) (objects_from 0 bs)) (all (in_kind k.kind) bs) (all permissible (permissions k)))

-- where they are not, it is not consistent
pub unranged : (unit : ℕ → ℕ) (s : List ℕ) (k : Accounts) → in_range k ≡ false → consistent unit s k ≡ false
unfolding consistent
unranged unit s k e =
    rw e
    (and_no (accounted s k) _
    (and_no (all (in_units unit) (objects_of s)) _ (and_no (all permissible (permissions k)) _ (and_no (all (in_kind k.kind) (blocks_of s)) false refl))))

-- where a length is a multiple of the unit, the base is one exactly if the end is
same_remainder : (u end length : ℕ) → length ≤ end → length % u ≡ 0 → end % u ≡ (end - length) % u
same_remainder u end length i m =
    let l : length / u * u ≡ length = omega (arith, div-add-mod' length u) in
    let e : end ≡ end - length + length / u * u = omega arith in
    ap (λ (x : ℕ). x % u) e ∙ add-mul-mod_self_right (end - length) (length / u) u

-- the tests of a live block's object: of one whose length is no multiple of its unit
pub length_unfit : (unit : ℕ → ℕ) (size end : ℕ) → ((size - 8) % unit (size - 8) ≡ 0 → ⊥)
    → (leb 16 size && fits_unit unit (end - (size - 8)) (size - 8)) ≡ false
length_unfit unit size end m = and_no (leb 16 size) (fits_unit unit (end - (size - 8)) (size - 8)) (rw (ne_eqb ((size - 8) % unit (size - 8)) 0 m))

-- and of one whose length has the unit u
module _ (unit : ℕ → ℕ) (size end u : ℕ) (i : size ≤ end) (own : u ≡ unit (size - 8)) where
  -- multiples of 8 fit unit 8
  pub fits_eights : 16 ≤ size → u ≡ 8 → size % 8 ≡ 0 → end % 8 ≡ 0 → (leb 16 size && fits_unit unit (end - (size - 8)) (size - 8)) ≡ true
  fits_eights l e m n =
      rw (le-leb 16 size l, ← own, e, eq-eqb ((size - 8) % 8) 0 (omega arith), eq-eqb ((end - (size - 8)) % 8) 0 (omega arith))

  pub base_fits : 16 ≤ size → (size - 8) % u ≡ 0 → (leb 16 size && fits_unit unit (end - (size - 8)) (size - 8)) ≡ eqb (end % u) 0
  base_fits l m = rw (le-leb 16 size l, ← own, eq-eqb ((size - 8) % u) 0 m, same_remainder u end (size - 8) (omega arith) m)
