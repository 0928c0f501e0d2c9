-- What the lookup in a state that the check has accepted decides: a handle that names no live object is refused, and another's block is known,
-- with its object inside the heap.
use Rattle.model.specs.declared.Refusal.{Refusal}
use Rattle.std.specs.Prelude.{Option, Some, None, Result, Ok}
use Prim.Native.Nat.{ℕ, ◌+◌, ◌%◌, ◌≤◌, ◌<◌}
use native.Mathlib.Omega.{arith}
use mathlib.Core.Path.{◌≡◌, ap, ◌∙◌}
use mathlib.Core.List.{List, [], ◌∷◌}
use mathlib.Core.Bool.{true, false, not}
use lib.ListN.{length}
use lib.Dec.{leb, eqb}
use borrow.Author.Tests.{leb-true}
use Rattle.accounts.specs.declared.Accounts.{Accounts}
use Rattle.accounts.specs.Accounts.{QUOTAS, is_for, find_hold}
use Rattle.layout.specs.Blocks.{size, total_size, parse}
use Rattle.layout.proofs.Render.{size_append}
use Rattle.lookup.specs.declared.Met.{Met}
use Rattle.lookup.specs.Walk.{object_met, find_object}
use Rattle.lookup.proofs.Parsed.{total_parsed}
use Rattle.lookup.proofs.Named.{lookup_found, lookup_missing}
use Rattle.model.specs.Answers.{verdict_values}
use Rattle.lists.specs.Lists.{is_none, or_else}
use Rattle.model.specs.Objects.{blocks_of, lookup, found}
use Rattle.model.specs.Consistent.{allowed, has_record}
use Rattle.model.specs.Refusals.{Line, first_refusal, line_1, line_2, line_3, line_5, line_6, release_lines, row_lines}
use Rattle.model.specs.Calls.{check}
use Rattle.model.specs.declared.Handle.{Handle}
use Rattle.lists.proofs.Bools.{and_right}
use Rattle.model.proofs.Consistent.{accounted_cut}
use Rattle.results.proofs.Lines.{check_accepts, check_accounted, line_refuses, line_passes, line_3_passes}
use Rattle.results.proofs.Records.{found_some, nothing_some}

-- a quota's number as a byte
pub byte_quota : (q : ℕ) → q < QUOTAS → q % 256 ≡ q
byte_quota q h = omega arith

-- 5: the handle
pub line_5_refuses : (o : Option Handle) (rest : List Line) → o ≡ None → first_refusal (line_5 o ∷ rest) ≡ 5
unfolding line_5 is_none
line_5_refuses o rest e = line_refuses 5 (is_none o) rest (rw e)

pub line_5_passes : (o : Option Handle) (p : Handle) (rest : List Line) → o ≡ Some p → first_refusal (line_5 o ∷ rest) ≡ first_refusal rest
unfolding line_5 is_none
line_5_passes o p rest e = line_passes 5 (is_none o) rest (rw e)

-- the handle names the object of the block m, which lies in the heap
pub record Located (s : List ℕ) (h : Handle) (m : Met) : Type 0 where
  pub named : lookup h s ≡ Some (object_met m)
  pub object : found (lookup h s) ≡ object_met m
  pub header : 8 ≤ m.size
  pub end : m.at + m.size ≤ 32768

module _ (unit : ℕ → ℕ) (s : List ℕ) (k : Accounts) (v : Result (Unit {0}) Refusal) (told : verdict_values v ≡ (check unit s k).values)
    (accepts : v ≡ Ok tt) where
  cut : parse s ≡ Some (blocks_of s)
  cut = (accounted_cut s k (check_accounted unit s k v told accepts).1).0

  short : length s ≤ 32768
  unfolding allowed
  short =
      let e = (check_accounted unit s k v told accepts).0 in
      leb-true (length s) 32768 (and_right (leb 64 (length s)) _ (and_right (eqb (length s % 8) 0) _ e))

  -- what the walk finds is the block of the object that the handle names, and where it finds none, the handle names none
  pub located : (h : Handle) (m : Met) → find_object h s ≡ Some m → Located s h m
  unfolding found or_else total_size
  located h m e =
      let n = lookup_found s (blocks_of s) cut h m e in
      let w = n.stands in
      let l : total_size (blocks_of s) ≡ total_size w.front + (size w.block + total_size w.behind) = ap total_size w.split
      ∙ size_append w.front (w.block ∷ w.behind) in
      let t = total_parsed s (blocks_of s) cut in
      let b = short in
      let place = w.place in
      let sized = w.sized in
      record { named = n.named; object = rw n.named; header = omega arith; end = omega arith }

  pub unnamed : (h : Handle) → find_object h s ≡ None → lookup h s ≡ None
  unnamed h e = lookup_missing s (blocks_of s) cut h e

  -- lines 1, 2, 3 and 5 do not hold
  pub quota_passes : (q : ℕ) (rest : List Line) → q < QUOTAS → first_refusal (line_1 s ∷ line_2 unit s k ∷ line_3 q ∷ rest) ≡ first_refusal rest
  quota_passes q rest l = check_accepts unit s k v told (line_3 q ∷ rest) accepts ∙ line_3_passes q rest l

  pub quota_missing : (q : ℕ) (h : Handle) (rest : List Line) → q < QUOTAS → find_object h s ≡ None
      → first_refusal (line_1 s ∷ line_2 unit s k ∷ line_3 q ∷ line_5 (lookup h s) ∷ rest) ≡ 5
  quota_missing q h rest l e = quota_passes q (line_5 (lookup h s) ∷ rest) l ∙ line_5_refuses (lookup h s) rest (unnamed h e)

  pub quota_found : (q : ℕ) (h : Handle) (m : Met) (rest : List Line) → q < QUOTAS → find_object h s ≡ Some m
      → first_refusal (line_1 s ∷ line_2 unit s k ∷ line_3 q ∷ line_5 (lookup h s) ∷ rest) ≡ first_refusal rest
  quota_found q h m rest l e =
      quota_passes q (line_5 (lookup h s) ∷ rest) l ∙ line_5_passes (lookup h s) (object_met m) rest (located h m e).named

-- a quota has a record exactly if the search for one finds its place
module _ (k : Accounts) (serial q : ℕ) (holds : q < QUOTAS) where
  pub record_found : (i : ℕ) → find_hold serial (q % 256) k ≡ Some i → has_record k.holds q serial ≡ true
  unfolding find_hold has_record
  record_found i e = found_some (is_for serial q) k.holds i (rw (byte_quota q holds) at e)

  pub record_missing : find_hold serial (q % 256) k ≡ None → has_record k.holds q serial ≡ false
  unfolding find_hold has_record
  record_missing e = nothing_some (is_for serial q) k.holds 0 (rw (byte_quota q holds) at e)

-- what release and can release are refused with
module _ (unit : ℕ → ℕ) (s : List ℕ) (k : Accounts) (v : Result (Unit {0}) Refusal) (told : verdict_values v ≡ (check unit s k).values) (accepts : v ≡ Ok tt)
    (h : Handle) (m : Met) (e : find_object h s ≡ Some m) (q : ℕ) (l : q < QUOTAS) where
  sixth : first_refusal (release_lines unit s k q h) ≡ first_refusal (line_6 k q (object_met m) ∷ [])
  unfolding row_lines
  sixth =
      quota_found unit s k v told accepts q h m (line_6 k q (found (lookup h s)) ∷ []) l e
      ∙ ap (λ (o : Handle). first_refusal (line_6 k q o ∷ [])) (located unit s k v told accepts h m e).object

  pub release_refuses : find_hold m.serial (q % 256) k ≡ None → first_refusal (release_lines unit s k q h) ≡ 6
  unfolding line_6
  release_refuses n = sixth ∙ line_refuses 6 (not (has_record k.holds q m.serial)) [] (rw (record_missing k m.serial q l n))

  pub release_passes : (i : ℕ) → find_hold m.serial (q % 256) k ≡ Some i → first_refusal (release_lines unit s k q h) ≡ 0
  unfolding line_6 first_refusal
  release_passes i n = sixth ∙ line_passes 6 (not (has_record k.holds q m.serial)) [] (rw (record_found k m.serial q l i n))
