-- Rule 10.9: a request for which no other line holds is refused by 11 exactly if there is no base for it, and accepted otherwise.
-- Its last line says that the search found no base; the search finds one exactly if some multiple of the alignment is suitable; and what is suitable is said
-- over bytes by model's laws.
use Rattle.std.specs.Prelude.{Option, Some, None}
use Prim.Native.Nat.{ℕ, ◌+◌, ◌-◌, ◌*◌, ◌%◌}
use native.Mathlib.Nat.{add_assoc}
use native.Mathlib.Omega.{arith}
use mathlib.Core.Path.{◌≡◌, refl, sym, ◌∙◌, ap}
use mathlib.Core.List.{List, [], ◌∷◌, ◌++◌, map}
use mathlib.Core.Bool.{Bool, true, false, cond, ◌&&◌, ◌||◌, true≢false, not}
use mathlib.Core.Logic.{◌↔◌}
use lib.ListN.{length}
use lib.Dec.{leb, ltb}
use borrow.Author.Tests.{not-true}
use Rattle.std.proofs.lemmas.Option.{none-some, same_Some}
use Rattle.accounts.specs.declared.Accounts.{Accounts}
use Rattle.accounts.specs.Accounts.{ALLOCATE}
use Rattle.rounding.specs.Rounding.{Units, object_length, alignment}
use Rattle.rounding.proofs.Rounding.{alignment_positive}
use Rattle.layout.specs.Blocks.{Block, size, occupied, quarantined}
use Rattle.lists.specs.Lists.{any, keep, is_none}
use Rattle.model.specs.Objects.{object, objects_from, objects, blocks_of, objects_of, lookup_whole, found}
use Rattle.model.specs.Space.{suitable}
use Rattle.model.specs.Refusals.{Line, ◌when◌, line_holds, first_refusal, line_1, line_2, line_3, line_4, line_5, line_6, line_8, line_9, line_10, row_lines}
use Rattle.model.specs.Refusals.{line_11}
use Rattle.model.specs.Refusals.{line_12, base_for, allocate_lines, reallocate_lines}
use Rattle.model.specs.Step.{step}
use Rattle.model.specs.declared.Handle.{Handle}
use Rattle.model.specs.declared.Call.{Call}
use Rattle.model.specs.declared.Call.TheVariants.{Allocate, AllocateArray, Claim, Release, FreeAll, Reallocate, Lend, Remaining, CanRelease}
use Rattle.model.specs.declared.Call.TheVariants.{ListBlock}
use Rattle.model.specs.declared.Call.TheVariants.{ClearPermissions, Sweep}
use Rattle.model.specs.Rows.{call_lines}
use Rattle.model.proofs.Refusals.{by_lines, refusal_of_lines}
use Rattle.model.proofs.Sweep.{quarantined_occupied}
use Rattle.model.proofs.Base.{in_occupied, lowest_some, lowest_none, suitable_bytes, bytes_suitable}
use Rattle.ledger.specs.Ledger.{Span, in_span, block_of, spans_from, quarantined_of}
use Rattle.ledger.specs.Demand3.{taken, SuitableRun, Request, request_of, passes_others}

-- a byte lies in the live block of an object, or in a quarantined one, exactly if it lies in an occupied block
-- tests in another order
later : (p a b : Bool) → (a || (p || b)) ≡ (p || (a || b))
later true true b = refl
later true false b = refl
later false a b = refl

first : (p a b : Bool) → ((p || a) || b) ≡ (p || (a || b))
first true a b = refl
first false a b = refl

-- the blocks of objects and the quarantined blocks are the occupied ones
abbrev blocks : List Handle → List Span
blocks os = map block_of os

blocks_objects : (i at : ℕ) (bs : List Block) → (in_span i (blocks (objects_from at bs)) || in_span i (spans_from at bs)) ≡ in_occupied i at bs
unfolding in_span block_of spans_from in_occupied objects_from any
blocks_objects i at [] = refl
blocks_objects i at (b ∷ bs) = go (occupied b) (quarantined b) refl refl (blocks_objects i (at + size b) bs)
  where
    here : Bool
    here = leb at i && ltb i (at + size b)

    os : List Handle
    os = objects_from (at + size b) bs

    xs : List Span
    xs = spans_from (at + size b) bs

    go : (x y : Bool) → occupied b ≡ x → quarantined b ≡ y → (in_span i (blocks os) || in_span i xs) ≡ in_occupied i (at + size b) bs
        → (in_span i (blocks (cond (x && not y) (object at b ∷ os) os)) || in_span i (cond y (record { from = at; to = at + size b } ∷ xs) xs))
        ≡ ((x && here) || in_occupied i (at + size b) bs)
    go true true e f ih = later here (in_span i (blocks os)) (in_span i xs) ∙ ap (λ (t : Bool). here || t) ih
    go true false e f ih =
        let start : at + 8 - 8 ≡ at = omega arith in
        rw (start, add_assoc at 8 (length b.body)) (first here (in_span i (blocks os)) (in_span i xs) ∙ ap (λ (t : Bool). here || t) ih)
    go false true e f ih = absurd (true≢false (sym (quarantined_occupied b f) ∙ e))
    go false false e f ih = ih

same_places : (i : ℕ) (s : List ℕ) → taken i s ≡ in_occupied i 0 (blocks_of s)
unfolding taken objects_of objects quarantined_of
same_places i s = blocks_objects i 0 (blocks_of s)

-- a suitable run is a suitable multiple of the alignment
module _ (unit : ℕ → ℕ) (s : List ℕ) (n b : ℕ) where
  run_suitable : SuitableRun unit s n b → suitable (length s) (blocks_of s) (object_length unit n) b ≡ true
  run_suitable r =
      bytes_suitable (length s) (blocks_of s) (object_length unit n) b
      (record { low = r.low; high = r.high; clear = λ i p q. sym (same_places i s) ∙ r.outside i p q })

  suitable_run : b % alignment unit n ≡ 0 → suitable (length s) (blocks_of s) (object_length unit n) b ≡ true → SuitableRun unit s n b
  suitable_run m e =
      let u = suitable_bytes (length s) (blocks_of s) (object_length unit n) b e in
      record { low = u.low; multiple = m; high = u.high; outside = λ i p q. same_places i s ∙ u.clear i p q }

-- line 11 holds exactly if there is no suitable run
module _ (unit : ℕ → ℕ) (units : Units unit) (s : List ℕ) (n : ℕ) where
  none_fits : base_for unit s n ≡ None → (b : ℕ) → SuitableRun unit s n b → ⊥
  unfolding base_for
  none_fits e b r =
      true≢false
      (sym (run_suitable unit s n b r)
      ∙ lowest_none (length s) (blocks_of s) (alignment unit n) (object_length unit n) (alignment_positive unit units n) e b r.multiple)

  some_fits : (b : ℕ) → base_for unit s n ≡ Some b → SuitableRun unit s n b
  unfolding base_for
  some_fits b e =
      let w = lowest_some (length s) (blocks_of s) (alignment unit n) (object_length unit n) (alignment_positive unit units n) b e in
      suitable_run unit s n b w.multiple w.fits

-- what a request answers once every other line has passed
pub record Decided (unit : ℕ → ℕ) (s : List ℕ) (n refusal : ℕ) : Type 0 where
  pub no_space : (refusal ≡ 11) ↔ ((b : ℕ) → SuitableRun unit s n b → ⊥)
  pub space : (b : ℕ) → SuitableRun unit s n b → refusal ≡ 0

-- the last line alone is left
last_decides : (front : List Line) (t : Bool) → any line_holds front ≡ false → first_refusal (front ++ ((11 when t) ∷ [])) ≡ cond t 11 0
unfolding first_refusal any
last_decides [] true e = refl
last_decides [] false e = refl
last_decides ((n when true) ∷ ls) t e = absurd (true≢false e)
last_decides ((n when false) ∷ ls) t e = last_decides ls t e

module _ (unit : ℕ → ℕ) (units : Units unit) (s : List ℕ) (n : ℕ) where
  decides : (o : Option ℕ) → base_for unit s n ≡ o → Decided unit s n (cond (is_none o) 11 0)
  unfolding is_none
  decides None e = record { no_space = (λ z. none_fits unit units s n e, λ z. refl); space = λ b r. absurd (none_fits unit units s n e b r) }
  decides (Some b) e = record { no_space = (λ z. absurd (omega arith), λ f. absurd (f b (some_fits unit units s n b e))); space = λ b r. refl }

  line_decides : (front : List Line) → any line_holds front ≡ false → Decided unit s n (first_refusal (front ++ (line_11 unit s n ∷ [])))
  unfolding line_11
  line_decides front e = rw (last_decides front (is_none (base_for unit s n)) e) (decides (base_for unit s n) refl)

-- the lines but 11 of each request
module _ (unit : ℕ → ℕ) (units : Units unit) (s : List ℕ) (k : Accounts) where
  allocate_decided : (q n : ℕ) → passes_others (allocate_lines unit s k q n) ≡ true → Decided unit s n (first_refusal (allocate_lines unit s k q n))
  unfolding passes_others row_lines keep line_1 line_2 line_3 line_12 line_4 line_8 line_9 line_10 line_11
  allocate_decided q n e =
      line_decides unit units s n (line_1 s ∷ line_2 unit s k ∷ line_3 q ∷ line_12 ALLOCATE k q ∷ line_4 n ∷ line_8 k q (object_length unit n)
      ∷ line_9 k
      ∷ line_10 k ∷ []) (not-true _ e)

  reallocate_decided : (q : ℕ) (h : Handle) (n : ℕ) → passes_others (reallocate_lines unit s k q h n) ≡ true
      → Decided unit s n (first_refusal (reallocate_lines unit s k q h n))
  unfolding passes_others row_lines keep line_1 line_2 line_3 line_12 line_4 line_5 line_6 line_8 line_9 line_10 line_11
  reallocate_decided q h n e =
      line_decides unit units s n
      (line_1 s ∷ line_2 unit s k ∷ line_3 q ∷ line_12 ALLOCATE k q ∷ line_4 n ∷ line_5 (lookup_whole h s) ∷ line_6 k q (found (lookup_whole h s))
      ∷ line_8 k q (object_length unit n) ∷ line_9 k ∷ line_10 k ∷ [])
      (not-true _ e)

  -- the lines of a call give its refusal
  of_request : (c : Call) (r₀ r : Request) → Some r₀ ≡ Some r → passes_others r.lines ≡ true
      → (passes_others r₀.lines ≡ true → Decided unit s r₀.asked (first_refusal (call_lines unit c s k)))
      → Decided unit s r.asked (step unit c s k).values.refusal
  of_request c r₀ r e p f =
      let x : r₀ ≡ r = same_Some r₀ r e in
      rw (refusal_of_lines (by_lines unit c s k), ← x) (f (rw x p))

  pub space_decided : (c : Call) (r : Request) → request_of unit c s k ≡ Some r → passes_others r.lines ≡ true
      → Decided unit s r.asked (step unit c s k).values.refusal
  unfolding request_of
  space_decided (Allocate q n) r e p = of_request (Allocate q n) _ r e p (allocate_decided q n)
  space_decided (AllocateArray q count size) r e p = of_request (AllocateArray q count size) _ r e p (allocate_decided q (count * size))
  space_decided (Claim q h) r e p = absurd (none-some r e)
  space_decided (Release q h) r e p = absurd (none-some r e)
  space_decided (FreeAll q) r e p = absurd (none-some r e)
  space_decided Sweep r e p = absurd (none-some r e)
  space_decided (Reallocate q h n) r e p = of_request (Reallocate q h n) _ r e p (reallocate_decided q h n)
  space_decided (Lend h) r e p = absurd (none-some r e)
  space_decided (Remaining q) r e p = absurd (none-some r e)
  space_decided (CanRelease q h) r e p = absurd (none-some r e)
  space_decided (ListBlock at) r e p = absurd (none-some r e)
  space_decided (ClearPermissions q n) r e p = absurd (none-some r e)
