-- What lend and the write of a byte give, from what the check and the lookup answered. The block that the lookup found is one of the heap's, so its
-- object, and the handle's range in it, lies in the heap.
use Rattle.std.specs.Prelude.{Some, None, Result, Ok, Err}
use mathlib.Core.Path.{◌≡◌, ap, ◌∙◌}
use mathlib.Core.List.{List, [], ◌∷◌}
use Prim.Native.Nat.{ℕ, ◌+◌, ◌≤◌, ◌<◌}
use native.Mathlib.Omega.{arith}
use borrow.Author.Tests.{lt-ltb, le-ltb}
use lib.ListN.{length, set}
use Rattle.accounts.specs.declared.Accounts.{Accounts}
use Rattle.layout.specs.Blocks.{Block, total_size, parse}
use Rattle.layout.proofs.Render.{size_append}
use Rattle.model.specs.Answers.{accepted, refused, lent, refusal_number, verdict_values}
use Rattle.model.specs.Objects.{blocks_of, lookup}
use Rattle.model.specs.Refusals.{first_refusal, line_5, lend_lines, row_lines}
use Rattle.model.specs.Calls.{Outcome, unchanged, check, lend}
use Rattle.model.specs.declared.Handle.{Handle}
use Rattle.model.specs.declared.Refusal.{Refusal}
use Rattle.model.specs.declared.Refusal.TheVariants.{NoSuchObject}
use Rattle.model.proofs.Consistent.{accounted_cut}
use Rattle.lookup.specs.declared.Met.{Met}
use Rattle.lookup.specs.Walk.{object_met, find_object}
use Rattle.lookup.proofs.Parsed.{total_parsed, Stands}
use Rattle.lookup.proofs.Reached.{found_narrowed}
use Rattle.lookup.proofs.Named.{Named, lookup_found, lookup_missing}
use Rattle.queries.specs.Lending.{written, write_object, Spans}
use Rattle.results.proofs.Lookups.{line_5_refuses, line_5_passes}
use Rattle.results.proofs.Lines.{check_refuses, check_accepts, check_accounted, refused_is, accepted_is}

-- a block of the heap has its header, and ends in the heap
pub stands_inside : (s : List ℕ) (bs : List Block) → parse s ≡ Some bs → (m : Met) → Stands bs m → (8 ≤ m.size) × (m.at + m.size ≤ length s)
unfolding total_size
stands_inside s bs e m w =
    let p = w.place in
    let z = w.sized in
    let t : total_size bs ≡ total_size w.front + total_size (w.block ∷ w.behind) = ap total_size w.split
    ∙ size_append w.front (w.block ∷ w.behind) in
    let l = total_parsed s bs e in
    (omega arith, omega arith)

module _ (unit : ℕ → ℕ) (s : List ℕ) (k : Accounts) (h : Handle) (v : Result (Unit {0}) Refusal) (told : verdict_values v ≡ (check unit s k).values) where
  -- what the check refuses, lend refuses
  pub lend_refused : (r : Refusal) → v ≡ Err r → first_refusal (lend_lines unit s k h) ≡ refusal_number r
  unfolding row_lines
  lend_refused r e = check_refuses unit s k v told (line_5 (lookup h s) ∷ []) r e

  module _ (e : v ≡ Ok tt) where
    cut : parse s ≡ Some (blocks_of s)
    cut = (accounted_cut s k (check_accounted unit s k v told e).1).0

    -- where the lookup finds none, it is refused
    pub lend_missing : find_object h s ≡ None → first_refusal (lend_lines unit s k h) ≡ refusal_number NoSuchObject
    unfolding row_lines
    lend_missing q = check_accepts unit s k v told (line_5 (lookup h s) ∷ []) e ∙ line_5_refuses (lookup h s) [] (lookup_missing s (blocks_of s) cut h q)

    module _ (m : Met) (q : find_object h s ≡ Some m) where
      named : Named s (blocks_of s) h m
      named = lookup_found s (blocks_of s) cut h m q

      -- where it finds a block, it is accepted
      pub lend_accepted : first_refusal (lend_lines unit s k h) ≡ 0
      unfolding row_lines first_refusal
      lend_accepted = check_accepts unit s k v told (line_5 (lookup h s) ∷ []) e ∙ line_5_passes (lookup h s) (object_met m) [] named.named

      -- the handle's range lies in the block's object, and so in the heap
      pub lend_inside : h.base + h.length ≤ length s
      lend_inside =
          let i = stands_inside s (blocks_of s) cut m named.stands in
          let i₀ = i.0 in
          let i₁ = i.1 in
          let r = (found_narrowed h s m q).high in
          omega arith

module _ (unit : ℕ → ℕ) (s : List ℕ) (k : Accounts) (h : Handle) where
  -- the range of a refused lend is empty
  pub spans_refused : (n : ℕ) (r : Refusal) → n ≡ refusal_number r → first_refusal (lend_lines unit s k h) ≡ refusal_number r → Spans unit s k h n 0 0
  unfolding lend
  spans_refused n r p e =
      let q : unchanged s k (refused (refusal_number r)) ≡ lend unit s k h = refused_is (first_refusal (lend_lines unit s k h)) s k _ r e in
      record {
        refuses = p ∙ ap (λ (o : Outcome). o.values.refusal) q;
        starts = ap (λ (o : Outcome). o.values.range.start) q;
        ends = ap (λ (o : Outcome). o.values.range.end) q;
        ordered = omega arith;
        inside = omega arith;
      }

  module _ (e : first_refusal (lend_lines unit s k h) ≡ 0) where
    -- that of an accepted one is the handle's
    pub spans_lent : h.base + h.length ≤ length s → Spans unit s k h 0 h.base (h.base + h.length)
    unfolding lend
    spans_lent i =
        let q : unchanged s k (lent (record { start = h.base; end = h.base + h.length })) ≡ lend unit s k h =
        accepted_is (first_refusal (lend_lines unit s k h)) s k _ e in
        record {
          refuses = ap (λ (x : Outcome). x.values.refusal) q;
          starts = ap (λ (x : Outcome). x.values.range.start) q;
          ends = ap (λ (x : Outcome). x.values.range.end) q;
          ordered = omega arith;
          inside = i;
        }

    -- a byte in the range is written, and one beyond it is not
    pub writes : (at byte : ℕ) → at < h.length → unchanged (set s (h.base + at) byte) k accepted ≡ write_object unit s k h at byte
    unfolding write_object written
    writes at byte l =
        let w : set s (h.base + at) byte ≡ written s h at byte = rw (lt-ltb at h.length l) in
        ap (λ (x : List ℕ). unchanged x k accepted) w ∙ accepted_is (first_refusal (lend_lines unit s k h)) s k _ e

    pub passes : (at byte : ℕ) → h.length ≤ at → unchanged s k accepted ≡ write_object unit s k h at byte
    unfolding write_object written
    passes at byte l =
        let w : s ≡ written s h at byte = rw (le-ltb at h.length l) in
        ap (λ (x : List ℕ). unchanged x k accepted) w ∙ accepted_is (first_refusal (lend_lines unit s k h)) s k _ e
