-- Reallocate's refusals as results: the number of the first line that holds, from what the check, the lookup and the search for the record found.
use Rattle.std.specs.Prelude.{Some, None, Option, Ok, Err}
use Prim.Native.Nat.{ℕ}
use native.Mathlib.Omega.{arith}
use mathlib.Core.Path.{◌≡◌, refl, ap, sym, ◌∙◌}
use mathlib.Core.List.{List, ◌∷◌, Memᴰ}
use mathlib.Core.Bool.{true, not}
use Rattle.accounts.specs.declared.Accounts.{Accounts}
use Rattle.accounts.specs.Accounts.{find_hold}
use Rattle.model.specs.Answers.{refusal_number, handle_values}
use Rattle.model.specs.Objects.{objects_of, lookup, lookup_whole, found}
use Rattle.model.specs.Consistent.{has_record}
use Rattle.model.specs.Refusals.{Line, first_refusal, line_5, line_6, reallocate_lines, row_lines}
use Rattle.model.specs.Calls.{reallocate}
use Rattle.model.specs.declared.Handle.{Handle}
use Rattle.model.specs.declared.Refusal.{Refusal}
use Rattle.model.proofs.Lookup.{lookup_whole_none}
use Rattle.model.proofs.Narrowing.{own_found}
use Rattle.lookup.specs.declared.Met.{Met}
use Rattle.lookup.specs.Walk.{object_met, find_object, find_whole}
use Rattle.lookup.proofs.Reached.{whole_same, whole_found}
use Rattle.results.proofs.Lines.{refused_is, line_refuses}
use Rattle.results.proofs.Lookups.{byte_quota, line_5_refuses, line_5_passes, located, unnamed, record_found, record_missing}
use Rattle.results.specs.Results.{HandleResult}
use Rattle.results.specs.Results.{handle_outcome}
use Rattle.allocation.specs.Ready.{Checked, Ready}
use Rattle.allocation.proofs.Ready.{accepted_check, ready_passes}
use Rattle.allocation.proofs.Granted.{from_8}
use Rattle.allocation.proofs.Reallocated.{whole_named}

-- a handle that is the whole of an object has a byte, since a live block has 16, so the walk finds it
module _ (unit : ℕ → ℕ) (s : List ℕ) (k : Accounts) (q : ℕ) (h : Handle) (c : Checked unit s k q) where
  whole_met_there : Memᴰ h (objects_of s) → (x : Option Met) → find_object h s ≡ x → find_whole h s ≡ None → ⊥
  whole_met_there m None f e =
      let n = sym (unnamed unit s k (Ok tt) (accepted_check unit s k q c) refl h f) ∙ own_found s k c.accounted h m in
      let z : ◌≡◌ {A = ℕ} 0 1 = cc in
      absurd (omega arith)
  whole_met_there m (Some b) f e =
      let n = sym (located unit s k (Ok tt) (accepted_check unit s k q c) refl h b f).named ∙ own_found s k c.accounted h m in
      let o : object_met b ≡ h = cc in
      let w = sym (whole_same h s b f (sym (ap (λ (x : Handle). x.length) o))) ∙ e in
      let z : ◌≡◌ {A = ℕ} 0 1 = cc in
      absurd (omega arith)

  whole_missing : find_whole h s ≡ None → lookup_whole h s ≡ None
  whole_missing e = (lookup_whole_none h s).1 (λ m. whole_met_there m (find_object h s) refl e)

module _ (unit : ℕ → ℕ) (s : List ℕ) (k : Accounts) (q : ℕ) (h : Handle) (n : ℕ) where
  -- the lines behind line 4
  abbrev pub from_5 : List Line
  from_5 = line_5 (lookup_whole h s) ∷ line_6 k q (found (lookup_whole h s)) ∷ from_8 unit s k q n

  -- a refusal as a result
  pub refuses : (r : HandleResult) (x : Refusal) → r ≡ record { accounts = k; answer = Err x }
      → first_refusal (reallocate_lines unit s k q h n) ≡ refusal_number x
      → handle_outcome s r ≡ reallocate unit s k q h n
  unfolding reallocate handle_values
  refuses r x e l = ap (handle_outcome s) e ∙ refused_is (first_refusal (reallocate_lines unit s k q h n)) s k _ x l

  -- the fifth and sixth, of a request that is ready
  module _ (r : Ready unit s k q n) where
    pub by_object : find_whole h s ≡ None → first_refusal (reallocate_lines unit s k q h n) ≡ 5
    unfolding row_lines
    by_object e =
        ready_passes unit s k q n from_5 r
        ∙ line_5_refuses (lookup_whole h s) (line_6 k q (found (lookup_whole h s)) ∷ from_8 unit s k q n) (whole_missing unit s k q h r.checked e)

    module _ (m : Met) (w : find_whole h s ≡ Some m) where
      e : find_object h s ≡ Some m
      e = (whole_found h s m w).0

      pub block_whole : h ≡ object_met m
      block_whole = (whole_found h s m w).1

      pub block_named : lookup h s ≡ Some (object_met m)
      block_named = (located unit s k (Ok tt) (accepted_check unit s k q r.checked) refl h m e).named

      pub by_record : find_hold m.serial q k ≡ None → first_refusal (reallocate_lines unit s k q h n) ≡ 6
      unfolding row_lines line_6
      by_record p =
          let w = whole_named h (object_met m) s block_whole block_named in
          let o = found (lookup_whole h s) in
          let l = r.checked.exists in
          ready_passes unit s k q n from_5 r
          ∙ line_5_passes (lookup_whole h s) (object_met m) (line_6 k q o ∷ from_8 unit s k q n) w.0
          ∙ line_refuses 6 (not (has_record k.holds q o.serial)) (from_8 unit s k q n)
          (rw (w.1, record_missing k m.serial q l (rw (byte_quota q l) p)))

      pub block_held : (i : ℕ) → find_hold m.serial q k ≡ Some i → has_record k.holds q m.serial ≡ true
      block_held i p = let l = r.checked.exists in record_found k m.serial q l i (rw (byte_quota q l) p)
