-- Release's refusals as results: the number of the first line that holds, from what the check, the lookup and the search for the record found; and past
-- all lines what one hold less leaves.
use Rattle.std.specs.Prelude.{Some, None, Result, Ok, Err}
use Prim.Native.Nat.{ℕ, ◌≤◌}
use mathlib.Core.Path.{◌≡◌, refl, ap, sym, ◌∙◌}
use mathlib.Core.List.{List, [], ◌∷◌}
use Rattle.accounts.specs.declared.Accounts.{Accounts}
use Rattle.accounts.specs.Accounts.{QUOTAS, find_hold}
use Rattle.model.specs.Answers.{refusal_number, verdict_values, amount_values}
use Rattle.model.specs.Objects.{lookup, found}
use Rattle.model.specs.Refusals.{Line, first_refusal, line_3, line_5, line_6, release_lines, row_lines}
use Rattle.model.specs.Calls.{check, release}
use Rattle.model.specs.declared.Handle.{Handle}
use Rattle.model.specs.declared.Refusal.{Refusal}
use Rattle.lookup.specs.declared.Met.{Met}
use Rattle.lookup.specs.Walk.{object_met, find_object}
use Rattle.results.proofs.Lines.{check_refuses, check_accepts, refused_is, accepted_is, line_3_refuses}
use Rattle.results.proofs.Lookups.{byte_quota, located, quota_missing, release_refuses, release_passes}
use Rattle.results.specs.Results.{AmountResult}
use Rattle.results.specs.Results.{amount_outcome}
use Rattle.allocation.specs.Ready.{Checked}
use Rattle.allocation.specs.Releasing.{claim_dropped}
use Rattle.allocation.proofs.Ready.{accepted_check}

module _ (unit : ℕ → ℕ) (s : List ℕ) (k : Accounts) (q : ℕ) (h : Handle) where
  -- the lines behind the third
  abbrev from_5 : List Line
  from_5 = line_5 (lookup h s) ∷ line_6 k q (found (lookup h s)) ∷ []

  -- the first three lines, where the check has answered v
  pub by_check : (v : Result (Unit {0}) Refusal) → verdict_values v ≡ (check unit s k).values → (x : Refusal) → v ≡ Err x
      → first_refusal (release_lines unit s k q h) ≡ refusal_number x
  unfolding row_lines
  by_check v told x e = check_refuses unit s k v told (line_3 q ∷ from_5) x e

  pub by_quota : (v : Result (Unit {0}) Refusal) → verdict_values v ≡ (check unit s k).values → v ≡ Ok tt → QUOTAS ≤ q
      → first_refusal (release_lines unit s k q h) ≡ 3
  unfolding row_lines
  by_quota v told a l = check_accepts unit s k v told (line_3 q ∷ from_5) a ∙ line_3_refuses q from_5 l

  -- a refusal as a result
  pub refuses : (r : AmountResult) (x : Refusal) → r ≡ record { accounts = k; answer = Err x }
      → first_refusal (release_lines unit s k q h) ≡ refusal_number x
      → amount_outcome s r ≡ release unit s k q h
  unfolding release amount_values
  refuses r x e n = ap (amount_outcome s) e ∙ refused_is (first_refusal (release_lines unit s k q h)) s k _ x n

  -- the others, of what was checked: no object, no record, or one hold less
  module _ (c : Checked unit s k q) where
    pub by_object : find_object h s ≡ None → first_refusal (release_lines unit s k q h) ≡ 5
    unfolding row_lines
    by_object e = quota_missing unit s k (Ok tt) (accepted_check unit s k q c) refl q h (line_6 k q (found (lookup h s)) ∷ []) c.exists e

    module _ (m : Met) (e : find_object h s ≡ Some m) where
      pub by_record : find_hold m.serial q k ≡ None → first_refusal (release_lines unit s k q h) ≡ 6
      by_record p = release_refuses unit s k (Ok tt) (accepted_check unit s k q c) refl h m e q c.exists (rw (byte_quota q c.exists) p)

      pub dropped : (i : ℕ) → find_hold m.serial q k ≡ Some i → claim_dropped s k q (object_met m) ≡ release unit s k q h
      unfolding release
      dropped i p =
          let told = accepted_check unit s k q c in
          ap (claim_dropped s k q) (sym (located unit s k (Ok tt) told refl h m e).object)
          ∙ accepted_is (first_refusal (release_lines unit s k q h)) s k _
          (release_passes unit s k (Ok tt) told refl h m e q c.exists i (rw (byte_quota q c.exists) p))
