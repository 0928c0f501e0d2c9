-- The verdict: by the length and by the audit, whose parts are the index, what the quotas owe, and the walk.
use Rattle.std.specs.Prelude.{Some, Ok, Err}
use Rattle.std.proofs.Common.{◌≡◌, ℕ, ◌+◌, ◌%◌, ◌<◌, ◌≤◌, Bool, true, false, cond, ◌&&◌, eqb, ltb, leb, List, [], ◌∷◌, map, length, drop, sym, refl, ap, ◌∙◌}
use Rattle.std.proofs.Common.{arith, length-drop, eqb-true, leb-true}
use mathlib.Core.Bool.{and-true}
use lib.ListN.{length-map}
use Rattle.accounts.specs.declared.Quota.{Quota}
use Rattle.accounts.specs.declared.Accounts.{Accounts}
use Rattle.accounts.specs.Accounts.{QUOTAS, HOLDS, permissions, permissible}
use Rattle.rounding.specs.Rounding.{table}
use Rattle.words.specs.Words.{last_of, kind_of, edition_of, quotas_of, accounts_of}
use Rattle.words.proofs.Words.{quotas_long}
use Rattle.layout.specs.Blocks.{cut, parse}
use Rattle.layout.proofs.Fuel.{cut_end}
use Rattle.layout.specs.Blocks.{greatest_heap}
use Rattle.model.specs.Objects.{objects_from}
use Rattle.survey.specs.Index.{keys_left}
use Rattle.survey.specs.Clauses.{Index, Ready, judged, WalkedTo}
use Rattle.survey.proofs.Waiting.{waiting_all}
use Rattle.survey.proofs.Closing.{left_long}
use Rattle.survey.proofs.Opening.{keyed, ready}
use Rattle.model.specs.declared.Refusal.TheVariants.{HeapLength, Inconsistent}
use Rattle.lists.specs.Lists.{all}
use Rattle.model.specs.Answers.{verdict_values}
use Rattle.model.specs.Consistent.{allowed, in_range, consistent, greatest_serial}
use Rattle.model.specs.Refusals.{first_refusal, line_1, line_2, row_lines}
use Rattle.model.specs.Calls.{unless, check}
use Rattle.lists.proofs.Bools.{and_left, and_right, and_no, and_yes}
use Rattle.audit.specs.Keys.{well_formed, keys_of}
use Rattle.audit.specs.Audit.{owes, solvent, entry_valid, all_zero, begin, audit, audit_parsed, audited}
use Rattle.audit.specs.Clauses.{Owing}
use Rattle.audit.specs.Fitting.{fitting}
use Rattle.audit.proofs.Fitting.{fitting_consistent, unranged}
use Rattle.audit.proofs.Consistency.{audited_is_accounted}

-- the two tests of each quota, one after the other
valid_parts : (xs : List Quota) → all entry_valid xs ≡ (all solvent xs && all permissible (map (λ (x : Quota). x.permissions) xs))
unfolding all
valid_parts [] = refl
valid_parts (x ∷ xs) =
    rw (valid_parts xs) (go (solvent x) (permissible x.permissions) (all solvent xs) (all permissible (map (λ (y : Quota). y.permissions) xs)))
  where
    go : (a b c d : Bool) → ((a && b) && (c && d)) ≡ ((a && c) && (b && d))
    go false b c d = refl
    go true true c d = refl
    go true false c d = sym (and_no c false refl)

one_fails : (w v r f p : Bool) → (v && p) ≡ false → ((w && (v && r)) && (f && p)) ≡ false
one_fails w false r f p e = ap (λ (x : Bool). x && (f && p)) (and_no w false refl)
one_fails w true r f p e = and_no (w && r) (f && p) (and_no f p e)

module _ (unit : ℕ → ℕ) (s : List ℕ) (k : Accounts) where
  -- a length that is not allowed
  pub verdict_length : allowed (length s) ≡ false → verdict_values (Err HeapLength) ≡ (check unit s k).values
  unfolding verdict_values check unless first_refusal row_lines line_1 line_2
  verdict_length e = rw e

  -- numbers that are not in range
  pub verdict_range : allowed (length s) ≡ true → in_range k ≡ false → verdict_values (Err Inconsistent) ≡ (check unit s k).values
  unfolding verdict_values check unless first_refusal row_lines line_1 line_2
  verdict_range f e = rw (f, unranged unit s k e)

  module _ (fits : allowed (length s) ≡ true) (ranged : in_range k ≡ true) (long : length k.quotas ≡ QUOTAS) where
    -- what is tested beside the audit, and all of it
    abbrev beside : Bool
    beside = fitting unit k.kind 0 (parse s) && all permissible (permissions k)

    same_verdict : (audited (parse s) k && beside) ≡ consistent unit s k
    same_verdict = ap (λ (x : Bool). x && beside) (audited_is_accounted s k long) ∙ fitting_consistent unit s k ranged

    -- an audit that fails, and one that passes
    verdict_fails : (audited (parse s) k && beside) ≡ false → verdict_values (Err Inconsistent) ≡ (check unit s k).values
    unfolding verdict_values check unless first_refusal row_lines line_1 line_2
    verdict_fails e = rw (fits, sym same_verdict ∙ e)

    verdict_passes : (audited (parse s) k && beside) ≡ true → verdict_values (Ok tt) ≡ (check unit s k).values
    unfolding verdict_values check unless first_refusal row_lines line_1 line_2
    verdict_passes e = rw (fits, sym same_verdict ∙ e)

    -- a record that is not well-formed
    pub verdict_ill : all well_formed k.holds ≡ false → verdict_values (Err Inconsistent) ≡ (check unit s k).values
    unfolding audited
    verdict_ill e = verdict_fails (rw e)

    -- a remainder above its grant, or a number that is no permissions
    pub verdict_insolvent : {owed : List ℕ} → Owing k.quotas false owed → verdict_values (Err Inconsistent) ≡ (check unit s k).values
    unfolding audited
    verdict_insolvent w =
        verdict_fails
        (one_fails (all well_formed k.holds) (all solvent k.quotas) _ (fitting unit k.kind 0 (parse s)) (all permissible (permissions k))
        (sym (valid_parts k.quotas) ∙ sym w.0))

    -- the walk
    module _ {keys owed : List ℕ} (well : all well_formed k.holds ≡ true) (keyed : keys ≡ keys_of k.holds) (w : Owing k.quotas true owed) where
      audited_walk : (audited (parse s) k && beside)
          ≡ (audit_parsed k.last_serial (parse s) (Some (begin keys owed)) && fitting unit k.kind 0 (parse s))
      unfolding audited
      audited_walk =
          let both = sym (valid_parts k.quotas) ∙ sym w.0 in
          let paid = and_left (all solvent k.quotas) _ both in
          let may = and_right (all solvent k.quotas) _ both in
          rw (well, paid, w.1 refl, keyed, may, and_yes (fitting unit k.kind 0 (parse s)))

      -- as it is judged from the start on
      pub verdict_judged : (t : Bool) → t ≡ judged unit k.kind k.last_serial 0 (cut 0 (drop 0 s)) 1 keys owed
          → verdict_values (cond t (Ok tt) (Err Inconsistent)) ≡ (check unit s k).values
      unfolding judged parse
      verdict_judged true e = verdict_passes (audited_walk ∙ sym e)
      verdict_judged false e = verdict_fails (audited_walk ∙ sym e)

-- at the heap's end, what is left of keys and debts decides
judged_end : (unit : ℕ → ℕ) (kind last back before : ℕ) (s keys owed : List ℕ) {at : ℕ} → at ≡ length s
    → judged unit kind last at (cut back (drop at s)) before keys owed ≡ (all_zero keys && all_zero owed)
unfolding judged audit_parsed audit fitting all objects_from
judged_end unit kind last back before s keys owed {at} e =
    rw (cut_end back 0 (drop at s) (omega (arith, length-drop at s))) (and-true (all_zero keys && all_zero owed))

-- a heap of an allowed length is cut to its end
at_end : (n at : ℕ) → allowed n ≡ true → at ≤ n → at % 8 ≡ 0 → n < at + 8 → at ≡ n
unfolding allowed
at_end n at a l e h = let z = eqb-true (n % 8) 0 (and_left (eqb (n % 8) 0) (leb 64 n && leb n greatest_heap) a) in omega arith

-- a walk to the end of a heap of an allowed length: whether records are open and quotas owe something decides
pub walked_end : (unit : ℕ → ℕ) (kind last : ℕ) (s words : List ℕ) (whole : Bool) (at back before : ℕ) (heads links owed : List ℕ) (left : ℕ)
    → allowed (length s) ≡ true → WalkedTo unit kind last 8 s words whole at back before heads links owed left → whole ≡ (eqb left 0 && all_zero owed)
walked_end unit kind last s words whole at back before heads links owed left ok w =
    let keys = keys_left words heads links in
    w.2
    ∙ judged_end unit kind last back before s keys owed (at_end (length s) at ok w.0.inside w.0.even w.1)
    ∙ ap (λ (x : Bool). x && all_zero owed)
    (sym (waiting_all keys HOLDS (sym (left_long words heads links))) ∙ ap (λ (x : ℕ). eqb x 0) (sym w.0.ready.waits))

-- by the words: the last serial of accounts whose numbers are in range
pub last_given : (words : List ℕ) → in_range (accounts_of words) ≡ true → last_of words ≤ greatest_serial
unfolding in_range
last_given words e =
    leb-true (last_of words) greatest_serial
    (and_left (leb (last_of words) greatest_serial) (ltb (kind_of words) 2 && ltb (edition_of words) 2) e)

-- what the walk starts from where the index is whole and the debts are known, and the verdict by what it judges
module _ {words heads links owed : List ℕ} {low used : ℕ} (i : Index words heads links low used) (w : Owing (quotas_of words) true owed) where
  pub walk_ready : Ready words heads links owed used
  walk_ready = ready i (ap length (w.1 refl) ∙ length-map (quotas_of words) owes ∙ quotas_long words)

  pub verdict_walked : (s : List ℕ) → allowed (length s) ≡ true → in_range (accounts_of words) ≡ true → (edition kind last : ℕ) → edition ≡ edition_of words
      → kind ≡ kind_of words → last ≡ last_of words
      → (t : Bool) → t ≡ judged (table edition) kind last 0 (cut 0 (drop 0 s)) 1 (keys_left words heads links) owed
      → verdict_values (cond t (Ok tt) (Err Inconsistent)) ≡ (check (table (edition_of words)) s (accounts_of words)).values
  verdict_walked s fits ranged edition kind last e k l t j =
      verdict_judged (table (edition_of words)) s (accounts_of words) fits ranged (quotas_long words) i.well (keyed i) w t
      (j ∙ (λ n. judged (table (e n)) (k n) (l n) 0 (cut 0 (drop 0 s)) 1 (keys_left words heads links) owed))
