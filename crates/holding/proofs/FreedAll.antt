-- Free-all among records, blocks and accounts. The refund changes no record, so the records that are left are those of the definition, and the flags are
-- asked for them. The heap is that of its blocks, so the walk may start on it, and leaves the settled blocks. What is given back is what the quota had spent.
use Rattle.std.specs.Prelude.{Result, Ok, Err}
use Prim.Native.Nat.{ℕ, ◌/◌, ◌%◌, ◌≤◌, ◌<◌}
use native.Mathlib.Omega.{arith}
use mathlib.Core.Path.{◌≡◌, ap, sym, subst, ◌∙◌}
use mathlib.Core.List.{List, [], ◌∷◌}
use mathlib.Core.Bool.{true}
use lib.ListN.{length}
use Rattle.accounts.specs.declared.Hold.{Hold}
use Rattle.accounts.specs.declared.Accounts.{Accounts}
use Rattle.accounts.specs.Accounts.{QUOTAS, FREE_ALL, quota_at, permits, spent, refund, with_holds, drop_records}
use Rattle.accounts.proofs.Laws.{Sized, refund_kept}
use Rattle.layout.specs.Bytes.{Octets}
use Rattle.layout.specs.Blocks.{render}
use Rattle.layout.proofs.Parse.{parse_is}
use Rattle.model.specs.Answers.{refusal_number, verdict_values, amount_of, amount_values}
use Rattle.model.specs.Objects.{blocks_of, objects_of}
use Rattle.model.specs.Consistent.{accounted, charges}
use Rattle.model.specs.Space.{settle}
use Rattle.model.specs.Refusals.{Line, first_refusal, line_3, line_12, free_all_lines, row_lines}
use Rattle.model.specs.Calls.{check, freed, free_all}
use Rattle.model.specs.declared.Refusal.{Refusal}
use Rattle.model.proofs.Consistent.{accounted_cut, accounted_apart}
use Rattle.model.proofs.FreeAll.{charges_spent}
use Rattle.survey.proofs.Flags.{accounted_well, drop_well}
use Rattle.lookup.proofs.Parsed.{total_parsed}
use Rattle.results.specs.Results.{outcome}
use Rattle.results.proofs.Lines.{check_refuses, check_accepts, refused_is, accepted_is, line_3_refuses, line_3_passes, line_12_refuses, line_12_passes}
use Rattle.results.specs.Results.{AmountResult}
use Rattle.results.specs.Results.{amount_outcome}
use Rattle.holding.specs.Emptying.{flags_of, Flagged, Emptying, Emptiable, Emptied}
use Rattle.results.proofs.Amounts.{gives}
use Rattle.holding.proofs.Flagged.{flagged}
use Rattle.holding.proofs.Emptied.{emptying_start}

-- the lines, where the check has answered v
module _ (unit : ℕ → ℕ) (s : List ℕ) (k : Accounts) (q : ℕ) (v : Result (Unit {0}) Refusal) (told : verdict_values v ≡ (check unit s k).values) where
  abbrev last_lines : List Line
  last_lines = line_12 FREE_ALL k q ∷ []

  pub all_by_check : (x : Refusal) → v ≡ Err x → first_refusal (free_all_lines unit s k q) ≡ refusal_number x
  unfolding row_lines
  all_by_check x e = check_refuses unit s k v told (line_3 q ∷ last_lines) x e

  pub all_by_quota : v ≡ Ok tt → QUOTAS ≤ q → first_refusal (free_all_lines unit s k q) ≡ 3
  unfolding row_lines
  all_by_quota e l = check_accepts unit s k v told (line_3 q ∷ last_lines) e ∙ line_3_refuses q last_lines l

  pub all_by_permission : v ≡ Ok tt → q < QUOTAS → (quota_at q k).permissions / FREE_ALL % 2 ≡ 0 → first_refusal (free_all_lines unit s k q) ≡ 12
  unfolding row_lines
  all_by_permission e l z =
      check_accepts unit s k v told (line_3 q ∷ last_lines) e ∙ line_3_passes q last_lines l ∙ line_12_refuses FREE_ALL q k [] z

  pub all_passes : v ≡ Ok tt → q < QUOTAS → permits FREE_ALL q k ≡ true → first_refusal (free_all_lines unit s k q) ≡ 0
  unfolding row_lines first_refusal
  all_passes e l p = check_accepts unit s k v told (line_3 q ∷ last_lines) e ∙ line_3_passes q last_lines l ∙ line_12_passes FREE_ALL q k [] p

-- a refusal as a result
pub all_refuses : (unit : ℕ → ℕ) (s : List ℕ) (k : Accounts) (q : ℕ) (r : AmountResult) (x : Refusal) → r ≡ record { accounts = k; answer = Err x }
    → first_refusal (free_all_lines unit s k q) ≡ refusal_number x → amount_outcome s r ≡ free_all unit s k q
unfolding free_all amount_values
all_refuses unit s k q r x e n = ap (amount_outcome s) e ∙ refused_is (first_refusal (free_all_lines unit s k q)) s k _ x n

-- heap and accounts are consistent, and the records of the quota q are dropped: k₁ are the accounts after the refund, and k₂ those that are left
module _ (unit : ℕ → ℕ) (s : List ℕ) (k : Accounts) (o : Octets s) (short : length s ≤ 32768) (ok : accounted s k ≡ true) (sized : Sized k)
    (q : ℕ) (below : q < QUOTAS) (back : ℕ) (be : back ≡ spent q k)
    (k₁ k₂ : Accounts) (e₁ : k₁ ≡ refund q back k) (e₂ : k₂ ≡ with_holds (drop_records q k₁.holds) k₁) where
  -- the records that are left
  abbrev rest : List Hold
  rest = drop_records q k.holds

  left_holds : k₂.holds ≡ rest
  left_holds =
      ap (λ (x : Accounts). x.holds) e₂ ∙ ap (λ (x : Accounts). drop_records q x.holds) e₁ ∙ ap (drop_records q) (refund_kept q back k).same_holds

  -- the kind is as it was
  left_kind : k₂.kind ≡ k.kind
  left_kind = ap (λ (x : Accounts). x.kind) e₂ ∙ ap (λ (x : Accounts). x.kind) e₁ ∙ (refund_kept q back k).same_kind

  paid : back ≡ charges k.holds q (objects_of s)
  paid = be ∙ sym (charges_spent s k ok q (omega (arith, sized.quotas_long)))

  left : k₂ ≡ with_holds rest (refund q (charges k.holds q (objects_of s)) k)
  left =
      e₂ ∙ ap (λ (x : Accounts). with_holds (drop_records q x.holds) x) e₁
      ∙ ap (λ (hs : List Hold). with_holds (drop_records q hs) (refund q back k)) (refund_kept q back k).same_holds
      ∙ ap (λ (n : ℕ). with_holds rest (refund q n k)) paid

  -- the flags are asked for the records that are left
  module _ (hs : List Hold) (same : hs ≡ k₂.holds) (kind : ℕ) (kinds : kind ≡ k₂.kind) where
    emptying : Emptying kind rest (blocks_of s) (flags_of hs s) 0 0 s
    emptying =
        let cut = (accounted_cut s k ok).0 in
        let bytes = (parse_is s (blocks_of s) o).0 cut in
        let flags = flagged rest (drop_well q k.holds (accounted_well s k ok)) s k ok sized.holds_long in
        emptying_start kind rest (blocks_of s) (flags_of hs s) s (sym bytes.0) bytes.1 (accounted_apart s k ok)
        (omega (arith, total_parsed s (blocks_of s) cut))
        (subst (λ (x : List Hold). Flagged rest (flags_of x s) 0 (blocks_of s)) (sym (same ∙ left_holds)) flags)

    -- so the walk may start, and what it leaves is the definition's
    pub all_freed : first_refusal (free_all_lines unit s k q) ≡ 0
        → Emptiable kind (flags_of hs s) s
        × ((s' : List ℕ) → Emptied kind (flags_of hs s) s s' → (r : AmountResult) → r ≡ record { accounts = k₂; answer = Ok back } → amount_outcome s' r
        ≡ free_all unit s k q)
    unfolding free_all freed
    all_freed z = ((rest, blocks_of s, emptying), leaves_all)
      where
        leaves_all : (s' : List ℕ) → Emptied kind (flags_of hs s) s s' → (r : AmountResult) → r ≡ record { accounts = k₂; answer = Ok back }
            → amount_outcome s' r ≡ free_all unit s k q
        leaves_all s' f r re =
            let heap : s' ≡ render (settle k.kind rest (blocks_of s)) =
            f rest (blocks_of s) emptying ∙ ap (λ (x : ℕ). render (settle x rest (blocks_of s))) (kinds ∙ left_kind) in
            gives s' k₂ back r re ∙ (λ i. outcome (heap i) (left i) (amount_of (paid i))) ∙ accepted_is (first_refusal (free_all_lines unit s k q)) s k _ z
