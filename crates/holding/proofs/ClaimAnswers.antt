-- A claim by the survey is that of rules 8.13 to 8.15: its lines decide in their order, and then the place of the quota's record picks the way of the claim.
use Rattle.std.specs.Prelude.{Option, Some, None, Result, Ok, Err}
use Prim.Native.Nat.{ℕ, ◌-◌, ◌/◌, ◌%◌, ◌≤◌, ◌<◌}
use mathlib.Core.Path.{◌≡◌, ap, sym, subst, ◌∙◌}
use mathlib.Core.Bool.{true}
use mathlib.Core.List.{List, ◌∷◌}
use Rattle.rounding.specs.Rounding.{table}
use Rattle.accounts.specs.declared.Accounts.{Accounts}
use Rattle.accounts.specs.Accounts.{QUOTAS, CLAIM, quota_at, permits, find_hold, lowest_unused}
use Rattle.lookup.specs.declared.Met.{Met}
use Rattle.lookup.specs.Walk.{find_object}
use Rattle.model.specs.Answers.{amount_values}
use Rattle.model.specs.Objects.{lookup, found}
use Rattle.model.specs.Refusals.{line_3, line_5, line_12, row_lines}
use Rattle.model.specs.Calls.{claim}
use Rattle.model.specs.declared.Handle.{Handle}
use Rattle.model.specs.declared.Refusal.{Refusal}
use Rattle.model.specs.declared.Refusal.TheVariants.{QuotaNumber, NoSuchObject, NotPermitted}
use Rattle.results.proofs.Lines.{check_refuses, check_accepts, refused_is, line_3_refuses}
use Rattle.results.proofs.Lookups.{byte_quota, Located, located}
use Rattle.results.specs.Results.{AmountResult}
use Rattle.results.specs.Results.{amount_outcome}
use Rattle.survey.specs.declared.Wanted.{Wanted}
use Rattle.survey.specs.declared.Known.{Known}
use Rattle.survey.specs.Survey.{verdict_in, known_of, Survey}
use Rattle.survey.proofs.Told.{is_serial}
use Rattle.holding.specs.Claims.{not_claimed, claim_again, claim_first}
use Rattle.holding.proofs.Claims.{claim_rest, claim_missing, claim_forbidden, claims_again, claims_anew}

-- what a claim asks the survey for
abbrev pub asking : ℕ → Handle → Wanted
asking q h = record { base = h.base; length = h.length; serial = h.serial; quota = q; unit = 0; need = 0 }

module _ {s : List ℕ} {k : Accounts} {q : ℕ} {h : Handle} {w : Wanted} {r : Result Known Refusal} (asked : w ≡ asking q h) (given : Survey s k w r) where
  g : Survey s k (asking q h) r
  g = subst (λ (x : Wanted). Survey s k x r) asked given

  abbrev u : ℕ → ℕ
  u = table k.edition

  abbrev Claims : AmountResult → Type 0
  Claims a = amount_outcome s a ≡ claim u s k q h

  pub claim_checked : (x : Refusal) → r ≡ Err x → (a : AmountResult) → a ≡ not_claimed x k → Claims a
  unfolding claim amount_values row_lines
  claim_checked x e a d =
      let o = lookup h s in
      ap (amount_outcome s) d
      ∙ refused_is _ s k _ x
      (check_refuses u s k (verdict_in r) g.told (line_3 q ∷ line_12 CLAIM k q ∷ line_5 o ∷ claim_rest k q (found o)) x (ap verdict_in e))

  module _ (x : Known) (is : r ≡ Ok x) where
    ok : verdict_in r ≡ Ok tt
    ok = ap verdict_in is

    told : x ≡ known_of s k (asking q h)
    told = g.known x is

    object_is : x.object ≡ find_object h s
    object_is = ap (λ (y : Known). y.object) told

    pub claim_numbered : QUOTAS ≤ q → (a : AmountResult) → a ≡ not_claimed QuotaNumber k → Claims a
    unfolding claim amount_values row_lines
    claim_numbered l a d =
        let o = lookup h s in
        let rest = line_12 CLAIM k q ∷ line_5 o ∷ claim_rest k q (found o) in
        ap (amount_outcome s) d
        ∙ refused_is _ s k _ QuotaNumber (check_accepts u s k (verdict_in r) g.told (line_3 q ∷ rest) ok ∙ line_3_refuses q rest l)

    pub claim_located : (m : Met) → x.object ≡ Some m → Located s h m
    claim_located m e = located u s k (verdict_in r) g.told ok h m (sym object_is ∙ e)

    pub unused_is : x.low ≡ lowest_unused k
    unused_is = ap (λ (y : Known). y.low) told

    module _ (few : q < QUOTAS) where
      pub claim_barred : (quota_at q k).permissions / CLAIM % 2 ≡ 0 → (a : AmountResult) → a ≡ not_claimed NotPermitted k → Claims a
      unfolding claim amount_values
      claim_barred z a d =
          ap (amount_outcome s) d ∙ refused_is _ s k _ NotPermitted (claim_forbidden u s k (verdict_in r) g.told ok h q few z)

      module _ (may : permits CLAIM q k ≡ true) where
        pub claim_missed : x.object ≡ None → (a : AmountResult) → a ≡ not_claimed NoSuchObject k → Claims a
        unfolding claim amount_values
        claim_missed e a d =
            ap (amount_outcome s) d ∙ refused_is _ s k _ NoSuchObject (claim_missing u s k (verdict_in r) g.told ok h (sym object_is ∙ e) q few may)

        module _ (m : Met) (e : x.object ≡ Some m) where
          here : find_object h s ≡ Some m
          here = sym object_is ∙ e

          -- the quota's record, its number as a byte
          holder_is : (p : Option ℕ) → x.holder ≡ p → find_hold m.serial (q % 256) k ≡ p
          holder_is p f =
              ap (λ (i : ℕ). find_hold m.serial i k) (byte_quota q few)
              ∙ ap (λ (i : ℕ). find_hold i q k) (sym (is_serial s (asking q h) m here)) ∙ sym (ap (λ (y : Known). y.holder) told) ∙ f

          pub claimed_again : (i : ℕ) → x.holder ≡ Some i → (a : AmountResult) → a ≡ claim_again i (m.size - 8) k → Claims a
          claimed_again i f a d =
              ap (amount_outcome s) d
              ∙ claims_again u s k (verdict_in r) g.told ok h m here q few may i (holder_is (Some i) f)

          pub claimed_anew : x.holder ≡ None → (a : AmountResult)
              → a ≡ claim_first q (record { serial = h.serial; quota = q % 256; count = 1 }) (m.size - 8) k → Claims a
          claimed_anew f a d =
              ap (amount_outcome s) (d ∙ ap (λ (i : ℕ). claim_first q (record { serial = i; quota = q % 256; count = 1 }) (m.size - 8) k)
              (is_serial s (asking q h) m here))
              ∙ claims_anew u s k (verdict_in r) g.told ok h m here q few may (holder_is None f)
