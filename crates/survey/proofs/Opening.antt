-- The index at the start of the walk: every used record is open, and its path leads to it.
use Rattle.std.proofs.Common.{◌≡◌, ℕ, ◌+◌, ◌-◌, ◌/◌, ◌%◌, ◌<◌, ◌≤◌, true, ltb, List, length, get_or, sym, ap, ◌∙◌, subst, inl, inr, ⊎_elim, arith, ext_get_or}
use Rattle.std.proofs.Common.{ltb-false, ltb-true, lt-ltb, eq-eqb}
use lib.ListN.{length-map, get_or-map}
use Rattle.lists.proofs.Bools.{by_test, by_eq}
use Rattle.accounts.specs.Accounts.{QUOTAS, HOLDS, zero_hold}
use Rattle.audit.specs.Keys.{key_of, keys_of}
use Rattle.audit.proofs.Records.{no_key}
use Rattle.words.specs.Words.{serial_in, hold_in, holds_of}
use Rattle.words.proofs.Words.{holds_long, holds_at}
use Rattle.survey.specs.Index.{LINKS, FORKED, CLOSED, bits_of, fork, inner, plain, step, Leads, here, on, Ascends, head_of, open_in}
use Rattle.survey.specs.Index.{keys_left, waiting, Head}
use Rattle.survey.specs.Clauses.{Ready, Index}
use Rattle.survey.proofs.Paths.{fork_inside, fork_place, leads_end}
use Rattle.survey.proofs.Plain.{inner_place, inner_end, plain_at}
use Rattle.survey.proofs.Closing.{left_long, open_key, closed_key, open_alone, open_forked, well_at}

-- the index is ready for the walk
module _ {words heads links : List ℕ} {low used : ℕ} (i : Index words heads links low used) where
  -- no record is closed
  plain_place : (x : ℕ) → get_or links x 0 < HOLDS → get_or (plain links) x 0 ≡ get_or links x 0
  plain_place x l =
      let z : get_or links x 0 % CLOSED ≡ get_or links x 0 = omega arith in
      plain_at links x ∙ ap inner z ∙ inner_place (get_or links x 0) l

  plain_end : (x : ℕ) → x < LINKS → HOLDS ≤ get_or links x 0 → get_or (plain links) x 0 ≡ HOLDS
  plain_end x a l =
      let z : get_or links x 0 % CLOSED ≡ get_or links x 0 = omega (arith, i.built.growing.flat x a) in
      plain_at links x ∙ ap inner z ∙ inner_end (get_or links x 0) l

  plain_leads : {b n p : ℕ} → p < HOLDS → Leads links b n p → Leads (plain links) b n p
  plain_leads l here = here
  plain_leads {p = p} l (on {b} {n} h r) =
      by_test (ltb (step links b n) HOLDS)
      (λ t. on h (subst (λ (y : ℕ). Leads (plain links) (b / 2) y p) (sym (plain_place (n + fork b) (ltb-true (step links b n) HOLDS t))) (plain_leads l r)))
      (λ t.
      let far = ltb-false (step links b n) HOLDS t in
      let e = leads_end links far r in absurd (omega (arith, e, far)))

  -- every used record is open
  all_open : (p : ℕ) → p < HOLDS → (serial_in words p ≡ 0 → ⊥) → open_in words heads links p ≡ true
  all_open p l n =
      ⊎_elim
      (λ e. open_alone words heads links p (omega arith) ∙ eq-eqb (head_of words heads p) p e)
      (λ w. open_forked words heads links p w.0 ∙ lt-ltb (get_or links p 0) CLOSED (omega (arith, i.built.growing.flat p (omega arith))))
      (i.built.reached p l n)

  pub keyed : keys_left words heads links ≡ keys_of (holds_of words)
  keyed =
      ext_get_or 0 (keys_left words heads links) (keys_of (holds_of words))
      (left_long words heads links ∙ sym (length-map (holds_of words) key_of ∙ holds_long words))
      (λ p h.
      let l : p < HOLDS = omega (arith, left_long words heads links) in
      let there : get_or (keys_of (holds_of words)) p 0 ≡ key_of (hold_in words p) = get_or-map key_of (holds_of words) p zero_hold
      ∙ ap key_of (holds_at words p l) in
      by_eq (serial_in words p) 0
      (λ z.
      let k = no_key (hold_in words p) (well_at words heads links i.well p l) z in
      by_test (open_in words heads links p) (λ t. open_key words heads links p l t) (λ t. closed_key words heads links p l t ∙ sym k) ∙ sym there)
      (λ n. open_key words heads links p l (all_open p l n) ∙ sym there))

  head_inside : {h : ℕ} → Head HOLDS h → h < FORKED + HOLDS
  head_inside (inl e) = omega arith
  head_inside (inr (inl l)) = omega arith
  head_inside (inr (inr w)) = omega (arith, w.0, w.1)

  rise : Ascends (plain links)
  rise b p l =
      let x = fork_inside p b l in
      by_test (ltb (step links b p) HOLDS)
      (λ t.
      let few = ltb-true (step links b p) HOLDS t in
      let r = i.built.growing.rising (p + fork b) x few in
      let e = plain_place (p + fork b) few in
      (omega (arith, e, r.0, fork_place p b l), omega (arith, e, few)))
      (λ t. let e = plain_end (p + fork b) x (ltb-false (step links b p) HOLDS t) in (omega (arith, e), omega (arith, e)))

  pub ready : {owed : List ℕ} → length owed ≡ QUOTAS → Ready words heads links owed used
  ready few =
      record {
        well = i.well;
        heads_long = i.built.heads_long;
        links_long = i.built.growing.long;
        owed_long = few;
        up = rise;
        linked = λ p l n f. go p l (by_eq (serial_in words p) 0 (λ z. absurd (n (by_test (open_in words heads links p)
            (λ t. open_key words heads links p l t ∙ no_key (hold_in words p) (well_at words heads links i.well p l) z)
            (λ t. closed_key words heads links p l t)))) (λ z. z)) f;
        heads_inside = λ x l. head_inside (i.built.headed x l);
        waits = i.counted ∙ ap (waiting HOLDS) (sym keyed);
      }
    where
      go : (p : ℕ) → p < HOLDS → (serial_in words p ≡ 0 → ⊥) → FORKED ≤ head_of words heads p
          → Leads (plain links) (bits_of (serial_in words p)) (head_of words heads p - FORKED) p
      go p l n f =
          ⊎_elim
          (λ e. absurd (omega arith))
          (λ w. plain_leads l w.1)
          (i.built.reached p l n)
