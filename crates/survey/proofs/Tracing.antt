-- The first record that is a quota's own for a serial, or another quota's, searched along the serial's path.
use Rattle.std.specs.Prelude.{Some, None}
use Rattle.std.proofs.Common.{◌≡◌, ℕ, ◌-◌, ◌/◌, ◌%◌, ◌<◌, ◌≤◌, Bool, true, false, ◌&&◌, ◌⊎◌, List, get_or, sym, ap, ◌∙◌, subst, inl, inr}
use Rattle.std.proofs.Common.{true≢false, arith, eq-eqb, ne_eqb}
use Rattle.accounts.specs.declared.Hold.{Hold}
use Rattle.accounts.specs.Accounts.{HOLDS, zero_hold, used, first_from}
use Rattle.lists.specs.Lists.{all}
use Rattle.model.specs.Consistent.{is_of}
use Rattle.lists.proofs.Bools.{and_left, and_no, fails}
use Rattle.model.proofs.Consistent.{is_of_exactly}
use Rattle.audit.specs.Keys.{well_formed}
use Rattle.audit.proofs.Tables.{all_at}
use Rattle.audit.proofs.Records.{well_used}
use Rattle.words.specs.Words.{hold_in, serial_in, quota_in, holds_of}
use Rattle.words.proofs.Words.{holds_long, holds_at}
use Rattle.survey.specs.Index.{FORKED, slot, bits_of, step, Leads, here, Head, head_of, Reached, Built}
use Rattle.survey.specs.Clauses.{sought}
use Rattle.survey.proofs.Paths.{slot_small, leads_up, leads_case, link_rises}
use Rattle.survey.proofs.Lowest.{serial_used, place_first, place_none}
use Rattle.survey.proofs.Told.{place_at, place_nothing}

pub sought_of : (test : ℕ → Bool) (serial : ℕ) (h : Hold) → sought test serial h ≡ true → (used h ≡ true) × (h.serial ≡ serial)
unfolding sought
sought_of test serial h t = (is_of_exactly serial h).0 (and_left (is_of serial h) (test h.quota) t)

-- the path from a place on leads to each record that is sought
pub record Tracing (words links : List ℕ) (test : ℕ → Bool) (serial bits at : ℕ) : Type 0 where
  pub covers : (p : ℕ) → p < HOLDS → sought test serial (hold_in words p) ≡ true → Leads links bits at p

module _ {words heads links : List ℕ} (g : Built words HOLDS heads links) (test : ℕ → Bool) (serial : ℕ) where
  pub trace_start : (serial ≡ 0 → ⊥) → {at bits : ℕ} → at ≡ get_or heads (slot serial) 0 % FORKED → bits ≡ bits_of serial
      → Tracing words links test serial bits at
  trace_start live {at} {bits} e b =
      record {
        covers = λ p l t.
            (let same = (sought_of test serial (hold_in words p) t).1 in
            go p l same (g.reached p l (λ z. live (sym same ∙ z))));
      }
    where
      go : (p : ℕ) → p < HOLDS → serial_in words p ≡ serial → Reached words heads links p → Leads links bits at p
      go p l q (inl a) =
          let z : at ≡ p = omega (arith, e, a, ap (λ (x : ℕ). get_or heads (slot x) 0) q) in
          subst (λ (x : ℕ). Leads links bits x p) (sym z) here
      go p l q (inr w) =
          let h = g.headed (slot serial) (slot_small serial) in
          let k : head_of words heads p ≡ get_or heads (slot serial) 0 = ap (λ (x : ℕ). get_or heads (slot x) 0) q in
          let z : head_of words heads p - FORKED ≡ at = low h k w.0 ∙ sym e in
          subst (λ (x : ℕ). Leads links x at p) (ap bits_of q ∙ sym b) (subst (λ (x : ℕ). Leads links (bits_of (serial_in words p)) x p) z w.1)
        where
          low : {h x : ℕ} → Head HOLDS h → x ≡ h → FORKED ≤ x → x - FORKED ≡ h % FORKED
          low (inl a) k f = absurd (omega arith)
          low (inr (inl a)) k f = absurd (omega arith)
          low (inr (inr a)) k f = omega (arith, a.0, a.1)

  -- no used record has the serial 0
  pub trace_none : all well_formed (holds_of words) ≡ true → serial ≡ 0 → None ≡ first_from (sought test serial) 0 (holds_of words)
  trace_none well z =
      let long = holds_long words in
      sym (place_nothing HOLDS (omega arith))
      ∙ place_none words (sought test serial) HOLDS (omega arith)
      (λ j l.
      fails (sought test serial (hold_in words j))
      (λ t.
      let r = sought_of test serial (hold_in words j) t in
      let w : well_formed (hold_in words j) ≡ true = rw (holds_at words j l) at (all_at well_formed zero_hold (holds_of words) well j (omega arith)) in
      let u = well_used (hold_in words j) w r.0 in
      omega (arith, u.0, r.1)))

  module _ {at bits : ℕ} (t : Tracing words links test serial bits at) where
    -- no place before the path is one
    before : (p : ℕ) → p < HOLDS → p < at → sought test serial (hold_in words p) ≡ false
    before p l b = fails (sought test serial (hold_in words p))
        (λ e. let k = leads_up links (λ b n h. link_rises b g.growing h) (t.covers p l e) in omega arith)

    pub trace_end : HOLDS ≤ at → None ≡ first_from (sought test serial) 0 (holds_of words)
    trace_end l = sym (place_nothing at l) ∙ place_none words (sought test serial) at l (λ j h. before j h (omega arith))

    module _ (live : serial ≡ 0 → ⊥) (l : at < HOLDS) where
      -- by the serial and by the quota
      sought_here : serial_in words at ≡ serial → sought test serial (hold_in words at) ≡ test (quota_in words at)
      unfolding sought is_of
      sought_here e = rw (serial_used (hold_in words at) (λ z. live (sym e ∙ z)), eq-eqb (serial_in words at) serial e)

      pub sought_other : (serial_in words at ≡ serial → ⊥) → sought test serial (hold_in words at) ≡ false
      unfolding sought is_of
      sought_other n =
          ap (λ (x : Bool). x && test (quota_in words at)) (and_no (used (hold_in words at)) _ (ne_eqb (serial_in words at) serial n))

      pub trace_hit : serial_in words at ≡ serial → true ≡ test (quota_in words at) → Some at ≡ first_from (sought test serial) 0 (holds_of words)
      trace_hit e q = sym (place_at at l) ∙ place_first words (sought test serial) at l (sought_here e ∙ sym q) (λ j h. before j (omega arith) h)

      pub sought_miss : serial_in words at ≡ serial → false ≡ test (quota_in words at) → sought test serial (hold_in words at) ≡ false
      sought_miss e q = sought_here e ∙ sym q

      pub trace_on : sought test serial (hold_in words at) ≡ false → {y : ℕ} → y ≡ step links bits at → Tracing words links test serial (bits / 2) y
      trace_on e {y} n =
          record {
            covers = λ p h x. subst (λ (z : ℕ). Leads links (bits / 2) z p) (sym n) (go p x (leads_case links (t.covers p h x)));
          }
        where
          go : (p : ℕ) → sought test serial (hold_in words p) ≡ true → (at ≡ p) ⊎ ((at < HOLDS) × Leads links (bits / 2) (step links bits at) p)
              → Leads links (bits / 2) (step links bits at) p
          go p x (inl q) = absurd (true≢false (sym x ∙ ap (λ (y : ℕ). sought test serial (hold_in words y)) (sym q) ∙ e))
          go p x (inr w) = w.1
