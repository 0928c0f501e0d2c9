-- The line of an answer is that of the numbers that it prints.
use Prim.Native.Nat.{ℕ}
use mathlib.Core.Path.{◌≡◌, ap, sym, ◌∙◌}
use mathlib.Core.List.{[], ◌∷◌}
use mathlib.Core.Bool.{Bool, true, false, cond}
use native.Mathlib.Omega.{arith}
use borrow.Author.Tests.{eq-eqb, ne_eqb}
use Rattle.model.specs.Answers.{Values, refusal_number, answer_values, verdict_values, handle_values, amount_values, range_values, block_values}
use Rattle.model.specs.declared.Handle.{Handle}
use Rattle.model.specs.declared.Call.{Call}
use Rattle.model.specs.declared.Refusal.{Refusal}
use Rattle.model.proofs.Answers.{refusal_number_is}
use Rattle.replay_model.specs.Replay.{ok_line, no_line, gives_handle, handle_numbers, answer_numbers, answer_line}

-- the values of each answer, to be computed
unfoldable pub values : Unit {0}
unfolding answer_values verdict_values handle_values amount_values range_values block_values
values = tt

module _ (c : Call) (v : Values) where
  pub line_refused : (r : Refusal) → v.refusal ≡ refusal_number r → no_line (refusal_number r) ≡ answer_line c v
  unfolding answer_line
  line_refused r e =
      let p = (refusal_number_is r).1 in
      ap no_line (sym e) ∙ sym (rw (ne_eqb v.refusal 0 (λ z. omega arith)))

  accepted_line : v.refusal ≡ 0 → ok_line (answer_numbers c v) ≡ answer_line c v
  unfolding answer_line
  accepted_line z = sym (rw (eq-eqb v.refusal 0 z))

  pub line_handle : v.refusal ≡ 0 → gives_handle c ≡ true → (h : Handle) → v.handle ≡ h → ok_line (handle_numbers h) ≡ answer_line c v
  unfolding answer_numbers
  line_handle z g h e =
      ap (λ (x : Handle). ok_line (handle_numbers x)) (sym e)
      ∙ sym (ap (λ (t : Bool). ok_line (cond t (handle_numbers v.handle) (v.amount ∷ []))) g)
      ∙ accepted_line z

  pub line_amount : v.refusal ≡ 0 → gives_handle c ≡ false → (n : ℕ) → v.amount ≡ n → ok_line (n ∷ []) ≡ answer_line c v
  unfolding answer_numbers
  line_amount z g n e =
      ap (λ (x : ℕ). ok_line (x ∷ [])) (sym e)
      ∙ sym (ap (λ (t : Bool). ok_line (cond t (handle_numbers v.handle) (v.amount ∷ []))) g)
      ∙ accepted_line z
