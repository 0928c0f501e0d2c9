-- The opening of a line that was read: none where there is none, else its numbers.
use mathlib.Core.Path.{◌≡◌, refl, ap, sym, ◌∙◌}
use Prim.Native.Nat.{ℕ}
use native.Mathlib.Omega.{arith}
use Rattle.std.specs.Prelude.{Some, None, Option}
use Rattle.replay_model.specs.Commands.{Opening}
use Rattle.replay_text.specs.Clauses.{opening_line}
use Rattle.replay_text.specs.declared.Opening.{Opening as OpenLine}

module _ (m : Option OpenLine) (o : Option Opening) (q : m ≡ opening_line o) where
  pub no_opening : m ≡ None → o ≡ None
  no_opening e = go o (sym q ∙ e)
    where
      go : (o : Option Opening) → opening_line o ≡ None → o ≡ None
      go None f = refl
      go (Some o) f = let z : ◌≡◌ {A = ℕ} 0 1 = cc in absurd (omega arith)

  pub some_opening : (l : OpenLine) → m ≡ Some l → o ≡ Some (record { heap = l.heap; grants = l.grants })
  some_opening l e = go o (sym q ∙ e)
    where
      go : (o : Option Opening) → opening_line o ≡ Some l → o ≡ Some (record { heap = l.heap; grants = l.grants })
      go None f = let z : ◌≡◌ {A = ℕ} 0 1 = cc in absurd (omega arith)
      go (Some o) f =
          let is : ◌≡◌ {A = OpenLine} (record { heap = o.heap; grants = o.grants }) l = cc in
          ap (λ (x : OpenLine). Some (record { heap = x.heap; grants = x.grants })) is
