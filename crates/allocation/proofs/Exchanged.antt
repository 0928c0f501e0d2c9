-- The old object's block once the new object is made: the walk still finds it where it stood.
use Rattle.std.specs.Prelude.{Some, Option, None, Ok}
use Prim.Native.Nat.{ℕ, ◌+◌}
use native.Mathlib.Omega.{arith}
use mathlib.Core.Path.{◌≡◌, refl, ap, sym, ◌∙◌}
use mathlib.Core.List.{List}
use Rattle.accounts.specs.declared.Accounts.{Accounts}
use Rattle.model.specs.Objects.{lookup}
use Rattle.model.specs.declared.Handle.{Handle}
use Rattle.lookup.specs.declared.Met.{Met}
use Rattle.lookup.specs.Walk.{object_met, find_object}
use Rattle.results.proofs.Lookups.{located, unnamed}
use Rattle.survey.specs.Survey.{block_at}
use Rattle.survey.proofs.Blocks.{found_block}
use Rattle.allocation.specs.Ready.{Checked}
use Rattle.allocation.proofs.Ready.{accepted_check}

module _ (unit : ℕ → ℕ) (s : List ℕ) (k : Accounts) (q : ℕ) (c : Checked unit s k q) (h : Handle) (m : Met)
    (named : lookup h s ≡ Some (object_met m)) where
  pub found_again : (find_object h s ≡ Some (block_at m.at s)) × ((block_at m.at s).serial ≡ m.serial)
  found_again = go (find_object h s) refl
    where
      go : (x : Option Met) → find_object h s ≡ x → (find_object h s ≡ Some (block_at m.at s)) × ((block_at m.at s).serial ≡ m.serial)
      go None e =
          let n = sym (unnamed unit s k (Ok tt) (accepted_check unit s k q c) refl h e) ∙ named in
          let z : ◌≡◌ {A = ℕ} 0 1 = cc in
          absurd (omega arith)
      go (Some b) e =
          let l = located unit s k (Ok tt) (accepted_check unit s k q c) refl h b e in
          let n = sym l.named ∙ named in
          let o : object_met b ≡ object_met m = cc in
          let base : b.at + 8 ≡ m.at + 8 = ap (λ (x : Handle). x.base) o in
          let at : b.at ≡ m.at = omega (arith, base) in
          let block : block_at m.at s ≡ b = ap (λ (x : ℕ). block_at x s) (sym at) ∙ found_block h s b e in
          let serial : b.serial ≡ m.serial = ap (λ (x : Handle). x.serial) o in
          (e ∙ ap Some (sym block), ap (λ (x : Met). x.serial) block ∙ serial)
