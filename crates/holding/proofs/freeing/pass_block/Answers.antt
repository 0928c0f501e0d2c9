-- `holding::pass_block` meets its contract: a free block and a quarantined one are left as they are, and another one is freed.
use Rattle.std.specs.Prelude.{cond, not, ◌||◌}
use Prim.Native.Nat.{ℕ, ◌+◌}
use native.Mathlib.Omega.{arith}
use mathlib.Core.Path.{◌≡◌, refl, sym, ◌∙◌}
use mathlib.Core.List.{List}
use mathlib.Core.Bool.{Bool, true, false}
use Rattle.lookup.specs.declared.Met.{Met}
use Rattle.lookup.specs.Walk.{live_met}
use Rattle.writer.specs.Freeing.{vacate_in, vacate_end_in}
use Rattle.holding.specs.Emptying.{counted, passed, passed_end}
use Rattle.holding.proofs.freeing.pass_block.Goals as goal

-- the ways
module _ (kind : ℕ) (m : Met) (s : List ℕ) where
  left : (b : Bool) → ◌≡◌ {A = ℕ} (cond b 1 0) 0
      → (s ≡ cond (not b || false) s (vacate_in kind m s)) × (m.at + m.size ≡ cond (not b || false) (m.at + m.size) (vacate_end_in kind m s))
  left true e = absurd (omega (arith, e))
  left false e = (refl, refl)

  freed : (b : Bool) → (◌≡◌ {A = ℕ} (cond b 1 0) 0 → ⊥)
      → (vacate_in kind m s ≡ cond (not b || false) s (vacate_in kind m s))
      × (vacate_end_in kind m s ≡ cond (not b || false) (m.at + m.size) (vacate_end_in kind m s))
  freed true n = (refl, refl)
  freed false n = absurd (n refl)

  by-none : counted m.serial ≡ 0 → (s ≡ passed kind false m s) × (m.at + m.size ≡ passed_end kind false m s)
  unfolding counted passed passed_end
  by-none e = left (live_met m) e

  by-freeing : (counted m.serial ≡ 0 → ⊥) → (vacate_in kind m s ≡ passed kind false m s)
      × (vacate_end_in kind m s ≡ passed_end kind false m s)
  unfolding counted passed passed_end
  by-freeing n = freed (live_met m) n

pub returns-then-counted-eq0 : goal.returns-then-counted-eq0
returns-then-counted-eq0 c =
    let a = c.args in
    let both = by-none a.kind a.block a.heap.now (sym c.counted.ensures ∙ c.if-counted-eq0.true) in record {
      leaves = both.0;
      ends = both.1;
    }

pub returns : goal.returns
returns c =
    let x = c in
    let a = x.args in
    let f = by-freeing a.kind a.block a.heap.now (λ e. x.if-counted-eq0.false (x.counted.ensures ∙ e)) in
    record {
      leaves = c.vacate_block.ensures.leaves ∙ f.0;
      ends = c.vacate_block.ensures.ends ∙ f.1;
    }
