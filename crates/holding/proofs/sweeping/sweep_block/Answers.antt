-- `holding::sweep_block` meets its contract: a quarantined block is unquarantined, and any other left as it is.
use Prim.Native.Nat.{ℕ, ◌+◌}
use mathlib.Core.Path.{◌≡◌, ◌∙◌}
use mathlib.Core.List.{List}
use borrow.Author.Tests.{eq-eqb, ne_eqb}
use Rattle.layout.specs.Blocks.{QUARANTINED}
use Rattle.lookup.specs.declared.Met.{Met}
use Rattle.writer.specs.Freeing.{unquarantine_in, free_end_in}
use Rattle.holding.specs.Sweeping.{swept_bytes, swept_end}
use Rattle.holding.proofs.sweeping.sweep_block.Goals as goal

module _ (m : Met) (s : List ℕ) where
  by-serial : (m.serial ≡ QUARANTINED → ⊥) → (s ≡ swept_bytes m s) × (m.at + m.size ≡ swept_end m s)
  unfolding swept_bytes swept_end
  by-serial e = let t = ne_eqb m.serial QUARANTINED e in (rw t, rw t)

  by-quarantine : m.serial ≡ QUARANTINED → (unquarantine_in m s ≡ swept_bytes m s) × (free_end_in m s ≡ swept_end m s)
  unfolding swept_bytes swept_end
  by-quarantine e = let t = eq-eqb m.serial QUARANTINED e in (rw t, rw t)

pub returns-then-block-ne-QUARANTINED : goal.returns-then-block-ne-QUARANTINED
returns-then-block-ne-QUARANTINED c = let a = c.args in
    let both = by-serial a.block a.heap.now c.if-block-ne-QUARANTINED.true in record {
      leaves = both.0;
      ends = both.1;
    }

pub returns : goal.returns
returns c =
    let x = c in
    let a = x.args in
    let f = by-quarantine a.block a.heap.now x.if-block-ne-QUARANTINED.false in
    record {
      leaves = c.unquarantine_block.ensures.frees ∙ f.0;
      ends = c.unquarantine_block.ensures.ends ∙ f.1;
    }
