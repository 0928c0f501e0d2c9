-- The flags of the live blocks. No later flag changes the place of an earlier one, so the place of each live block has its flag, where there are flags enough.
-- There are, in a consistent state: serials differ and each has a record of its own, so there are no more live blocks than records.
use Prim.Native.Nat.{ℕ, ◌+◌, ◌≤◌, ◌<◌}
use native.Mathlib.Omega.{arith}
use mathlib.Core.Path.{◌≡◌, refl, ap, sym, ◌∙◌}
use mathlib.Core.List.{List, [], ◌∷◌, map}
use mathlib.Core.Bool.{Bool, true, false, cond, not, ◌&&◌, true≢false}
use lib.ListN.{length, get_or, set, replicate, length-set, length-replicate}
use lib.Seq.{get_or-set_same}
use lib.Dec.{eqb}
use Rattle.accounts.specs.declared.Hold.{Hold}
use Rattle.accounts.specs.declared.Accounts.{Accounts}
use Rattle.accounts.specs.Accounts.{HOLDS}
use Rattle.layout.specs.Blocks.{Block, size, units, QUARANTINED, live}
use Rattle.lists.specs.Lists.{all, total, keep}
use Rattle.model.specs.Objects.{objects_from, objects, blocks_of}
use Rattle.model.specs.Consistent.{accounted, held}
use Rattle.model.proofs.Blocks.{objects_live, objects_free}
use Rattle.model.proofs.Consistent.{tests_exactly, accounted_cut, objects_few}
use Rattle.lookup.specs.declared.Met.{Met}
use Rattle.lookup.specs.Walk.{live_met}
use Rattle.lookup.proofs.Parsed.{placed, met_of, met_parsed}
use Rattle.audit.specs.Keys.{well_formed}
use Rattle.survey.specs.Holders.{counts_held, held_flags, put_flags}
use Rattle.survey.proofs.Flags.{held_well, put_before}
use Rattle.holding.specs.Emptying.{counted, flags_of, Flagged}

-- a free block does not count, and a live one does
pub counted_free : (b : Block) → live b ≡ false → counted b.serial ≡ 0
unfolding counted
counted_free b e = rw e

counted_live : (b : Block) → live b ≡ true → counted b.serial ≡ 1
unfolding counted
counted_live b e = rw e

pub counted_few : (n : ℕ) → counted n ≤ 1
unfolding counted
counted_few n = go (not (eqb n 0) && not (eqb n QUARANTINED))
  where
    go : (x : Bool) → cond x 1 0 ≤ 1
    go true = omega arith
    go false = omega arith

-- the live blocks are as many as the objects
count_objects : (at : ℕ) (bs : List Block) → total (λ (b : Block). counted b.serial) bs ≡ length (objects_from at bs)
unfolding total objects_from
count_objects at [] = refl
count_objects at (b ∷ bs) = go (live b) refl (count_objects (at + size b) bs)
  where
    go : (x : Bool) → live b ≡ x → total (λ (c : Block). counted c.serial) bs ≡ length (objects_from (at + size b) bs)
        → counted b.serial + total (λ (c : Block). counted c.serial) bs ≡ length (objects_from at (b ∷ bs))
    go true l ih = rw (objects_live at b bs l, counted_live b l, ih) (omega arith)
    go false l ih = rw (objects_free at b bs l, counted_free b l, ih) (omega arith)

module _ (hs : List Hold) where
  -- whether a record holds each live block
  abbrev flags : List Block → List Bool
  flags bs = map (λ (b : Block). held hs b.serial) (keep live bs)

  flags_live : (b : Block) (bs : List Block) → live b ≡ true → flags (b ∷ bs) ≡ held hs b.serial ∷ flags bs
  unfolding keep
  flags_live b bs e = rw e

  flags_other : (b : Block) (bs : List Block) → live b ≡ false → flags (b ∷ bs) ≡ flags bs
  unfolding keep
  flags_other b bs e = rw e

  -- the walk over blocks meets those that are live
  abbrev met_flags : List Met → List Bool
  met_flags ms = map (λ (m : Met). counts_held hs m.serial) (keep live_met ms)

  flags_met : all well_formed hs ≡ true → (at back : ℕ) (bs : List Block) → met_flags (met_of at back bs) ≡ flags bs
  unfolding keep met_of
  flags_met w at back [] = refl
  flags_met w at back (b ∷ bs) = go (live b) refl (flags_met w (at + size b) (units b) bs)
    where
      go : (x : Bool) → live b ≡ x → met_flags (met_of (at + size b) (units b) bs) ≡ flags bs
          → met_flags (placed at back b ∷ met_of (at + size b) (units b) bs) ≡ flags (b ∷ bs)
      go true l ih = rw (flags_live b bs l, l, held_well hs b.serial w, ih)
      go false l ih = rw (flags_other b bs l, l, ih)

  -- flags that are put from a place on say of each live block in order whether a record holds it
  module _ (kept : List Bool) where
    flagged_from : (bs : List Block) (i : ℕ) (table : List Bool) → length table ≡ HOLDS → kept ≡ put_flags i (flags bs) table
        → i + total (λ (b : Block). counted b.serial) bs ≤ HOLDS → Flagged hs kept i bs
    unfolding Flagged put_flags total
    flagged_from [] i table n e l = tt
    flagged_from (b ∷ bs) i table n e l = go (live b) refl (flagged_from bs)
      where
        go : (x : Bool) → live b ≡ x
            → ((j : ℕ) (t : List Bool) → length t ≡ HOLDS → kept ≡ put_flags j (flags bs) t → j + total (λ (c : Block). counted c.serial) bs ≤ HOLDS
            → Flagged hs kept j bs)
            → (live b ≡ true → (i < HOLDS) × (get_or kept i false ≡ held hs b.serial)) × Flagged hs kept (i + counted b.serial) bs
        go true v on =
            let c = counted_live b v in
            let x = held hs b.serial in
            let f : kept ≡ put_flags (i + 1) (flags bs) (set table i x) = e ∙ ap (λ (xs : List Bool). put_flags i xs table) (flags_live b bs v) in
            let one : get_or kept i false ≡ x =
            ap (λ (t : List Bool). get_or t i false) f ∙ put_before (i + 1) (flags bs) (set table i x) i (omega arith)
            ∙ get_or-set_same table i x false (omega arith) in
            ((λ t. (omega arith, one)), rw c (on (i + 1) (set table i x) (length-set table i x ∙ n) f (omega arith)))
        go false v on =
            let z : i + counted b.serial ≡ i = omega (arith, counted_free b v) in
            let f : kept ≡ put_flags i (flags bs) table = e ∙ ap (λ (xs : List Bool). put_flags i xs table) (flags_other b bs v) in
            ((λ t. absurd (true≢false (sym t ∙ v))), rw z (on i table n f (omega arith)))

  -- of a consistent state they do so, where the records are well-formed
  pub flagged : all well_formed hs ≡ true → (s : List ℕ) (k : Accounts) → accounted s k ≡ true → length k.holds ≡ HOLDS
      → Flagged hs (flags_of hs s) 0 (blocks_of s)
  unfolding flags_of held_flags objects
  flagged w s k c n =
      let cut = accounted_cut s k c in
      let t = (tests_exactly (blocks_of s) k).0 cut.1 in
      let few = objects_few (objects (blocks_of s)) k.holds t.differ t.recorded in
      flagged_from (flags_of hs s) (blocks_of s) 0 (replicate HOLDS false) (simp length-replicate)
      (ap (λ (xs : List Bool). put_flags 0 xs (replicate HOLDS false))
      (ap met_flags (met_parsed s (blocks_of s) cut.0) ∙ flags_met w 0 0 (blocks_of s)))
      (omega (arith, count_objects 0 (blocks_of s)))
