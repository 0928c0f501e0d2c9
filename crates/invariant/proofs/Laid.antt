-- The blocks of a good state by themselves: whole sizes, bytes and serials that can be written, an allowed length, well cut, and
-- serials that differ. Carving, settling and copying keep all of that.
-- Sizes are multiples of 8 and add up to at most 32,768, so each fits two bytes as a number of units. New bytes are zeros or parts of old bytes.
use Prim.Native.Nat.{ℕ, zero, suc, ◌+◌, ◌-◌, ◌%◌, ◌^◌, ◌≤◌, ◌<◌}
use native.Mathlib.Omega.{arith}
use mathlib.Core.Path.{◌≡◌, refl, sym, subst}
use mathlib.Core.List.{List, [], ◌∷◌, ◌++◌, Memᴰ}
use mathlib.Core.Bool.{Bool, true, false, cond, ◌&&◌}
use mathlib.Core.Logic.{◌↔◌}
use lib.ListN.{length, take, drop, replicate, length-append, length-take, length-drop}
use lib.Dec.{leb, ltb, eqb, lit<}
use borrow.Author.Tests.{ltb-true, lt-ltb, leb-true, eqb-true, ne_eqb}
use Rattle.accounts.specs.declared.Hold.{Hold}
use Rattle.layout.specs.Bytes.{Octets}
use Rattle.layout.specs.Blocks.{Block, size, QUARANTINED, AllWritable, AllOctets}
use Rattle.layout.proofs.Parts.{zeros_octets}
use Rattle.layout.proofs.Numbers.{octets_take, octets_drop, octets_append}
use Rattle.lists.specs.Lists.{all, total}
use Rattle.model.specs.Objects.{objects_from, objects}
use Rattle.model.specs.Consistent.{allowed, long_enough, starts_free, free_apart, well_cut, serials_differ, in_kind}
use Rattle.model.specs.Space.{suitable, carve, vacant, vacate, reclaim, settle, swept, body_of, copy_into, not_quarantined}
use Rattle.model.specs.declared.Handle.{Handle}
use Rattle.lists.proofs.Bools.{and_left, and_right, and_both, or_left}
use Rattle.lists.proofs.Lists.{all_member, member_all}
use Rattle.model.proofs.Blocks.{whole_size, Whole}
use Rattle.model.proofs.Carve.{Carved, Added, carved, cut_all, carved_all, carved_cut, carved_whole, carved_total, carve_objects, place}
use Rattle.model.proofs.Join.{joined, join_all}
use Rattle.model.proofs.Settle.{vacant_narrow, vacated_all, settle_objects, settle_total, settle_whole, settle_cut}
use Rattle.model.proofs.Sweep.{unquarantined_all, swept_objects, swept_total, swept_whole, swept_cut, swept_none}
use Rattle.invariant.proofs.Members.{differ_kept, differ_added}

-- a block that can be written as far as its serial and its bytes go
pub storable : Block → Bool
storable b = ltb b.serial (2 ^ 32) && all (λ x. ltb x 256) b.body

-- blocks of which a heap is written
pub record Laid (bs : List Block) : Type 0 where
  pub whole : Whole bs
  pub stored : all storable bs ≡ true
  pub extent : allowed (total size bs) ≡ true
  pub cut : well_cut bs ≡ true
  pub differ : serials_differ (objects bs) ≡ true

-- the test of bytes says that they are bytes
octets_tested : (s : List ℕ) → all (λ x. ltb x 256) s ≡ true → Octets s
unfolding all
octets_tested [] a i = lit< tt
octets_tested (x ∷ s) a zero = ltb-true x 256 (and_left (ltb x 256) _ a)
octets_tested (x ∷ s) a (suc i) = octets_tested s (and_right (ltb x 256) _ a) i

-- and bytes pass it
tested_octets : (s : List ℕ) → Octets s → all (λ x. ltb x 256) s ≡ true
unfolding all
tested_octets [] o = refl
tested_octets (x ∷ s) o = and_both (ltb x 256) _ (lt-ltb x 256 (o 0)) (tested_octets s (λ i. o (suc i)))

-- a block passes exactly if its serial fits four bytes and its body is bytes
storable_exactly : (b : Block) → (storable b ≡ true) ↔ ((b.serial < 2 ^ 32) × Octets b.body)
unfolding storable
storable_exactly b = (
  λ e. (ltb-true b.serial (2 ^ 32) (and_left _ _ e), octets_tested b.body (and_right (ltb b.serial (2 ^ 32)) _ e)),
  λ r. and_both (ltb b.serial (2 ^ 32)) _ (lt-ltb b.serial (2 ^ 32) r.0) (tested_octets b.body r.1),
)

-- and pass the test
pub writable_storable : (bs : List Block) → AllWritable bs → AllOctets bs → all storable bs ≡ true
unfolding all
writable_storable [] w o = refl
writable_storable (b ∷ bs) w o = and_both (storable b) _ ((storable_exactly b).1 (w.0.narrow, o.0)) (writable_storable bs w.1 o.1)

-- and the other way round, where the sizes add up to at most 32,768
pub storable_writable : (bs : List Block) → Whole bs → all storable bs ≡ true → total size bs ≤ 32768 → AllWritable bs
unfolding all total whole_size
storable_writable [] w s e = tt
storable_writable (b ∷ bs) w s e =
    let m : size b % 8 ≡ 0 = eqb-true (size b % 8) 0 (and_left (whole_size b) _ w) in (
      record { whole = omega arith; small = omega arith; narrow = ((storable_exactly b).0 (and_left (storable b) _ s)).0 },
      storable_writable bs (and_right (whole_size b) _ w) (and_right (storable b) _ s) (omega arith),
    )

-- and their bodies are bytes
pub storable_octets : (bs : List Block) → all storable bs ≡ true → AllOctets bs
unfolding all
storable_octets [] s = tt
storable_octets (b ∷ bs) s = (((storable_exactly b).0 (and_left (storable b) _ s)).1, storable_octets bs (and_right (storable b) _ s))

-- an allowed length is at most 32,768
pub allowed_most : (H : ℕ) → allowed H ≡ true → H ≤ 32768
unfolding allowed
allowed_most H e = leb-true H 32768 (and_right (leb 64 H) _ (and_right (eqb (H % 8) 0) _ e))

-- an object of zeros is cut out of a block
carved_stored : (base n serial at : ℕ) (bs cs : List Block) → Carved base n serial at bs cs → all storable bs ≡ true → serial < 2 ^ 32
    → all storable cs ≡ true
carved_stored base n serial at bs cs c s narrow =
    let b = c.block in
    let m : Memᴰ b bs = subst (λ (l : List Block). Memᴰ b l) (sym c.split) (mathlib.Core.List.Memᴰ.append_right c.front (mathlib.Core.List.Memᴰ.head refl)) in
    let old : Octets b.body = ((storable_exactly b).0 (all_member storable bs s b m)).1 in
    carved_all c storable s
    (cut_all base n serial (place c) b storable ((storable_exactly _).1 (narrow, zeros_octets n))
    (λ p. (storable_exactly _).1 (lit< tt, octets_take (base - 16 - place c) b.body old))
    (λ p. (storable_exactly _).1 (lit< tt, octets_drop (base + n - place c) b.body old)))

-- a new object with a new serial is carved out
module _ (o : Handle) (bs : List Block) (l : Laid bs) (fits : suitable (total size bs) bs o.length o.base ≡ true) (aligned : o.base % 8 ≡ 0)
    (even : o.length % 8 ≡ 0) (new : 0 < o.serial) (narrow : o.serial < QUARANTINED) where
  -- no two free blocks stand side by side
  apart : free_apart bs ≡ true
  unfolding well_cut
  apart = and_right (all long_enough bs) _ l.cut

  -- exactly that object is added
  pub carve_added : Added o (objects bs) (objects (carve o.base o.length o.serial bs))
  carve_added = carve_objects o.base o.length o.serial bs apart fits l.whole aligned even new narrow

  -- and a heap can still be written of the blocks
  pub carve_laid : 8 ≤ o.length → ((p : Handle) → Memᴰ p (objects bs) → p.serial ≡ o.serial → ⊥)
      → Laid (carve o.base o.length o.serial bs)
  carve_laid long fresh =
      let c = carved o.base o.length o.serial bs apart fits in
      record {
        whole = carved_whole c refl l.whole aligned even;
        stored = carved_stored o.base o.length o.serial 0 bs _ c l.stored (omega arith);
        extent = rw (carved_total c refl l.whole aligned even) l.extent;
        cut = carved_cut c new long l.cut;
        differ = differ_added o (objects bs) (objects (carve o.base o.length o.serial bs)) carve_added fresh l.differ;
      }

-- blocks that no record holds become free, and those that are joined have bytes
settle_stored : (kind : ℕ) (hs : List Hold) (bs : List Block) → all storable bs ≡ true → all storable (settle kind hs bs) ≡ true
unfolding settle reclaim vacate
settle_stored kind hs bs s =
    join_all storable
    (λ b c p q.
    (storable_exactly (joined b c)).1 (
      lit< tt,
      octets_append b.body (replicate 8 0 ++ c.body) ((storable_exactly b).0 p).1
          (octets_append (replicate 8 0) c.body (zeros_octets 8) ((storable_exactly c).0 q).1),
    ))
    _ (vacated_all kind storable (λ b l e. (storable_exactly _).1 (vacant_narrow kind, zeros_octets (length b.body))) hs bs s)

-- so a heap can still be written of the blocks
pub settle_laid : (kind : ℕ) (hs : List Hold) (bs : List Block) → Laid bs → Laid (settle kind hs bs)
unfolding well_cut
settle_laid kind hs bs l =
    record {
      whole = settle_whole kind hs bs l.whole;
      stored = settle_stored kind hs bs l.stored;
      extent = rw (settle_total kind hs bs) l.extent;
      cut = settle_cut kind hs bs (and_left (all long_enough bs) _ l.cut);
      differ = rw (settle_objects kind hs bs) (differ_kept _ (objects bs) l.differ);
    }

-- quarantined blocks become free, with the bytes that they have
swept_stored : (bs : List Block) → all storable bs ≡ true → all storable (swept bs) ≡ true
unfolding swept reclaim
swept_stored bs s =
    join_all storable
    (λ b c p q.
    (storable_exactly (joined b c)).1 (
      lit< tt,
      octets_append b.body (replicate 8 0 ++ c.body) ((storable_exactly b).0 p).1
          (octets_append (replicate 8 0) c.body (zeros_octets 8) ((storable_exactly c).0 q).1),
    ))
    _ (unquarantined_all storable (λ b e. (storable_exactly _).1 (lit< tt, ((storable_exactly b).0 e).1)) bs s)

-- so a heap can still be written of the blocks
pub swept_laid : (bs : List Block) → Laid bs → Laid (swept bs)
unfolding well_cut
swept_laid bs l =
    record {
      whole = swept_whole bs l.whole;
      stored = swept_stored bs l.stored;
      extent = rw (swept_total bs) l.extent;
      cut = swept_cut bs (and_left (all long_enough bs) _ l.cut);
      differ = rw (swept_objects bs) l.differ;
    }

-- quarantined blocks stand in a heap of the second kind only, whatever becomes of blocks
vacant_kind : (kind : ℕ) → kind < 2 → (body : List ℕ) → in_kind kind (record { serial = vacant kind; body = body }) ≡ true
unfolding in_kind
vacant_kind zero l body = refl
vacant_kind (suc zero) l body = refl
vacant_kind (suc (suc n)) l body = absurd (omega arith)

pub settle_kinds : (kind : ℕ) → kind < 2 → (hs : List Hold) (bs : List Block) → all (in_kind kind) bs ≡ true → all (in_kind kind) (settle kind hs bs)
    ≡ true
unfolding settle reclaim vacate in_kind
settle_kinds kind l hs bs a =
    join_all (in_kind kind) (λ b c p q. refl) _ (vacated_all kind (in_kind kind) (λ b v e. vacant_kind kind l (replicate (length b.body) 0)) hs bs
    a)

pub carve_kinds : {base n serial at : ℕ} {bs cs : List Block} (c : Carved base n serial at bs cs) (kind : ℕ) → serial < QUARANTINED
    → all (in_kind kind) bs
    ≡ true → all (in_kind kind) cs ≡ true
unfolding in_kind
carve_kinds {base} {n} {serial} c kind l a =
    carved_all c (in_kind kind) a
    (cut_all base n serial (place c) c.block (in_kind kind) (rw (ne_eqb serial QUARANTINED (λ e. omega arith))) (λ p. refl) (λ p. refl))

pub swept_kinds : (kind : ℕ) (bs : List Block) → all (in_kind kind) (swept bs) ≡ true
unfolding in_kind
swept_kinds kind bs =
    member_all (in_kind kind) (swept bs) (λ b m. or_left (not_quarantined b) (eqb kind 1) (all_member not_quarantined (swept bs) (swept_none bs) b m))

-- what becomes of a block when bytes are copied to the object with a serial: the same serial, and as many bytes
put : ℕ → List ℕ → Block → Block
put serial new b =
    let copied : Block = record { serial = serial; body = take (length b.body) new ++ drop (length new) b.body } in
    cond (eqb b.serial serial) copied b

module _ (serial : ℕ) (new : List ℕ) where
  -- it is the block with new bytes, or the block itself
  put_elim : (P : Block → Type 0) (b : Block) → (b.serial ≡ serial → P
      (record { serial = serial; body = take (length b.body) new ++ drop (length new) b.body }))
      → P b → P (put serial new b)
  unfolding put
  put_elim P b f g = go (eqb b.serial serial) refl
    where
      go : (t : Bool) → eqb b.serial serial ≡ t → P (put serial new b)
      go true t = rw t (f (eqb-true b.serial serial t))
      go false t = rw t g

  -- its serial stays
  put_serial : (b : Block) → (put serial new b).serial ≡ b.serial
  put_serial b = put_elim (λ c. c.serial ≡ b.serial) b (λ e. sym e) refl

  -- and its length
  put_length : (b : Block) → length (put serial new b).body ≡ length b.body
  put_length b = put_elim (λ c. length c.body ≡ length b.body) b (λ e. simp (length-append, length-take, length-drop) (omega arith)) refl

  -- what is a matter of serials and sizes stays: a test of all blocks
  copy_all : (p : Block → Bool) → ((b c : Block) → c.serial ≡ b.serial → length c.body ≡ length b.body → p c ≡ p b) → (bs : List Block)
      → all p (copy_into serial new bs) ≡ all p bs
  unfolding all copy_into put
  copy_all p f [] = refl
  copy_all p f (b ∷ bs) = rw (f b (put serial new b) (put_serial b) (put_length b), copy_all p f bs)

  -- the sum of the sizes
  pub copy_total : (bs : List Block) → total size (copy_into serial new bs) ≡ total size bs
  unfolding total copy_into put
  copy_total [] = refl
  copy_total (b ∷ bs) = rw (put_length b, copy_total bs)

  -- the objects
  copy_objects_from : (at : ℕ) (bs : List Block) → objects_from at (copy_into serial new bs) ≡ objects_from at bs
  unfolding objects_from copy_into put
  copy_objects_from at [] = refl
  copy_objects_from at (b ∷ bs) = rw (put_serial b, put_length b, copy_objects_from (at + size b) bs)

  pub copy_objects : (bs : List Block) → objects (copy_into serial new bs) ≡ objects bs
  unfolding objects
  copy_objects bs = copy_objects_from 0 bs

  -- whether the first block is free
  copy_starts : (bs : List Block) → starts_free (copy_into serial new bs) ≡ starts_free bs
  unfolding starts_free copy_into put
  copy_starts [] = refl
  copy_starts (b ∷ bs) = rw (put_serial b)

  -- whether free blocks stand side by side
  copy_apart : (bs : List Block) → free_apart (copy_into serial new bs) ≡ free_apart bs
  unfolding free_apart copy_into put
  copy_apart [] = refl
  copy_apart (b ∷ bs) = rw (put_serial b, copy_starts bs, copy_apart bs)

  -- and whether the blocks are well cut
  copy_cut : (bs : List Block) → well_cut (copy_into serial new bs) ≡ well_cut bs
  unfolding well_cut long_enough
  copy_cut bs = rw (copy_all long_enough (λ b c e f. rw (e, f)) bs, copy_apart bs)

  -- bytes that are copied leave bytes
  copy_stored : Octets new → (bs : List Block) → all storable bs ≡ true → all storable (copy_into serial new bs) ≡ true
  unfolding all copy_into put
  copy_stored o [] s = refl
  copy_stored o (b ∷ bs) s =
      let r = (storable_exactly b).0 (and_left (storable b) _ s) in
      and_both (storable (put serial new b)) _
      (put_elim (λ c. storable c ≡ true) b
      (λ e. (storable_exactly _).1 (
        rw e at r.0,
        octets_append (take (length b.body) new) (drop (length new) b.body)
            (octets_take (length b.body) new o) (octets_drop (length new) b.body r.1),
      )) (and_left (storable b) _ s))
      (copy_stored o bs (and_right (storable b) _ s))

  -- serials stay, and so the kind
  pub copy_kinds : (kind : ℕ) (bs : List Block) → all (in_kind kind) (copy_into serial new bs) ≡ all (in_kind kind) bs
  unfolding in_kind
  copy_kinds kind bs = copy_all (in_kind kind) (λ b c e f. rw e) bs

  -- so a heap can still be written of the blocks
  pub copy_laid : Octets new → (bs : List Block) → Laid bs → Laid (copy_into serial new bs)
  unfolding whole_size
  copy_laid o bs l =
      record {
        whole = rw (copy_all whole_size (λ b c e f. rw f) bs) l.whole;
        stored = copy_stored o bs l.stored;
        extent = rw (copy_total bs) l.extent;
        cut = rw (copy_cut bs) l.cut;
        differ = rw (copy_objects bs) l.differ;
      }

-- what is copied are bytes
pub body_octets : (serial : ℕ) (bs : List Block) → all storable bs ≡ true → Octets (body_of serial bs)
unfolding all body_of
body_octets serial [] s = λ i. lit< tt
body_octets serial (b ∷ bs) s = go (eqb b.serial serial) (body_octets serial bs (and_right (storable b) _ s))
  where
    go : (t : Bool) → Octets (body_of serial bs) → Octets (cond t b.body (body_of serial bs))
    go true o = ((storable_exactly b).0 (and_left (storable b) _ s)).1
    go false o = o
