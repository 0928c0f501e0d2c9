-- Release among records and blocks: what one hold less leaves of the records, and so of the blocks.
-- Only the record at the place that was found changes. While its count is above 1 it stays a record of the same object, so every object is still
-- held. The last hold makes it zero, so every other object is still held, and the object is held exactly if some other record is for it. If none
-- is, its block alone is vacated, since no other live block has its serial.
use Rattle.std.specs.Prelude.{Option, Some}
use Prim.Native.Nat.{ℕ, zero, suc, ◌+◌, ◌-◌, ◌≤◌, ◌<◌}
use native.Mathlib.Omega.{arith}
use mathlib.Core.Path.{◌≡◌, refl, ap, sym, ◌∙◌}
use mathlib.Core.List.{List, [], ◌∷◌, ◌++◌}
use mathlib.Core.Bool.{Bool, true, false, not, ◌&&◌, ◌||◌, and-false}
use lib.ListN.{length, get_or, set}
use lib.Dec.{eqb}
use borrow.Author.Tests.{eqb-true, eqb-false, eq-eqb, ne_eqb, not-true}
use Rattle.accounts.specs.declared.Hold.{Hold}
use Rattle.accounts.specs.declared.Accounts.{Accounts}
use Rattle.accounts.specs.Accounts.{zero_hold, with_holds, used, is_for, find_hold, hold_at, put_hold, drop_hold, refund}
use Rattle.accounts.proofs.Laws.{found_first, refund_kept, refund_nothing}
use Rattle.layout.specs.Bytes.{Octets}
use Rattle.layout.specs.Blocks.{Block, size, live, render, AllWritable}
use Rattle.layout.proofs.Parse.{parse_is}
use Rattle.lists.specs.Lists.{all, any, total, or_else}
use Rattle.model.specs.Answers.{amount_of}
use Rattle.model.specs.Objects.{names, object, objects_from, objects, blocks_of, objects_of, lookup}
use Rattle.model.specs.Consistent.{accounted, free_apart, has_serial, serials_differ, is_of, held}
use Rattle.model.specs.Holds.{count_of, with_count, less_one, lower_count}
use Rattle.model.specs.Space.{settle, stays}
use Rattle.model.specs.Calls.{given_back, released}
use Rattle.model.specs.declared.Handle.{Handle}
use Rattle.lists.proofs.Bools.{and_left, and_right, or_neither, implies, implied}
use Rattle.lists.proofs.Lists.{first_some, all_member, member_all, all_append, get_or_member}
use Rattle.model.proofs.Blocks.{objects_live, objects_free, objects_append, live_occupied}
use Rattle.model.proofs.Consistent.{Tests, tests_exactly, accounted_cut, accounted_apart, accounted_facts, is_for_exactly}
use Rattle.model.proofs.Settle.{stays_objects, settle_same, settle_one}
use Rattle.lookup.specs.declared.Met.{Met}
use Rattle.lookup.specs.Walk.{object_met, find_object}
use Rattle.lookup.proofs.Parsed.{Stands}
use Rattle.lookup.proofs.Named.{Named, lookup_found}
use Rattle.results.specs.Results.{outcome}
use Rattle.allocation.specs.Releasing.{claim_dropped}
use Rattle.writer.specs.Freeing.{Inside, vacate_block}
use Rattle.results.proofs.Records.{found_record, found_change}
use Rattle.writer.proofs.Rooms.{vacated_blocks, freed_inside}

-- a record in place of one for which the test says the same changes no answer
pub any_set : (p : Hold → Bool) (hs : List Hold) (i : ℕ) (h : Hold) → p h ≡ p (get_or hs i zero_hold) → any p (set hs i h) ≡ any p hs
unfolding any
any_set p [] i h e = refl
any_set p (g ∷ hs) zero h e = rw e
any_set p (g ∷ hs) (suc i) h e = rw (any_set p hs i h e)

-- one hold less of several is a record of the same object; the last one leaves none
pub fewer_of : (h : Hold) (t : ℕ) → 1 < h.count → is_of t (with_count (h.count - 1) h) ≡ is_of t h
unfolding is_of used
fewer_of h t l =
    let a = ne_eqb (h.count - 1) 0 (λ e. omega arith) in
    let b = ne_eqb h.count 0 (λ e. omega arith) in
    rw (a, b)

pub zero_of : (t : ℕ) → is_of t zero_hold ≡ false
unfolding is_of used
zero_of t = refl

pub other_of : (h : Hold) (t : ℕ) → eqb t h.serial ≡ false → is_of t h ≡ false
unfolding is_of
other_of h t e = rw (ne_eqb h.serial t (λ q. eqb-false t h.serial e (sym q))) (and-false (used h))

-- every live block of which this holds stays
stays_all : (hs hs' : List Hold) (bs : List Block) → all (stays hs) bs ≡ true → (p : Block → Bool) → all p bs ≡ true
    → ((b : Block) → live b ≡ true → p b ≡ true → held hs b.serial ≡ true → held hs' b.serial ≡ true) → all (stays hs') bs ≡ true
stays_all hs hs' bs a p h f =
    member_all (stays hs') bs
    (λ b m. implied (live b) (held hs' b.serial)
    (λ l. f b l (all_member p bs h b m) (implies (live b) (held hs b.serial) (all_member (stays hs) bs a b m) l)))

all_tail : (p : Block → Bool) (b : Block) (bs : List Block) → all p (b ∷ bs) ≡ true → all p bs ≡ true
unfolding all
all_tail p b bs a = and_right (p b) (all p bs) a

-- a block without an object that has this serial
abbrev pub other : ℕ → Block → Bool
other serial b = not (live b) || not (eqb b.serial serial)

-- where serials differ, no other object has the serial of one
any_middle : (p : Handle → Bool) (ws : List Handle) (o : Handle) (cs : List Handle) → any p (ws ++ (o ∷ cs)) ≡ false → p o ≡ false
unfolding any
any_middle p [] o cs e = (or_neither (p o) (any p cs) e).0
any_middle p (a ∷ ws) o cs e = any_middle p ws o cs (or_neither (p a) (any p (ws ++ (o ∷ cs))) e).1

differ_split : (ws : List Handle) (o : Handle) (cs : List Handle) → serials_differ (ws ++ (o ∷ cs)) ≡ true
    → (any (has_serial o.serial) ws ≡ false) × (any (has_serial o.serial) cs ≡ false)
unfolding serials_differ any
differ_split [] o cs e = (refl, not-true _ (and_left (not (any (has_serial o.serial) cs)) _ e))
differ_split (a ∷ ws) o cs e =
    let r = differ_split ws o cs (and_right (not (any (has_serial a.serial) (ws ++ (o ∷ cs)))) _ e) in
    let n = any_middle (has_serial a.serial) ws o cs (not-true _ (and_left (not (any (has_serial a.serial) (ws ++ (o ∷ cs)))) _ e)) in
    let d = ne_eqb a.serial o.serial (λ q. eqb-false o.serial a.serial n (sym q)) in
    (rw (d, r.0), r.1)

others : (serial at : ℕ) (xs : List Block) → any (has_serial serial) (objects_from at xs) ≡ false → all (other serial) xs ≡ true
unfolding any all objects_from
others serial at [] e = refl
others serial at (x ∷ xs) e = go (live x) refl (others serial (at + size x) xs) e
  where
    go : (y : Bool) → live x ≡ y → (any (has_serial serial) (objects_from (at + size x) xs) ≡ false → all (other serial) xs ≡ true)
        → any (has_serial serial) (objects_from at (x ∷ xs)) ≡ false → (other serial x && all (other serial) xs) ≡ true
    go true l ih d =
        let r = or_neither (eqb x.serial serial) (any (has_serial serial) (objects_from (at + size x) xs)) (rw (objects_live at x xs l) at d) in
        rw (l, r.0) (ih r.1)
    go false l ih d = rw l (ih (rw (objects_free at x xs l) at d))

pub others_differ : (xs : List Block) (b : Block) (ys : List Block) → serials_differ (objects (xs ++ (b ∷ ys))) ≡ true → live b ≡ true
    → (all (other b.serial) xs ≡ true) × (all (other b.serial) ys ≡ true)
unfolding objects
others_differ xs b ys e l =
    let at = 0 + total size xs in
    let d = differ_split (objects_from 0 xs) (object at b) (objects_from (at + size b) ys) (rw (objects_append 0 xs (b ∷ ys), objects_live at b ys l) at e) in
    (others b.serial 0 xs d.0, others b.serial (at + size b) ys d.1)

-- blocks that can be written, with no two free ones side by side and serials that differ: m is a live block of them, the records hs hold every
-- object, and the records hs' hold what these hold, but perhaps not the object of m
module _ (kind : ℕ) (bs : List Block) (w : AllWritable bs) (a : free_apart bs ≡ true) (d : serials_differ (objects bs) ≡ true) (m : Met) (t : Stands bs m)
    (lv : live t.block ≡ true) (hs hs' : List Hold)
    (st : all (stays hs) bs ≡ true) (f : (n : ℕ) → eqb n t.block.serial ≡ false → held hs' n ≡ held hs n) where
  -- the block lies in the heap
  pub stands_inside : length (render bs) ≤ 32768 → Inside m (render bs)
  stands_inside l =
      let e : render (t.front ++ (t.block ∷ t.behind)) ≡ render bs = ap render (sym t.split) in
      rw e at (freed_inside t.front t.block t.behind (rw t.split at w) (live_occupied t.block lv) m t.place t.sized t.back (rw e l))

  -- where they hold it still, the very blocks are left
  pub settled_held : held hs' t.block.serial ≡ true → settle kind hs' bs ≡ bs
  settled_held y = settle_same kind hs' bs (stays_all hs hs' bs st (stays hs) st (λ b l p u. go b.serial u (eqb b.serial t.block.serial) refl)) a
    where
      go : (n : ℕ) → held hs n ≡ true → (x : Bool) → eqb n t.block.serial ≡ x → held hs' n ≡ true
      go n u true x = rw (eqb-true n t.block.serial x) y
      go n u false x = f n x ∙ u

  -- where they do not, its block is freed in place
  pub settled_freed : held hs' t.block.serial ≡ false → vacate_block kind m (render bs) ≡ render (settle kind hs' bs)
  settled_freed y =
      let v : (all (stays hs) t.front && all (stays hs) (t.block ∷ t.behind)) ≡ true =
      sym (all_append (stays hs) t.front (t.block ∷ t.behind)) ∙ (rw t.split at st) in
      let o = others_differ t.front t.block t.behind (rw t.split at d) lv in
      let sx = still t.front (and_left _ _ v) o.0 in
      let sy = still t.behind (all_tail (stays hs) t.block t.behind (and_right (all (stays hs) t.front) _ v)) o.1 in
      ap (λ (l : List Block). vacate_block kind m (render l)) t.split
      ∙ vacated_blocks t.front t.block t.behind (rw t.split at w) (live_occupied t.block lv) m t.place t.sized t.back kind
      ∙ ap render (sym (settle_one kind hs' bs t.front t.block t.behind t.split a lv y sx sy))
    where
      still : (xs : List Block) → all (stays hs) xs ≡ true → all (other t.block.serial) xs ≡ true → all (stays hs') xs ≡ true
      still xs x o = stays_all hs hs' xs x (other t.block.serial) o (λ b l p u. rw (f b.serial (not-true _ (implies (live b) _ p l))) u)

-- a handle that names the object of the block m, in a heap and accounts that are consistent
module _ (s : List ℕ) (k : Accounts) (o : Octets s) (ok : accounted s k ≡ true) (h : Handle) (m : Met) (e : find_object h s ≡ Some m) where
  named : Named s (blocks_of s) h m
  named = lookup_found s (blocks_of s) (accounted_cut s k ok).0 h m e

  tests : Tests (blocks_of s) k
  tests = (tests_exactly (blocks_of s) k).0 (accounted_cut s k ok).1

  serial_is : named.stands.block.serial ≡ m.serial
  serial_is = sym named.stands.serial

  rendered : (render (blocks_of s) ≡ s) × AllWritable (blocks_of s)
  rendered = (parse_is s (blocks_of s) o).0 (accounted_cut s k ok).0

  -- every live block is held, and no two free ones stand side by side
  all_stay : all (stays k.holds) (blocks_of s) ≡ true
  unfolding objects
  all_stay = sym (stays_objects k.holds 0 (blocks_of s)) ∙ tests.recorded

  all_apart : free_apart (blocks_of s) ≡ true
  all_apart = accounted_apart s k ok

  -- the block lies in the heap
  pub inside : length s ≤ 32768 → Inside m s
  inside l =
      rw rendered.0 at
      (stands_inside k.kind (blocks_of s) rendered.1 all_apart tests.differ m named.stands named.living k.holds k.holds all_stay
      (λ n x. refl) (rw rendered.0 l))

  -- other records that hold what these hold, but perhaps not this object: the very bytes are left, or its block is freed in place
  module _ (hs : List Hold) (f : (n : ℕ) → eqb n m.serial ≡ false → held hs n ≡ held k.holds n) where
    same_bytes : held hs m.serial ≡ true → s ≡ render (settle k.kind hs (blocks_of s))
    same_bytes y =
        sym
        (ap render
        (settled_held k.kind (blocks_of s) rendered.1 all_apart tests.differ m named.stands named.living k.holds hs all_stay
        (λ n x. f n (rw serial_is at x)) (rw serial_is y))
        ∙ rendered.0)

    freed_bytes : held hs m.serial ≡ false → vacate_block k.kind m s ≡ render (settle k.kind hs (blocks_of s))
    freed_bytes y =
        ap (vacate_block k.kind m) (sym rendered.0)
        ∙ settled_freed k.kind (blocks_of s) rendered.1 all_apart tests.differ m named.stands named.living k.holds hs all_stay
        (λ n x. f n (rw serial_is at x)) (rw serial_is y)

  -- the object is held
  object_held : held k.holds m.serial ≡ true
  unfolding objects_of lookup
  object_held =
      all_member (λ (x : Handle). held k.holds x.serial) (objects (blocks_of s)) tests.recorded (object_met m)
      (first_some (names h) (objects_of s) (object_met m) named.named).0

  -- the quota's record for the object stands at place i
  module _ (q i : ℕ) (p : find_hold m.serial q k ≡ Some i) where
    record_serial : (hold_at i k).serial ≡ m.serial
    unfolding find_hold hold_at
    record_serial = ((is_for_exactly m.serial q (get_or k.holds i zero_hold)).0 (found_first (is_for m.serial q) k.holds i p).passes).1

    record_counts : 1 ≤ (hold_at i k).count
    unfolding find_hold hold_at
    record_counts =
        let f = found_first (is_for m.serial q) k.holds i p in
        ((accounted_facts s k ok).valid (get_or k.holds i zero_hold) (get_or_member zero_hold k.holds i f.within)
        ((is_for_exactly m.serial q (get_or k.holds i zero_hold)).0 f.passes).0).4

    lowered : lower_count m.serial q k.holds ≡ set k.holds i (less_one (hold_at i k))
    unfolding lower_count find_hold hold_at
    lowered = found_change (is_for m.serial q) k.holds i p less_one

    counted : count_of m.serial q k.holds ≡ (hold_at i k).count
    unfolding count_of or_else find_hold hold_at
    counted = ap (λ (x : Option Hold). (or_else zero_hold x).count) (found_record (is_for m.serial q) k.holds i p)

    -- what is left, where w is what becomes of the record and n is given back
    dropped_is : (w : Hold) → less_one (hold_at i k) ≡ w → (n : ℕ) → given_back q (object_met m) k ≡ n → (s' : List ℕ) → s' ≡ render
        (settle k.kind (set k.holds i w) (blocks_of s))
        → outcome s' (with_holds (set k.holds i w) (refund q n k)) (amount_of n) ≡ claim_dropped s k q (object_met m)
    unfolding released
    dropped_is w we n ne s' se = rw (lowered, we, ne, ← se)

    held_fewer : 1 < (hold_at i k).count → (t : ℕ) → held (set k.holds i (with_count ((hold_at i k).count - 1) (hold_at i k))) t ≡ held k.holds t
    unfolding held hold_at
    held_fewer l t = any_set (is_of t) k.holds i (with_count ((hold_at i k).count - 1) (hold_at i k)) (fewer_of (hold_at i k) t l)

    -- a count above 1 goes down by 1
    pub fewer_claims : 1 < (hold_at i k).count
        → outcome s (put_hold i (with_count ((hold_at i k).count - 1) (hold_at i k)) k) (amount_of 0) ≡ claim_dropped s k q (object_met m)
    unfolding put_hold less_one given_back
    fewer_claims l =
        let w = with_count ((hold_at i k).count - 1) (hold_at i k) in
        let a = ne_eqb (hold_at i k).count 1 (λ e. omega arith) in
        let g = same_bytes (set k.holds i w) (λ t x. held_fewer l t) (held_fewer l m.serial ∙ object_held) in
        ap (λ (x : Accounts). outcome s (with_holds (set k.holds i w) x) (amount_of 0)) (sym (refund_nothing q k))
        ∙ dropped_is w (rw a) 0 (rw (counted, a)) s g

    -- the last hold leaves the record unused
    pub left_holds : (n : ℕ) → (drop_hold i (refund q n k)).holds ≡ set k.holds i zero_hold
    unfolding drop_hold put_hold
    left_holds n = ap (λ (l : List Hold). set l i zero_hold) (refund_kept q n k).same_holds

    left_accounts : (n : ℕ) → drop_hold i (refund q n k) ≡ with_holds (set k.holds i zero_hold) (refund q n k)
    unfolding drop_hold put_hold
    left_accounts n = ap (λ (l : List Hold). with_holds (set l i zero_hold) (refund q n k)) (refund_kept q n k).same_holds

    held_others : (t : ℕ) → eqb t m.serial ≡ false → held (set k.holds i zero_hold) t ≡ held k.holds t
    unfolding held hold_at
    held_others t d =
        any_set (is_of t) k.holds i zero_hold (zero_of t ∙ sym (other_of (hold_at i k) t (rw record_serial d)))

    module _ (l : (hold_at i k).count ≤ 1) where
      last_outcome : (s' : List ℕ) → s' ≡ render (settle k.kind (set k.holds i zero_hold) (blocks_of s))
          → outcome s' (drop_hold i (refund q (m.size - 8 + 8) k)) (amount_of (m.size - 8 + 8)) ≡ claim_dropped s k q (object_met m)
      unfolding less_one given_back
      last_outcome s' se =
          let n = m.size - 8 + 8 in
          let a = eq-eqb (hold_at i k).count 1 (omega (arith, record_counts)) in
          ap (λ (x : Accounts). outcome s' x (amount_of n)) (left_accounts n) ∙ dropped_is zero_hold (rw a) n (rw (counted, a)) s' se

      -- while another quota holds the object, no byte changes
      pub still_held : held (drop_hold i (refund q (m.size - 8 + 8) k)).holds m.serial ≡ true
          → outcome s (drop_hold i (refund q (m.size - 8 + 8) k)) (amount_of (m.size - 8 + 8)) ≡ claim_dropped s k q (object_met m)
      still_held y =
          let v : held (set k.holds i zero_hold) m.serial ≡ true = rw (left_holds (m.size - 8 + 8)) at y in
          last_outcome s (same_bytes (set k.holds i zero_hold) held_others v)

      -- an object that no quota holds is freed
      pub no_longer_held : held (drop_hold i (refund q (m.size - 8 + 8) k)).holds m.serial ≡ false
          → outcome (vacate_block k.kind m s) (drop_hold i (refund q (m.size - 8 + 8) k)) (amount_of (m.size - 8 + 8)) ≡ claim_dropped s k q (object_met m)
      no_longer_held y =
          let v : held (set k.holds i zero_hold) m.serial ≡ false = rw (left_holds (m.size - 8 + 8)) at y in
          last_outcome (vacate_block k.kind m s) (freed_bytes (set k.holds i zero_hold) held_others v)
