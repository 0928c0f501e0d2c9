-- Settling: the blocks that no record holds become free and join their free neighbours; every other block stays.
-- Vacating looks at each block by itself and keeps its size, and joining keeps objects and sizes. A block that some records
-- leave unheld is unheld by fewer of them too, and joining earlier or later gives the same blocks; so settling in steps is settling once.
use mathlib.Core.Path.{◌≡◌, refl, ap, sym, ◌∙◌}
use Prim.Native.Nat.{ℕ, ◌+◌, ◌≤◌, ◌<◌, ◌^◌}
use native.Mathlib.Omega.{arith}
use mathlib.Core.List.{List, [], ◌∷◌, ◌++◌, map}
use mathlib.Core.Bool.{Bool, true, false, not, cond, ◌&&◌, true≢false, false≢true}
use lib.ListN.{length-replicate}
use lib.Dec.{leb, eqb, lit<}
use Rattle.accounts.specs.declared.Hold.{Hold}
use Rattle.accounts.specs.Accounts.{record_of, drop_records}
use Rattle.layout.specs.Blocks.{Block, size, occupied, QUARANTINED, live, AllWritable}
use Rattle.lists.specs.Lists.{all, any, total, keep}
use Rattle.model.specs.Objects.{objects_from, objects}
use Rattle.model.specs.Consistent.{long_enough, free_apart, well_cut, held}
use Rattle.model.specs.Space.{join_front, join_free, vacates, vacant, vacate, stays, changed, reclaim, settle}
use Rattle.model.specs.Joining.{join_neighbours}
use Rattle.model.specs.declared.Handle.{Handle}
use Rattle.model.proofs.Rows
use Rattle.lists.proofs.Bools.{and_left, and_right, and_both, or_left, or_right, or_neither, implies}
use Rattle.lists.proofs.Lists.{total_append}
use Rattle.model.proofs.Blocks.{whole_size, Whole, objects_live, objects_free, live_occupied}
use Rattle.model.proofs.Join.{join_elim, join_objects, join_total, join_long, join_whole, join_writable, join_apart_all, join_same, join_assoc}
use Rattle.model.proofs.Join.{join_replaced}

-- a record holds this object
abbrev pub object_held : List Hold → Handle → Bool
object_held hs o = held hs o.serial

-- every live block is held exactly if every object is
pub stays_objects : (hs : List Hold) (at : ℕ) (bs : List Block) → all (object_held hs) (objects_from at bs) ≡ all (stays hs) bs
unfolding all objects_from
stays_objects hs at [] = refl
stays_objects hs at (b ∷ bs) = go (live b) refl (stays_objects hs (at + size b) bs)
  where
    go : (x : Bool) → live b ≡ x → all (object_held hs) (objects_from (at + size b) bs) ≡ all (stays hs) bs
        → all (object_held hs) (objects_from at (b ∷ bs)) ≡ all (stays hs) (b ∷ bs)
    go true e ih = rw (e, ih)
    go false e ih = rw (e, ih)

-- where the quota has no record, dropping its records changes none
pub drop_none : (q : ℕ) (hs : List Hold) → any (record_of q) hs ≡ false → drop_records q hs ≡ hs
unfolding drop_records any
drop_none q [] e = refl
drop_none q (h ∷ hs) e = let n = or_neither (record_of q h) (any (record_of q) hs) e in rw (n.0, drop_none q hs n.1)

-- the serial of a vacated block fits a header
pub vacant_narrow : (kind : ℕ) → vacant kind < 2 ^ 32
vacant_narrow kind = go (eqb kind 0)
  where
    go : (t : Bool) → cond t 0 QUARANTINED < 2 ^ 32
    go true = lit< tt
    go false = lit< tt

-- laws of both kinds
module _ (kind : ℕ) where
  -- a vacated block is not live
  pub vacated_dead : (b : Block) → live (vacate kind b) ≡ false
  unfolding vacate
  vacated_dead b = go (eqb kind 0)
    where
      go : (t : Bool) → (not (eqb (cond t 0 QUARANTINED) 0) && not (eqb (cond t 0 QUARANTINED) QUARANTINED)) ≡ false
      go true = refl
      go false = refl

  -- what becomes of a block by itself, and of blocks before they join
  abbrev pub vacated : List Hold → Block → Block
  vacated hs b = cond (vacates hs b) (vacate kind b) b

  abbrev pub vacate_unheld : List Hold → List Block → List Block
  vacate_unheld hs bs = changed (vacates hs) (vacate kind) bs

  vacated_elim : (P : Block → Type 0) (hs : List Hold) (b : Block) → (stays hs b ≡ true → P b)
      → (live b ≡ true → held hs b.serial ≡ false → P (vacate kind b))
      → P (vacated hs b)
  vacated_elim P hs b f g = go (live b) (held hs b.serial) refl refl
    where
      go : (x y : Bool) → live b ≡ x → held hs b.serial ≡ y → P (vacated hs b)
      go true true eb eh = rw (eb, eh) (f (rw (eb, eh)))
      go true false eb eh = rw (eb, eh) (g eb eh)
      go false y eb eh = rw eb (f (rw eb))

  vacated_stays : (hs : List Hold) (b : Block) → stays hs b ≡ true → vacated hs b ≡ b
  vacated_stays hs b e = vacated_elim (λ c. c ≡ b) hs b (λ s. refl) (λ eb eh. absurd (false≢true (rw (eb, eh) at e)))

  -- and a vacated block stays
  dead_stays : (hs : List Hold) (b : Block) → stays hs (vacate kind b) ≡ true
  dead_stays hs b = or_left (not (live (vacate kind b))) (held hs (vacate kind b).serial) (ap not (vacated_dead b))

  vacated_size : (hs : List Hold) (b : Block) → size (vacated hs b) ≡ size b
  unfolding vacate
  vacated_size hs b = vacated_elim (λ c. size c ≡ size b) hs b (λ e. refl) (λ eb eh. rw length-replicate)

  -- every size stays
  pub vacated_sizes : (hs : List Hold) (bs : List Block) → map size (vacate_unheld hs bs) ≡ map size bs
  unfolding changed
  vacated_sizes hs [] = refl
  vacated_sizes hs (b ∷ bs) = rw (vacated_size hs b, vacated_sizes hs bs)

  -- the sum of the sizes stays
  pub vacated_total : (hs : List Hold) (bs : List Block) → total size (vacate_unheld hs bs) ≡ total size bs
  unfolding changed total
  vacated_total hs [] = refl
  vacated_total hs (b ∷ bs) = rw (vacated_size hs b, vacated_total hs bs)

  -- a test of all blocks still holds if it holds of a vacated block
  pub vacated_all : (p : Block → Bool) → ((b : Block) → live b ≡ true → p b ≡ true → p (vacate kind b) ≡ true) → (hs : List Hold) (bs : List Block)
      → all p bs ≡ true → all p (vacate_unheld hs bs) ≡ true
  unfolding changed all
  vacated_all p f hs [] a = refl
  vacated_all p f hs (b ∷ bs) a =
      let e = and_left (p b) (all p bs) a in
      and_both (p (vacated hs b)) (all p (vacate_unheld hs bs)) (vacated_elim (λ c. p c ≡ true) hs b (λ s. e) (λ eb eh. f b eb e))
      (vacated_all p f hs bs (and_right (p b) (all p bs) a))

  -- every block stays long enough
  pub vacated_long : (hs : List Hold) (bs : List Block) → all long_enough bs ≡ true → all long_enough (vacate_unheld hs bs) ≡ true
  unfolding long_enough vacate
  vacated_long hs bs a =
      vacated_all long_enough
      (λ b l e. (let big : leb 16 (size b) ≡ true = implies (occupied b) (leb 16 (size b)) e (live_occupied b l) in or_right
      (not (occupied (vacate kind b))) _ (rw length-replicate big))) hs bs a

  -- every size stays a multiple of 8
  pub vacated_whole : (hs : List Hold) (bs : List Block) → Whole bs → Whole (vacate_unheld hs bs)
  unfolding whole_size vacate
  vacated_whole hs bs w = vacated_all whole_size (λ b l e. rw length-replicate e) hs bs w

  -- where every live block is held, nothing is vacated
  pub vacated_same : (hs : List Hold) (bs : List Block) → all (stays hs) bs ≡ true → vacate_unheld hs bs ≡ bs
  unfolding changed all
  vacated_same hs [] a = refl
  vacated_same hs (b ∷ bs) a =
      rw (vacated_stays hs b (and_left (stays hs b) (all (stays hs) bs) a), vacated_same hs bs (and_right (stays hs b) (all (stays hs) bs) a))

  vacated_cons : (hs : List Hold) (at : ℕ) (b : Block) (bs : List Block)
      → objects_from (at + size b) (vacate_unheld hs bs) ≡ keep (object_held hs) (objects_from (at + size b) bs)
      → (x y : Bool) → live b ≡ x → held hs b.serial ≡ y → objects_from at (vacate_unheld hs (b ∷ bs))
      ≡ keep (object_held hs) (objects_from at (b ∷ bs))
  unfolding changed keep vacate
  vacated_cons hs at b bs ih false y eb eh = rw (eb, objects_free at b (vacate_unheld hs bs) eb, objects_free at b bs eb) ih
  vacated_cons hs at b bs ih true true eb eh = rw (eb, eh, objects_live at b (vacate_unheld hs bs) eb, objects_live at b bs eb, eh, ih)
  vacated_cons hs at b bs ih true false eb eh =
      rw (eb, eh, objects_live at b bs eb, eh) (objects_free at (vacate kind b) (vacate_unheld hs bs) (vacated_dead b) ∙ rw length-replicate ih)

  -- the objects left are exactly the held ones, in order
  pub vacated_objects : (hs : List Hold) (at : ℕ) (bs : List Block) → objects_from at (vacate_unheld hs bs)
      ≡ keep (object_held hs) (objects_from at bs)
  unfolding changed objects_from keep
  vacated_objects hs at [] = refl
  vacated_objects hs at (b ∷ bs) = vacated_cons hs at b bs (vacated_objects hs (at + size b) bs) (live b) (held hs b.serial) refl refl

  -- after settling, the objects are exactly the held ones, in order
  pub settle_objects : (hs : List Hold) (bs : List Block) → objects (settle kind hs bs) ≡ keep (object_held hs) (objects bs)
  unfolding settle reclaim objects
  settle_objects hs bs = join_objects 0 (vacate_unheld hs bs) ∙ vacated_objects hs 0 bs

  -- the sizes add up to the same
  pub settle_total : (hs : List Hold) (bs : List Block) → total size (settle kind hs bs) ≡ total size bs
  unfolding settle reclaim
  settle_total hs bs = join_total (vacate_unheld hs bs) ∙ vacated_total hs bs

  -- every size stays a multiple of 8
  pub settle_whole : (hs : List Hold) (bs : List Block) → Whole bs → Whole (settle kind hs bs)
  unfolding settle reclaim
  settle_whole hs bs w = join_whole (vacate_unheld hs bs) (vacated_whole hs bs w)

  -- the blocks are cut as the paper says
  pub settle_cut : (hs : List Hold) (bs : List Block) → all long_enough bs ≡ true → well_cut (settle kind hs bs) ≡ true
  unfolding settle reclaim well_cut
  settle_cut hs bs a =
      and_both (all long_enough (join_free (vacate_unheld hs bs))) (free_apart (join_free (vacate_unheld hs bs)))
      (join_long (vacate_unheld hs bs) (vacated_long hs bs a))
      (join_apart_all (vacate_unheld hs bs))

  -- where every live block is held, and no two free ones stand side by side, the very blocks are left
  pub settle_same : (hs : List Hold) (bs : List Block) → all (stays hs) bs ≡ true → free_apart bs ≡ true → settle kind hs bs ≡ bs
  unfolding settle reclaim
  settle_same hs bs s a = rw (vacated_same hs bs s) (join_same bs a)

  -- vacating before joining, or after it too, gives the same
  join_vacated : (hs : List Hold) (bs : List Block) → join_free (vacate_unheld hs (join_free bs)) ≡ join_free (vacate_unheld hs bs)
  unfolding join_free changed
  join_vacated hs [] = refl
  join_vacated hs (b ∷ bs) = go (join_vacated hs bs)
    where
      go : join_free (vacate_unheld hs (join_free bs)) ≡ join_free (vacate_unheld hs bs)
          → join_free (vacate_unheld hs (join_front b (join_free bs))) ≡ join_front (vacated hs b) (join_free (vacate_unheld hs bs))
      go ih =
          join_elim (λ l. join_free (vacate_unheld hs l) ≡ join_front (vacated hs b) (join_free (vacate_unheld hs bs))) b (join_free bs)
          (λ e. ap (join_front (vacated hs b)) ih)
          (λ d ds eb ed e.
          (let ih' : join_front (vacated hs d) (join_free (vacate_unheld hs ds)) ≡ join_free (vacate_unheld hs bs) = rw e at ih in
          rw (← ih', vacated_stays hs b (rw eb), vacated_stays hs d (rw ed)) (join_assoc b d (join_free (vacate_unheld hs ds)) eb ed)))

  module _ (hs hs' : List Hold) (fewer : (serial : ℕ) → held hs' serial ≡ true → held hs serial ≡ true) where
    -- a block that more records leave unheld is vacated already
    vacated_once : (b : Block) → vacated hs' (vacated hs b) ≡ vacated hs' b
    vacated_once b =
        vacated_elim (λ c. vacated hs' c ≡ vacated hs' b) hs b (λ e. refl)
        (λ eb eh. vacated_stays hs' (vacate kind b) (dead_stays hs' b) ∙ go eb eh (held hs' b.serial) refl)
      where
        go : live b ≡ true → held hs b.serial ≡ false → (x : Bool) → held hs' b.serial ≡ x → vacate kind b ≡ vacated hs' b
        go eb eh true e = absurd (true≢false (sym (fewer b.serial e) ∙ eh))
        go eb eh false e = rw (eb, e)

    vacated_twice : (bs : List Block) → vacate_unheld hs' (vacate_unheld hs bs) ≡ vacate_unheld hs' bs
    unfolding changed
    vacated_twice [] = refl
    vacated_twice (b ∷ bs) = rw (vacated_once b, vacated_twice bs)

    -- settling, and settling again with fewer holds, is settling once
    pub settle_twice : (bs : List Block) → settle kind hs' (settle kind hs bs) ≡ settle kind hs' bs
    unfolding settle reclaim
    settle_twice bs = join_vacated hs' (vacate_unheld hs bs) ∙ ap join_free (vacated_twice bs)

  -- vacating one block of a list where every other live block is held
  vacated_one : (hs : List Hold) (xs : List Block) (b : Block) (ys : List Block) → live b ≡ true → held hs b.serial ≡ false → all (stays hs) xs
      ≡ true
      → all (stays hs) ys ≡ true → vacate_unheld hs (xs ++ (b ∷ ys)) ≡ xs ++ (vacate kind b ∷ ys)
  unfolding changed all
  vacated_one hs [] b ys eb eh sx sy = rw (eb, eh, vacated_same hs ys sy)
  vacated_one hs (x ∷ xs) b ys eb eh sx sy =
      rw (
        vacated_stays hs x (and_left (stays hs x) (all (stays hs) xs) sx),
        vacated_one hs xs b ys eb eh
            (and_right (stays hs x) (all (stays hs) xs) sx) sy,
      )

  -- where one live block is no longer held, that block joins its free neighbours and nothing else changes
  pub settle_one : (hs : List Hold) (bs xs : List Block) (b : Block) (ys : List Block) → bs ≡ xs ++ (b ∷ ys) → free_apart bs ≡ true → live b ≡ true
      → held hs b.serial ≡ false → all (stays hs) xs ≡ true → all (stays hs) ys ≡ true → settle kind hs bs ≡ join_neighbours xs (vacate kind b) ys
  unfolding settle reclaim
  settle_one hs bs xs b ys e a eb eh sx sy = rw (e, vacated_one hs xs b ys eb eh sx sy) (join_replaced xs b (vacate kind b) ys (rw e at a))

  -- a block that no record holds may be vacated before the others
  vacated_first : (hs : List Hold) (xs : List Block) (b : Block) (ys : List Block) → live b ≡ true → held hs b.serial ≡ false
      → vacate_unheld hs (xs ++ (vacate kind b ∷ ys)) ≡ vacate_unheld hs (xs ++ (b ∷ ys))
  unfolding changed
  vacated_first hs [] b ys eb eh = rw (eb, eh) (ap (λ (c : Block). c ∷ vacate_unheld hs ys) (vacated_stays hs (vacate kind b) (dead_stays hs b)))
  vacated_first hs (x ∷ xs) b ys eb eh = rw (vacated_first hs xs b ys eb eh)

  vacated_writable : (xs : List Block) (b : Block) (ys : List Block) → AllWritable (xs ++ (b ∷ ys)) → AllWritable (xs ++ (vacate kind b ∷ ys))
  unfolding vacate
  vacated_writable [] b ys w =
      (record { whole = rw length-replicate w.0.whole; small = rw length-replicate w.0.small; narrow = vacant_narrow kind }, w.1)
  vacated_writable (x ∷ xs) b ys w = (w.0, vacated_writable xs b ys w.1)

  -- a block of a list without free neighbours is freed: it is vacated and joins its free neighbours
  module _ (xs : List Block) (b : Block) (ys : List Block) (a : free_apart (xs ++ (b ∷ ys)) ≡ true) where
    freed_joined : join_free (xs ++ (vacate kind b ∷ ys)) ≡ join_neighbours xs (vacate kind b) ys
    freed_joined = join_replaced xs b (vacate kind b) ys a

    -- no two free blocks stand side by side then
    pub freed_apart : free_apart (join_neighbours xs (vacate kind b) ys) ≡ true
    freed_apart = rw (← freed_joined) (join_apart_all (xs ++ (vacate kind b ∷ ys)))

    -- the sizes add up to the same
    pub freed_total : total size (join_neighbours xs (vacate kind b) ys) ≡ total size (xs ++ (b ∷ ys))
    unfolding total vacate
    freed_total =
        rw (
          ← freed_joined,
          join_total (xs ++ (vacate kind b ∷ ys)),
          total_append size xs (vacate kind b ∷ ys),
          total_append size xs (b ∷ ys),
          length-replicate,
        )

    -- the blocks can be written, where their sizes add up to at most 32,768
    pub freed_writable : AllWritable (xs ++ (b ∷ ys)) → total size (xs ++ (b ∷ ys)) ≤ 32768 → AllWritable (join_neighbours xs (vacate kind b) ys)
    freed_writable w l =
        rw freed_joined at
        (join_writable (xs ++ (vacate kind b ∷ ys)) (vacated_writable xs b ys w)
        (omega (arith, freed_total, ap (total size) freed_joined, join_total (xs ++ (vacate kind b ∷ ys)))))

    -- and settling goes on as if it were not freed, where no record holds it
    pub freed_settles : (hs : List Hold) → live b ≡ true → held hs b.serial ≡ false → settle kind hs (join_neighbours xs (vacate kind b) ys)
        ≡ settle kind hs (xs ++ (b ∷ ys))
    unfolding settle reclaim
    freed_settles hs eb eh = rw (← freed_joined) (join_vacated hs (xs ++ (vacate kind b ∷ ys)) ∙ ap join_free (vacated_first hs xs b ys eb eh))

  -- free-all of a quota with no record leaves the very blocks
  pub settle_none : (q : ℕ) (hs : List Hold) (bs : List Block) → any (record_of q) hs ≡ false → all (stays hs) bs ≡ true → free_apart bs ≡ true
      → settle kind (drop_records q hs) bs ≡ bs
  settle_none q hs bs e s a = rw (drop_none q hs e) (settle_same hs bs s a)
