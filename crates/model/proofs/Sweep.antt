-- A sweep: quarantined blocks become free and join their free neighbours; objects, sizes and every other block stay.
-- Unquarantining looks at each block by itself and keeps its bytes, and a quarantined block is no object before or after it.
use mathlib.Core.Path.{◌≡◌, refl, ap, sym, ◌∙◌}
use Prim.Native.Nat.{ℕ, ◌+◌, ◌≤◌}
use mathlib.Core.List.{List, [], ◌∷◌, ◌++◌}
use mathlib.Core.Bool.{Bool, true, false, cond, and-false, true≢false}
use lib.Dec.{lit<}
use borrow.Author.Tests.{eqb-true, not-true}
use Rattle.layout.specs.Blocks.{Block, size, occupied, QUARANTINED, quarantined, live, AllWritable, render}
use Rattle.lists.specs.Lists.{all, total}
use Rattle.model.specs.Objects.{objects_from, objects}
use Rattle.model.specs.Consistent.{long_enough, free_apart, well_cut}
use Rattle.model.specs.Space.{join_front, join_free, changed, reclaim, unquarantine, not_quarantined, swept}
use Rattle.model.specs.Joining.{join_neighbours}
use Rattle.model.proofs.Touched.{sweep_touches}
use Rattle.model.proofs.Rows
use Rattle.lists.proofs.Bools.{and_left, and_right, and_both}
use Rattle.lists.proofs.Lists.{total_append}
use Rattle.model.proofs.Blocks.{whole_size, Whole, objects_free}
use Rattle.model.proofs.Join.{join_elim, objects_cong, join_objects, join_total, join_all, join_long, join_whole, join_writable, join_apart_all}
use Rattle.model.proofs.Join.{join_same, join_assoc, join_replaced}
use Rattle.model.proofs.Same.{Same}
use Rattle.model.proofs.SettleBytes.{reclaim_frame}

-- a block as a sweep leaves it before it joins, and blocks
abbrev pub unquarantined : Block → Block
unquarantined b = cond (quarantined b) (unquarantine b) b

abbrev pub unquarantine_all : List Block → List Block
unquarantine_all bs = changed quarantined unquarantine bs

-- a quarantined block is occupied, and is not live
pub quarantined_occupied : (b : Block) → quarantined b ≡ true → occupied b ≡ true
quarantined_occupied b e = rw (eqb-true b.serial QUARANTINED e)

pub quarantined_dead : (b : Block) → quarantined b ≡ true → live b ≡ false
quarantined_dead b e = rw (e, and-false (occupied b))

unquarantined_elim : (P : Block → Type 0) (b : Block) → (quarantined b ≡ false → P b) → (quarantined b ≡ true → P (unquarantine b)) → P (unquarantined b)
unquarantined_elim P b f g = go (quarantined b) refl
  where
    go : (x : Bool) → quarantined b ≡ x → P (unquarantined b)
    go true e = rw e (g e)
    go false e = rw e (f e)

unquarantined_size : (b : Block) → size (unquarantined b) ≡ size b
unquarantined_size b = unquarantined_elim (λ c. size c ≡ size b) b (λ e. refl) (λ e. refl)

-- the sum of the sizes stays
pub unquarantined_total : (bs : List Block) → total size (unquarantine_all bs) ≡ total size bs
unfolding changed total
unquarantined_total [] = refl
unquarantined_total (b ∷ bs) = rw (unquarantined_size b, unquarantined_total bs)

-- a test of all blocks still holds if it holds of an unquarantined block
pub unquarantined_all : (p : Block → Bool) → ((b : Block) → p b ≡ true → p (unquarantine b) ≡ true) → (bs : List Block) → all p bs ≡ true → all p
    (unquarantine_all bs) ≡ true
unfolding changed all
unquarantined_all p f [] a = refl
unquarantined_all p f (b ∷ bs) a =
    let e = and_left (p b) (all p bs) a in
    and_both (p (unquarantined b)) (all p (unquarantine_all bs)) (unquarantined_elim (λ c. p c ≡ true) b (λ q. e) (λ q. f b e))
    (unquarantined_all p f bs (and_right (p b) (all p bs) a))

-- objects stay
unquarantined_objects : (at : ℕ) (bs : List Block) → objects_from at (unquarantine_all bs) ≡ objects_from at bs
unfolding changed objects_from
unquarantined_objects at [] = refl
unquarantined_objects at (b ∷ bs) = go (unquarantined_objects (at + size b) bs)
  where
    go : objects_from (at + size b) (unquarantine_all bs) ≡ objects_from (at + size b) bs → objects_from at (unquarantined b ∷ unquarantine_all bs)
        ≡ objects_from at (b ∷ bs)
    go ih =
        unquarantined_elim (λ c. objects_from at (c ∷ unquarantine_all bs) ≡ objects_from at (b ∷ bs)) b (λ e. objects_cong at b (unquarantine_all bs) bs ih)
        (λ e. objects_free at (unquarantine b) (unquarantine_all bs) refl ∙ ih ∙ sym (objects_free at b bs (quarantined_dead b e)))

-- after a sweep the objects are the same, in order
pub swept_objects : (bs : List Block) → objects (swept bs) ≡ objects bs
unfolding swept reclaim objects
swept_objects bs = join_objects 0 (unquarantine_all bs) ∙ unquarantined_objects 0 bs

-- the sizes add up to the same
pub swept_total : (bs : List Block) → total size (swept bs) ≡ total size bs
unfolding swept reclaim
swept_total bs = join_total (unquarantine_all bs) ∙ unquarantined_total bs

-- every size stays a multiple of 8
pub swept_whole : (bs : List Block) → Whole bs → Whole (swept bs)
unfolding swept reclaim whole_size
swept_whole bs w = join_whole (unquarantine_all bs) (unquarantined_all whole_size (λ b e. e) bs w)

-- the blocks are cut as the paper says
pub swept_cut : (bs : List Block) → all long_enough bs ≡ true → well_cut (swept bs) ≡ true
unfolding swept reclaim well_cut long_enough
swept_cut bs a =
    and_both (all long_enough (join_free (unquarantine_all bs))) (free_apart (join_free (unquarantine_all bs)))
    (join_long (unquarantine_all bs) (unquarantined_all long_enough (λ b e. refl) bs a))
    (join_apart_all (unquarantine_all bs))

-- no block is quarantined any more
unquarantined_open : (bs : List Block) → all not_quarantined (unquarantine_all bs) ≡ true
unfolding changed all
unquarantined_open [] = refl
unquarantined_open (b ∷ bs) =
    and_both (not_quarantined (unquarantined b)) _ (unquarantined_elim (λ c. not_quarantined c ≡ true) b (λ e. rw e) (λ e. refl)) (unquarantined_open bs)

pub swept_none : (bs : List Block) → all not_quarantined (swept bs) ≡ true
unfolding swept reclaim
swept_none bs = join_all not_quarantined (λ b c p q. refl) (unquarantine_all bs) (unquarantined_open bs)

-- where no block is quarantined, nothing changes
unquarantined_same : (bs : List Block) → all not_quarantined bs ≡ true → unquarantine_all bs ≡ bs
unfolding changed all
unquarantined_same [] a = refl
unquarantined_same (b ∷ bs) a =
    rw (
      not-true (quarantined b) (and_left (not_quarantined b) (all not_quarantined bs) a),
      unquarantined_same bs
          (and_right (not_quarantined b) (all not_quarantined bs) a),
    )

pub swept_same : (bs : List Block) → all not_quarantined bs ≡ true → free_apart bs ≡ true → swept bs ≡ bs
unfolding swept reclaim
swept_same bs o a = rw (unquarantined_same bs o) (join_same bs a)

-- every byte that a sweep does not touch stays
pub sweep_frame : (bs : List Block) → free_apart bs ≡ true → Same (sweep_touches bs) (render (swept bs)) (render bs)
unfolding swept
sweep_frame bs a = reclaim_frame quarantined unquarantine quarantined_occupied (λ b. refl) (λ b. refl) bs a

-- a free block is not quarantined
free_same : (b : Block) → occupied b ≡ false → unquarantined b ≡ b
free_same b e = unquarantined_elim (λ c. c ≡ b) b (λ q. refl) (λ q. absurd (true≢false (sym (quarantined_occupied b q) ∙ e)))

-- unquarantining before joining, or after it too, gives the same
join_unquarantined : (bs : List Block) → join_free (unquarantine_all (join_free bs)) ≡ join_free (unquarantine_all bs)
unfolding join_free changed
join_unquarantined [] = refl
join_unquarantined (b ∷ bs) = go (join_unquarantined bs)
  where
    go : join_free (unquarantine_all (join_free bs)) ≡ join_free (unquarantine_all bs)
        → join_free (unquarantine_all (join_front b (join_free bs))) ≡ join_front (unquarantined b) (join_free (unquarantine_all bs))
    go ih =
        join_elim (λ l. join_free (unquarantine_all l) ≡ join_front (unquarantined b) (join_free (unquarantine_all bs))) b (join_free bs)
        (λ e. ap (join_front (unquarantined b)) ih)
        (λ d ds eb ed e.
        (let ih' : join_front (unquarantined d) (join_free (unquarantine_all ds)) ≡ join_free (unquarantine_all bs) = rw e at ih in
        rw (← ih', free_same b eb, free_same d ed) (join_assoc b d (join_free (unquarantine_all ds)) eb ed)))

-- a quarantined block may be unquarantined before the others
unquarantined_first : (xs : List Block) (b : Block) (ys : List Block) → quarantined b ≡ true → unquarantine_all (xs ++ (unquarantine b ∷ ys))
    ≡ unquarantine_all (xs ++ (b ∷ ys))
unfolding changed
unquarantined_first [] b ys e = rw e
unquarantined_first (x ∷ xs) b ys e = rw (unquarantined_first xs b ys e)

writable_unquarantined : (xs : List Block) (b : Block) (ys : List Block) → AllWritable (xs ++ (b ∷ ys)) → AllWritable (xs ++ (unquarantine b ∷ ys))
writable_unquarantined [] b ys w = (record { whole = w.0.whole; small = w.0.small; narrow = lit< tt }, w.1)
writable_unquarantined (x ∷ xs) b ys w = (w.0, writable_unquarantined xs b ys w.1)

-- a quarantined block of a list without free neighbours is unquarantined: it joins its free neighbours
module _ (xs : List Block) (b : Block) (ys : List Block) (a : free_apart (xs ++ (b ∷ ys)) ≡ true) where
  unquarantined_joined : join_free (xs ++ (unquarantine b ∷ ys)) ≡ join_neighbours xs (unquarantine b) ys
  unquarantined_joined = join_replaced xs b (unquarantine b) ys a

  pub unquarantined_apart : free_apart (join_neighbours xs (unquarantine b) ys) ≡ true
  unquarantined_apart = rw (← unquarantined_joined) (join_apart_all (xs ++ (unquarantine b ∷ ys)))

  pub unquarantined_sizes : total size (join_neighbours xs (unquarantine b) ys) ≡ total size (xs ++ (b ∷ ys))
  unfolding total
  unquarantined_sizes =
      rw (← unquarantined_joined, join_total (xs ++ (unquarantine b ∷ ys)), total_append size xs (unquarantine b ∷ ys), total_append size xs (b ∷ ys))

  pub unquarantined_writable : AllWritable (xs ++ (b ∷ ys)) → total size (xs ++ (b ∷ ys)) ≤ 32768 → AllWritable (join_neighbours xs (unquarantine b) ys)
  unquarantined_writable w l =
      rw unquarantined_joined at
      (join_writable (xs ++ (unquarantine b ∷ ys)) (writable_unquarantined xs b ys w)
      (rw (← join_total (xs ++ (unquarantine b ∷ ys)), unquarantined_joined, unquarantined_sizes) l))

  -- and the sweep goes on as if it were not
  pub unquarantined_sweeps : quarantined b ≡ true → swept (join_neighbours xs (unquarantine b) ys) ≡ swept (xs ++ (b ∷ ys))
  unfolding swept reclaim
  unquarantined_sweeps e = rw (← unquarantined_joined) (join_unquarantined (xs ++ (unquarantine b ∷ ys)) ∙ ap join_free (unquarantined_first xs b ys e))
