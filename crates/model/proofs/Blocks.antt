-- Laws of lists of blocks that the changes of blocks share: objects, sizes and free neighbours of a list that is put together from parts, and the
-- block that an object is of.
-- Each goes along the first part block by block.
use mathlib.Core.Path.{◌≡◌, refl, ap, sym, ◌∙◌}
use Prim.Native.Nat.{ℕ, ◌+◌, ◌%◌}
use native.Mathlib.Nat.{add-zero, add_assoc}
use native.Mathlib.Omega.{arith}
use mathlib.Core.List.Memᴰ
use mathlib.Core.List.{List, [], ◌∷◌, ◌++◌, Memᴰ}
use mathlib.Core.Bool.{Bool, true, false, not, cond, ◌||◌, or-false}
use mathlib.Core.Logic.{⊎_elim}
use lib.Dec.{eqb}
use borrow.Author.Tests.{eqb-true, eq-eqb}
use Rattle.layout.specs.Blocks.{Block, size, live, total_size, AllWritable, occupied, quarantined}
use Rattle.lists.specs.Lists.{all, total}
use Rattle.model.specs.Objects.{object, objects_from}
use Rattle.model.specs.Consistent.{starts_free, free_apart}
use Rattle.model.specs.declared.Handle.{Handle}
use Rattle.model.proofs.Rows
use Rattle.lists.proofs.Bools.{and_left, and_right, and_both, or_left}

-- the size is a multiple of 8
unfoldable pub whole_size : Block → Bool
whole_size b = eqb (size b % 8) 0

-- every size is a multiple of 8
abbrev pub Whole : List Block → Type 0
Whole bs = all whole_size bs ≡ true

-- where every size is a multiple of 8, their sum is one
pub whole_total : (bs : List Block) → Whole bs → total size bs % 8 ≡ 0
unfolding all total whole_size
whole_total [] w = refl
whole_total (b ∷ bs) w =
    omega (arith, eqb-true (size b % 8) 0 (and_left (whole_size b) (all whole_size bs) w), whole_total bs (and_right (whole_size b) (all whole_size bs) w))

-- the size of blocks in bytes is the sum of their sizes
pub total_is : (bs : List Block) → total_size bs ≡ total size bs
unfolding total_size total
total_is [] = refl
total_is (b ∷ bs) = rw (total_is bs)

-- blocks that can be written have sizes that are multiples of 8
pub writable_whole : (bs : List Block) → AllWritable bs → Whole bs
unfolding all whole_size
writable_whole [] w = refl
writable_whole (b ∷ bs) w = and_both (whole_size b) (all whole_size bs) (eq-eqb (size b % 8) 0 (omega (arith, w.0.whole))) (writable_whole bs w.1)

-- a live block has its object in front of the others
pub objects_live : (at : ℕ) (b : Block) (bs : List Block) → live b ≡ true → objects_from at (b ∷ bs) ≡ object at b ∷ objects_from (at + size b) bs
unfolding objects_from
objects_live at b bs e = rw e

-- a free block is not live
pub free_not_live : (b : Block) → occupied b ≡ false → live b ≡ false
free_not_live b e = rw e

-- and a live one is occupied
pub live_occupied : (b : Block) → live b ≡ true → occupied b ≡ true
live_occupied b e = and_left (occupied b) (not (quarantined b)) e

-- a block that is not live has no object
pub objects_free : (at : ℕ) (b : Block) (bs : List Block) → live b ≡ false → objects_from at (b ∷ bs) ≡ objects_from (at + size b) bs
unfolding objects_from
objects_free at b bs e = rw e

-- the objects of two lists, the second behind the first
pub objects_append : (at : ℕ) (xs ys : List Block) → objects_from at (xs ++ ys) ≡ objects_from at xs ++ objects_from (at + total size xs) ys
unfolding objects_from total
objects_append at [] ys = rw add-zero
objects_append at (b ∷ bs) ys = go (live b) refl (objects_append (at + size b) bs ys)
  where
    go : (x : Bool) → live b ≡ x → objects_from (at + size b) (bs ++ ys) ≡ objects_from (at + size b) bs ++ objects_from (at + size b + total size bs) ys
        → objects_from at (b ∷ bs ++ ys) ≡ objects_from at (b ∷ bs) ++ objects_from (at + (size b + total size bs)) ys
    go true e ih = rw (e, ih, add_assoc at (size b) (total size bs))
    go false e ih = rw (e, ih, add_assoc at (size b) (total size bs))

-- where the block of an object stands, where the first block starts at a place
pub record Placed (at : ℕ) (o : Handle) (bs : List Block) : Type 0 where
  pub front : List Block
  pub block : Block
  pub back : List Block
  pub split : bs ≡ front ++ (block ∷ back)
  pub alive : live block ≡ true
  pub place : o ≡ object (at + total_size front) block

placed_later : (at : ℕ) (b : Block) (bs : List Block) (o : Handle) → Placed (at + size b) o bs → Placed at o (b ∷ bs)
unfolding total_size
placed_later at b bs o p =
    record {
      front = b ∷ p.front;
      block = p.block;
      back = p.back;
      split = ap (λ (l : List Block). b ∷ l) p.split;
      alive = p.alive;
      place = p.place ∙ ap (λ (n : ℕ). object n p.block) (add_assoc at (size b) (total_size p.front));
    }

placed_here : (at : ℕ) (b : Block) (bs : List Block) (o : Handle) → live b ≡ true → o ≡ object at b → Placed at o (b ∷ bs)
unfolding total_size
placed_here at b bs o l e = record { front = []; block = b; back = bs; split = refl; alive = l; place = e ∙ ap (λ (n : ℕ). object n b) (sym (add-zero at)) }

-- every object is that of a live block
pub placed : (at : ℕ) (bs : List Block) (o : Handle) → Memᴰ o (objects_from at bs) → Placed at o bs
unfolding objects_from
placed at [] o m = absurd (Memᴰ.not-nil m)
placed at (b ∷ bs) o m = go (live b) refl m (placed (at + size b) bs o)
  where
    go : (x : Bool) → live b ≡ x → Memᴰ o (cond x (object at b ∷ objects_from (at + size b) bs) (objects_from (at + size b) bs))
        → (Memᴰ o (objects_from (at + size b) bs) → Placed (at + size b) o bs) → Placed at o (b ∷ bs)
    go true e x ih = ⊎_elim (λ q. placed_here at b bs o e q) (λ y. placed_later at b bs o (ih y)) (Memᴰ.cases_cons x)
    go false e x ih = placed_later at b bs o (ih x)

-- where no two free blocks stand side by side, the first block is live or the next one is
pub apart_head : (b : Block) (bs : List Block) → free_apart (b ∷ bs) ≡ true → (occupied b || not (starts_free bs)) ≡ true
unfolding free_apart
apart_head b bs a = and_left (occupied b || not (starts_free bs)) (free_apart bs) a

-- and no two of the others stand side by side
pub apart_tail : (b : Block) (bs : List Block) → free_apart (b ∷ bs) ≡ true → free_apart bs ≡ true
unfolding free_apart
apart_tail b bs a = and_right (occupied b || not (starts_free bs)) (free_apart bs) a

-- a block may stand in front of others if it is live or they do not start free
pub apart_cons : (b : Block) (bs : List Block) → (occupied b || not (starts_free bs)) ≡ true → free_apart bs ≡ true → free_apart (b ∷ bs) ≡ true
unfolding free_apart
apart_cons b bs h t = and_both (occupied b || not (starts_free bs)) (free_apart bs) h t

-- in front of a free block stands no free one, so any blocks may take the place of that block
replaced_head : (b : Block) (bs : List Block) (f : Block) (ys zs : List Block) → occupied f ≡ false → (occupied b || not (starts_free (bs ++ (f ∷ ys)))) ≡ true
    → (occupied b || not (starts_free (bs ++ zs))) ≡ true
unfolding starts_free
replaced_head b [] f ys zs e a = or_left (occupied b) (not (starts_free zs)) (simp or-false at (rw e at a))
replaced_head b (c ∷ cs) f ys zs e a = a

-- where a free block and what follows it give way to others, no two free blocks stand side by side if no two of the others do
pub apart_replaced : (xs : List Block) (f : Block) (ys zs : List Block) → occupied f ≡ false → free_apart (xs ++ (f ∷ ys)) ≡ true → free_apart zs ≡ true
    → free_apart (xs ++ zs) ≡ true
apart_replaced [] f ys zs e a h = h
apart_replaced (b ∷ bs) f ys zs e a h =
    apart_cons b (bs ++ zs) (replaced_head b bs f ys zs e (apart_head b (bs ++ (f ∷ ys)) a)) (apart_replaced bs f ys zs e (apart_tail b (bs ++ (f ∷ ys)) a) h)

-- no two free blocks of a list's end stand side by side if no two of the list do
pub apart_back : (xs ys : List Block) → free_apart (xs ++ ys) ≡ true → free_apart ys ≡ true
apart_back [] ys a = a
apart_back (b ∷ bs) ys a = apart_back bs ys (apart_tail b (bs ++ ys) a)
