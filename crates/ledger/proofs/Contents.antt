-- Rule 10.12: no call changes a byte of an object that stays. An object's bytes are the body of its block; a call leaves every live block as it is,
-- but for the new object's and those that become free; and no two live blocks have the same serial.
use Prim.Native.Nat.{ℕ, ◌+◌}
use native.Mathlib.Nat.{add-zero, zero-add, add_assoc}
use mathlib.Core.Path.{◌≡◌, refl, ap, sym, ◌∙◌}
use mathlib.Core.List.{List, [], ◌∷◌, ◌++◌, Memᴰ}
use mathlib.Core.Bool.{Bool, true, false, cond}
use mathlib.Core.Logic.{⊎_elim}
use Rattle.layout.specs.Blocks.{Block, size, live, render, total_size}
use Rattle.layout.proofs.Render.{body_stands}
use Rattle.model.specs.Objects.{object, objects_from, objects}
use Rattle.model.specs.Consistent.{serials_differ}
use Rattle.model.specs.declared.Handle.{Handle}
use Rattle.model.proofs.Blocks.{Placed, placed}
use Rattle.model.proofs.Lookup.{same_serial}
use Rattle.ledger.specs.Contents.{contents}

-- the live block of an object, and its bytes
pub record BlockOf (o : Handle) (bs : List Block) : Type 0 where
  pub block : Block
  pub member : Memᴰ block bs
  pub alive : live block ≡ true
  pub serial : o.serial ≡ block.serial
  pub bytes : contents o (render bs) ≡ block.body

-- an object at a block of a list has that block's body
at_block : (xs : List Block) (b : Block) (ys : List Block) → contents (object (total_size xs) b) (render (xs ++ (b ∷ ys))) ≡ b.body
unfolding contents render
at_block xs b ys = body_stands 0 xs b ys

-- the object of a live block that stands behind others
object_there : (at : ℕ) (xs : List Block) (b : Block) (ys : List Block) → live b ≡ true
    → Memᴰ (object (at + total_size xs) b) (objects_from at (xs ++ (b ∷ ys)))
unfolding objects_from total_size
object_there at [] b ys l = rw (l, add-zero at) (mathlib.Core.List.Memᴰ.head refl)
object_there at (x ∷ xs) b ys l = go (live x) (object_there (at + size x) xs b ys l)
  where
    go : (t : Bool) → Memᴰ (object (at + size x + total_size xs) b) (objects_from (at + size x) (xs ++ (b ∷ ys)))
        → Memᴰ (object (at + (size x + total_size xs)) b) (cond t (object at x ∷ objects_from (at + size x) (xs ++ (b ∷ ys)))
        (objects_from (at + size x) (xs ++ (b ∷ ys))))
    go true m = mathlib.Core.List.Memᴰ.tail (rw (add_assoc at (size x) (total_size xs)) at m)
    go false m = rw (add_assoc at (size x) (total_size xs)) at m

-- an object has a live block with its serial and its bytes
block_placed : (bs : List Block) (o : Handle) → Placed 0 o bs → BlockOf o bs
block_placed bs o p =
    let e : o ≡ object (total_size p.front) p.block = p.place ∙ ap (λ (n : ℕ). object n p.block) (zero-add (total_size p.front)) in
    record {
      block = p.block;
      member = rw p.split (mathlib.Core.List.Memᴰ.append_right p.front (mathlib.Core.List.Memᴰ.head refl));
      alive = p.alive;
      serial = ap (λ (x : Handle). x.serial) e;
      bytes = (λ i. contents (e i) (render (p.split i))) ∙ at_block p.front p.block p.back;
    }

pub block_of : (bs : List Block) (o : Handle) → Memᴰ o (objects bs) → BlockOf o bs
unfolding objects
block_of bs o m = block_placed bs o (placed 0 bs o m)

-- a live block has an object with its serial and its bytes
pub record ObjectOf (b : Block) (bs : List Block) : Type 0 where
  pub object : Handle
  pub member : Memᴰ object (objects bs)
  pub serial : object.serial ≡ b.serial
  pub bytes : contents object (render bs) ≡ b.body

splits : (b : Block) (bs : List Block) → Memᴰ b bs → (xs : List Block) × (ys : List Block) × (bs ≡ xs ++ (b ∷ ys))
splits b [] m = absurd (mathlib.Core.List.Memᴰ.not-nil m)
splits b (c ∷ cs) m = ⊎_elim (λ q. ([], cs, ap (λ (x : Block). x ∷ cs) (sym q)))
    (λ y. (let r = splits b cs y in (c ∷ r.0, r.1, ap (λ (l : List Block). c ∷ l) r.2))) (mathlib.Core.List.Memᴰ.cases_cons m)

object_split : (bs xs : List Block) (b : Block) (ys : List Block) → bs ≡ xs ++ (b ∷ ys) → live b ≡ true → ObjectOf b bs
unfolding objects
object_split bs xs b ys e l =
    let x : Memᴰ (object (total_size xs) b) (objects_from 0 (xs ++ (b ∷ ys))) = rw (zero-add (total_size xs)) at (object_there 0 xs b ys l) in
    record { object = object (total_size xs) b; member = rw e x; serial = refl; bytes = rw e (at_block xs b ys) }

pub object_of : (bs : List Block) (b : Block) → live b ≡ true → Memᴰ b bs → ObjectOf b bs
object_of bs b l m = let r = splits b bs m in object_split bs r.0 b r.1 r.2 l

-- where every live block of a list, but one with a new serial, was there before, an object that was there keeps its bytes
pub contents_stay : (bs cs : List Block) (new : ℕ) → serials_differ (objects bs) ≡ true
    → ((b : Block) → live b ≡ true → Memᴰ b cs → (b.serial ≡ new → ⊥) → Memᴰ b bs)
    → (o : Handle) → Memᴰ o (objects bs) → Memᴰ o (objects cs) → (o.serial ≡ new → ⊥) → contents o (render cs) ≡ contents o (render bs)
contents_stay bs cs new d f o m n ne =
    let c = block_of cs o n in
    let w = object_of bs c.block c.alive (f c.block c.alive c.member (λ e. ne (c.serial ∙ e))) in
    let same : w.object ≡ o = same_serial (objects bs) d w.object o w.member m (w.serial ∙ sym c.serial) in
    c.bytes ∙ sym w.bytes ∙ ap (λ (x : Handle). contents x (render bs)) same

-- and the object of a block with a serial that no other has
pub contents_are : (bs : List Block) → serials_differ (objects bs) ≡ true → (o : Handle) → Memᴰ o (objects bs) → (b : Block) → live b ≡ true
    → Memᴰ b bs
    → o.serial ≡ b.serial → contents o (render bs) ≡ b.body
contents_are bs d o m b l n e =
    let w = object_of bs b l n in
    ap (λ (x : Handle). contents x (render bs)) (same_serial (objects bs) d o w.object m w.member (e ∙ sym w.serial)) ∙ w.bytes
