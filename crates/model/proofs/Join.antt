-- Joining: free blocks that stand side by side become one, and nothing else changes.
-- A block joins only the first block behind it, so one look at the two says what becomes of them; going on along the list gives the rest.
-- Joining two blocks and then a third is joining all three, because the bytes are put together in the same order.
use mathlib.Core.Path.{◌≡◌, refl, ap, ◌∙◌}
use Prim.Native.Nat.{ℕ, ◌+◌, ◌%◌, ◌≤◌}
use native.Mathlib.Omega.{arith}
use mathlib.Core.List.{List, [], ◌∷◌, ◌++◌, append_assoc}
use mathlib.Core.Bool.{Bool, true, false, not, cond, ◌&&◌, ◌||◌, or-true, false≢true}
use lib.ListN.{replicate, length-append, length-replicate}
use lib.Dec.{lit<}
use borrow.Author.Tests.{eqb-true, eq-eqb}
use Rattle.layout.specs.Blocks.{Block, size, Writable, AllWritable, occupied}
use Rattle.lists.specs.Lists.{all, total}
use Rattle.model.specs.Objects.{objects_from}
use Rattle.model.specs.Consistent.{long_enough, starts_free, free_apart}
use Rattle.model.specs.Space.{join_front, join_free}
use Rattle.model.specs.Joining.{append_joined, join_neighbours}
use Rattle.model.proofs.Rows
use Rattle.lists.proofs.Bools.{and_left, and_right, and_both}
use Rattle.model.proofs.Blocks.{whole_size, Whole, objects_free, apart_head, apart_tail, apart_cons, free_not_live}

-- two free blocks as one
abbrev pub joined : Block → Block → Block
joined b c = record { serial = 0; body = b.body ++ (replicate 8 0 ++ c.body) }

-- the size of two blocks as one is the sum of theirs
pub joined_size : (b c : Block) → size (joined b c) ≡ size b + size c
joined_size b c = simp (length-append, length-replicate) (omega arith)

-- what holds of a block in front of others as it is, and of two free blocks as one, holds once they are joined
pub join_elim : (P : List Block → Type 0) (b : Block) (cs : List Block) → ((occupied b || not (starts_free cs)) ≡ true → P (b ∷ cs))
    → ((d : Block) (ds : List Block) → occupied b ≡ false → occupied d ≡ false → cs ≡ d ∷ ds → P (joined b d ∷ ds)) → P (join_front b cs)
unfolding join_front starts_free
join_elim P b [] f g = f (or-true (occupied b))
join_elim P b (c ∷ cs) f g = go (occupied b) (occupied c) refl refl
  where
    go : (x y : Bool) → occupied b ≡ x → occupied c ≡ y → P (join_front b (c ∷ cs))
    go true y eb ec = rw eb (f (rw eb))
    go false true eb ec = rw (eb, ec) (f (rw (eb, ec)))
    go false false eb ec = rw (eb, ec) (g c cs eb ec refl)

-- a block stays as it is if it is live or what stands behind it does not start free
pub join_apart : (b : Block) (cs : List Block) → (occupied b || not (starts_free cs)) ≡ true → join_front b cs ≡ b ∷ cs
unfolding starts_free
join_apart b cs e = join_elim (λ l. l ≡ b ∷ cs) b cs (λ k. refl) (λ d ds eb ed k. absurd (false≢true (rw (eb, k, ed) at e)))

-- two free blocks become one
pub join_both : (b c : Block) (cs : List Block) → occupied b ≡ false → occupied c ≡ false → join_front b (c ∷ cs) ≡ joined b c ∷ cs
unfolding join_front
join_both b c cs eb ec = rw (eb, ec)

front_objects : (at : ℕ) (b : Block) (cs : List Block) → objects_from at (join_front b cs) ≡ objects_from at (b ∷ cs)
front_objects at b cs =
    join_elim (λ l. objects_from at l ≡ objects_from at (b ∷ cs)) b cs (λ e. refl)
    (λ d ds eb ed e.
    (rw (
      e,
      objects_free at b (d ∷ ds) (free_not_live b eb),
      objects_free (at + size b) d ds (free_not_live d ed),
      objects_free at (joined b d) ds
          refl,
    )
    (ap (λ (k : ℕ). objects_from k ds) (omega (arith, joined_size b d)))))

pub objects_cong : (at : ℕ) (b : Block) (xs ys : List Block) → objects_from (at + size b) xs ≡ objects_from (at + size b) ys
    → objects_from at (b ∷ xs)
    ≡ objects_from at (b ∷ ys)
unfolding objects_from
objects_cong at b xs ys e = rw e

-- joining keeps the objects
pub join_objects : (at : ℕ) (bs : List Block) → objects_from at (join_free bs) ≡ objects_from at bs
unfolding join_free
join_objects at [] = refl
join_objects at (b ∷ bs) = front_objects at b (join_free bs) ∙ objects_cong at b (join_free bs) bs (join_objects (at + size b) bs)

front_total : (b : Block) (cs : List Block) → total size (join_front b cs) ≡ size b + total size cs
unfolding total
front_total b cs =
    join_elim (λ l. total size l ≡ size b + total size cs) b cs (λ e. refl) (λ d ds eb ed e. rw e (omega (arith, joined_size b d)))

-- the sizes add up to the same
pub join_total : (bs : List Block) → total size (join_free bs) ≡ total size bs
unfolding join_free total
join_total [] = refl
join_total (b ∷ bs) = front_total b (join_free bs) ∙ ap (λ (k : ℕ). size b + k) (join_total bs)

module _ (p : Block → Bool) (f : (b c : Block) → p b ≡ true → p c ≡ true → p (joined b c) ≡ true) where
  front_all : (b : Block) (cs : List Block) → p b ≡ true → all p cs ≡ true → all p (join_front b cs) ≡ true
  unfolding all
  front_all b cs e a =
      join_elim (λ l. all p l ≡ true) b cs (λ k. and_both (p b) (all p cs) e a)
      (λ d ds eb ed k.
      (let a' : (p d && all p ds) ≡ true = rw k at a in
      and_both (p (joined b d)) (all p ds) (f b d e (and_left (p d) (all p ds) a')) (and_right (p d) (all p ds) a')))

  -- a test of all blocks still holds if it holds of any two blocks as one
  pub join_all : (bs : List Block) → all p bs ≡ true → all p (join_free bs) ≡ true
  unfolding join_free all
  join_all [] a = refl
  join_all (b ∷ bs) a = front_all b (join_free bs) (and_left (p b) (all p bs) a) (join_all bs (and_right (p b) (all p bs) a))

  -- and holds of blocks with others behind them, the last joined to the first of the others
  pub appended_all : (xs ys : List Block) → all p xs ≡ true → all p ys ≡ true → all p (append_joined xs ys) ≡ true
  unfolding append_joined all
  appended_all [] ys a e = e
  appended_all (x ∷ []) ys a e = front_all x ys (and_left (p x) true a) e
  appended_all (x ∷ (y ∷ xs)) ys a e =
      and_both (p x) (all p (append_joined (y ∷ xs) ys)) (and_left (p x) (all p (y ∷ xs)) a)
      (appended_all (y ∷ xs) ys (and_right (p x) (all p (y ∷ xs)) a) e)

-- every block stays long enough
pub join_long : (bs : List Block) → all long_enough bs ≡ true → all long_enough (join_free bs) ≡ true
unfolding long_enough
join_long bs a = join_all long_enough (λ b c p q. refl) bs a

-- every size stays a multiple of 8
pub join_whole : (bs : List Block) → Whole bs → Whole (join_free bs)
unfolding whole_size
join_whole bs w =
    join_all whole_size
    (λ b c p q. eq-eqb (size (joined b c) % 8) 0 (omega (arith, joined_size b c, eqb-true (size b % 8) 0 p, eqb-true (size c % 8) 0 q))) bs w

front_writable : (b : Block) (cs : List Block) → Writable b → AllWritable cs → size b + total size cs ≤ 32768 → AllWritable (join_front b cs)
unfolding total
front_writable b cs w v l =
    join_elim AllWritable b cs (λ e. (w, v))
    (λ d ds eb ed e.
    (let v' : AllWritable (d ∷ ds) = rw e at v in
    let l' : size b + (size d + total size ds) ≤ 32768 = rw e at l in
    let n = joined_size b d in
    let j : Writable (joined b d) = record { whole = omega (arith, w.whole, v'.0.whole); small = omega arith; narrow = lit< tt } in
    (j, v'.1)))

-- blocks that can be written can be written once they are joined, where their sizes add up to at most 32,768
pub join_writable : (bs : List Block) → AllWritable bs → total size bs ≤ 32768 → AllWritable (join_free bs)
unfolding join_free total
join_writable [] w l = tt
join_writable (b ∷ bs) w l =
    front_writable b (join_free bs) w.0 (join_writable bs w.1 (omega arith)) (omega (arith, join_total bs))

front_apart : (b : Block) (cs : List Block) → free_apart cs ≡ true → free_apart (join_front b cs) ≡ true
front_apart b cs a =
    join_elim (λ l. free_apart l ≡ true) b cs (λ e. apart_cons b cs e a)
    (λ d ds eb ed e.
    (let a' : free_apart (d ∷ ds) ≡ true = rw e at a in
    apart_cons (joined b d) ds (rw ed at (apart_head d ds a')) (apart_tail d ds a')))

-- joining leaves no two free blocks side by side, whatever blocks there were
pub join_apart_all : (bs : List Block) → free_apart (join_free bs) ≡ true
unfolding join_free free_apart
join_apart_all [] = refl
join_apart_all (b ∷ bs) = front_apart b (join_free bs) (join_apart_all bs)

-- where no two stand side by side, joining changes nothing
pub join_same : (bs : List Block) → free_apart bs ≡ true → join_free bs ≡ bs
unfolding join_free
join_same [] a = refl
join_same (b ∷ bs) a = rw (join_same bs (apart_tail b bs a)) (join_apart b bs (apart_head b bs a))

-- joining two blocks and then what stands behind them is joining it to the second and then to the first
pub join_assoc : (b c : Block) (ds : List Block) → occupied b ≡ false → occupied c ≡ false → join_front (joined b c) ds
    ≡ join_front b (join_front c ds)
unfolding starts_free
join_assoc b c [] eb ec = rw (join_apart (joined b c) [] refl, join_apart c [] (or-true (occupied c)), join_both b c [] eb ec)
join_assoc b c (d ∷ ds) eb ec = go (occupied d) refl
  where
    go : (x : Bool) → occupied d ≡ x → join_front (joined b c) (d ∷ ds) ≡ join_front b (join_front c (d ∷ ds))
    go true ed = rw (join_apart (joined b c) (d ∷ ds) (rw ed), join_apart c (d ∷ ds) (rw (ec, ed)), join_both b c (d ∷ ds) eb ec)
    go false ed =
        rw (join_both (joined b c) d ds refl ed, join_both c d ds ec ed, join_both b (joined c d) ds eb refl)
        (ap (λ (l : List ℕ). record { serial = 0; body = l } ∷ ds) (simp append_assoc))

-- what begins with a block begins free exactly if that block is free
front_starts : (b : Block) (cs : List Block) → starts_free (join_front b cs) ≡ not (occupied b)
unfolding starts_free
front_starts b cs = join_elim (λ l. starts_free l ≡ not (occupied b)) b cs (λ e. refl) (λ d ds eb ed e. rw eb)

appended_starts : (x : Block) (xs ys : List Block) → starts_free (append_joined (x ∷ xs) ys) ≡ not (occupied x)
unfolding append_joined starts_free
appended_starts x [] ys = front_starts x ys
appended_starts x (y ∷ xs) ys = refl

appended_apart : (x y : Block) (xs ys zs : List Block) → free_apart (x ∷ y ∷ zs) ≡ true → join_front x (append_joined (y ∷ xs) ys) ≡ x
    ∷ append_joined (y ∷ xs) ys
unfolding starts_free
appended_apart x y xs ys zs a = join_apart x (append_joined (y ∷ xs) ys) (rw (appended_starts y xs ys) (apart_head x (y ∷ zs) a))

-- where another block takes the place of one in a list without free neighbours, joining joins it to its neighbours and changes nothing else
pub join_replaced : (xs : List Block) (b v : Block) (ys : List Block) → free_apart (xs ++ (b ∷ ys)) ≡ true → join_free (xs ++ (v ∷ ys))
    ≡ join_neighbours xs v ys
unfolding join_free append_joined join_neighbours
join_replaced [] b v ys a = rw (join_same ys (apart_tail b ys a))
join_replaced (x ∷ []) b v ys a = ap (λ (l : List Block). join_front x (join_front v l)) (join_same ys (apart_tail b ys (apart_tail x (b ∷ ys) a)))
join_replaced (x ∷ (y ∷ xs)) b v ys a =
    ap (join_front x) (join_replaced (y ∷ xs) b v ys (apart_tail x (y ∷ xs ++ (b ∷ ys)) a))
    ∙ appended_apart x y xs (join_front v ys) (xs ++ (b ∷ ys)) a

front_split : (x c : Block) (zs : List Block) → join_front x (c ∷ zs) ≡ join_front x (c ∷ []) ++ zs
unfolding join_front
front_split x c zs = go (occupied x || occupied c)
  where
    go : (t : Bool) → cond t (x ∷ c ∷ zs) (joined x c ∷ zs) ≡ cond t (x ∷ c ∷ []) (joined x c ∷ []) ++ zs
    go true = refl
    go false = refl

-- only the first of the blocks behind others is joined to them, so what follows it stands behind both
pub appended_split : (xs : List Block) (c : Block) (zs : List Block) → append_joined xs (c ∷ zs) ≡ append_joined xs (c ∷ []) ++ zs
unfolding append_joined
appended_split [] c zs = refl
appended_split (x ∷ []) c zs = front_split x c zs
appended_split (x ∷ (y ∷ xs)) c zs = ap (λ (l : List Block). x ∷ l) (appended_split (y ∷ xs) c zs)

-- their sizes add up to the same
pub appended_total : (xs ys : List Block) → total size (append_joined xs ys) ≡ total size xs + total size ys
unfolding append_joined total
appended_total [] ys = omega arith
appended_total (x ∷ []) ys = front_total x ys ∙ omega arith
appended_total (x ∷ (y ∷ xs)) ys = omega (arith, appended_total (y ∷ xs) ys)
