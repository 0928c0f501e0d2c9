-- The ledger's quarantined blocks stay the heap's, each once, where objects leave (rules 22.10 and 22.11). Blocks stand one behind the other, so two objects
-- whose blocks start at one place are the same, and no object's block starts where a quarantined one does.
use Prim.Native.Nat.{ℕ, ◌+◌, ◌-◌, ◌≤◌}
use native.Mathlib.Omega.{arith}
use mathlib.Core.Path.{◌≡◌, refl, ap, sym, ◌∙◌}
use mathlib.Core.List.Memᴰ
use mathlib.Core.List.{List, [], ◌∷◌, ◌++◌, map, Memᴰ}
use mathlib.Core.Bool.{Bool, true, false, not, cond, true≢false}
use mathlib.Core.Logic.{◌↔◌, ◌⊎◌, inl, inr, ⊎_elim}
use lib.Dec.{eqb}
use borrow.Author.Tests.{eqb-true, eq-eqb, not-true}
use Rattle.accounts.specs.declared.Hold.{Hold}
use Rattle.layout.specs.Blocks.{Block, size, quarantined, live}
use Rattle.lists.specs.Lists.{any, keep}
use Rattle.model.specs.Objects.{object, objects_from}
use Rattle.model.specs.Consistent.{serials_differ}
use Rattle.model.specs.Space.{settle}
use Rattle.model.specs.declared.Handle.{Handle}
use Rattle.lists.proofs.Bools.{and_left, and_right}
use Rattle.lists.proofs.Lists.{none_exactly}
use Rattle.model.proofs.Sweep.{quarantined_dead}
use Rattle.invariant.proofs.Members.{keep_exactly, differ_cons}
use Rattle.ledger.specs.Ledger.{Span, block_of, spans_from}
use Rattle.ledger.specs.Demand3.{spans_differ}
use Rattle.ledger.proofs.Agreement.{SameSpans}
use Rattle.ledger.proofs.Places.{objects_lie}
use Rattle.ledger.proofs.Spans.{span, spans_cases, behind, unheld, settled_spans}

-- no two blocks start at one place exactly if the first starts where none of the others does, and no two of these do
once_cons : (x : Span) (xs : List Span) → (spans_differ (x ∷ xs) ≡ true) ↔ (((y : Span) → Memᴰ y xs → y.from ≡ x.from → ⊥) × (spans_differ xs ≡ true))
unfolding spans_differ
once_cons x xs =
    let starts : Span → Bool = λ y. eqb y.from x.from in
    let none = none_exactly starts xs in (
      λ e. (
        λ y m q. none.0 (not-true (any starts xs) (and_left (not (any starts xs)) _ e)) y m (eq-eqb y.from x.from q),
        and_right (not (any starts xs)) _ e,
      ),
      λ r. rw (none.1 (λ y m q. r.0 y m (eqb-true y.from x.from q))) r.1,
    )

once_append : (xs ys : List Span) → spans_differ xs ≡ true → spans_differ ys ≡ true
    → ((x y : Span) → Memᴰ x xs → Memᴰ y ys → y.from ≡ x.from → ⊥) → spans_differ (xs ++ ys) ≡ true
once_append [] ys d e f = e
once_append (x ∷ xs) ys d e f =
    let r = (once_cons x xs).0 d in
    (once_cons x (xs ++ ys)).1 (
      λ y m q. ⊎_elim (λ i. r.0 y i q) (λ i. f x y (Memᴰ.head refl) i q) (Memᴰ.append_cases xs m),
      once_append xs ys r.1 e (λ z y m. f z y (Memᴰ.tail m)),
    )

-- an object is that of the first block, which is live then, or one of the others
live_cases : (at : ℕ) (b : Block) (bs : List Block) (o : Handle) → Memᴰ o (objects_from at (b ∷ bs))
    → ((live b ≡ true) × (o ≡ object at b)) ⊎ Memᴰ o (objects_from (at + size b) bs)
unfolding objects_from
live_cases at b bs o m = go (live b) refl m
  where
    go : (t : Bool) → live b ≡ t → Memᴰ o (cond t (object at b ∷ objects_from (at + size b) bs) (objects_from (at + size b) bs))
        → ((live b ≡ true) × (o ≡ object at b)) ⊎ Memᴰ o (objects_from (at + size b) bs)
    go true t m = ⊎_elim (λ e. inl (t, e)) (λ i. inr i) (Memᴰ.cases_cons m)
    go false t m = inr m

-- blocks start where the first one does, or behind it
spans_lie : (at : ℕ) (bs : List Block) (x : Span) → Memᴰ x (spans_from at bs) → at ≤ x.from
unfolding spans_from
spans_lie at [] x m = absurd (Memᴰ.not-nil m)
spans_lie at (b ∷ bs) x m = go (spans_cases at b bs x m) (spans_lie (at + size b) bs x)
  where
    go : ((quarantined b ≡ true) × (x ≡ span at b)) ⊎ Memᴰ x (spans_from (at + size b) bs)
        → (Memᴰ x (spans_from (at + size b) bs) → at + size b ≤ x.from) → at ≤ x.from
    go (inl e) ih = rw e.1 (omega arith)
    go (inr m) ih = let l = ih m in omega arith

-- no two of a heap start at one place
pub spans_once : (at : ℕ) (bs : List Block) → spans_differ (spans_from at bs) ≡ true
unfolding spans_from spans_differ
spans_once at [] = refl
spans_once at (b ∷ bs) = go (quarantined b) (spans_once (at + size b) bs)
  where
    go : (t : Bool) → spans_differ (spans_from (at + size b) bs) ≡ true
        → spans_differ (cond t (span at b ∷ spans_from (at + size b) bs) (spans_from (at + size b) bs)) ≡ true
    go true ih = (once_cons (span at b) (spans_from (at + size b) bs)).1 (λ y m e. (let l = spans_lie (at + size b) bs y m in absurd (omega arith)), ih)
    go false ih = ih

-- two objects with one base are the same
same_base : (at : ℕ) (bs : List Block) (o p : Handle) → Memᴰ o (objects_from at bs) → Memᴰ p (objects_from at bs) → o.base ≡ p.base → o ≡ p
unfolding objects_from
same_base at [] o p m n e = absurd (Memᴰ.not-nil m)
same_base at (b ∷ bs) o p m n e = go (live_cases at b bs o m) (live_cases at b bs p n) (λ x y. same_base (at + size b) bs o p x y e)
  where
    past : (x y : Handle) → x ≡ object at b → Memᴰ y (objects_from (at + size b) bs) → x.base ≡ y.base → o ≡ p
    past x y q m e =
        let l = (objects_lie (at + size b) bs y m).low in
        let z : x.base ≡ at + 8 = ap (λ (h : Handle). h.base) q in
        absurd (omega arith)

    go : ((live b ≡ true) × (o ≡ object at b)) ⊎ Memᴰ o (objects_from (at + size b) bs)
        → ((live b ≡ true) × (p ≡ object at b)) ⊎ Memᴰ p (objects_from (at + size b) bs)
        → (Memᴰ o (objects_from (at + size b) bs) → Memᴰ p (objects_from (at + size b) bs) → o ≡ p) → o ≡ p
    go (inl x) (inl y) ih = x.1 ∙ sym y.1
    go (inl x) (inr n) ih = past o p x.1 n e
    go (inr m) (inl y) ih = past p o y.1 m (sym e)
    go (inr m) (inr n) ih = ih m n

-- no object has its header where a quarantined block has
object_elsewhere : (at : ℕ) (bs : List Block) (o : Handle) (x : Span) → Memᴰ o (objects_from at bs) → Memᴰ x (spans_from at bs)
    → o.base ≡ x.from + 8 → ⊥
unfolding objects_from
object_elsewhere at [] o x m n e = Memᴰ.not-nil m
object_elsewhere at (b ∷ bs) o x m n e = go (live_cases at b bs o m) (spans_cases at b bs x n) (λ i j. object_elsewhere (at + size b) bs o x i j e)
  where
    go : ((live b ≡ true) × (o ≡ object at b)) ⊎ Memᴰ o (objects_from (at + size b) bs)
        → ((quarantined b ≡ true) × (x ≡ span at b)) ⊎ Memᴰ x (spans_from (at + size b) bs)
        → (Memᴰ o (objects_from (at + size b) bs) → Memᴰ x (spans_from (at + size b) bs) → ⊥) → ⊥
    go (inl p) (inl q) ih = true≢false (sym p.0 ∙ quarantined_dead b q.0)
    go (inl p) (inr n) ih =
        let l = spans_lie (at + size b) bs x n in
        let z : o.base ≡ at + 8 = ap (λ (h : Handle). h.base) p.1 in
        omega arith
    go (inr m) (inl q) ih =
        let l = (objects_lie (at + size b) bs o m).low in
        let z : x.from ≡ at = ap (λ (y : Span). y.from) q.1 in
        omega arith
    go (inr m) (inr n) ih = ih m n

-- the blocks of objects whose serials differ start at different places
blocks_once : (bs : List Block) (os : List Handle) → serials_differ os ≡ true → ((o : Handle) → Memᴰ o os → Memᴰ o (objects_from 0 bs))
    → spans_differ (map block_of os) ≡ true
unfolding spans_differ block_of
blocks_once bs [] d f = refl
blocks_once bs (o ∷ os) d f =
    let r = (differ_cons o os).0 d in
    (once_cons (block_of o) (map block_of os)).1 (apart r.0, blocks_once bs os r.1 (λ p m. f p (Memᴰ.tail m)))
  where
    apart : ((p : Handle) → Memᴰ p os → p.serial ≡ o.serial → ⊥) → (y : Span) → Memᴰ y (map block_of os) → y.from ≡ (block_of o).from → ⊥
    apart g y m e =
        let r = Memᴰ.of_map block_of os m in
        let p = r.0 in
        let u = (objects_lie 0 bs o (f o (Memᴰ.head refl))).low in
        let v = (objects_lie 0 bs p (f p (Memᴰ.tail r.1))).low in
        let w : p.base - 8 ≡ o.base - 8 = ap (λ (s : Span). s.from) r.2 ∙ e in
        g p r.1 (ap (λ (h : Handle). h.serial) (same_base 0 bs p o (f p (Memᴰ.tail r.1)) (f o (Memᴰ.head refl)) (omega arith)))

-- objects that leave: the ledger's quarantined blocks are those of the heap before and after
module _ (kind : ℕ) (hs : List Hold) (bs : List Block) (ys : List Span) (w : SameSpans (spans_from 0 bs) ys) (os : List Handle)
    (once : serials_differ os ≡ true) (left : (o : Handle) → Memᴰ o (keep (unheld hs) (objects_from 0 bs)) ↔ Memᴰ o os) where
  was_there : (o : Handle) → Memᴰ o os → Memᴰ o (objects_from 0 bs)
  was_there o m = ((keep_exactly (unheld hs) (objects_from 0 bs) o).0 ((left o).1 m)).0

  -- the blocks that they leave
  behind_both : (x : Span) → Memᴰ x (behind kind (keep (unheld hs) (objects_from 0 bs))) ↔ Memᴰ x (behind kind os)
  unfolding behind
  behind_both x = go (eqb kind 0)
    where
      moved : (ps rs : List Handle) → ((o : Handle) → Memᴰ o ps → Memᴰ o rs) → Memᴰ x (map block_of ps) → Memᴰ x (map block_of rs)
      moved ps rs f m = let r = Memᴰ.of_map block_of ps m in rw r.2 at (Memᴰ.map block_of (f r.0 r.1))

      go : (z : Bool) → Memᴰ x (cond z [] (map block_of (keep (unheld hs) (objects_from 0 bs)))) ↔ Memᴰ x (cond z [] (map block_of os))
      go true = (λ m. m, λ m. m)
      go false = (moved (keep (unheld hs) (objects_from 0 bs)) os (λ o. (left o).0), moved os (keep (unheld hs) (objects_from 0 bs)) (λ o. (left o).1))

  -- start at different places, where no quarantined block starts
  behind_once : spans_differ (behind kind os) ≡ true
  unfolding behind spans_differ
  behind_once = go (eqb kind 0)
    where
      go : (z : Bool) → spans_differ (cond z [] (map block_of os)) ≡ true
      go true = refl
      go false = blocks_once bs os once was_there

  behind_apart : (x y : Span) → Memᴰ x (behind kind os) → Memᴰ y ys → y.from ≡ x.from → ⊥
  unfolding behind block_of
  behind_apart x y m n e = go (eqb kind 0) m
    where
      go : (z : Bool) → Memᴰ x (cond z [] (map block_of os)) → ⊥
      go true m = Memᴰ.not-nil m
      go false m =
          let r = Memᴰ.of_map block_of os m in
          let i = was_there r.0 r.1 in
          let l = (objects_lie 0 bs r.0 i).low in
          let s : r.0.base - 8 ≡ x.from = ap (λ (z : Span). z.from) r.2 in
          object_elsewhere 0 bs r.0 y i ((w.both y).1 n) (omega arith)

  pub settled_waits : SameSpans (spans_from 0 (settle kind hs bs)) (behind kind os ++ ys)
  settled_waits =
      let f = settled_spans kind hs 0 bs in
      record {
        both = λ x. (
          λ m. ⊎_elim (λ i. Memᴰ.append_left ys ((behind_both x).0 i)) (λ i. Memᴰ.append_right (behind kind os) ((w.both x).0 i)) ((f x).0 m),
          λ m. (f x).1 (⊎_elim (λ i. inl ((behind_both x).1 i)) (λ i. inr ((w.both x).1 i)) (Memᴰ.append_cases (behind kind os) m)),
        );
        once = once_append (behind kind os) ys behind_once w.once behind_apart;
      }
