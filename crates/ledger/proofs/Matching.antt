-- The ledger's changes match those of objects and records. A new entry stands for the new object. A change of holds keeps every entry's object
-- and changes a quota's holds as the counts change. An entry has a hold exactly if some quota's count for its serial is above 0, which is exactly
-- if a record holds its object; so where entries without holds leave, the held objects are left, and the blocks of the others are what the ledger has as
-- quarantined from then on in a heap of the second kind.
use Prim.Native.Nat.{ℕ, zero, suc, ◌+◌, ◌-◌, ◌<◌}
use native.Mathlib.Omega.{arith}
use mathlib.Core.Path.{◌≡◌, refl, ap, sym, ◌∙◌}
use mathlib.Core.List.Memᴰ
use mathlib.Core.List.{List, [], ◌∷◌, ◌++◌, map, Memᴰ}
use mathlib.Core.Bool.{Bool, true, false, not, cond, ◌&&◌}
use mathlib.Core.Logic.{◌↔◌, ◌⊎◌, inl, inr}
use lib.ListN.{length, get_or, set, replicate, length-set, length-replicate}
use lib.Seq.{get_or-set_same, get_or-set_other}
use lib.Dec.{eqb, ltb}
use borrow.Author.Tests.{eqb-true, eqb-false, eq-eqb, ne_eqb, ltb-true, lt-ltb}
use Rattle.accounts.specs.declared.Hold.{Hold}
use Rattle.accounts.specs.Accounts.{QUOTAS}
use Rattle.layout.specs.Blocks.{Block}
use Rattle.lists.specs.Lists.{any, keep}
use Rattle.model.specs.Answers.{zero_handle}
use Rattle.model.specs.Consistent.{has_serial, serials_differ}
use Rattle.model.specs.Holds.{count_of}
use Rattle.model.specs.Objects.{objects_from, objects}
use Rattle.model.specs.Space.{settle}
use Rattle.model.specs.declared.Handle.{Handle}
use Rattle.lists.proofs.Bools.{and_both, same_test}
use Rattle.lists.proofs.Lists.{any_member, member_any, none_exactly, get_or_member, member_get_or}
use Rattle.model.proofs.Carve.{Added}
use Rattle.model.proofs.Settle.{object_held}
use Rattle.ledger.specs.Ledger.{Entry, Span, Ledger, block_of, with_entries, holds_of, change_holds, at_serial, is_held, left_behind, leave}
use Rattle.ledger.specs.Ledger.{add_object}
use Rattle.ledger.specs.Ledger.{add_hold, take_hold, take_all, spans_from}
use Rattle.ledger.specs.Demand3.{objects_in}
use Rattle.invariant.proofs.Members.{keep_exactly, differ_kept}
use Rattle.invariant.proofs.Good.{Ordered}
use Rattle.ledger.proofs.Agreement.{Matches, SameSpans}
use Rattle.ledger.proofs.Spans.{behind, unheld}
use Rattle.ledger.proofs.Waiting.{settled_waits}
use Rattle.invariant.proofs.Counts.{counted_quota, held_counted}

-- the objects of entries
abbrev objects_at : List Entry → List Handle
objects_at es = map (λ e. e.object) es

-- where a test of entries is one of their objects, the objects of the entries that are kept are the objects that are kept
kept_objects : (p : Entry → Bool) (r : Handle → Bool) (es : List Entry) → ((e : Entry) → Memᴰ e es → p e ≡ r e.object)
    → objects_at (keep p es) ≡ keep r (objects_at es)
unfolding keep
kept_objects p r [] f = refl
kept_objects p r (e ∷ es) f = rw (← f e (Memᴰ.head refl)) (go (p e) (kept_objects p r es (λ x m. f x (Memᴰ.tail m))))
  where
    go : (t : Bool) → objects_at (keep p es) ≡ keep r (objects_at es) → objects_at (cond t (e ∷ keep p es) (keep p es))
        ≡ cond t (e.object ∷ keep r (objects_at es)) (keep r (objects_at es))
    go true ih = rw ih
    go false ih = ih

-- the blocks of entries are those of their objects
blocks_of_objects : (es : List Entry) → map (λ (e : Entry). block_of e.object) es ≡ map block_of (objects_at es)
blocks_of_objects [] = refl
blocks_of_objects (e ∷ es) = ap (λ (xs : List Span). block_of e.object ∷ xs) (blocks_of_objects es)

-- entries without holds leave
module _ (l : Ledger) (os : List Handle) (hs : List Hold) (m : Matches l os hs) (r : Ordered hs) where
  -- an entry has a hold exactly if a record holds its object
  entry_held : (e : Entry) → Memᴰ e l.entries → is_held e ≡ object_held hs e.object
  unfolding is_held
  entry_held e i = same_test (is_held e) (object_held hs e.object) there back
    where
      there : any (λ n. ltb 0 n) e.holds ≡ true → object_held hs e.object ≡ true
      there t =
          let a = any_member (λ n. ltb 0 n) e.holds t in
          let g = member_get_or 0 e.holds a.0 a.1 in
          (held_counted hs r e.object.serial).1 (g.0, rw (← m.holds e i g.0, g.2) (ltb-true 0 a.0 a.2))

      back : object_held hs e.object ≡ true → any (λ n. ltb 0 n) e.holds ≡ true
      back t =
          let c = (held_counted hs r e.object.serial).0 t in
          let b = counted_quota hs r e.object.serial c.0 c.1 in
          let w = m.widths e i in
          member_any (λ n. ltb 0 n) e.holds (holds_of c.0 e) (get_or_member 0 e.holds c.0 (omega arith))
          (lt-ltb 0 (holds_of c.0 e) (rw (m.holds e i c.0) c.1))

  -- so the entries that are left match the objects that are held
  match_left : Matches (leave l) (keep (object_held hs) os) hs
  unfolding leave
  match_left =
      let same : objects_in (leave l) ≡ keep (object_held hs) (objects_in l) = kept_objects is_held (object_held hs) l.entries entry_held in
      let p = object_held hs in
      record {
        objects = λ o. rw same (
          λ i. (let k = (keep_exactly p os o).0 i in (keep_exactly p (objects_in l) o).1 ((m.objects o).0 k.0, k.1)),
          λ i. (let k = (keep_exactly p (objects_in l) o).0 i in (keep_exactly p os o).1 ((m.objects o).1 k.0, k.1)),
        );
        once = rw same (differ_kept p (objects_in l) m.once);
        quotas = m.quotas;
        widths = λ e i. m.widths e ((keep_exactly is_held l.entries e).0 i).0;
        holds = λ e i. m.holds e ((keep_exactly is_held l.entries e).0 i).0;
      }

  -- and what the others leave are the blocks of the objects that are not
  left_is : left_behind l ≡ behind l.kind (keep (unheld hs) (objects_in l))
  unfolding left_behind behind
  left_is =
      ap (λ (xs : List Span). cond (eqb l.kind 0) [] xs)
      (blocks_of_objects (keep (λ e. not (is_held e)) l.entries)
      ∙ ap (λ (os : List Handle). map block_of os) (kept_objects (λ e. not (is_held e)) (unheld hs) l.entries (λ e i. ap not (entry_held e i))))

  waits_left : (bs : List Block) → os ≡ objects bs → SameSpans (spans_from 0 bs) l.quarantined
      → SameSpans (spans_from 0 (settle l.kind hs bs)) (leave l).quarantined
  unfolding leave objects
  waits_left bs e w =
      let p = unheld hs in
      rw left_is
      (settled_waits l.kind hs bs l.quarantined w (keep p (objects_in l)) (differ_kept p (objects_in l) m.once)
      (λ o. (
        λ i. (let k = (keep_exactly p (objects_from 0 bs) o).0 i in (keep_exactly p (objects_in l) o).1 ((m.objects o).0 (rw e k.0), k.1)),
        λ i. (let k = (keep_exactly p (objects_in l) o).0 i in (keep_exactly p (objects_from 0 bs) o).1 (rw e at ((m.objects o).1 k.0), k.1)),
      )))

-- a change of entries that keeps their objects and makes their holds the counts of other records
module _ (l : Ledger) (os : List Handle) (hs hs' : List Hold) (m : Matches l os hs) (f : Entry → Entry) where
  -- the objects are the same
  changed_objects : ((e : Entry) → (f e).object ≡ e.object) → (es : List Entry) → objects_at (map f es) ≡ objects_at es
  changed_objects same [] = refl
  changed_objects same (e ∷ es) = rw (same e, changed_objects same es)

  -- and the changed entries match the other records
  match_changed : ((e : Entry) → (f e).object ≡ e.object) → ((e : Entry) → length (f e).holds ≡ length e.holds)
      → ((e : Entry) → Memᴰ e l.entries → (j : ℕ) → holds_of j (f e) ≡ count_of e.object.serial j hs')
      → Matches (with_entries (map f l.entries) l) os hs'
  match_changed same wide counts =
      let o = changed_objects same l.entries in
      record {
        objects = rw o m.objects;
        once = rw o m.once;
        quotas = m.quotas;
        widths = λ e i. (let r = Memᴰ.of_map f l.entries i in rw (← r.2) (wide r.0 ∙ m.widths r.0 r.1));
        holds = λ e i j. (let r = Memᴰ.of_map f l.entries i in rw (← r.2) (counts r.0 r.1 j ∙ rw (same r.0) refl));
      }

-- a quota's holds after a change of them
changed_holds : (q j : ℕ) (g : ℕ → ℕ) (e : Entry) → q < length e.holds → holds_of j (change_holds q g e)
    ≡ cond (eqb q j) (g (holds_of j e)) (holds_of j e)
unfolding change_holds
changed_holds q j g e h = go (eqb q j) refl
  where
    go : (t : Bool) → eqb q j ≡ t → get_or (set e.holds q (g (holds_of q e))) j 0 ≡ cond t (g (holds_of j e)) (holds_of j e)
    go true t = let s = eqb-true q j t in rw (← s) (get_or-set_same e.holds q (g (holds_of q e)) 0 h)
    go false t = get_or-set_other e.holds q j (g (holds_of q e)) 0 (λ s. eqb-false q j t (sym s))

-- as many quotas have holds, and the object is the same
changed_width : (q : ℕ) (g : ℕ → ℕ) (e : Entry) → length (change_holds q g e).holds ≡ length e.holds
unfolding change_holds
changed_width q g e = length-set e.holds q (g (holds_of q e))

changed_object : (q : ℕ) (g : ℕ → ℕ) (e : Entry) → (change_holds q g e).object ≡ e.object
unfolding change_holds
changed_object q g e = refl

-- the same for the object with a serial
module _ (q serial : ℕ) (g : ℕ → ℕ) where
  -- an entry after the change
  abbrev at_one : Entry → Entry
  at_one e = cond (eqb e.object.serial serial) (change_holds q g e) e

  -- its object, its width and its holds
  one_object : (e : Entry) → (at_one e).object ≡ e.object
  one_object e = go (eqb e.object.serial serial)
    where
      go : (t : Bool) → (cond t (change_holds q g e) e).object ≡ e.object
      go true = changed_object q g e
      go false = refl

  one_width : (e : Entry) → length (at_one e).holds ≡ length e.holds
  one_width e = go (eqb e.object.serial serial)
    where
      go : (t : Bool) → length (cond t (change_holds q g e) e).holds ≡ length e.holds
      go true = changed_width q g e
      go false = refl

  one_holds : (j : ℕ) (e : Entry) → q < length e.holds → holds_of j (at_one e)
      ≡ cond (eqb serial e.object.serial && eqb q j) (g (holds_of j e)) (holds_of j e)
  one_holds j e h = go (eqb e.object.serial serial) refl
    where
      go : (t : Bool) → eqb e.object.serial serial ≡ t → holds_of j (cond t (change_holds q g e) e)
          ≡ cond (eqb serial e.object.serial && eqb q j) (g (holds_of j e)) (holds_of j e)
      go true t = let s = eqb-true e.object.serial serial t in rw (eq-eqb serial e.object.serial (sym s)) (changed_holds q j g e h)
      go false t = rw (ne_eqb serial e.object.serial (λ s. eqb-false e.object.serial serial t (sym s)))

-- no quota has a hold
abbrev no_holds : ℕ → List ℕ
no_holds n = replicate n 0

-- each is 0
pub no_hold : (n j : ℕ) → get_or (no_holds n) j 0 ≡ 0
no_hold zero j = refl
no_hold (suc n) zero = refl
no_hold (suc n) (suc j) = no_hold n j

-- and with one hold of a quota, that quota's is 1
one_hold : (n q j : ℕ) → q < n → get_or (set (no_holds n) q 1) j 0 ≡ cond (eqb q j) 1 0
unfolding change_holds
one_hold n q j h = changed_holds q j (λ n. 1) (record { object = zero_handle; holds = no_holds n }) (rw length-replicate h) ∙ rw no_hold

-- the new object is a member beside the old ones
added_member : (o : Handle) (os os' : List Handle) → Added o os os' → (p : Handle) → Memᴰ p os' ↔ ((p ≡ o) ⊎ Memᴰ p os)
added_member o os os' a p = rw (a.old, a.now) (λ i. there (Memᴰ.append_cases a.front i), back)
  where
    behind : (p ≡ o) ⊎ Memᴰ p a.back → (p ≡ o) ⊎ Memᴰ p (a.front ++ a.back)
    behind (inl e) = inl e
    behind (inr i) = inr (Memᴰ.append_right a.front i)

    there : Memᴰ p a.front ⊎ Memᴰ p (o ∷ a.back) → (p ≡ o) ⊎ Memᴰ p (a.front ++ a.back)
    there (inl i) = inr (Memᴰ.append_left a.back i)
    there (inr i) = behind (Memᴰ.cases_cons i)

    beside : Memᴰ p a.front ⊎ Memᴰ p a.back → Memᴰ p (a.front ++ (o ∷ a.back))
    beside (inl i) = Memᴰ.append_left (o ∷ a.back) i
    beside (inr i) = Memᴰ.append_right a.front (Memᴰ.tail i)

    back : (p ≡ o) ⊎ Memᴰ p (a.front ++ a.back) → Memᴰ p (a.front ++ (o ∷ a.back))
    back (inl e) = Memᴰ.append_right a.front (Memᴰ.head e)
    back (inr i) = beside (Memᴰ.append_cases a.front i)

module _ (l : Ledger) (os : List Handle) (hs hs' : List Hold) (m : Matches l os hs) (q : ℕ) (exists : q < QUOTAS) where
  -- a new object with one hold
  pub match_added : (o : Handle) (os' : List Handle) → Added o os os' → ((p : Handle) → Memᴰ p os → p.serial ≡ o.serial → ⊥)
      → ((j : ℕ) → count_of o.serial j hs ≡ 0)
      → ((u j : ℕ) → count_of u j hs' ≡ cond (eqb o.serial u && eqb q j) 1 (count_of u j hs)) → Matches (add_object q o l) os' hs'
  unfolding add_object serials_differ
  match_added o os' a f z c =
      let apart : (e : Entry) → Memᴰ e l.entries → e.object.serial ≡ o.serial → ⊥ =
      λ e i. f e.object ((m.objects e.object).1 (Memᴰ.map (λ (e : Entry). e.object) i)) in
      let none = (none_exactly (has_serial o.serial) (objects_in l)).1 (λ p i t. f p ((m.objects p).1 i) (eqb-true p.serial o.serial t)) in
      record {
        objects = λ p. (
          λ i. there p ((added_member o os os' a p).0 i),
          λ i. (added_member o os os' a p).1 (back p (Memᴰ.cases_cons i)),
        );
        once = and_both _ _ (ap not none) m.once;
        quotas = m.quotas;
        widths = λ e i. width e (Memᴰ.cases_cons i);
        holds = λ e i j. counted e j (Memᴰ.cases_cons i) apart;
      }
    where
      new : Entry
      new = record { object = o; holds = set (no_holds (length l.grants)) q 1 }

      there : (p : Handle) → (p ≡ o) ⊎ Memᴰ p os → Memᴰ p (o ∷ objects_in l)
      there p (inl e) = Memᴰ.head e
      there p (inr i) = Memᴰ.tail ((m.objects p).0 i)

      back : (p : Handle) → (p ≡ o) ⊎ Memᴰ p (objects_in l) → (p ≡ o) ⊎ Memᴰ p os
      back p (inl e) = inl e
      back p (inr i) = inr ((m.objects p).1 i)

      width : (e : Entry) → (e ≡ new) ⊎ Memᴰ e l.entries → length e.holds ≡ QUOTAS
      width e (inl p) = rw p (length-set (no_holds (length l.grants)) q 1 ∙ length-replicate (length l.grants) 0 ∙ m.quotas)
      width e (inr i) = m.widths e i

      counted : (e : Entry) (j : ℕ) → (e ≡ new) ⊎ Memᴰ e l.entries
          → ((e : Entry) → Memᴰ e l.entries → e.object.serial ≡ o.serial → ⊥)
          → holds_of j e ≡ count_of e.object.serial j hs'
      counted e j (inl p) apart = rw p (one_hold (length l.grants) q j (rw m.quotas exists)
          ∙ rw (c o.serial j, eq-eqb o.serial o.serial refl, z j))
      counted e j (inr i) apart = rw (c e.object.serial j, ne_eqb o.serial e.object.serial (λ t. apart e i (sym t))) (m.holds e i j)

  -- the holds of a quota are changed as its counts are
  match_one : (serial : ℕ) (g : ℕ → ℕ) → ((u j : ℕ) → count_of u j hs' ≡ cond (eqb serial u && eqb q j) (g (count_of u j hs)) (count_of u j hs))
      → Matches (with_entries (at_serial serial (change_holds q g) l.entries) l) os hs'
  unfolding at_serial
  match_one serial g c =
      match_changed l os hs hs' m (at_one q serial g) (one_object q serial g) (one_width q serial g)
      (λ e i j. (let w = m.widths e i in one_holds q serial g j e (omega arith) ∙ rw (m.holds e i j, c e.object.serial j)))

  -- one hold more, and one less
  pub match_raised : (serial : ℕ) → ((u j : ℕ) → count_of u j hs' ≡ cond (eqb serial u && eqb q j) (count_of u j hs + 1) (count_of u j hs))
      → Matches (add_hold q serial l) os hs'
  unfolding add_hold
  match_raised serial c = match_one serial (λ n. n + 1) c

  lowered : (serial : ℕ) → ((u j : ℕ) → count_of u j hs' ≡ cond (eqb serial u && eqb q j) (count_of u j hs - 1) (count_of u j hs))
      → Matches (with_entries (at_serial serial (change_holds q (λ n. n - 1)) l.entries) l) os hs'
  lowered serial c = match_one serial (λ n. n - 1) c

  pub match_lowered : (serial : ℕ) → Ordered hs' → ((u j : ℕ) → count_of u j hs'
      ≡ cond (eqb serial u && eqb q j) (count_of u j hs - 1) (count_of u j hs))
      → Matches (take_hold q serial l) (keep (object_held hs') os) hs'
  unfolding take_hold
  match_lowered serial r c = match_left (with_entries (at_serial serial (change_holds q (λ n. n - 1)) l.entries) l) os hs' (lowered serial c) r

  pub waits_lowered : (serial : ℕ) → Ordered hs' → ((u j : ℕ) → count_of u j hs'
      ≡ cond (eqb serial u && eqb q j) (count_of u j hs - 1) (count_of u j hs))
      → (bs : List Block) → os ≡ objects bs → SameSpans (spans_from 0 bs) l.quarantined
      → SameSpans (spans_from 0 (settle l.kind hs' bs)) (take_hold q serial l).quarantined
  unfolding take_hold
  waits_lowered serial r c = waits_left (with_entries (at_serial serial (change_holds q (λ n. n - 1)) l.entries) l) os hs' (lowered serial c) r

  -- no hold of the quota
  dropped : ((u j : ℕ) → count_of u j hs' ≡ cond (eqb q j) 0 (count_of u j hs))
      → Matches (with_entries (map (change_holds q (λ n. 0)) l.entries) l) os hs'
  dropped c =
      match_changed l os hs hs' m (change_holds q (λ n. 0)) (changed_object q (λ n. 0)) (changed_width q (λ n. 0))
      (λ e i j. (let w = m.widths e i in changed_holds q j (λ n. 0) e (omega arith) ∙ rw (m.holds e i j, c e.object.serial j)))

  pub match_dropped : Ordered hs' → ((u j : ℕ) → count_of u j hs' ≡ cond (eqb q j) 0 (count_of u j hs))
      → Matches (take_all q l) (keep (object_held hs') os) hs'
  unfolding take_all
  match_dropped r c = match_left (with_entries (map (change_holds q (λ n. 0)) l.entries) l) os hs' (dropped c) r

  pub waits_dropped : Ordered hs' → ((u j : ℕ) → count_of u j hs' ≡ cond (eqb q j) 0 (count_of u j hs)) → (bs : List Block) → os ≡ objects bs
      → SameSpans (spans_from 0 bs) l.quarantined → SameSpans (spans_from 0 (settle l.kind hs' bs)) (take_all q l).quarantined
  unfolding take_all
  waits_dropped r c = waits_left (with_entries (map (change_holds q (λ n. 0)) l.entries) l) os hs' (dropped c) r
