-- Beyond the request: a new object is all zero, and a reallocated one has the old one's bytes, as many as fit, and then zeros.
-- The one live block with the new serial is the one that was carved, of zeros; reallocate writes the old object's bytes over its start and leaves it so.
use Prim.Native.Nat.{ℕ, zero, suc, ◌+◌, ◌-◌, ◌≤◌}
use native.Mathlib.Omega.{arith}
use native.Mathlib.Nat.{sub-zero, zero-sub, suc-sub-suc}
use mathlib.Core.Path.{◌≡◌, refl, ap, sym, ◌∙◌, subst}
use mathlib.Core.List.{List, ◌++◌, Memᴰ}
use mathlib.Core.Bool.{true, false}
use mathlib.Core.Logic.{⊎_elim}
use lib.Dec.{eqb}
use borrow.Author.Tests.{eq-eqb, ne_eqb}
use lib.ListN.{length, take, drop, replicate, length-replicate, length-take, length-drop}
use Rattle.accounts.specs.declared.Accounts.{Accounts}
use Rattle.rounding.specs.Rounding.{Units, object_length}
use Rattle.layout.specs.Blocks.{Block, live, render}
use Rattle.lists.specs.Lists.{or_else}
use Rattle.model.specs.Objects.{objects, blocks_of, objects_of, lookup_whole, found}
use Rattle.model.specs.Consistent.{serials_differ, has_record}
use Rattle.model.specs.Holds.{count_of, lower_count}
use Rattle.model.specs.Space.{body_of}
use Rattle.model.specs.Calls.{Outcome, State, unless, state_of, allocated, released, copied, new_object, allocate, reallocate}
use Rattle.model.specs.Refusals.{first_refusal, allocate_lines, reallocate_lines}
use Rattle.model.specs.declared.Handle.{Handle}
use Rattle.model.specs.declared.Call.TheVariants.{Allocate, Reallocate}
use Rattle.model.proofs.Refusals.{accepted_exactly, by_lines}
use Rattle.model.proofs.Lookup.{lookup_whole_exactly}
use Rattle.ledger.specs.Ledger.{Ledger}
use Rattle.ledger.specs.Contents.{contents}
use Rattle.invariant.proofs.Good.{Good}
use Rattle.ledger.proofs.Agreement.{Agrees}
use Rattle.ledger.proofs.Contents.{contents_stay, contents_are, block_of, object_of}
use Rattle.ledger.proofs.Staying.{copied_live, body_there}
use Rattle.invariant.proofs.Transitions.{Room, allocated_objects, allocated_counts, released_objects, released_good, copied_objects}
use Rattle.invariant.proofs.Heaps.{good_heap, good_ordered}
use Rattle.ledger.proofs.Fields.{inside_of}
use Rattle.invariant.proofs.Members.{added_old, added_new, keep_exactly}
use Rattle.invariant.proofs.Counts.{held_counted, lower_ordered, lower_counted}
use Rattle.model.proofs.Settle.{object_held}
use Rattle.invariant.proofs.Passed.{Allocatable, allocate_passed, Reallocatable, reallocate_passed}
use Rattle.invariant.proofs.Requested.{still_releasable}
use Rattle.ledger.proofs.Steps.{good, room, fresh_serial}
use Rattle.ledger.proofs.Bytes.{allocated_live, released_leaves, new_good, allocate_bytes, old, new, made_good, old_here}

module _ (unit : ℕ → ℕ) (units : Units unit) (l : Ledger) (s : List ℕ) (k : Accounts) (a : Agrees l s k) (q n : ℕ)
    (p : Allocatable unit s k q n) where
  o : Handle
  o = new_object unit s k n

  t : State
  t = allocated q o (state_of s k)

  -- the one live block with the new serial
  new_block_is : (b : Block) → live b ≡ true → Memᴰ b t.blocks → o.serial ≡ b.serial → b.body ≡ replicate (object_length unit n) 0
  unfolding t o new_object
  new_block_is b alive m e =
      ⊎_elim (λ x. ap (λ (y : Block). y.body) x)
      (λ x.
      (let w = object_of (blocks_of s) b alive x in absurd (fresh_serial unit units l s k a q n p w.object w.member (w.serial ∙ sym e))))
      (allocated_live q (new_object unit s k n) (state_of s k) (good l s k a) (room unit units l s k a q n p) b alive m)

  new_there : Memᴰ o (objects t.blocks)
  unfolding t o
  new_there = added_new (new_object unit s k n) (objects (blocks_of s)) _
      (allocated_objects q (new_object unit s k n) (state_of s k) (good l s k a) (room unit units l s k a q n p))

  live_there : Memᴰ o (objects_of (render t.blocks))
  unfolding t o
  live_there = rw (good_heap t (new_good unit units l s k a q n p)).objects new_there

  zero_bytes : contents o (render t.blocks) ≡ replicate (object_length unit n) 0
  zero_bytes = let b = block_of t.blocks o new_there in b.bytes ∙ new_block_is b.block b.alive b.member b.serial

-- zeros with some taken off are zeros
drop_same : (x m n : ℕ) → drop m (replicate n x) ≡ replicate (n - m) x
drop_same x zero n = rw sub-zero
drop_same x (suc m) zero = rw zero-sub
drop_same x (suc m) (suc n) = rw suc-sub-suc (drop_same x m n)

-- the bytes of the block with an object's serial are the object's
copied_is : (bs : List Block) → serials_differ (objects bs) ≡ true → (o : Handle) → Memᴰ o (objects bs) → body_of o.serial bs
    ≡ contents o (render bs)
copied_is bs d o m =
    let b = block_of bs o m in
    let r = body_there o.serial bs b.block b.member (sym b.serial) in
    let alive : live r.0 ≡ true = rw (r.2 ∙ b.serial) b.alive in
    r.3 ∙ sym (contents_are bs d o m r.0 alive r.1 (sym r.2))

-- the block that bytes were copied to
copied_to : (old new : Handle) (t : State) (o : Handle) (zeros : List ℕ) → Memᴰ o (objects (copied old new t).blocks) → o.serial ≡ new.serial
    → ((b : Block) → live b ≡ true → Memᴰ b t.blocks → o.serial ≡ b.serial → b.body ≡ zeros)
    → contents o (render (copied old new t).blocks) ≡ take (length zeros) (body_of old.serial t.blocks)
    ++ drop (length (body_of old.serial t.blocks)) zeros
unfolding copied
copied_to old new t o zeros m same f =
    let bytes = body_of old.serial t.blocks in
    let b = block_of (copied old new t).blocks o m in
    ⊎_elim (λ x. absurd (x.1 (sym b.serial ∙ same)))
    (λ y.
    (let alive : live y.0 ≡ true = rw (y.2 ∙ sym same ∙ b.serial) b.alive in
    let z : y.0.body ≡ zeros = f y.0 alive y.1 (same ∙ sym y.2) in
    b.bytes ∙ ap (λ (x : Block). x.body) y.3 ∙ ap (λ (x : List ℕ). take (length x) bytes ++ drop (length bytes) x) z))
    (copied_live new.serial bytes t.blocks b.block b.alive b.member)

-- a new object is held still when the old one is released
new_kept : (q : ℕ) (old new : Handle) (t : State) (g : Good t) (r : Room q new t) → (old.serial ≡ new.serial → ⊥)
    → (g₂ : Good (copied old new (allocated q new t)))
    → (there : Memᴰ old (objects (copied old new (allocated q new t)).blocks))
    → (held : has_record (copied old new (allocated q new t)).accounts.holds q old.serial ≡ true)
    → Memᴰ new (objects (copied old new (allocated q new t)).blocks)
    → Memᴰ new (objects (released q old (copied old new (allocated q new t))).blocks)
unfolding copied
new_kept q old new t g r ne g₂ there held m =
    let u = copied old new (allocated q new t) in
    let hs = u.accounts.holds in
    let z : eqb old.serial new.serial ≡ false = ne_eqb old.serial new.serial ne in
    let one : count_of new.serial q hs ≡ 1 = allocated_counts q new t g r new.serial q
    ∙ rw (eq-eqb new.serial new.serial refl, eq-eqb q q refl) in
    let o = good_ordered u g₂ in
    let c : count_of new.serial q (lower_count old.serial q hs) ≡ 1 = lower_counted hs o old.serial q held new.serial q ∙ rw z one in
    rw (released_objects q old u g₂ there held)
    ((keep_exactly (object_held (lower_count old.serial q hs)) (objects u.blocks) new).1
    (m, (held_counted (lower_count old.serial q hs) (lower_ordered hs o old.serial q held) new.serial).1 (q, omega (arith, c))))

-- an accepted outcome
accepted_done : (n : ℕ) (s : List ℕ) (k : Accounts) (done : Outcome) → (unless n s k done).values.refusal ≡ 0 → (n ≡ 0) × (unless n s k done ≡ done)
unfolding unless
accepted_done zero s k done e = (refl, refl)
accepted_done (suc n) s k done e = absurd (omega arith)

module _ (unit : ℕ → ℕ) (units : Units unit) (l : Ledger) (s : List ℕ) (k : Accounts) (a : Agrees l s k) (q : ℕ) where
  -- a new object is all zero
  pub allocated_zero : (n : ℕ) → (allocate unit s k q n).values.refusal ≡ 0
      → contents (allocate unit s k q n).values.handle (allocate unit s k q n).heap ≡ replicate (object_length unit n) 0
  unfolding allocate o t
  allocated_zero n e =
      let d = accepted_done (first_refusal (allocate_lines unit s k q n)) s k _ e in
      rw d.1
      (zero_bytes unit units l s k a q n
      (allocate_passed unit s k q n ((accepted_exactly (allocate_lines unit s k q n) (by_lines unit (Allocate q n) s k).numbered).0 d.0)))

  -- and is live in the heap that is left
  pub allocated_live_there : (n : ℕ) → (allocate unit s k q n).values.refusal ≡ 0
      → Memᴰ (allocate unit s k q n).values.handle (objects_of (allocate unit s k q n).heap)
  unfolding allocate o t
  allocated_live_there n e =
      let d = accepted_done (first_refusal (allocate_lines unit s k q n)) s k _ e in
      rw d.1
      (live_there unit units l s k a q n
      (allocate_passed unit s k q n ((accepted_exactly (allocate_lines unit s k q n) (by_lines unit (Allocate q n) s k).numbered).0 d.0)))

contents_length : (o : Handle) (s : List ℕ) → o.base + o.length ≤ length s → length (contents o s) ≡ o.length
unfolding contents
contents_length o s h = simp (length-take, length-drop) (omega arith)

module _ (unit : ℕ → ℕ) (units : Units unit) (l : Ledger) (s : List ℕ) (k : Accounts) (a : Agrees l s k) (q : ℕ) (h : Handle) (n : ℕ)
    (p : Reallocatable unit s k q h n) where
  N : ℕ
  N = object_length unit n

  was : Handle
  was = found (lookup_whole h s)

  will : Handle
  will = new_object unit s k n

  t₁ : State
  t₁ = allocated q will (state_of s k)

  was_here : Memᴰ was (objects_of s)
  unfolding was objects_of
  was_here = old_here unit units l s k a q h n p

  was_still : Memᴰ was (objects t₁.blocks)
  unfolding was t₁ will objects_of
  was_still =
      added_old (new_object unit s k n) (objects (blocks_of s)) _
      (allocated_objects q (new_object unit s k n) (state_of s k) (good l s k a) (room unit units l s k a q n p.new)) (found (lookup_whole h s))
      (old_here unit units l s k a q h n p)

  -- what is copied is what the old object holds
  copied_bytes : body_of was.serial t₁.blocks ≡ contents was s
  unfolding t₁ will
  copied_bytes =
      let g = new_good unit units l s k a q n p.new in
      copied_is t₁.blocks g.tests.differ was was_still
      ∙ allocate_bytes unit units l s k a q n p.new was was_here (rw (good_heap t₁ g).objects was_still)

  will_there : Memᴰ will (objects (copied was will t₁).blocks)
  unfolding t₁ will o t
  will_there = rw (copied_objects was will t₁ (new_good unit units l s k a q n p.new)) (new_there unit units l s k a q n p.new)

  written : contents will (render (copied was will t₁).blocks) ≡ take N (contents was s) ++ replicate (N - was.length) 0
  unfolding t₁ will o t N
  written =
      let e = copied_to was will t₁ will (replicate N 0) will_there refl (new_block_is unit units l s k a q n p.new) in
      let c = copied_bytes in
      let m : length (contents was s) ≡ was.length = contents_length was s (inside_of l s k a was was_here) in
      e ∙ rw (c, m, length-replicate {A = ℕ} N 0, drop_same 0 was.length N)

  -- the new object stays when the old one is released, with these bytes
  last_there : Memᴰ will (objects (released q was (copied was will t₁)).blocks)
  unfolding t₁ will was objects_of
  last_there =
      let g = good l s k a in
      let r = room unit units l s k a q n p.new in
      let ne = fresh_serial unit units l s k a q n p.new was was_here in
      let x = still_releasable (state_of s k) g q was will r ne was_here p.recorded in
      new_kept q was will (state_of s k) g r ne (made_good unit units l s k a q h n p) x.0 x.1 will_there

  last_live : Memᴰ will (objects_of (render (released q was (copied was will t₁)).blocks))
  unfolding t₁ will was objects_of
  last_live =
      let g = good l s k a in
      let r = room unit units l s k a q n p.new in
      let x = still_releasable (state_of s k) g q was will r (fresh_serial unit units l s k a q n p.new was was_here) was_here p.recorded in
      rw (good_heap _ (released_good q was (copied was will t₁) (made_good unit units l s k a q h n p) x.0 x.1)).objects last_there

  moved_bytes : contents will (render (released q was (copied was will t₁)).blocks) ≡ take N (contents was s) ++ replicate (N - was.length) 0
  unfolding t₁ will was
  moved_bytes =
      contents_stay (copied was will t₁).blocks (released q was (copied was will t₁)).blocks (will.serial + 1)
      (made_good unit units l s k a q h n p).tests.differ
      (released_leaves (will.serial + 1) q was (copied was will t₁)) will will_there last_there (λ e. omega arith)
      ∙ written

  -- the old object is the handle's
  was_handle : was ≡ h
  unfolding was found or_else
  was_handle = ap found p.names ∙ sym ((lookup_whole_exactly h s p.object).0 p.names).0

  handle_bytes : contents will (render (released q was (copied was will t₁)).blocks) ≡ take N (contents h s) ++ replicate (N - h.length) 0
  handle_bytes = subst (λ (x : Handle). contents will (render (released q was (copied was will t₁)).blocks) ≡ take N (contents x s)
      ++ replicate (N - x.length) 0) was_handle moved_bytes

-- a reallocated object has the old one's bytes, as many as fit, and then zeros
pub reallocated_bytes : (unit : ℕ → ℕ) (units : Units unit) (l : Ledger) (s : List ℕ) (k : Accounts) → Agrees l s k → (q : ℕ) (h : Handle) (n : ℕ)
    → (reallocate unit s k q h n).values.refusal ≡ 0
    → contents (reallocate unit s k q h n).values.handle (reallocate unit s k q h n).heap
    ≡ take (object_length unit n) (contents h s) ++ replicate (object_length unit n - h.length) 0
unfolding reallocate N was will t₁
reallocated_bytes unit units l s k a q h n e =
    let d = accepted_done (first_refusal (reallocate_lines unit s k q h n)) s k _ e in
    rw d.1
    (handle_bytes unit units l s k a q h n
    (reallocate_passed unit s k q h n ((accepted_exactly (reallocate_lines unit s k q h n) (by_lines unit (Reallocate q h n) s k).numbered).0
    d.0)))

-- and is live in the heap that is left
pub reallocated_live_there : (unit : ℕ → ℕ) (units : Units unit) (l : Ledger) (s : List ℕ) (k : Accounts) → Agrees l s k
    → (q : ℕ) (h : Handle) (n : ℕ)
    → (reallocate unit s k q h n).values.refusal ≡ 0
    → Memᴰ (reallocate unit s k q h n).values.handle (objects_of (reallocate unit s k q h n).heap)
unfolding reallocate was will t₁
reallocated_live_there unit units l s k a q h n e =
    let d = accepted_done (first_refusal (reallocate_lines unit s k q h n)) s k _ e in
    rw d.1
    (last_live unit units l s k a q h n
    (reallocate_passed unit s k q h n ((accepted_exactly (reallocate_lines unit s k q h n) (by_lines unit (Reallocate q h n) s k).numbered).0
    d.0)))
