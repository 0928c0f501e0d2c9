-- Nothing leaks. Where the ledger has no object and no quarantined block no block is occupied; no two free blocks stand side by side, so there is one, and it
-- holds zeros. A used record would have a live object, so none is used; and a quota that pays for nothing has its whole grant.
use Prim.Native.Nat.{ℕ, zero, suc, ◌+◌, ◌-◌, ◌%◌, ◌≤◌, ◌<◌}
use native.Mathlib.Omega.{arith}
use mathlib.Core.Path.{◌≡◌, refl, ap, sym, subst, ◌∙◌}
use mathlib.Core.List.Memᴰ
use mathlib.Core.List.{List, [], ◌∷◌, map, Memᴰ, cons≢nil}
use mathlib.Core.Bool.{Bool, true, false, not, ◌&&◌, false≢true}
use lib.ListN.{length, get_or, drop, replicate}
use lib.Dec.{eqb}
use borrow.Author.Tests.{eqb-true, not-false, leb-true}
use Rattle.accounts.specs.declared.Quota.{Quota}
use Rattle.accounts.specs.declared.Hold.{Hold}
use Rattle.accounts.specs.declared.Accounts.{Accounts}
use Rattle.accounts.specs.declared.settings.Settings.{Settings}
use Rattle.accounts.specs.Accounts.{QUOTAS, HOLDS, ALL_PERMISSIONS, kind_number, edition_number, zero_hold, grants, granted, opened, used, permissions}
use Rattle.accounts.specs.Accounts.{with_permissions, with_last_serial}
use Rattle.rounding.specs.Rounding.{Units, table}
use Rattle.rounding.proofs.Editions.{table_is}
use Rattle.layout.specs.Blocks.{Block, size, occupied, quarantined, live, render}
use Rattle.lists.specs.Lists.{all, any, total}
use Rattle.model.specs.Answers.{accepted}
use Rattle.model.specs.Objects.{blocks_of, objects_from, objects, objects_of}
use Rattle.model.specs.Consistent.{allowed, starts_free, free_apart, record_valid, charges, balanced_from}
use Rattle.model.specs.Refusals.{first_refusal, line_1, open_lines}
use Rattle.model.specs.Calls.{Outcome, unless, fresh, open_heap}
use Rattle.model.specs.Step.{own_step}
use Rattle.lists.proofs.Bools.{and_left, and_right}
use Rattle.lists.proofs.Lists.{all_member}
use Rattle.model.proofs.Blocks.{apart_head}
use Rattle.model.proofs.Consistent.{Tests, tests_exactly, accounted_cut, accounted_apart}
use Rattle.invariant.proofs.Heaps.{heap_again, render_total}
use Rattle.ledger.specs.Ledger.{Ledger, Event, Called, Wrote, Saved, Restored, spans_from, quarantined_of, empty, unrestored, ledger_of}
use Rattle.ledger.specs.History.{Begins, Opening, Restoring, History, by_own}
use Rattle.ledger.proofs.Agreement.{Agrees}
use Rattle.ledger.proofs.Counting.{history_records}
use Rattle.ledger.proofs.Theorem.{history_agrees, demand_3_of}
use Rattle.safety.specs.Images.{AtLastImage}
use Rattle.safety.specs.Left.{clean_block, clean, is_zero, blank}
use Rattle.safety.specs.Returned.{all_permitted, NobodyHolds, AsOpened, AllReturned}
use Rattle.safety.proofs.Clean.{zeros_are, clean_passes}
use Rattle.safety.proofs.Left.{nothing_left_of}

-- a list without members is empty
empty_list : {A : Type 0} (xs : List A) → ((x : A) → Memᴰ x xs → ⊥) → xs ≡ []
empty_list [] f = refl
empty_list (x ∷ xs) f = absurd (f x (Memᴰ.head refl))

-- blocks without objects, without quarantined ones and without free neighbours are one free block at most
first_dead : (at : ℕ) (b : Block) (bs : List Block) → objects_from at (b ∷ bs) ≡ [] → live b ≡ false
unfolding objects_from
first_dead at b bs e = go (live b) refl
  where
    go : (t : Bool) → live b ≡ t → live b ≡ false
    go true t = absurd (cons≢nil (rw t at e))
    go false t = t

first_unquarantined : (at : ℕ) (b : Block) (bs : List Block) → spans_from at (b ∷ bs) ≡ [] → quarantined b ≡ false
unfolding spans_from
first_unquarantined at b bs e = go (quarantined b) refl
  where
    go : (t : Bool) → quarantined b ≡ t → quarantined b ≡ false
    go true t = absurd (cons≢nil (rw t at e))
    go false t = t

first_free : (at : ℕ) (b : Block) (bs : List Block) → objects_from at (b ∷ bs) ≡ [] → spans_from at (b ∷ bs) ≡ [] → occupied b ≡ false
first_free at b bs e f = go (occupied b) (first_dead at b bs e)
  where
    go : (t : Bool) → (t && not (quarantined b)) ≡ false → t ≡ false
    go true x = absurd (false≢true (sym (rw (first_unquarantined at b bs f) at x)))
    go false x = refl

later_objects : (at : ℕ) (b : Block) (bs : List Block) → objects_from at (b ∷ bs) ≡ [] → objects_from (at + size b) bs ≡ []
unfolding objects_from
later_objects at b bs e = rw (first_dead at b bs e) at e

later_spans : (at : ℕ) (b : Block) (bs : List Block) → spans_from at (b ∷ bs) ≡ [] → spans_from (at + size b) bs ≡ []
unfolding spans_from
later_spans at b bs e = rw (first_unquarantined at b bs e) at e

one_block : (at : ℕ) (bs : List Block) → objects_from at bs ≡ [] → spans_from at bs ≡ [] → free_apart bs ≡ true → 0 < total size bs
    → (b : Block) × (bs ≡ b ∷ []) × (occupied b ≡ false) × (live b ≡ false)
unfolding total starts_free
one_block at [] e x f p = absurd (omega arith)
one_block at (b ∷ []) e x f p = (b, refl, first_free at b [] e x, first_dead at b [] e)
one_block at (b ∷ (c ∷ cs)) e x f p =
    let u = first_free at b (c ∷ cs) e x in
    let v = first_free (at + size b) c cs (later_objects at b (c ∷ cs) e) (later_spans at b (c ∷ cs) x) in
    absurd (false≢true (rw (u, v) at (apart_head b (c ∷ cs) f)))

-- an unused record is zero
unused_zero : (h : Hold) → used h ≡ false → h ≡ zero_hold
unfolding used
unused_zero h e =
    let t = not-false _ e in
    let a = eqb-true h.serial 0 (and_left _ _ (and_left _ _ t)) in
    let b = eqb-true h.quota 0 (and_right (eqb h.serial 0) _ (and_left _ _ t)) in
    let c = eqb-true h.count 0 (and_right (eqb h.serial 0 && eqb h.quota 0) _ t) in
    λ i. record { serial = a i; quota = b i; count = c i }

-- a record that is valid where there are no objects is unused
valid_unused : (h : Hold) → record_valid [] h ≡ true → used h ≡ false
unfolding record_valid any
valid_unused h v = go (used h) refl
  where
    go : (t : Bool) → used h ≡ t → used h ≡ false
    go true t = absurd (false≢true (rw t at v))
    go false t = t

no_records : (hs : List Hold) → all (record_valid []) hs ≡ true → hs ≡ replicate (length hs) zero_hold
unfolding all
no_records [] v = refl
no_records (h ∷ hs) v =
    let e = unused_zero h (valid_unused h (and_left _ _ v)) in
    let r = no_records hs (and_right (record_valid [] h) _ v) in
    λ i. e i ∷ r i

-- a quota that pays for nothing has its whole grant
whole_grants : (hs : List Hold) (q : ℕ) (qs : List Quota) → balanced_from [] hs q qs ≡ true
    → map granted (map (λ (x : Quota). x.grant) qs) ≡ map (with_permissions ALL_PERMISSIONS) qs
unfolding balanced_from charges total
whole_grants hs q [] e = refl
whole_grants hs q (x ∷ xs) e =
    let a = eqb-true x.grant (x.remainder + 0) (and_left _ _ e) in
    let b : x.grant ≡ x.remainder = omega arith in
    let r = whole_grants hs (suc q) xs (and_right (eqb x.grant (x.remainder + 0)) _ e) in
    λ i. record { grant = x.grant; remainder = b i; permissions = ALL_PERMISSIONS } ∷ r i

-- quotas with every permission are themselves
all_there : (qs : List Quota) (n : ℕ) → map (λ (x : Quota). x.permissions) qs ≡ replicate n ALL_PERMISSIONS → map (with_permissions ALL_PERMISSIONS) qs ≡ qs
all_there [] n e = refl
all_there (x ∷ xs) zero e = absurd (cons≢nil e)
all_there (x ∷ xs) (suc n) e =
    let p = ap (λ (l : List ℕ). get_or l 0 0) e in
    let r = all_there xs n (ap (λ (l : List ℕ). drop 1 l) e) in
    λ i. record { grant = x.grant; remainder = x.remainder; permissions = sym p i } ∷ r i

-- a property of images that follows from another
module _ (tables : ℕ → ℕ → ℕ) (begun : Ledger) (P Q : List ℕ → Accounts → Type 0) (f : (s : List ℕ) (k : Accounts) → P s k → Q s k) where
  begun_images : (s : List ℕ) (k : Accounts) (h : Begins tables begun s k) → AtLastImage tables (by_own tables) begun P [] s k h
      → AtLastImage tables (by_own tables) begun Q [] s k h
  begun_images s k (Opening g given e o) p = tt
  begun_images s k (Restoring e r) p = f s k p

  images : (es : List Event) (s : List ℕ) (k : Accounts) (h : History tables (by_own tables) begun es s k) → AtLastImage tables (by_own tables) begun P es s k h
      → AtLastImage tables (by_own tables) begun Q es s k h
  images [] s k h p = begun_images s k h p
  images (Called c v ∷ es) s k h p = images es h.0 h.1 h.2 p
  images (Wrote ∷ es) s k h p = images es h.0 k h.1 p
  images (Saved s₀ k₀ ∷ es) s k h p = images es s k h.0 p
  images (Restored s₁ k₁ ∷ es) s k h p = f s k p

-- without images none is read
module _ (tables : ℕ → ℕ → ℕ) (begun : Ledger) where
  none_read : (es : List Event) (s : List ℕ) (k : Accounts) (h : History tables (by_own tables) begun es s k)
      → AtLastImage tables (by_own tables) begun (λ s k. ⊥) es s k h → unrestored es ≡ true
  unfolding unrestored
  none_read [] s k h p = refl
  none_read (Called c v ∷ es) s k h p = none_read es h.0 h.1 h.2 p
  none_read (Wrote ∷ es) s k h p = none_read es h.0 k h.1 p
  none_read (Saved s₀ k₀ ∷ es) s k h p = none_read es s k h.0 p
  none_read (Restored s₁ k₁ ∷ es) s k h p = absurd p

-- a blank heap that agrees with an empty ledger, and its records
module _ (l : Ledger) (s : List ℕ) (k : Accounts) (a : Agrees l s k) (none : NobodyHolds l) (b : blank s ≡ true) (rs : length k.holds ≡ HOLDS) where
  tests : Tests (blocks_of s) k
  tests = (tests_exactly (blocks_of s) k).0 (accounted_cut s k a.passes).1

  no_objects : objects (blocks_of s) ≡ []
  unfolding objects_of
  no_objects = empty_list (objects_of s) (λ o m. Memᴰ.not-nil (rw none.0 at ((a.matches.objects o).0 m)))

  no_spans : spans_from 0 (blocks_of s) ≡ []
  unfolding quarantined_of
  no_spans = empty_list (quarantined_of s) (λ x m. Memᴰ.not-nil (subst (Memᴰ x) none.1 ((a.waits.both x).0 m)))

  again : render (blocks_of s) ≡ s
  again = heap_again s k a.octets a.passes

  extent : length s ≡ total size (blocks_of s)
  extent = ap length (sym again) ∙ render_total (blocks_of s)

  long : 64 ≤ length s
  unfolding allowed
  long = leb-true 64 (length s) (and_left _ _ (and_right (eqb (length s % 8) 0) _ a.extent))

  -- one free block covers the heap
  one : (b : Block) × (blocks_of s ≡ b ∷ []) × (occupied b ≡ false) × (live b ≡ false)
  unfolding objects
  one = one_block 0 (blocks_of s) no_objects no_spans (accounted_apart s k a.passes) (omega (arith, extent, long))

  module _ (g : Settings) where
    covers : blocks_of s ≡ (fresh g (length s) (grants k)).blocks
    unfolding fresh total clean blank
    covers =
        let c = one.0 in
        let e = one.1 in
        let n : length s ≡ 8 + length c.body = extent ∙ (ap (total size) e ∙ omega arith) in
        let m : length c.body ≡ length s - 8 = omega arith in
        let z : c.serial ≡ 0 = eqb-true c.serial 0 (not-false _ one.2) in
        let w = clean_passes is_zero c one.3 (all_member (clean_block is_zero) (blocks_of s) b c (rw e (Memᴰ.head refl))) in
        let y : c.body ≡ replicate (length s - 8) 0 = zeros_are c.body w ∙ ap (λ (x : ℕ). replicate x 0) m in
        e ∙ (λ i. record { serial = z i; body = y i } ∷ [])

    -- opening it anew changes no byte
    opens : open_heap g s (grants k) ≡ record { heap = render (fresh g (length s) (grants k)).blocks; accounts = opened g (grants k); values = accepted }
    unfolding open_heap open_lines line_1 first_refusal unless fresh
    opens = rw a.extent

    same_heap : (open_heap g s (grants k)).heap ≡ s
    same_heap = ap (λ (t : Outcome). t.heap) opens ∙ ap render (sym covers) ∙ again

    module _ (kind : kind_number g.kind ≡ k.kind) (edition : edition_number g.edition ≡ k.edition) where
      same_accounts : with_last_serial k.last_serial (open_heap g s (grants k)).accounts ≡ all_permitted k
      unfolding opened all_permitted
      same_accounts =
          let qs = whole_grants k.holds 0 k.quotas (rw no_objects at tests.balance) in
          let hs : replicate HOLDS zero_hold ≡ k.holds =
          ap (λ (n : ℕ). replicate n zero_hold) (sym rs) ∙ sym (no_records k.holds (rw no_objects at tests.valid)) in
          ap (λ (t : Outcome). with_last_serial k.last_serial t.accounts) opens
          ∙ (λ i. record { quotas = qs i; last_serial = k.last_serial; holds = hs i; kind = kind i; edition = edition i })

      permitted : permissions k ≡ replicate QUOTAS ALL_PERMISSIONS → all_permitted k ≡ k
      unfolding all_permitted
      permitted e =
          let qs = all_there k.quotas QUOTAS e in
          λ i. record { quotas = qs i; last_serial = k.last_serial; holds = k.holds; kind = k.kind; edition = k.edition }

      as_opened : AsOpened g (grants k) s k
      as_opened = record { heap = same_heap; accounts = same_accounts; uncleared = λ e. same_accounts ∙ permitted e }

-- THE THEOREM
module _ (tables : ℕ → ℕ → ℕ) (units : (e : ℕ) → Units (tables e)) where
  restored_returned : (begun : Ledger) (es : List Event) (s : List ℕ) (k : Accounts) (h : History tables (by_own tables) begun es s k)
      → AtLastImage tables (by_own tables) begun (λ s k. blank s ≡ true) es s k h → NobodyHolds (ledger_of begun es)
      → (g : Settings) → kind_number g.kind ≡ k.kind → edition_number g.edition ≡ k.edition → AsOpened g (grants k) s k
  restored_returned begun es s k h p none =
      as_opened (ledger_of begun es) s k (history_agrees tables units begun es s k h) none
      ((nothing_left_of tables units).always begun es s k h p) (history_records tables begun es s k h)

  opened_returned : (g : Settings) (given : List ℕ) (es : List Event) (s : List ℕ) (k : Accounts) (h : History tables (by_own tables) (empty g given) es s k)
      → AtLastImage tables (by_own tables) (empty g given) (λ s k. ⊥) es s k h → NobodyHolds (ledger_of (empty g given) es) → AsOpened g given s k
  unfolding empty
  opened_returned g given es s k h p none =
      let d = (demand_3_of tables units).always (empty g given) es [] s k h in
      let u = none_read tables (empty g given) es s k h p in
      subst (λ (x : List ℕ). AsOpened g x s k) (d.agrees.grants_kept ∙ d.grants_begun u)
      (restored_returned (empty g given) es s k h (images tables (empty g given) (λ s k. ⊥) _ (λ s k w. absurd w) es s k h p) none g
      (sym (d.agrees.kind_kept ∙ d.kind_begun u)) (sym (d.agrees.edition_kept ∙ d.edition_begun u)))

  pub all_returned_of : AllReturned tables (by_own tables)
  all_returned_of = record { opened = opened_returned; restored = restored_returned }

-- and so of both editions' tables
pub all_returned : AllReturned table own_step
all_returned = all_returned_of table table_is
