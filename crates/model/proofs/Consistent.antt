-- Rules 5.1 to 5.8 as statements about blocks, objects, records and quotas; the test for them passes exactly if they hold. It is
-- an `and` of seven tests, each over a list or its pairs, and goes by induction on the list.
use Rattle.std.specs.Prelude.{Option, Some, None}
use mathlib.Core.Path.{◌≡◌, refl, ap, sym, ◌∙◌}
use Prim.Native.Nat.{ℕ, zero, suc, ◌+◌, ◌≤◌, ◌<◌, suc-le-suc, zero-le}
use native.Mathlib.Omega.{arith}
use native.Mathlib.Nat.{not-suc-le-zero, le_of_suc-le-suc, add-zero, add-suc, suc-add, zero-add}
use mathlib.Core.List.{List, [], ◌∷◌, ◌++◌, Memᴰ}
use mathlib.Core.Bool.{Bool, true, false, not, ◌&&◌, ◌||◌, false≢true}
use mathlib.Core.Logic.{◌↔◌, ⊎_elim}
use lib.ListN.{length, get_or}
use lib.Dec.{leb, ltb, eqb}
use borrow.Author.Tests.{leb-true, le-leb, ltb-true, lt-ltb, eqb-true, eqb-false, eq-eqb, not-true}
use Rattle.accounts.specs.declared.Quota.{Quota}
use Rattle.accounts.specs.declared.Hold.{Hold}
use Rattle.accounts.specs.declared.Accounts.{Accounts}
use Rattle.accounts.specs.Accounts.{QUOTAS, zero_quota, zero_hold, used, is_for, permissible, permissions}
use Rattle.layout.specs.Bytes.{Octets}
use Rattle.layout.specs.Blocks.{Block, size, QUARANTINED, occupied, render, parse, AllWritable}
use Rattle.layout.proofs.Parse.{parse_is}
use Rattle.lists.specs.Lists.{all, any, or_else}
use Rattle.model.specs.Answers.{zero_handle}
use Rattle.model.specs.Objects.{objects, objects_of, blocks_of}
use Rattle.model.specs.Consistent.{long_enough, starts_free, free_apart, well_cut, has_serial, serials_differ, serials_given, record_valid}
use Rattle.model.specs.Consistent.{records_differ, is_of, held, charges, balanced_from, accounted_blocks, accounted_parsed, accounted, consistent}
use Rattle.model.specs.Consistent.{in_units, in_kind, in_range, greatest_serial}
use Rattle.model.specs.declared.Handle.{Handle}
use Rattle.model.proofs.Rows
use Rattle.lists.proofs.Bools.{and_left, and_right, and_both, or_cases, or_left, or_right, implies, implied, fails}
use Rattle.lists.proofs.Lists.{all_member, member_all, none_member, all_exactly, any_exactly, any_and, unrelated, unrelated_places, places_unrelated}

-- the seven tests, for rules 5.2 to 5.8 in their order
pub record Tests (bs : List Block) (k : Accounts) : Type 0 where
  pub cut : well_cut bs ≡ true
  pub differ : serials_differ (objects bs) ≡ true
  pub given : serials_given k.last_serial (objects bs) ≡ true
  pub valid : all (record_valid (objects bs)) k.holds ≡ true
  pub unique : records_differ k.holds ≡ true
  pub recorded : all (λ o. held k.holds o.serial) (objects bs) ≡ true
  pub balance : balanced_from (objects bs) k.holds 0 k.quotas ≡ true

-- rule 5.5, of one record: the serial is a live object's, the quota exists, and the count is not 0
abbrev pub Valid : List Handle → Hold → Type 0
Valid os h = (o : Handle) × (Memᴰ o os) × (o.serial ≡ h.serial) × (h.quota < QUOTAS) × (1 ≤ h.count)

-- a used record has this serial
abbrev pub Held : List Hold → ℕ → Type 0
Held hs serial = (h : Hold) × (Memᴰ h hs) × (used h ≡ true) × (h.serial ≡ serial)

-- what they say
pub record Facts (bs : List Block) (k : Accounts) : Type 0 where
  pub long : (b : Block) → Memᴰ b bs → occupied b ≡ true → 16 ≤ size b
  pub apart : (xs ys : List Block) (b c : Block) → bs ≡ xs ++ (b ∷ c ∷ ys) → occupied b ≡ false → occupied c ≡ false → ⊥
  pub serials : (i j : ℕ) → i < j → j < length (objects bs) → (get_or (objects bs) i zero_handle).serial ≡ (get_or (objects bs) j zero_handle).serial → ⊥
  pub given : (o : Handle) → Memᴰ o (objects bs) → o.serial ≤ k.last_serial
  pub valid : (h : Hold) → Memᴰ h k.holds → used h ≡ true → Valid (objects bs) h
  pub unique : (i j : ℕ) → i < j → j < length k.holds → used (get_or k.holds i zero_hold) ≡ true → used (get_or k.holds j zero_hold) ≡ true
      → (get_or k.holds i zero_hold).serial ≡ (get_or k.holds j zero_hold).serial → (get_or k.holds i zero_hold).quota
      ≡ (get_or k.holds j zero_hold).quota → ⊥
  pub recorded : (o : Handle) → Memᴰ o (objects bs) → Held k.holds o.serial
  pub balance : (q : ℕ) → q < length k.quotas
      → (get_or k.quotas q zero_quota).grant ≡ (get_or k.quotas q zero_quota).remainder + charges k.holds q (objects bs)

-- the test is those seven
pub tests_exactly : (bs : List Block) (k : Accounts) → (accounted_blocks bs k ≡ true) ↔ Tests bs k
unfolding accounted_blocks
tests_exactly bs k = (there, λ t. rw (t.cut, t.differ, t.given, t.valid, t.unique, t.recorded) t.balance)
  where
    there : accounted_blocks bs k ≡ true → Tests bs k
    there e =
        let e₁ = and_right (well_cut bs) _ e in
        let e₂ = and_right (serials_differ (objects bs)) _ e₁ in
        let e₃ = and_right (serials_given k.last_serial (objects bs)) _ e₂ in
        let e₄ = and_right (all (record_valid (objects bs)) k.holds) _ e₃ in
        let e₅ = and_right (records_differ k.holds) _ e₄ in
        record {
          cut = and_left _ _ e;
          differ = and_left _ _ e₁;
          given = and_left _ _ e₂;
          valid = and_left _ _ e₃;
          unique = and_left _ _ e₄;
          recorded = and_left _ _ e₅;
          balance = and_right (all (λ o. held k.holds o.serial) (objects bs)) _ e₅;
        }

-- rule 5.2, blocks that are not free
pub long_exactly : (bs : List Block) → (all long_enough bs ≡ true) ↔ ((b : Block) → Memᴰ b bs → occupied b ≡ true → 16 ≤ size b)
unfolding long_enough
long_exactly =
    all_exactly long_enough (λ b. occupied b ≡ true → 16 ≤ size b)
    (λ b. (
      λ e l. leb-true 16 (size b) (implies (occupied b) (leb 16 (size b)) e l),
      λ f. implied (occupied b) (leb 16 (size b))
          (λ l. le-leb 16 (size b) (f l)),
    ))

-- rule 5.2, free blocks
abbrev pub Apart : List Block → Type 0
Apart bs = (xs ys : List Block) (b c : Block) → bs ≡ xs ++ (b ∷ c ∷ ys) → occupied b ≡ false → occupied c ≡ false → ⊥

apart_at : (xs ys : List Block) (b c : Block) → free_apart (xs ++ (b ∷ c ∷ ys)) ≡ true → occupied b ≡ false → occupied c ≡ false → ⊥
unfolding free_apart starts_free
apart_at [] ys b c e eb ec = false≢true (rw (eb, ec) at e)
apart_at (x ∷ xs) ys b c e eb ec = apart_at xs ys b c (and_right (occupied x || not (starts_free (xs ++ (b ∷ c ∷ ys)))) _ e) eb ec

apart_front : (b : Block) (bs : List Block) → Apart (b ∷ bs) → (x : Bool) → occupied b ≡ x → (occupied b || not (starts_free bs)) ≡ true
unfolding starts_free
apart_front b bs f true e = rw e
apart_front b [] f false e = rw e
apart_front b (c ∷ cs) f false e = rw e (go (occupied c) refl)
  where
    go : (y : Bool) → occupied c ≡ y → not (not (occupied c)) ≡ true
    go true ec = rw ec
    go false ec = absurd (f [] cs b c refl e ec)

apart_all : (bs : List Block) → Apart bs → free_apart bs ≡ true
unfolding free_apart
apart_all [] f = refl
apart_all (b ∷ bs) f =
    and_both (occupied b || not (starts_free bs)) (free_apart bs) (apart_front b bs f (occupied b) refl)
    (apart_all bs (λ xs ys c d e. f (b ∷ xs) ys c d (ap (λ (l : List Block). b ∷ l) e)))

pub apart_exactly : (bs : List Block) → (free_apart bs ≡ true) ↔ Apart bs
apart_exactly bs = (λ e xs ys b c q. apart_at xs ys b c (rw q at e), apart_all bs)

-- rule 5.3: no object has the serial of an earlier one
pub serials_unrelated : (os : List Handle) → serials_differ os ≡ unrelated (λ o. has_serial o.serial) os
unfolding serials_differ
serials_unrelated [] = refl
serials_unrelated (o ∷ os) = rw (serials_unrelated os)

pub serials_exactly : (os : List Handle) → (serials_differ os ≡ true)
    ↔ ((i j : ℕ) → i < j → j < length os → (get_or os i zero_handle).serial ≡ (get_or os j zero_handle).serial → ⊥)
serials_exactly os =
    rw serials_unrelated (
      λ e i j l h q. unrelated_places (λ o. has_serial o.serial) zero_handle os e i j l h (eq-eqb _ _ (sym q)),
      λ f. places_unrelated (λ o. has_serial o.serial) zero_handle os (λ i j l h t. f i j l h (sym (eqb-true _ _ t))),
    )

-- rule 5.4: none is above the last serial
pub given_exactly : (last : ℕ) (os : List Handle) → (serials_given last os ≡ true) ↔ ((o : Handle) → Memᴰ o os → o.serial ≤ last)
unfolding serials_given
given_exactly last = all_exactly (λ o. leb o.serial last) (λ o. o.serial ≤ last) (λ o. (leb-true o.serial last, le-leb o.serial last))

-- a record is used for a serial, and for a serial and a quota
pub is_of_exactly : (serial : ℕ) (h : Hold) → (is_of serial h ≡ true) ↔ ((used h ≡ true) × (h.serial ≡ serial))
unfolding is_of
is_of_exactly serial h = (
  λ e. (and_left (used h) _ e, eqb-true h.serial serial (and_right (used h) _ e)),
  λ f. and_both (used h) _ f.0 (eq-eqb h.serial serial f.1),
)

pub is_for_exactly : (serial q : ℕ) (h : Hold) → (is_for serial q h ≡ true) ↔ ((used h ≡ true) × (h.serial ≡ serial) × (h.quota ≡ q))
unfolding is_for is_of
is_for_exactly serial q h =
    let o = is_of_exactly serial h in (
      λ e. (let u = o.0 (and_left (is_of serial h) _ e) in (u.0, u.1, eqb-true h.quota q (and_right (is_of serial h) _ e))),
      λ f. and_both (is_of serial h) _ (o.1 (f.0, f.1)) (eq-eqb h.quota q f.2),
    )

-- rule 5.5: a used record is of a live object, with a quota that exists and a count
pub valid_exactly : (os : List Handle) (hs : List Hold) → (all (record_valid os) hs ≡ true)
    ↔ ((h : Hold) → Memᴰ h hs → used h ≡ true → Valid os h)
unfolding record_valid
valid_exactly os =
    all_exactly (record_valid os) (λ h. used h ≡ true → Valid os h)
    (λ h. (λ e u. there h (implies (used h) _ e u), λ f. implied (used h) _ (λ u. back h (f u))))
  where
    some_object : (h : Hold) → (any (has_serial h.serial) os ≡ true) ↔ ((o : Handle) × (Memᴰ o os) × (o.serial ≡ h.serial))
    some_object h = any_exactly (has_serial h.serial) (λ o. o.serial ≡ h.serial)
        (λ o. (eqb-true o.serial h.serial, eq-eqb o.serial h.serial)) os

    there : (h : Hold) → (any (has_serial h.serial) os && (ltb h.quota QUOTAS && leb 1 h.count)) ≡ true → Valid os h
    there h e =
        let r = (some_object h).0 (and_left (any (has_serial h.serial) os) _ e) in
        let t = and_right (any (has_serial h.serial) os) _ e in
        (r.0, r.1, r.2, ltb-true h.quota QUOTAS (and_left _ _ t), leb-true 1 h.count (and_right (ltb h.quota QUOTAS) _ t))

    back : (h : Hold) → Valid os h → (any (has_serial h.serial) os && (ltb h.quota QUOTAS && leb 1 h.count)) ≡ true
    back h r = and_both _ _ ((some_object h).1 (r.0, r.1, r.2)) (and_both _ _ (lt-ltb h.quota QUOTAS r.3) (le-leb 1 h.count r.4))

-- rule 5.6: used records differ in serial or quota
abbrev pub same_hold : Hold → Hold → Bool
same_hold h g = used h && is_for h.serial h.quota g

pub records_unrelated : (hs : List Hold) → records_differ hs ≡ unrelated same_hold hs
unfolding records_differ
records_unrelated [] = refl
records_unrelated (h ∷ hs) = rw (any_and, records_unrelated hs)

pub unique_exactly : (hs : List Hold) → (records_differ hs ≡ true)
    ↔ ((i j : ℕ) → i < j → j < length hs → used (get_or hs i zero_hold) ≡ true → used (get_or hs j zero_hold) ≡ true
    → (get_or hs i zero_hold).serial ≡ (get_or hs j zero_hold).serial → (get_or hs i zero_hold).quota ≡ (get_or hs j zero_hold).quota → ⊥)
unique_exactly hs =
    rw records_unrelated (
      λ e i j l h u v p q. unrelated_places same_hold zero_hold hs e i j l h
          (and_both _ _ u ((is_for_exactly _ _ (get_or hs j zero_hold)).1 (v, sym p, sym q))),
      λ f. places_unrelated same_hold zero_hold hs (λ i j l h t.
          (let r = (is_for_exactly _ _ (get_or hs j zero_hold)).0 (and_right (used (get_or hs i zero_hold)) _ t) in f i j l h (and_left _ _ t) r.0
          (sym r.1) (sym r.2))),
    )

-- rule 5.7: every object is held
pub held_exactly : (hs : List Hold) (serial : ℕ) → (held hs serial ≡ true) ↔ Held hs serial
unfolding held
held_exactly hs serial =
    let r = any_exactly (is_of serial) _ (is_of_exactly serial) hs in
    (λ e. (let h = r.0 e in (h.0, h.1, h.2.0, h.2.1)), λ h. r.1 (h.0, h.1, (h.2, h.3)))

pub recorded_exactly : (hs : List Hold) (os : List Handle) → (all (λ o. held hs o.serial) os ≡ true)
    ↔ ((o : Handle) → Memᴰ o os → Held hs o.serial)
recorded_exactly hs = all_exactly (λ o. held hs o.serial) _ (λ o. held_exactly hs o.serial)

-- a record that holds a serial may be taken away, and the others hold every other serial that was held
other_held : (h : Hold) (hs : List Hold) (n m : ℕ) → is_of n h ≡ true → eqb m n ≡ false → held (h ∷ hs) m ≡ true → held hs m ≡ true
unfolding held any
other_held h hs n m t d e =
    let no : is_of m h ≡ false = fails (is_of m h) (λ u. eqb-false m n d (sym ((is_of_exactly m h).0 u).1 ∙ ((is_of_exactly n h).0 t).1)) in
    rw no at e

taken_away : (hs : List Hold) (n : ℕ) → held hs n ≡ true
    → (rest : List Hold) × (length hs ≡ suc (length rest)) × ((m : ℕ) → eqb m n ≡ false → held hs m ≡ true → held rest m ≡ true)
unfolding held any
taken_away [] n e = absurd (false≢true e)
taken_away (h ∷ hs) n e = go (is_of n h) refl (taken_away hs n)
  where
    go : (x : Bool) → is_of n h ≡ x → (held hs n ≡ true → (rest : List Hold) × (length hs ≡ suc (length rest))
        × ((m : ℕ) → eqb m n ≡ false → held hs m ≡ true → held rest m ≡ true))
        → (rest : List Hold) × (length (h ∷ hs) ≡ suc (length rest)) × ((m : ℕ) → eqb m n ≡ false → held (h ∷ hs) m ≡ true → held rest m ≡ true)
    go true t ih = (hs, refl, λ m d u. other_held h hs n m t d u)
    go false t ih =
        let r = ih (rw t at e) in (
          h ∷ r.0,
          ap suc r.1,
          λ m d u. ⊎_elim (λ v. or_left (is_of m h) _ v) (λ v. or_right (is_of m h) _ (r.2 m d v)) (or_cases (is_of m h) (held hs m) u),
        )

-- so there are no more objects than records
pub objects_few : (os : List Handle) (hs : List Hold) → serials_differ os ≡ true → all (λ o. held hs o.serial) os ≡ true → length os ≤ length hs
unfolding serials_differ all
objects_few [] hs d a = omega arith
objects_few (o ∷ os) hs d a =
    let r = taken_away hs o.serial (and_left (held hs o.serial) _ a) in
    let None = not-true (any (has_serial o.serial) os) (and_left (not (any (has_serial o.serial) os)) _ d) in
    let ih = objects_few os r.0 (and_right (not (any (has_serial o.serial) os)) _ d)
    (member_all (λ p. held r.0 p.serial) os
    (λ p m.
    (r.2 p.serial (fails (eqb p.serial o.serial) (none_member (has_serial o.serial) os None p m))
    (all_member (λ x. held hs x.serial) os (and_right (held hs o.serial) _ a) p m)))) in
    omega (arith, r.1)

-- rule 5.8: grants are remainders and charges
abbrev pub Balance : List Handle → List Hold → ℕ → List Quota → Type 0
Balance os hs q qs = (i : ℕ) → i < length qs → (get_or qs i zero_quota).grant ≡ (get_or qs i zero_quota).remainder + charges hs (q + i) os

balanced_all : (os : List Handle) (hs : List Hold) (q : ℕ) (qs : List Quota) → balanced_from os hs q qs ≡ true → Balance os hs q qs
unfolding balanced_from
balanced_all os hs q [] e i h = absurd (not-suc-le-zero h)
balanced_all os hs q (x ∷ xs) e zero h = rw add-zero (eqb-true x.grant _ (and_left (eqb x.grant (x.remainder + charges hs q os)) _ e))
balanced_all os hs q (x ∷ xs) e (suc i) h =
    rw (add-suc q i, ← suc-add q i) (balanced_all os hs (suc q) xs (and_right (eqb x.grant (x.remainder + charges hs q os)) _ e) i
    (le_of_suc-le-suc h))

all_balanced : (os : List Handle) (hs : List Hold) (q : ℕ) (qs : List Quota) → Balance os hs q qs → balanced_from os hs q qs ≡ true
unfolding balanced_from
all_balanced os hs q [] f = refl
all_balanced os hs q (x ∷ xs) f =
    and_both _ _ (eq-eqb x.grant _ (rw add-zero at (f 0 (suc-le-suc zero-le))))
    (all_balanced os hs (suc q) xs (λ i h. rw (suc-add q i, ← add-suc q i) (f (suc i) (suc-le-suc h))))

pub balance_exactly : (os : List Handle) (hs : List Hold) (qs : List Quota) → (balanced_from os hs 0 qs ≡ true)
    ↔ ((q : ℕ) → q < length qs → (get_or qs q zero_quota).grant ≡ (get_or qs q zero_quota).remainder + charges hs q os)
balance_exactly os hs qs = (λ e q h. rw zero-add at (balanced_all os hs 0 qs e q h), λ f. all_balanced os hs 0 qs (λ q h. rw zero-add (f q h)))

-- the test passes exactly if the facts hold
pub facts_exactly : (bs : List Block) (k : Accounts) → (accounted_blocks bs k ≡ true) ↔ Facts bs k
unfolding well_cut
facts_exactly bs k = (λ e. there ((tests_exactly bs k).0 e), λ f. (tests_exactly bs k).1 (back f))
  where
    there : Tests bs k → Facts bs k
    there t =
        record {
          long = (long_exactly bs).0 (and_left _ _ t.cut);
          apart = (apart_exactly bs).0 (and_right (all long_enough bs) _ t.cut);
          serials = (serials_exactly (objects bs)).0 t.differ;
          given = (given_exactly k.last_serial (objects bs)).0 t.given;
          valid = (valid_exactly (objects bs) k.holds).0 t.valid;
          unique = (unique_exactly k.holds).0 t.unique;
          recorded = (recorded_exactly k.holds (objects bs)).0 t.recorded;
          balance = (balance_exactly (objects bs) k.holds k.quotas).0 t.balance;
        }

    back : Facts bs k → Tests bs k
    back f =
        record {
          cut = and_both _ _ ((long_exactly bs).1 f.long) ((apart_exactly bs).1 f.apart);
          differ = (serials_exactly (objects bs)).1 f.serials;
          given = (given_exactly k.last_serial (objects bs)).1 f.given;
          valid = (valid_exactly (objects bs) k.holds).1 f.valid;
          unique = (unique_exactly k.holds).1 f.unique;
          recorded = (recorded_exactly k.holds (objects bs)).1 f.recorded;
          balance = (balance_exactly (objects bs) k.holds k.quotas).1 f.balance;
        }

-- the blocks of a heap are those that it is cut into
pub blocks_parsed : (s : List ℕ) (bs : List Block) → parse s ≡ Some bs → blocks_of s ≡ bs
unfolding blocks_of or_else
blocks_parsed s bs e = rw e

-- heap and accounts account for each other exactly if the heap is cut into blocks for which the test passes
pub accounted_exactly : (s : List ℕ) (k : Accounts) → (accounted s k ≡ true)
    ↔ ((bs : List Block) × (parse s ≡ Some bs) × (accounted_blocks bs k ≡ true))
unfolding accounted accounted_parsed
accounted_exactly s k = (go (parse s) refl, λ r. rw r.1 r.2)
  where
    go : (o : Option (List Block)) → parse s ≡ o → accounted_parsed o k ≡ true → (bs : List Block) × (parse s ≡ Some bs)
        × (accounted_blocks bs k ≡ true)
    go None p e = absurd (false≢true e)
    go (Some bs) p e = (bs, p, e)

-- and these are its blocks
pub accounted_cut : (s : List ℕ) (k : Accounts) → accounted s k ≡ true → (parse s ≡ Some (blocks_of s)) × (accounted_blocks (blocks_of s) k ≡ true)
accounted_cut s k e = let r = (accounted_exactly s k).0 e in rw (blocks_parsed s r.0 r.1) (r.1, r.2)

-- no two free ones of them stand side by side
pub accounted_apart : (s : List ℕ) (k : Accounts) → accounted s k ≡ true → free_apart (blocks_of s) ≡ true
unfolding well_cut
accounted_apart s k e = and_right (all long_enough (blocks_of s)) _ ((tests_exactly (blocks_of s) k).0 (accounted_cut s k e).1).cut

pub accounted_facts : (s : List ℕ) (k : Accounts) → accounted s k ≡ true → Facts (blocks_of s) k
accounted_facts s k e = (facts_exactly (blocks_of s) k).0 (accounted_cut s k e).1

-- rules 5.1 to 5.8 as one law: the heap's bytes are blocks, each behind a header with its size, the size before it and its serial, to the heap's
-- end; sizes are whole units and fit their fields; and the facts hold of these blocks and the accounts
pub record Accounted (s : List ℕ) (k : Accounts) : Type 0 where
  pub blocks : List Block
  pub cut : render blocks ≡ s
  pub writable : AllWritable blocks
  pub facts : Facts blocks k

pub accounted_is : (s : List ℕ) (k : Accounts) → Octets s → (accounted s k ≡ true) ↔ Accounted s k
accounted_is s k o = (
  λ e.
      (let r = (accounted_exactly s k).0 e in
      let p = (parse_is s r.0 o).0 r.1 in
      record { blocks = r.0; cut = p.0; writable = p.1; facts = (facts_exactly r.0 k).0 r.2 }),
  λ c. (accounted_exactly s k).1 (c.blocks, (parse_is s c.blocks o).1 (c.cut, c.writable), (facts_exactly c.blocks k).1 c.facts),
)

-- what is consistent is accounted for; objects fit their units, permissions are such, blocks are of the kind, numbers in range
module _ (unit : ℕ → ℕ) (s : List ℕ) (k : Accounts) (e : consistent unit s k ≡ true) where
  pub consistent_accounted : accounted s k ≡ true
  unfolding consistent
  consistent_accounted = and_left (accounted s k) _ e

  consistent_settings : all (in_units unit) (objects_of s) && (all permissible (permissions k) && (all (in_kind k.kind) (blocks_of s) && in_range k))
      ≡ true
  unfolding consistent
  consistent_settings = and_right (accounted s k) _ e

  pub consistent_fits : (o : Handle) → Memᴰ o (objects_of s) → in_units unit o ≡ true
  consistent_fits = all_member (in_units unit) (objects_of s) (and_left (all (in_units unit) (objects_of s)) _ consistent_settings)

  pub consistent_permissible : all permissible (permissions k) ≡ true
  consistent_permissible = and_left (all permissible (permissions k)) _ (and_right (all (in_units unit) (objects_of s)) _ consistent_settings)

  pub consistent_kinds : all (in_kind k.kind) (blocks_of s) ≡ true
  consistent_kinds =
      and_left (all (in_kind k.kind) (blocks_of s)) _
      (and_right (all permissible (permissions k)) _ (and_right (all (in_units unit) (objects_of s)) _ consistent_settings))

  pub consistent_range : in_range k ≡ true
  consistent_range =
      and_right (all (in_kind k.kind) (blocks_of s)) _
      (and_right (all permissible (permissions k)) _ (and_right (all (in_units unit) (objects_of s)) _ consistent_settings))

-- accounts in range: the last serial, the kind and the edition; and others that are in range with them
module _ (k : Accounts) (e : in_range k ≡ true) where
  pub range_serial : k.last_serial < QUARANTINED
  unfolding in_range
  range_serial = omega (arith, leb-true k.last_serial greatest_serial (and_left (leb k.last_serial greatest_serial) _ e))

  range_settings : ltb k.kind 2 && ltb k.edition 2 ≡ true
  unfolding in_range
  range_settings = and_right (leb k.last_serial greatest_serial) _ e

  pub range_kind : k.kind < 2
  range_kind = ltb-true k.kind 2 (and_left (ltb k.kind 2) _ range_settings)

  pub range_edition : k.edition < 2
  range_edition = ltb-true k.edition 2 (and_right (ltb k.kind 2) _ range_settings)

  pub range_next : (r : Accounts) → r.kind ≡ k.kind → r.edition ≡ k.edition → r.last_serial < QUARANTINED → in_range r ≡ true
  unfolding in_range
  range_next r kind edition l =
      and_both (leb r.last_serial greatest_serial) _ (le-leb r.last_serial greatest_serial (omega arith))
      (rw (kind, edition) range_settings)

  pub range_like : (r : Accounts) → r.kind ≡ k.kind → r.edition ≡ k.edition → r.last_serial ≡ k.last_serial → in_range r ≡ true
  range_like r kind edition l = range_next r kind edition (rw l range_serial)
