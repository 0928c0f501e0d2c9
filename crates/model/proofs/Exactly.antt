-- Section 5 of the rules as one law: line 2 passes a state exactly if each sentence of the section holds of it. What the
-- test of rules 5.1 to 5.8 says is `Accounted`; the rest of the section is said here, of objects, quotas, blocks and
-- the numbers of the accounts.
use mathlib.Core.Path.{◌≡◌, refl, sym, subst, ◌∙◌}
use Prim.Native.Nat.{ℕ, ◌%◌, ◌≤◌, ◌<◌}
use mathlib.Core.List.{List, [], ◌∷◌, map, Memᴰ}
use mathlib.Core.Bool.{true}
use mathlib.Core.Logic.{◌↔◌}
use lib.Dec.{leb, ltb, eqb}
use borrow.Author.Tests.{leb-true, le-leb, ltb-true, lt-ltb, eqb-true, eq-eqb}
use Rattle.accounts.specs.declared.Quota.{Quota}
use Rattle.accounts.specs.declared.Accounts.{Accounts}
use Rattle.accounts.specs.Accounts.{permissible, permissions}
use Rattle.layout.specs.Bytes.{Octets}
use Rattle.layout.specs.Blocks.{Block, quarantined}
use Rattle.layout.proofs.Parse.{parse_is}
use Rattle.lists.specs.Lists.{all}
use Rattle.model.specs.Objects.{objects, objects_of, blocks_of}
use Rattle.model.specs.Consistent.{in_units, in_kind, in_range, greatest_serial, accounted, consistent}
use Rattle.model.specs.declared.Handle.{Handle}
use Rattle.model.proofs.Rows
use Rattle.lists.proofs.Bools.{and_left, and_right, and_both, implies, implied}
use Rattle.lists.proofs.Lists.{all_exactly}
use Rattle.model.proofs.Consistent.{Accounted, accounted_is, blocks_parsed}

-- rule 5.10, of the objects: length and base are multiples of the length's unit
abbrev pub InUnits : (ℕ → ℕ) → List Handle → Type 0
InUnits unit os =
    (o : Handle) → Memᴰ o os → (o.length % unit o.length ≡ 0) × (o.base % unit o.length ≡ 0)

pub units_exactly : (unit : ℕ → ℕ) (os : List Handle) → (all (in_units unit) os ≡ true) ↔ InUnits unit os
unfolding in_units
units_exactly unit =
    all_exactly (in_units unit) (λ o. (o.length % unit o.length ≡ 0) × (o.base % unit o.length ≡ 0))
    (λ o. (
      λ e. (
        eqb-true _ _ (and_left (eqb (o.length % unit o.length) 0) _ e),
        eqb-true _ _ (and_right (eqb (o.length % unit o.length) 0) _ e),
      ),
      λ f. and_both _ _ (eq-eqb _ 0 f.0) (eq-eqb _ 0 f.1),
    ))

-- rules 5.11 and 15.2, of the quotas: no number of permissions is above 7
abbrev pub Permitted : List Quota → Type 0
Permitted qs = (x : Quota) → Memᴰ x qs → x.permissions ≤ 7

all_map : (qs : List Quota)
    → all permissible (map (λ (x : Quota). x.permissions) qs) ≡ all (λ (x : Quota). permissible x.permissions) qs
unfolding all
all_map [] = refl
all_map (x ∷ xs) = rw (all_map xs) refl

pub permitted_exactly : (k : Accounts) → (all permissible (permissions k) ≡ true) ↔ Permitted k.quotas
permitted_exactly k =
    let r = all_exactly (λ (x : Quota). permissible x.permissions) (λ x. x.permissions ≤ 7)
    (λ x. (leb-true x.permissions 7, le-leb x.permissions 7)) k.quotas in
    (λ e. r.0 (sym (all_map k.quotas) ∙ e), λ f. all_map k.quotas ∙ r.1 f)

-- rules 5.12 and 22.4, of the blocks: a quarantined one, with the serial that no object has, makes the heap one of kind 1
abbrev pub Kinds : ℕ → List Block → Type 0
Kinds kind bs = (b : Block) → Memᴰ b bs → b.serial ≡ 4294967295 → kind ≡ 1

pub kinds_exactly : (kind : ℕ) (bs : List Block) → (all (in_kind kind) bs ≡ true) ↔ Kinds kind bs
unfolding in_kind
kinds_exactly kind =
    all_exactly (in_kind kind) (λ b. b.serial ≡ 4294967295 → kind ≡ 1)
    (λ b. (
      λ e q. eqb-true kind 1 (implies (quarantined b) (eqb kind 1) e (eq-eqb b.serial 4294967295 q)),
      λ f. implied (quarantined b) (eqb kind 1) (λ t. eq-eqb kind 1 (f (eqb-true b.serial 4294967295 t))),
    ))

-- rule 5.12, of the accounts' own numbers: the last serial (22.9), the kind (22.2) and the edition (23.3)
pub record Ranged (k : Accounts) : Type 0 where
  pub last : k.last_serial ≤ 4294967294
  pub kind : k.kind < 2
  pub edition : k.edition < 2

pub range_exactly : (k : Accounts) → (in_range k ≡ true) ↔ Ranged k
unfolding in_range
range_exactly k = (
  λ e.
      (let f = and_right (leb k.last_serial greatest_serial) _ e in
      record {
        last = leb-true _ _ (and_left (leb k.last_serial greatest_serial) _ e);
        kind = ltb-true _ _ (and_left (ltb k.kind 2) _ f);
        edition = ltb-true _ _ (and_right (ltb k.kind 2) _ f);
      }),
  λ r. and_both _ _ (le-leb _ _ r.last) (and_both _ _ (lt-ltb _ _ r.kind) (lt-ltb _ _ r.edition)),
)

-- all of section 5: 5.1 to 5.8, 5.10, 5.11 and 5.12 (5.9 says that there is no other)
pub record Consistent (unit : ℕ → ℕ) (s : List ℕ) (k : Accounts) : Type 0 where
  pub accounted : Accounted s k
  pub units : InUnits unit (objects accounted.blocks)
  pub permitted : Permitted k.quotas
  pub kinds : Kinds k.kind accounted.blocks
  pub ranged : Ranged k

-- the test is the five parts
parts_exactly : (unit : ℕ → ℕ) (s : List ℕ) (k : Accounts) → (consistent unit s k ≡ true)
    ↔ ((accounted s k ≡ true) × (all (in_units unit) (objects_of s) ≡ true) × (all permissible (permissions k) ≡ true)
    × (all (in_kind k.kind) (blocks_of s) ≡ true) × (in_range k ≡ true))
unfolding consistent
parts_exactly unit s k = (
  λ e.
      (let e₁ = and_right (accounted s k) _ e in
      let e₂ = and_right (all (in_units unit) (objects_of s)) _ e₁ in
      let e₃ = and_right (all permissible (permissions k)) _ e₂ in (
        and_left _ _ e,
        and_left _ _ e₁,
        and_left _ _ e₂,
        and_left _ _ e₃,
        and_right (all (in_kind k.kind) (blocks_of s)) _ e₃,
      )),
  λ p. rw (p.0, p.1, p.2, p.3) p.4,
)

-- the law: of any bytes and accounts, with any table of units
pub consistent_is : (unit : ℕ → ℕ) (s : List ℕ) (k : Accounts) → Octets s → (consistent unit s k ≡ true) ↔ Consistent unit s k
unfolding objects_of
consistent_is unit s k o = (
  λ e.
      (let p = (parts_exactly unit s k).0 e in
      let c = (accounted_is s k o).0 p.0 in
      let b = cut_is c in
      record {
        accounted = c;
        units = (units_exactly unit (objects c.blocks)).0
            (subst (λ (bs : List Block). all (in_units unit) (objects bs) ≡ true) b p.1);
        permitted = (permitted_exactly k).0 p.2;
        kinds = (kinds_exactly k.kind c.blocks).0
            (subst (λ (bs : List Block). all (in_kind k.kind) bs ≡ true) b p.3);
        ranged = (range_exactly k).0 p.4;
      }),
  λ f.
      (let b = sym (cut_is f.accounted) in
      (parts_exactly unit s k).1 (
        (accounted_is s k o).1 f.accounted,
        subst (λ (bs : List Block). all (in_units unit) (objects bs) ≡ true) b
            ((units_exactly unit (objects f.accounted.blocks)).1 f.units),
        (permitted_exactly k).1 f.permitted,
        subst (λ (bs : List Block). all (in_kind k.kind) bs ≡ true) b
            ((kinds_exactly k.kind f.accounted.blocks).1 f.kinds),
        (range_exactly k).1 f.ranged,
      )),
)
  where
    -- the blocks of the heap are those that it is cut into
    cut_is : (c : Accounted s k) → blocks_of s ≡ c.blocks
    cut_is c = blocks_parsed s c.blocks ((parse_is s c.blocks o).1 (c.cut, c.writable))
