-- When heap and accounts are consistent (rules, section 5): one test for each rule, in their order. `consistent` is all of them,
-- `accounted` 5.1 to 5.8: heap and accounts account for each other, whatever the table of units and the settings are.
use Rattle.std.specs.Prelude.{ℕ, suc, ◌+◌, ◌%◌, List, [], ◌∷◌, Bool, true, false, not, cond, ◌&&◌, ◌||◌, leb, ltb, eqb, Option, Some, None}
use Rattle.accounts.specs.declared.Quota.{Quota}
use Rattle.accounts.specs.declared.Hold.{Hold}
use Rattle.accounts.specs.declared.Accounts.{Accounts}
use Rattle.accounts.specs.Accounts.{QUOTAS, used, is_for, permissible, permissions}
use Rattle.layout.specs.Blocks.{Block, size, occupied, parse, greatest_heap, quarantined}
use Rattle.lists.specs.Lists.{all, any, total}
use Rattle.model.specs.Objects.{objects, blocks_of, objects_of}
use Rattle.model.specs.declared.Handle.{Handle}

-- rule 2.1: a heap length that is allowed
unfoldable pub allowed : ℕ → Bool
allowed H = eqb (H % 8) 0 && (leb 64 H && leb H greatest_heap)

-- rule 5.2, live blocks: 16 bytes or more
unfoldable pub long_enough : Block → Bool
long_enough b = not (occupied b) || leb 16 (size b)

-- rule 5.2, free blocks: no two neighbours
unfoldable pub starts_free : List Block → Bool
starts_free [] = false
starts_free (b ∷ bs) = not (occupied b)

unfoldable pub free_apart : List Block → Bool
free_apart [] = true
free_apart (b ∷ bs) = (occupied b || not (starts_free bs)) && free_apart bs

-- rule 5.2; what 5.1 asks of sizes and back numbers is layout's `parse`
unfoldable pub well_cut : List Block → Bool
well_cut bs = all long_enough bs && free_apart bs

abbrev pub has_serial : ℕ → Handle → Bool
has_serial serial o = eqb o.serial serial

-- rule 5.3: live serials differ
unfoldable pub serials_differ : List Handle → Bool
serials_differ [] = true
serials_differ (o ∷ os) = not (any (has_serial o.serial) os) && serials_differ os

-- rule 5.4: none is above the last serial
unfoldable pub serials_given : ℕ → List Handle → Bool
serials_given last os = all (λ o. leb o.serial last) os

-- rule 5.5: a used record is of a live object, with a quota that exists and a count
unfoldable pub record_valid : List Handle → Hold → Bool
record_valid os h = not (used h) || (any (has_serial h.serial) os && (ltb h.quota QUOTAS && leb 1 h.count))

-- rule 5.6: used records differ in serial or quota
unfoldable pub records_differ : List Hold → Bool
records_differ [] = true
records_differ (h ∷ hs) = not (used h && any (is_for h.serial h.quota) hs) && records_differ hs

-- rule 5.7: an object is held
unfoldable pub is_of : ℕ → Hold → Bool
is_of serial h = used h && eqb h.serial serial

unfoldable pub held : List Hold → ℕ → Bool
held hs serial = any (is_of serial) hs

-- rule 3.6: a charge is the object's length + 8, the header's size
abbrev pub charge_of : ℕ → ℕ
charge_of length = length + 8

-- the charges that rule 5.8 adds up: those of the objects for which the quota has a record
unfoldable pub has_record : List Hold → ℕ → ℕ → Bool
has_record hs q serial = any (is_for serial q) hs

unfoldable pub charged_for : List Hold → ℕ → Handle → ℕ
charged_for hs q o = cond (has_record hs q o.serial) (charge_of o.length) 0

unfoldable pub charges : List Hold → ℕ → List Handle → ℕ
charges hs q os = total (charged_for hs q) os

-- rule 5.8, from the quota with number q on: grants are remainders and charges
unfoldable pub balanced_from : List Handle → List Hold → ℕ → List Quota → Bool
balanced_from os hs q [] = true
balanced_from os hs q (x ∷ xs) = eqb x.grant (x.remainder + charges hs q os) && balanced_from os hs (suc q) xs

-- all of it, of a heap that is cut into these blocks
unfoldable pub accounted_blocks : List Block → Accounts → Bool
accounted_blocks bs k =
    let os = objects bs in
    let hs = k.holds in
    well_cut bs
    && (serials_differ os
    && (serials_given k.last_serial os
    && (all (record_valid os) hs
    && (records_differ hs
    && (all (λ o. held hs o.serial) os
    && balanced_from os hs 0 k.quotas)))))

unfoldable pub accounted_parsed : Option (List Block) → Accounts → Bool
accounted_parsed None k = false
accounted_parsed (Some bs) k = accounted_blocks bs k

unfoldable pub accounted : List ℕ → Accounts → Bool
accounted s k = accounted_parsed (parse s) k

-- rule 5.10: base and length of an object are multiples of the unit of its length
abbrev pub fits_unit : (ℕ → ℕ) → ℕ → ℕ → Bool
fits_unit unit base length = eqb (length % unit length) 0 && eqb (base % unit length) 0

unfoldable pub in_units : (ℕ → ℕ) → Handle → Bool
in_units unit o = fits_unit unit o.base o.length

-- rule 22.4: a quarantined block stands in a heap of the second kind only
unfoldable pub in_kind : ℕ → Block → Bool
in_kind kind b = not (quarantined b) || eqb kind 1

-- rules 22.2, 22.9 and 23.3: the greatest serial that an object has; the last serial is at most that, the kind is one of two, and so is the edition
abbrev pub greatest_serial : ℕ
greatest_serial = 4294967294

unfoldable pub in_range : Accounts → Bool
in_range k = leb k.last_serial greatest_serial && (ltb k.kind 2 && ltb k.edition 2)

-- all of section 5, for which line 2 asks: heap and accounts account for each other (5.1 to 5.8), every base and length fits its object's unit
-- (5.10), every quota's permissions are such (15.2), and blocks, last serial, kind and edition are as sections 22 and 23 want them. Rules that speak
-- of a table of units or of settings stand here, so that the laws of `accounted` know of none. The table is that of the edition in the accounts
-- (23.5): who calls this hands it over.
unfoldable pub consistent : (ℕ → ℕ) → List ℕ → Accounts → Bool
consistent unit s k =
    accounted s k
    && (all (in_units unit) (objects_of s) && (all permissible (permissions k) && (all (in_kind k.kind) (blocks_of s) && in_range k)))
