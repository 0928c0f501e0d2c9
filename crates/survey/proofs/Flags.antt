-- The flags of the live blocks. The walk puts one flag for each live block that it meets, until no block starts or
-- every flag is put.
use Rattle.std.proofs.Common.{◌≡◌, ℕ, zero, suc, ◌+◌, ◌*◌, ◌<◌, ◌≤◌, Bool, true, false, cond, ◌&&◌, List, [], ◌∷◌, map, length, get_or, set, sym}
use Rattle.std.proofs.Common.{refl, ap, ◌∙◌, arith, length-set, get_or-set_other}
use lib.Seq.{set_out}
use mathlib.Core.Bool.{and-true}
use Rattle.std.proofs.Common.{Option, Some, None, MatchOption, is_some}
use Rattle.accounts.specs.declared.Hold.{Hold}
use Rattle.accounts.specs.declared.Accounts.{Accounts}
use Rattle.accounts.specs.Accounts.{HOLDS, zero_hold, used, record_of, dropped, drop_records, first_from}
use Rattle.layout.specs.Blocks.{start_at}
use Rattle.layout.specs.declared.Header.{Header}
use Rattle.layout.proofs.Starts.{start_found}
use Rattle.lists.specs.Lists.{all, any, keep}
use Rattle.model.specs.Objects.{blocks_of}
use Rattle.model.specs.Consistent.{is_of, held, accounted}
use Rattle.lists.proofs.Bools.{and_left, and_right, and_both}
use Rattle.model.proofs.Consistent.{tests_exactly, accounted_cut}
use Rattle.lookup.specs.declared.Met.{Met}
use Rattle.lookup.specs.Walk.{met_from, met, live_met}
use Rattle.lookup.proofs.Walk.{met_nothing, met_block}
use Rattle.audit.specs.Keys.{well_formed}
use Rattle.audit.proofs.Consistency.{tests_well}
use Rattle.words.specs.Words.{holds_of}
use Rattle.survey.specs.Clauses.{sought, Index}
use Rattle.survey.specs.Holders.{counts_held, held_flags, put_flags, Indexed}
use Rattle.survey.proofs.Surveys.{known_any}

-- the index, by what was told of it
pub told_indexed : (words heads links : List ℕ) (used : ℕ) (t : Option ℕ)
    → MatchOption t (all well_formed (holds_of words) ≡ false) (λ low. Index words heads links low used)
    → Indexed words (is_some t) heads links
told_indexed words heads links used (Some x) t = (t.built, t.well)
told_indexed words heads links used None t = t

-- what counts as held: all, or what a search along the path finds
pub held_ill : (hs : List Hold) (n : ℕ) → all well_formed hs ≡ false → true ≡ counts_held hs n
unfolding counts_held
held_ill hs n e = rw e

pub held_well : (hs : List Hold) (n : ℕ) → all well_formed hs ≡ true → counts_held hs n ≡ held hs n
unfolding counts_held
held_well hs n e = rw e

pub held_found : (hs : List Hold) (n : ℕ) (r : Option ℕ) → all well_formed hs ≡ true → r ≡ first_from (sought (λ q. true) n) 0 hs → is_some r ≡ counts_held hs n
unfolding sought held
held_found hs n r w e =
    known_any (λ (h : Hold). is_of n h && true) hs r e ∙ ap (λ (p : Hold → Bool). any p hs) (λ i h. and-true (is_of n h) i) ∙ sym (held_well hs n w)

-- past the end nothing is put, and the places before i stay
pub put_out : (i : ℕ) (xs table : List Bool) → length table ≤ i → put_flags i xs table ≡ table
unfolding put_flags
put_out i [] table h = refl
put_out i (x ∷ xs) table h = rw (set_out table i x h) (put_out (i + 1) xs table (omega arith))

pub put_before : (i : ℕ) (xs table : List Bool) (j : ℕ) → j < i → get_or (put_flags i xs table) j false ≡ get_or table j false
unfolding put_flags
put_before i [] table j h = refl
put_before i (x ∷ xs) table j h = put_before (i + 1) xs (set table i x) j (omega arith) ∙ get_or-set_other table i j x false (λ e. omega arith)

-- the flags of some blocks
abbrev flags : List Hold → List Met → List Bool
flags hs ms = map (λ (m : Met). counts_held hs m.serial) (keep live_met ms)

flags_live : (hs : List Hold) (m : Met) (ms : List Met) → live_met m ≡ true → flags hs (m ∷ ms) ≡ counts_held hs m.serial ∷ flags hs ms
unfolding keep
flags_live hs m ms e = rw e

flags_other : (hs : List Hold) (m : Met) (ms : List Met) → live_met m ≡ false → flags hs (m ∷ ms) ≡ flags hs ms
unfolding keep
flags_other hs m ms e = rw e

-- the walk came to a place: the flags are put on from there
pub record Flagging (hs : List Hold) (s : List ℕ) (first : List Bool) (i at : ℕ) (table : List Bool) : Type 0 where
  pub within : at ≤ length s
  pub few : i ≤ HOLDS
  pub long : length table ≡ HOLDS
  pub fuel : ℕ
  pub enough : length s ≤ at + fuel
  pub same : put_flags 0 (held_flags hs s) first ≡ put_flags i (flags hs (met_from fuel at s)) table

-- it starts at 0
pub flagging_start : (hs : List Hold) (s : List ℕ) (first : List Bool) → length first ≡ HOLDS → Flagging hs s first 0 0 first
unfolding held_flags met
flagging_start hs s first n = record { within = omega arith; few = omega arith; long = n; fuel = length s; enough = omega arith; same = refl }

module _ {hs : List Hold} {s : List ℕ} {first table : List Bool} {i at : ℕ} (w : Flagging hs s first i at table) where
  -- no place is left
  pub flagging_full : HOLDS ≤ i → table ≡ put_flags 0 (held_flags hs s) first
  flagging_full h = sym (w.same ∙ put_out i (flags hs (met_from w.fuel at s)) table (omega (arith, w.long)))

  -- where nothing starts, the walk ends
  pub flagging_ended : start_at at s ≡ None → table ≡ put_flags 0 (held_flags hs s) first
  unfolding met_from put_flags keep
  flagging_ended e = sym (w.same ∙ go w.fuel)
    where
      go : (k : ℕ) → put_flags i (flags hs (met_from k at s)) table ≡ table
      go zero = refl
      go (suc k) = rw (met_nothing at s e)

  -- a block that starts there is the next
  module _ (h : Header) (e : start_at at s ≡ Some h) where
    abbrev m : Met
    m = record { at = at; size = 8 * h.size; back = h.back; serial = h.serial }

    -- behind it less is left
    next : (k : ℕ) → length s ≤ at + k → put_flags 0 (held_flags hs s) first ≡ put_flags i (flags hs (met_from k at s)) table
        → (j : ℕ) × (length s ≤ at + 8 * h.size + j)
        × (put_flags 0 (held_flags hs s) first ≡ put_flags i (flags hs (m ∷ met_from j (at + 8 * h.size) s)) table)
    unfolding met_from
    next zero n q = let f = start_found at s h e in absurd (omega (arith, f.some_size, f.inside))
    next (suc k) n q = let f = start_found at s h e in (k, omega (arith, f.some_size), q ∙ rw (met_block at s h e))

    pub flagging_live : i < HOLDS → live_met m ≡ true → Flagging hs s first (i + 1) (at + 8 * h.size) (set table i (counts_held hs h.serial))
    unfolding put_flags
    flagging_live l v =
        let n = next w.fuel w.enough w.same in
        record {
          within = (start_found at s h e).inside;
          few = omega arith;
          long = length-set table i (counts_held hs h.serial) ∙ w.long;
          fuel = n.0;
          enough = n.1;
          same = n.2 ∙ ap (λ (xs : List Bool). put_flags i xs table) (flags_live hs m (met_from n.0 (at + 8 * h.size) s) v);
        }

    pub flagging_other : live_met m ≡ false → Flagging hs s first i (at + 8 * h.size) table
    flagging_other v =
        let n = next w.fuel w.enough w.same in
        record {
          within = (start_found at s h e).inside;
          few = w.few;
          long = w.long;
          fuel = n.0;
          enough = n.1;
          same = n.2 ∙ ap (λ (xs : List Bool). put_flags i xs table) (flags_other hs m (met_from n.0 (at + 8 * h.size) s) v);
        }

-- the records of a consistent state are well-formed
pub accounted_well : (s : List ℕ) (k : Accounts) → accounted s k ≡ true → all well_formed k.holds ≡ true
accounted_well s k e = tests_well (blocks_of s) k ((tests_exactly (blocks_of s) k).0 (accounted_cut s k e).1)

-- and stay so where a quota's are dropped
pub drop_well : (q : ℕ) (hs : List Hold) → all well_formed hs ≡ true → all well_formed (drop_records q hs) ≡ true
unfolding drop_records all well_formed used
drop_well q [] w = refl
drop_well q (h ∷ hs) w =
    and_both (well_formed (dropped q h)) (all well_formed (drop_records q hs))
    (go (record_of q h)) (drop_well q hs (and_right (well_formed h) (all well_formed hs) w))
  where
    go : (t : Bool) → well_formed (cond t zero_hold h) ≡ true
    go true = refl
    go false = and_left (well_formed h) (all well_formed hs) w
