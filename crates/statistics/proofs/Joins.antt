-- The tally of the blocks that a walk meets, joined from the tally of each block: from where a walk stands, the tally so far and that of the blocks to come
-- make the whole.
use Rattle.std.specs.Prelude.{Some, None, max}
use Prim.Native.Nat.{ℕ, zero, suc, ◌+◌, ◌≤◌}
use native.Mathlib.Nat.{zero-add, add-zero, max-eq_left, max-eq_right}
use native.Mathlib.Omega.{arith}
use mathlib.Core.Path.{◌≡◌, refl, ap, sym, ◌∙◌}
use mathlib.Core.List.{List, [], ◌∷◌}
use mathlib.Core.Bool.{Bool, true, false}
use borrow.Author.Tests.{leb-true, leb-false, le-leb}
use lib.Dec.{leb}
use lib.ListN.{length}
use Rattle.lists.specs.Lists.{total}
use Rattle.lookup.specs.declared.Met.{Met}
use Rattle.lookup.specs.Walk.{met_at, met_from, met, live_met}
use Rattle.lookup.proofs.Walk.{met_known}
use Rattle.survey.specs.Shares.{one_if, how_many}
use Rattle.statistics.specs.declared.BlockCount.{BlockCount}
use Rattle.statistics.specs.declared.tallying.Tally.{Tally}
use Rattle.statistics.specs.Statistics.{if_so, higher, most, no_blocks}
use Rattle.statistics.specs.Tallies.{free_met, waiting_met, count_met, tally_of, single, joined, Small, Within}

-- the higher of two numbers
pub higher_right : (a b : ℕ) → a ≤ b → higher a b ≡ b
unfolding higher
higher_right a b l = rw (le-leb a b l)

pub higher_left : (a b : ℕ) → b ≤ a → higher a b ≡ a
unfolding higher
higher_left a b l = go (leb a b) refl
  where
    go : (x : Bool) → leb a b ≡ x → higher a b ≡ a
    go true e = let t = leb-true a b e in rw e (omega arith)
    go false e = rw e

pub higher_cases : {P : Type 0} (a b : ℕ) → (a ≤ b → P) → (b ≤ a → P) → P
higher_cases {P} a b f g = go (leb a b) refl
  where
    go : (x : Bool) → leb a b ≡ x → P
    go true e = f (leb-true a b e)
    go false e = let l = leb-false a b e in g (omega arith)

-- which the library's method gives
pub max_is : (a b : ℕ) → max a b ≡ higher a b
max_is a b = higher_cases a b (λ l. max-eq_right l ∙ sym (higher_right a b l)) (λ l. max-eq_left l ∙ sym (higher_left a b l))

pub higher_assoc : (a b c : ℕ) → higher a (higher b c) ≡ higher (higher a b) c
higher_assoc a b c =
    higher_cases a b
    (λ l.
    higher_cases b c
    (λ m. rw (higher_right b c m, higher_right a b l, higher_right a c (omega arith), higher_right b c m))
    (λ m. rw (higher_left b c m, higher_right a b l, higher_left b c m)))
    (λ l.
    higher_cases b c
    (λ m. rw (higher_right b c m, higher_left a b l))
    (λ m. rw (higher_left b c m, higher_left a b l, higher_left a c (omega arith))))

-- a tally whose numbers are all 0 is that of no block
abbrev pub Zeros : BlockCount → Type 0
Zeros b = (b.blocks ≡ 0) × (b.bytes ≡ 0)

pub zero_count : (b : BlockCount) → Zeros b → b ≡ no_blocks
zero_count b z = λ i. record { blocks = z.0 i; bytes = z.1 i }

pub zero_tally : (t : Tally) → Zeros t.free × (Zeros t.live × (Zeros t.quarantined × ((t.largest ≡ 0) × ((t.room_8 ≡ 0) × ((t.room_16 ≡ 0)
    × ((t.room_32 ≡ 0) × (t.room_64 ≡ 0))))))) → t ≡ tally_of []
unfolding tally_of count_met how_many total most
zero_tally t (f, (l, (q, (largest, (r8, (r16, (r32, r64))))))) = λ i. record {
  free = zero_count t.free f i;
  live = zero_count t.live l i;
  quarantined = zero_count t.quarantined q i;
  largest = largest i;
  room_8 = r8 i;
  room_16 = r16 i;
  room_32 = r32 i;
  room_64 = r64 i;
}

-- one block in front of others
pub tally_cons : (m : Met) (ms : List Met) → tally_of (m ∷ ms) ≡ joined (single m) (tally_of ms)
unfolding tally_of single joined count_met how_many total most
tally_cons m ms = refl

pub none_joined : (t : Tally) → joined (tally_of []) t ≡ t
unfolding joined tally_of count_met how_many total most
none_joined t = λ i. record {
  free = record { blocks = zero-add t.free.blocks i; bytes = zero-add t.free.bytes i };
  live = record { blocks = zero-add t.live.blocks i; bytes = zero-add t.live.bytes i };
  quarantined = record { blocks = zero-add t.quarantined.blocks i; bytes = zero-add t.quarantined.bytes i };
  largest = higher_right 0 t.largest (omega arith) i;
  room_8 = higher_right 0 t.room_8 (omega arith) i;
  room_16 = higher_right 0 t.room_16 (omega arith) i;
  room_32 = higher_right 0 t.room_32 (omega arith) i;
  room_64 = higher_right 0 t.room_64 (omega arith) i;
}

pub joined_none : (t : Tally) → joined t (tally_of []) ≡ t
unfolding joined tally_of count_met how_many total most
joined_none t = λ i. record {
  free = record { blocks = add-zero t.free.blocks i; bytes = add-zero t.free.bytes i };
  live = record { blocks = add-zero t.live.blocks i; bytes = add-zero t.live.bytes i };
  quarantined = record { blocks = add-zero t.quarantined.blocks i; bytes = add-zero t.quarantined.bytes i };
  largest = higher_left t.largest 0 (omega arith) i;
  room_8 = higher_left t.room_8 0 (omega arith) i;
  room_16 = higher_left t.room_16 0 (omega arith) i;
  room_32 = higher_left t.room_32 0 (omega arith) i;
  room_64 = higher_left t.room_64 0 (omega arith) i;
}

both_assoc : (a b c : ℕ) → a + (b + c) ≡ a + b + c
both_assoc a b c = omega arith

pub joined_assoc : (t u v : Tally) → joined t (joined u v) ≡ joined (joined t u) v
unfolding joined
joined_assoc t u v = λ i. record {
  free = record {
    blocks = both_assoc t.free.blocks u.free.blocks v.free.blocks i;
    bytes = both_assoc t.free.bytes u.free.bytes v.free.bytes i;
  };
  live = record {
    blocks = both_assoc t.live.blocks u.live.blocks v.live.blocks i;
    bytes = both_assoc t.live.bytes u.live.bytes v.live.bytes i;
  };
  quarantined = record {
    blocks = both_assoc t.quarantined.blocks u.quarantined.blocks v.quarantined.blocks i;
    bytes = both_assoc t.quarantined.bytes u.quarantined.bytes v.quarantined.bytes i;
  };
  largest = higher_assoc t.largest u.largest v.largest i;
  room_8 = higher_assoc t.room_8 u.room_8 v.room_8 i;
  room_16 = higher_assoc t.room_16 u.room_16 v.room_16 i;
  room_32 = higher_assoc t.room_32 u.room_32 v.room_32 i;
  room_64 = higher_assoc t.room_64 u.room_64 v.room_64 i;
}

-- how many blocks and bytes a tally may have
one_small : (t : Bool) (n : ℕ) → 8 ≤ n → (one_if t ≤ n) × (if_so t n ≤ n)
one_small true n l = (omega arith, omega arith)
one_small false n l = (omega arith, omega arith)

pub single_within : (m : Met) → 8 ≤ m.size → Within m.size (single m)
unfolding single
single_within m l =
    let f = one_small (free_met m) m.size l in
    let a = one_small (live_met m) m.size l in
    let q = one_small (waiting_met m) m.size l in
    record {
      of_free = record { few = f.0; short = f.1 };
      of_live = record { few = a.0; short = a.1 };
      of_quarantined = record { few = q.0; short = q.1 };
    }

pub joined_within : (n k : ℕ) (t u : Tally) → Within n t → Within k u → Within (n + k) (joined t u)
unfolding joined
joined_within n k t u a b = record {
  of_free = both t.free u.free a.of_free b.of_free;
  of_live = both t.live u.live a.of_live b.of_live;
  of_quarantined = both t.quarantined u.quarantined a.of_quarantined b.of_quarantined;
}
  where
    both : (p q : BlockCount) → Small n p → Small k q → Small (n + k) (record { blocks = p.blocks + q.blocks; bytes = p.bytes + q.bytes })
    both p q x y = record { few = omega arith; short = omega arith }

pub within_more : (n k : ℕ) (t : Tally) → n ≤ k → Within n t → Within k t
within_more n k t l w = record {
  of_free = more t.free w.of_free;
  of_live = more t.live w.of_live;
  of_quarantined = more t.quarantined w.of_quarantined;
}
  where
    more : (p : BlockCount) → Small n p → Small k p
    more p x = record { few = omega arith; short = omega arith }

pub within_none : Within 0 (tally_of [])
unfolding tally_of count_met how_many total
within_none =
    let none : Small 0 (record { blocks = 0; bytes = 0 }) = record { few = omega arith; short = omega arith } in
    record { of_free = none; of_live = none; of_quarantined = none }

-- a walk that came to a place: the tally so far, joined with that of the blocks from there on, is the whole
pub record Tallied (s : List ℕ) (at : ℕ) (t : Tally) : Type 0 where
  pub fuel : ℕ
  pub enough : length s ≤ at + fuel
  pub same : tally_of (met s) ≡ joined t (tally_of (met_from fuel at s))
  pub small : Within at t

module _ (s : List ℕ) where
  pub tallied_start : Tallied s 0 (tally_of [])
  unfolding met
  tallied_start = record { fuel = length s; enough = omega arith; same = sym (none_joined (tally_of (met_from (length s) 0 s))); small = within_none }

  module _ (at : ℕ) (t : Tally) (w : Tallied s at t) where
    pub tallied_end : met_at at s ≡ None → t ≡ tally_of (met s)
    unfolding met_from
    tallied_end e = sym (w.same ∙ ap (joined t) (nothing w.fuel) ∙ joined_none t)
      where
        nothing : (k : ℕ) → tally_of (met_from k at s) ≡ tally_of []
        nothing zero = refl
        nothing (suc k) = rw e

    pub tallied_next : (m : Met) → met_at at s ≡ Some m → Tallied s (at + m.size) (joined t (single m))
    unfolding met_from
    tallied_next m e = go w.fuel w.enough w.same
      where
        go : (k : ℕ) → length s ≤ at + k → tally_of (met s) ≡ joined t (tally_of (met_from k at s)) → Tallied s (at + m.size) (joined t (single m))
        go zero h q = let l = met_known at s m e in absurd (omega arith)
        go (suc k) h q =
            let l = met_known at s m e in
            let rest = tally_of (met_from k (m.at + m.size) s) in
            let c : tally_of (met_from (suc k) at s) ≡ joined (single m) rest = rw e (tally_cons m (met_from k (m.at + m.size) s)) in
            record {
              fuel = k;
              enough = omega arith;
              same = q ∙ ap (joined t) c ∙ joined_assoc t (single m) rest
                  ∙ ap (λ (x : ℕ). joined (joined t (single m)) (tally_of (met_from k (x + m.size) s))) l.place;
              small = joined_within at m.size t (single m) w.small (single_within m l.header);
            }
