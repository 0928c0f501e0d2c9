-- A good state is written as a consistent heap, and a consistent heap is read as a good state.
-- The blocks of a good state can be written, so they are read again as they were written, and the tests of the heap are those of the blocks.
-- Of a consistent heap, the blocks that were read can be written, and writing them gives the heap again.
use Rattle.std.specs.Prelude.{Some}
use Prim.Native.Nat.{ℕ, ◌<◌, ◌^◌}
use mathlib.Core.Path.{◌≡◌, refl, ap, sym, ◌∙◌}
use mathlib.Core.List.{List}
use mathlib.Core.Bool.{true, ◌&&◌}
use lib.ListN.{length, get_or}
use lib.Dec.{leb, ltb}
use borrow.Author.Tests.{le-leb, lt-ltb}
use Rattle.accounts.specs.declared.Accounts.{Accounts}
use Rattle.accounts.specs.Accounts.{QUOTAS, zero_quota, used}
use Rattle.layout.specs.Bytes.{Octets}
use Rattle.layout.specs.Blocks.{Block, size, QUARANTINED, render, parse, AllWritable}
use Rattle.layout.proofs.Render.{length_render, octets_render}
use Rattle.layout.proofs.Parse.{parse_is, parse_octets}
use Rattle.lists.specs.Lists.{total}
use Rattle.model.specs.Objects.{blocks_of, objects, objects_of}
use Rattle.model.specs.Consistent.{allowed, accounted}
use Rattle.model.specs.Calls.{State, state_of}
use Rattle.lists.proofs.Bools.{and_both, implied}
use Rattle.lists.proofs.Lists.{member_all}
use Rattle.model.proofs.Consistent.{tests_exactly, valid_exactly, blocks_parsed, accounted_exactly, accounted_cut}
use Rattle.model.proofs.Blocks.{total_is}
use Rattle.invariant.proofs.Good.{proper, Good, Ordered}

-- as many bytes are written as the blocks have
pub render_total : (bs : List Block) → length (render bs) ≡ total size bs
unfolding render
render_total bs = length_render 0 bs ∙ total_is bs

-- the heap of a good state
pub record WrittenOut (t : State) : Type 0 where
  pub parsed : parse (render t.blocks) ≡ Some t.blocks
  pub blocks : blocks_of (render t.blocks) ≡ t.blocks
  pub objects : objects_of (render t.blocks) ≡ objects t.blocks
  pub extent : length (render t.blocks) ≡ total size t.blocks
  pub allowed : allowed (length (render t.blocks)) ≡ true
  pub octets : Octets (render t.blocks)
  pub passes : accounted (render t.blocks) t.accounts ≡ true

pub good_heap : (t : State) → Good t → WrittenOut t
unfolding render objects_of
good_heap t g =
    let bs = t.blocks in
    let o : Octets (render bs) = octets_render 0 bs g.octets in
    let p = (parse_is (render bs) bs o).1 (refl, g.writable) in
    let b = blocks_parsed (render bs) bs p in
    record {
      parsed = p;
      blocks = b;
      objects = ap objects b;
      extent = render_total bs;
      allowed = rw (render_total bs) g.extent;
      octets = o;
      passes = (accounted_exactly (render bs) t.accounts).1 (bs, p, (tests_exactly bs t.accounts).1 g.tests);
    }

-- the blocks of a consistent heap can be written, and are the heap again
module _ (s : List ℕ) (k : Accounts) (o : Octets s) (c : accounted s k ≡ true) where
  heap_blocks : (render (blocks_of s) ≡ s) × AllWritable (blocks_of s)
  heap_blocks = (parse_is s (blocks_of s) o).0 (accounted_cut s k c).0

pub heap_again : (s : List ℕ) (k : Accounts) → Octets s → accounted s k ≡ true → render (blocks_of s) ≡ s
heap_again s k o c = (heap_blocks s k o c).0

-- the state of a consistent heap
pub heap_good : (s : List ℕ) (k : Accounts) → allowed (length s) ≡ true → Octets s → accounted s k ≡ true → length k.quotas ≡ QUOTAS
    → ((q : ℕ) → (get_or k.quotas q zero_quota).grant < 2 ^ 32) → k.last_serial < QUARANTINED → Good (state_of s k)
heap_good s k e o c l n f =
    let r = accounted_cut s k c in
    let same : length s ≡ total size (blocks_of s) = ap length (sym (heap_again s k o c)) ∙ render_total (blocks_of s) in
    record {
      writable = (heap_blocks s k o c).1;
      octets = parse_octets s (blocks_of s) o r.0;
      extent = rw same at e;
      tests = (tests_exactly (blocks_of s) k).0 r.1;
      quotas = l;
      narrow = n;
      serial = f;
    }

-- the records of a good state are in order
pub good_ordered : (t : State) → Good t → Ordered t.accounts.holds
unfolding proper
good_ordered t g =
    let hs = t.accounts.holds in
    let valid = (valid_exactly (objects t.blocks) hs).0 g.tests.valid in
    record {
      each =
          member_all proper hs (λ h m. implied (used h) (ltb h.quota QUOTAS && leb 1 h.count) (λ u.
          (let v = valid h m u in and_both (ltb h.quota QUOTAS) (leb 1 h.count) (lt-ltb h.quota QUOTAS v.3) (le-leb 1 h.count v.4))));
      differ = g.tests.unique;
    }
