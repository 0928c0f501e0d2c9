-- The sweep's walk, over plain lists. What starts at its place is the first block that is left. A block that is not quarantined joins those in front. Another
-- one is unquarantined in place, which leaves what the sweep gives (`unquarantined_sweeps`), and the free block that it becomes, with a free one behind it,
-- joins
-- those in front; the free one behind it counts for nothing in the sum. At the end no block is left, so all blocks are swept.
use Rattle.std.specs.Prelude.{Some, None}
use Prim.Native.Nat.{ℕ, ◌+◌, ◌*◌, ◌≤◌, ◌<◌}
use native.Mathlib.Omega.{arith}
use mathlib.Core.Path.{◌≡◌, refl, ap, sym, ◌∙◌}
use mathlib.Core.List.{List, [], ◌∷◌, ◌++◌, append_assoc, append-nil}
use mathlib.Core.Bool.{Bool, true, false, not, cond}
use lib.ListN.{length}
use lib.Dec.{eqb, lit<}
use Rattle.layout.specs.Blocks.{Block, size, units, occupied, QUARANTINED, quarantined, total_size, back_after, header_of, start_at, render, Writable}
use Rattle.layout.specs.Blocks.{AllWritable}
use Rattle.layout.specs.declared.Header.{Header}
use Rattle.layout.proofs.Parse.{render_is}
use Rattle.layout.proofs.Render.{start_stands, start_ends, length_render, all_left, all_right, back_small, size_append}
use Rattle.lists.specs.Lists.{all, total, keep}
use Rattle.model.specs.Consistent.{free_apart}
use Rattle.model.specs.Space.{unquarantine, join_front, swept, not_quarantined}
use Rattle.model.specs.Joining.{append_joined, join_neighbours}
use Rattle.lists.proofs.Bools.{and_both}
use Rattle.lists.proofs.Lists.{all_append}
use Rattle.model.proofs.Blocks.{total_is}
use Rattle.model.proofs.Join.{join_elim, appended_all, appended_split, appended_total}
use Rattle.model.proofs.Sweep.{quarantined_occupied, swept_same, unquarantined_apart, unquarantined_sizes, unquarantined_writable}
use Rattle.model.proofs.Sweep.{unquarantined_sweeps}
use Rattle.lookup.specs.declared.Met.{Met}
use Rattle.lookup.specs.Walk.{headed}
use Rattle.lookup.proofs.Parsed.{placed}
use Rattle.writer.specs.Freeing.{free_end, unquarantine_block, unquarantine_in, free_end_in}
use Rattle.writer.proofs.FreeBytes.{free_behind, behind_joined}
use Rattle.writer.proofs.Rooms.{unquarantined_blocks, unquarantined_ends, freed_inside}
use Rattle.writer.proofs.Guards.{inside_test, unquarantines}
use Rattle.holding.specs.Sweeping.{quarantined_size, swept_bytes, swept_end, Sweeping}

-- the bytes of the quarantined blocks
abbrev waits : List Block → ℕ
waits bs = total size (keep quarantined bs)

-- a block that is not quarantined adds nothing, one that is adds its size, and they are no more than all
waits_open : (b : Block) (bs : List Block) → quarantined b ≡ false → waits (b ∷ bs) ≡ waits bs
unfolding keep
waits_open b bs e = rw e

waits_quarantined : (b : Block) (bs : List Block) → quarantined b ≡ true → waits (b ∷ bs) ≡ size b + waits bs
unfolding keep total
waits_quarantined b bs e = rw e

pub waits_few : (bs : List Block) → waits bs ≤ total size bs
unfolding keep total
waits_few [] = omega arith
waits_few (b ∷ bs) = go (quarantined b) refl (waits_few bs)
  where
    go : (x : Bool) → quarantined b ≡ x → waits bs ≤ total size bs → waits (b ∷ bs) ≤ size b + total size bs
    go true e l = rw (waits_quarantined b bs e) (omega arith)
    go false e l = rw (waits_open b bs e) (omega arith)

-- a block adds at most its size
pub quarantined_few : (serial n : ℕ) → quarantined_size serial n ≤ n
unfolding quarantined_size
quarantined_few serial n = go (eqb serial QUARANTINED)
  where
    go : (x : Bool) → cond x n 0 ≤ n
    go true = omega arith
    go false = omega arith

-- a free block is not quarantined
free_open : (d : Block) → occupied d ≡ false → quarantined d ≡ false
free_open d e = go (quarantined d) refl
  where
    go : (x : Bool) → quarantined d ≡ x → x ≡ false
    go true q = sym (quarantined_occupied d q) ∙ e
    go false q = refl

-- behind a free block that joins the one behind it, as many wait
behind : List Block → List Block
behind [] = []
behind (b ∷ bs) = bs

waits_joined : (v : Block) (ys : List Block) (c : Block) (zs : List Block) → join_front v ys ≡ c ∷ zs → waits zs ≡ waits ys
unfolding behind
waits_joined v ys c zs e =
    rw e at
    (join_elim (λ l. waits (behind l) ≡ waits ys) v ys (λ a. refl) (λ d ds ev ed q. (rw q (sym (waits_open d ds (free_open d ed))))))

-- the walk may start on blocks that can be written, with no two free ones side by side
pub sweeping_start : (bs : List Block) (s : List ℕ) → s ≡ render bs → AllWritable bs → free_apart bs ≡ true → total_size bs ≤ 32768 → Sweeping bs 0 0 s
unfolding total_size all
sweeping_start bs s e w a l =
    record {
      front = [];
      todo = bs;
      bytes = e;
      place = refl;
      writable = w;
      apart = a;
      short = l;
      opened = refl;
      same = refl;
      adds = omega arith;
      small = omega (arith, waits_few bs, total_is bs);
    }

module _ (bs : List Block) (sum at : ℕ) (s : List ℕ) (e : Sweeping bs sum at s) where
  -- the heap has at most the greatest length
  pub sweeping_short : length s ≤ 32768
  sweeping_short =
      let l : length (render (e.front ++ e.todo)) ≡ total_size (e.front ++ e.todo) = rw render_is (length_render 0 (e.front ++ e.todo)) in
      omega (arith, ap length e.bytes, e.short)

  -- behind the last block nothing starts
  starts_none : e.todo ≡ [] → start_at at s ≡ None
  starts_none q = rw (e.place, e.bytes, q, append-nil e.front, render_is) (start_ends 0 e.front)

  -- the first block that is left
  module _ (b : Block) (ys : List Block) (q : e.todo ≡ b ∷ ys) where
    writable : AllWritable (e.front ++ (b ∷ ys))
    writable = rw q at e.writable

    bytes : s ≡ render (e.front ++ (b ∷ ys))
    bytes = rw q at e.bytes

    -- it starts at the walk's place
    starts : start_at at s ≡ Some (header_of (back_after 0 e.front) b)
    starts =
        let narrow = back_small 0 e.front (lit< tt) (all_left Writable e.front (b ∷ ys) writable) in
        rw (e.place, bytes, render_is) (start_stands 0 e.front b ys (all_right Writable e.front (b ∷ ys) writable).0 narrow)

    waiting : waits e.todo ≡ waits (b ∷ ys)
    waiting = ap waits q

    -- if it is not quarantined, it joins those in front
    stays_on : quarantined b ≡ false → Sweeping bs (sum + 0) (at + size b) s
    unfolding all total_size
    stays_on t =
        let split : (e.front ++ (b ∷ [])) ++ ys ≡ e.front ++ e.todo = append_assoc e.front (b ∷ []) ys ∙ ap (λ (l : List Block). e.front ++ l) (sym q) in
        record {
          front = e.front ++ (b ∷ []);
          todo = ys;
          bytes = rw split e.bytes;
          place = rw (size_append e.front (b ∷ [])) (omega (arith, e.place));
          writable = rw split e.writable;
          apart = rw split e.apart;
          short = rw split e.short;
          opened = all_append not_quarantined e.front (b ∷ []) ∙ and_both _ _ e.opened (and_both (not_quarantined b) true (ap not t) refl);
          same = rw split e.same;
          adds = omega (arith, e.adds, waiting, waits_open b ys t);
          small = omega (arith, e.small, waiting, waits_open b ys t);
        }

    abbrev m : Met
    m = placed at (back_after 0 e.front) b

    -- if it is, it can be unquarantined in place
    module _ (lv : quarantined b ≡ true) where
      occ : occupied b ≡ true
      occ = quarantined_occupied b lv

      apart : free_apart (e.front ++ (b ∷ ys)) ≡ true
      apart = rw q at e.apart

      short : total size (e.front ++ (b ∷ ys)) ≤ 32768
      short = rw (total_is, q) at e.short

      freed : (unquarantine_block m s ≡ unquarantine_in m s) × (free_end m s ≡ free_end_in m s)
      freed =
          let inside = freed_inside e.front b ys writable occ m e.place refl refl (rw (← bytes) sweeping_short) in
          unquarantines m s (inside_test m s (rw (← bytes) at inside))

      -- up to the end of the free block behind it, if there is one
      ends : free_end_in m s ≡ at + size b + free_behind ys
      ends = sym freed.1 ∙ ap (free_end m) bytes ∙ unquarantined_ends e.front b ys writable occ m e.place refl refl

      -- and the free block that it becomes joins those in front
      opens_on : Sweeping bs (sum + size b) (free_end_in m s) (unquarantine_in m s)
      unfolding all total join_neighbours
      opens_on =
          let j = behind_joined (unquarantine b) ys refl in
          let front = append_joined e.front (j.0 ∷ []) in
          let split : join_neighbours e.front (unquarantine b) ys ≡ front ++ j.1 =
          ap (append_joined e.front) j.2 ∙ appended_split e.front j.0 j.1 in
          let w = waits_joined (unquarantine b) ys j.0 j.1 j.2 in
          record {
            front = front;
            todo = j.1;
            bytes =
                sym freed.0 ∙ ap (unquarantine_block m) bytes ∙ unquarantined_blocks e.front b ys writable occ m e.place refl refl ∙ ap render split;
            place = omega (arith, ends, e.place, j.4, total_is front, total_is e.front, appended_total e.front (j.0 ∷ []));
            writable = rw split at (unquarantined_writable e.front b ys apart writable short);
            apart = rw split at (unquarantined_apart e.front b ys apart);
            short = rw (total_is, ← split, unquarantined_sizes e.front b ys apart) short;
            opened = appended_all not_quarantined (λ c d x y. refl) e.front (j.0 ∷ []) e.opened (rw (free_open j.0 j.3));
            same = (rw split at (unquarantined_sweeps e.front b ys apart lv)) ∙ (rw q at e.same);
            adds = omega (arith, e.adds, waiting, waits_quarantined b ys lv, w);
            small = omega (arith, e.small, waiting, waits_quarantined b ys lv, w);
          }

    -- so the walk gets on
    gets_on : at < swept_end m s
    unfolding swept_end
    gets_on = go (quarantined b) refl
      where
        go : (x : Bool) → quarantined b ≡ x → at < swept_end m s
        go true f = rw f (omega (arith, ends f))
        go false f = rw f (omega arith)

    passes : Sweeping bs (sum + quarantined_size b.serial (size b)) (swept_end m s) (swept_bytes m s)
    unfolding swept_end swept_bytes quarantined_size
    passes = go (quarantined b) refl
      where
        go : (x : Bool) → quarantined b ≡ x → Sweeping bs (sum + quarantined_size b.serial (size b)) (swept_end m s) (swept_bytes m s)
        go true f = rw f (opens_on f)
        go false f = rw f (stays_on f)

  -- where nothing starts at the walk's place, all is done
  pub sweeping_ended : start_at at s ≡ None → (s ≡ render (swept bs)) × (sum ≡ waits bs) × (sum ≤ 32768)
  unfolding all keep total
  sweeping_ended n = go e.todo refl
    where
      go : (l : List Block) → e.todo ≡ l → (s ≡ render (swept bs)) × (sum ≡ waits bs) × (sum ≤ 32768)
      go [] q =
          let whole : all not_quarantined (e.front ++ e.todo) ≡ true = all_append not_quarantined e.front e.todo ∙ and_both _ _ e.opened (rw q) in
          let none : waits e.todo ≡ 0 = rw q in
          (e.bytes ∙ ap render (sym (swept_same (e.front ++ e.todo) whole e.apart) ∙ e.same), omega (arith, e.adds, none), omega (arith, e.small))
      go (b ∷ ys) q = let z : ◌≡◌ {A = ℕ} 0 1 = cc (starts b ys q) in absurd (omega arith)

  -- the walk passes the block that starts at its place, and gets on
  pub sweeping_on : (h : Header) → start_at at s ≡ Some h
      → (at < swept_end (headed at h) s) × Sweeping bs (sum + quarantined_size h.serial (8 * h.size)) (swept_end (headed at h) s)
      (swept_bytes (headed at h) s)
  sweeping_on h n = go e.todo refl
    where
      go : (l : List Block) → e.todo ≡ l
          → (at < swept_end (headed at h) s) × Sweeping bs (sum + quarantined_size h.serial (8 * h.size)) (swept_end (headed at h) s)
          (swept_bytes (headed at h) s)
      go [] q = let z : ◌≡◌ {A = ℕ} 0 1 = cc (starts_none q) in absurd (omega arith)
      go (b ∷ ys) q =
          let p : header_of (back_after 0 e.front) b ≡ h = cc (starts b ys q) in
          let w : 8 * units b ≡ size b = (all_right Writable e.front (b ∷ ys) (writable b ys q)).0.whole in
          rw (← p, w) (gets_on b ys q, passes b ys q)
