-- The walk that frees the blocks that are not kept, over plain lists. What starts at its place is the first block that is left. A block that remains is
-- settled already, so it joins those in front. Another one is freed in place, which leaves what settling gives (`freed_settles`), and the free block
-- that it becomes, with a free one behind it, joins those in front. At the end no block is left, so all blocks are settled.
use Rattle.std.specs.Prelude.{Some, None}
use Prim.Native.Nat.{ℕ, ◌+◌, ◌*◌, ◌≤◌, ◌<◌}
use native.Mathlib.Omega.{arith}
use mathlib.Core.Path.{◌≡◌, refl, ap, sym, ◌∙◌}
use mathlib.Core.List.{List, [], ◌∷◌, ◌++◌, append_assoc, append-nil}
use mathlib.Core.Bool.{Bool, true, false}
use lib.ListN.{length, get_or}
use lib.Dec.{lit<}
use Rattle.accounts.specs.declared.Hold.{Hold}
use Rattle.accounts.specs.Accounts.{HOLDS}
use Rattle.layout.specs.Blocks.{Block, size, units, live, total_size, back_after, header_of, start_at, render, Writable, AllWritable}
use Rattle.layout.specs.declared.Header.{Header}
use Rattle.layout.proofs.Parse.{render_is}
use Rattle.layout.proofs.Render.{start_stands, start_ends, length_render, all_left, all_right, back_small, size_append}
use Rattle.lists.specs.Lists.{all, total}
use Rattle.model.specs.Consistent.{held, free_apart}
use Rattle.model.specs.Space.{vacate, join_front, settle, stays}
use Rattle.model.specs.Joining.{append_joined, join_neighbours}
use Rattle.lists.proofs.Bools.{and_both}
use Rattle.lists.proofs.Lists.{all_append}
use Rattle.model.proofs.Blocks.{total_is, free_not_live, live_occupied}
use Rattle.model.proofs.Join.{join_elim, appended_all, appended_split, appended_total}
use Rattle.model.proofs.Settle.{settle_same, freed_apart, freed_total, freed_writable, freed_settles}
use Rattle.lookup.specs.declared.Met.{Met}
use Rattle.lookup.specs.Walk.{headed}
use Rattle.lookup.proofs.Parsed.{placed}
use Rattle.writer.specs.Freeing.{vacate_block, vacate_end, vacate_in, vacate_end_in}
use Rattle.writer.proofs.FreeBytes.{vacant_behind, behind_vacated}
use Rattle.writer.proofs.Rooms.{vacated_blocks, vacated_ends, freed_inside}
use Rattle.writer.proofs.Guards.{inside_test, vacates}
use Rattle.holding.proofs.Flagged.{counted_free}
use Rattle.holding.specs.Emptying.{counted, passed, passed_end, Flagged, Emptying}

module _ (hs : List Hold) (kept : List Bool) where
  -- the flags of the blocks behind a free one
  flags_behind : (i : ℕ) (d : Block) (ds : List Block) → live d ≡ false → Flagged hs kept i (d ∷ ds) → Flagged hs kept i ds
  unfolding Flagged
  flags_behind i d ds e f =
      let z : i + counted d.serial ≡ i = omega (arith, counted_free d e) in
      rw z at f.1

  -- and behind the free block that a block becomes with a free one behind it
  behind : List Block → List Block
  behind [] = []
  behind (b ∷ bs) = bs

  flags_joined : (i : ℕ) (v : Block) (ys : List Block) (c : Block) (zs : List Block) → join_front v ys ≡ c ∷ zs → Flagged hs kept i ys → Flagged hs kept i zs
  unfolding behind
  flags_joined i v ys c zs e f =
      rw e at
      (join_elim (λ l. Flagged hs kept i (behind l)) v ys (λ a. f)
      (λ d ds ev ed q. flags_behind i d ds (free_not_live d ed) (rw q at f)))

  -- where there is no flag left, no live block is left
  flags_full : (i : ℕ) (ys : List Block) → HOLDS ≤ i → Flagged hs kept i ys → all (stays hs) ys ≡ true
  unfolding Flagged all
  flags_full i [] h f = refl
  flags_full i (y ∷ ys) h f = and_both (stays hs y) (all (stays hs) ys) (go (live y) refl) (flags_full (i + counted y.serial) ys (omega arith) f.1)
    where
      go : (x : Bool) → live y ≡ x → stays hs y ≡ true
      go true l = absurd (omega (arith, (f.0 l).0))
      go false l = rw l

-- the walk may start on blocks that can be written, with no two free ones side by side, whose flags are told
pub emptying_start : (kind : ℕ) (hs : List Hold) (bs : List Block) (kept : List Bool) (s : List ℕ) → s ≡ render bs → AllWritable bs → free_apart bs ≡ true
    → total_size bs ≤ 32768
    → Flagged hs kept 0 bs → Emptying kind hs bs kept 0 0 s
unfolding total_size all
emptying_start kind hs bs kept s e w a l f =
    record { front = []; todo = bs; bytes = e; place = refl; writable = w; apart = a; short = l; settled = refl; same = refl; flags = f }

-- the walk gets on behind a block, whatever the flag, and passes it by its own flag
abbrev pub Passing : ℕ → List Hold → List Block → List Bool → ℕ → ℕ → List ℕ → ℕ → Met → Type 0
Passing kind hs bs kept i at s count m =
    ((x : Bool) → at < passed_end kind x m s) × Emptying kind hs bs kept (i + count) (passed_end kind (get_or kept i false) m s)
    (passed kind (get_or kept i false) m s)

module _ (kind : ℕ) (hs : List Hold) (bs : List Block) (kept : List Bool) (i at : ℕ) (s : List ℕ) (e : Emptying kind hs bs kept i at s) where
  -- the heap has at most the greatest length
  pub emptying_short : length s ≤ 32768
  emptying_short =
      let l : length (render (e.front ++ e.todo)) ≡ total_size (e.front ++ e.todo) = rw render_is (length_render 0 (e.front ++ e.todo)) in
      omega (arith, ap length e.bytes, e.short)

  -- where what is left stays, the bytes are those of the settled blocks
  done : all (stays hs) e.todo ≡ true → s ≡ render (settle kind hs bs)
  done a =
      let whole : all (stays hs) (e.front ++ e.todo) ≡ true = all_append (stays hs) e.front e.todo ∙ and_both _ _ e.settled a in
      e.bytes ∙ ap render (sym (settle_same kind hs (e.front ++ e.todo) whole e.apart) ∙ e.same)

  -- so it is where there is no flag left
  pub emptying_full : HOLDS ≤ i → s ≡ render (settle kind hs bs)
  emptying_full h = done (flags_full hs kept i e.todo h e.flags)

  -- behind the last block nothing starts
  starts_none : e.todo ≡ [] → start_at at s ≡ None
  starts_none q = rw (e.place, e.bytes, q, append-nil e.front, render_is) (start_ends 0 e.front)

  -- the first block that is left
  module _ (b : Block) (ys : List Block) (q : e.todo ≡ b ∷ ys) where
    writable : AllWritable (e.front ++ (b ∷ ys))
    writable = rw q at e.writable

    bytes : s ≡ render (e.front ++ (b ∷ ys))
    bytes = rw q at e.bytes

    -- it starts at the walk's place
    starts : start_at at s ≡ Some (header_of (back_after 0 e.front) b)
    starts =
        let narrow = back_small 0 e.front (lit< tt) (all_left Writable e.front (b ∷ ys) writable) in
        rw (e.place, bytes, render_is) (start_stands 0 e.front b ys (all_right Writable e.front (b ∷ ys) writable).0 narrow)

    -- if it stays, it joins those in front
    stays_on : stays hs b ≡ true → Emptying kind hs bs kept (i + counted b.serial) (at + size b) s
    unfolding all total_size Flagged
    stays_on t =
        let split : (e.front ++ (b ∷ [])) ++ ys ≡ e.front ++ e.todo = append_assoc e.front (b ∷ []) ys ∙ ap (λ (l : List Block). e.front ++ l) (sym q) in
        record {
          front = e.front ++ (b ∷ []);
          todo = ys;
          bytes = rw split e.bytes;
          place = rw (size_append e.front (b ∷ [])) (omega (arith, e.place));
          writable = rw split e.writable;
          apart = rw split e.apart;
          short = rw split e.short;
          settled = all_append (stays hs) e.front (b ∷ []) ∙ and_both _ _ e.settled (and_both (stays hs b) true t refl);
          same = rw split e.same;
          flags = (rw q at e.flags).1;
        }

    abbrev m : Met
    m = placed at (back_after 0 e.front) b

    -- if it is live, it can be freed in place
    module _ (lv : live b ≡ true) where
      apart : free_apart (e.front ++ (b ∷ ys)) ≡ true
      apart = rw q at e.apart

      short : total size (e.front ++ (b ∷ ys)) ≤ 32768
      short = rw (total_is, q) at e.short

      freed : (vacate_block kind m s ≡ vacate_in kind m s) × (vacate_end kind m s ≡ vacate_end_in kind m s)
      freed =
          let inside = freed_inside e.front b ys writable (live_occupied b lv) m e.place refl refl (rw (← bytes) emptying_short) in
          vacates kind m s (inside_test m s (rw (← bytes) at inside))

      -- up to the end of the free block behind it, if there is one and it joins
      ends : vacate_end_in kind m s ≡ at + size b + vacant_behind kind ys
      ends = sym freed.1 ∙ ap (vacate_end kind m) bytes ∙ vacated_ends e.front b ys writable (live_occupied b lv) m e.place refl refl kind

      -- and if no record holds it, what it becomes joins those in front
      frees_on : held hs b.serial ≡ false → Emptying kind hs bs kept (i + counted b.serial) (vacate_end_in kind m s) (vacate_in kind m s)
      unfolding all total Flagged join_neighbours
      frees_on u =
          let j = behind_vacated kind b ys in
          let front = append_joined e.front (j.0 ∷ []) in
          let split : join_neighbours e.front (vacate kind b) ys ≡ front ++ j.1 =
          ap (append_joined e.front) j.2 ∙ appended_split e.front j.0 j.1 in
          record {
            front = front;
            todo = j.1;
            bytes =
                sym freed.0 ∙ ap (vacate_block kind m) bytes ∙ vacated_blocks e.front b ys writable (live_occupied b lv) m e.place refl refl kind
                ∙ ap render split;
            place = omega (arith, ends, e.place, j.4, total_is front, total_is e.front, appended_total e.front (j.0 ∷ []));
            writable = rw split at (freed_writable kind e.front b ys apart writable short);
            apart = rw split at (freed_apart kind e.front b ys apart);
            short = rw (total_is, ← split, freed_total kind e.front b ys apart) short;
            settled = appended_all (stays hs) (λ c d x y. refl) e.front (j.0 ∷ []) e.settled (rw j.3);
            same = (rw split at (freed_settles kind e.front b ys apart hs lv u)) ∙ (rw q at e.same);
            flags = flags_joined hs kept (i + counted b.serial) (vacate kind b) ys j.0 j.1 j.2 (rw q at e.flags).1;
          }

    -- so the walk gets on, whatever the flag
    gets_on : (x : Bool) → at < passed_end kind x m s
    unfolding passed_end
    gets_on x = go (live b) x refl
      where
        go : (f x : Bool) → live b ≡ f → at < passed_end kind x m s
        go false x f = rw f (omega arith)
        go true true f = rw f (omega arith)
        go true false f = rw f (omega (arith, ends f))

    -- and passes it by its own flag
    passes : Emptying kind hs bs kept (i + counted b.serial) (passed_end kind (get_or kept i false) m s) (passed kind (get_or kept i false) m s)
    unfolding passed passed_end Flagged
    passes = go (live b) (held hs b.serial) refl refl
      where
        go : (x y : Bool) → live b ≡ x → held hs b.serial ≡ y
            → Emptying kind hs bs kept (i + counted b.serial) (passed_end kind (get_or kept i false) m s) (passed kind (get_or kept i false) m s)
        go false y f u = rw f (stays_on (rw f))
        go true true f u = rw (f, ((rw q at e.flags).0 f).1 ∙ u) (stays_on (rw (f, u)))
        go true false f u = rw (f, ((rw q at e.flags).0 f).1 ∙ u) (frees_on f u)

  -- where nothing starts at the walk's place, all is done
  pub emptying_ended : start_at at s ≡ None → s ≡ render (settle kind hs bs)
  unfolding all
  emptying_ended n = go e.todo refl
    where
      go : (l : List Block) → e.todo ≡ l → s ≡ render (settle kind hs bs)
      go [] q = done (rw q)
      go (b ∷ ys) q = let z : ◌≡◌ {A = ℕ} 0 1 = cc (starts b ys q) in absurd (omega arith)

  -- the walk passes the block that starts at its place, and gets on
  pub emptying_on : (h : Header) → start_at at s ≡ Some h → Passing kind hs bs kept i at s (counted h.serial) (headed at h)
  emptying_on h n = go e.todo refl
    where
      go : (l : List Block) → e.todo ≡ l → Passing kind hs bs kept i at s (counted h.serial) (headed at h)
      go [] q = let z : ◌≡◌ {A = ℕ} 0 1 = cc (starts_none q) in absurd (omega arith)
      go (b ∷ ys) q =
          let p : header_of (back_after 0 e.front) b ≡ h = cc (starts b ys q) in
          let w : 8 * units b ≡ size b = (all_right Writable e.front (b ∷ ys) (writable b ys q)).0.whole in
          rw (← p, w) (gets_on b ys q, passes b ys q)
