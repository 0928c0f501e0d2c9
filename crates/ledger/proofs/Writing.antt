-- A write inside live objects keeps agreement. No byte of a header lies in an object, so every header stands as it did; what is read then are
-- the same blocks with other bodies of the same lengths. Objects, sizes and free neighbours are the same, and the test for consistency reads no
-- more of the blocks than these.
use Rattle.std.specs.Prelude.{Some}
use Prim.Native.Nat.{ℕ, ◌+◌}
use native.Mathlib.Nat.{zero-add}
use native.Mathlib.Omega.{arith}
use mathlib.Core.Path.{◌≡◌, refl, ap, sym, ◌∙◌}
use mathlib.Core.List.Memᴰ
use mathlib.Core.List.{List, [], ◌∷◌, ◌++◌, Memᴰ}
use mathlib.Core.Bool.{true, false, ◌&&◌, Bool}
use mathlib.Core.Logic.{◌↔◌, ◌⊎◌, inl, inr, ⊎_elim}
use lib.ListN.{length, take, drop, get_or, length-take, length-drop, take-append-drop, get_or-append}
use lib.Seq.{get_or-take, get_or-drop, drop-drop, ext_get_or, get_or-append-add}
use lib.Dec.{leb, ltb}
use borrow.Author.Tests.{leb-true, le-leb, ltb-true, lt-ltb}
use Rattle.accounts.specs.declared.Accounts.{Accounts}
use Rattle.layout.specs.Bytes.{Octets}
use Rattle.layout.specs.Blocks.{Block, size, live, units, header_of, header_bytes, render_from, render, parse, Writable, AllWritable}
use Rattle.layout.proofs.Fields.{header_length}
use Rattle.layout.proofs.Render.{written_length, written_behind}
use Rattle.layout.proofs.Parse.{parse_is}
use Rattle.lists.specs.Lists.{all}
use Rattle.model.specs.Objects.{object, objects_from, objects, blocks_of, objects_of}
use Rattle.model.specs.Consistent.{long_enough, starts_free, free_apart, well_cut, in_kind, accounted_blocks, accounted}
use Rattle.model.specs.declared.Handle.{Handle}
use Rattle.lists.proofs.Bools.{and_left, and_right, and_both}
use Rattle.lists.proofs.Lists.{none_exactly}
use Rattle.model.proofs.Blocks.{objects_free}
use Rattle.model.proofs.Consistent.{blocks_parsed, accounted_cut, accounted_exactly}
use Rattle.ledger.specs.Ledger.{Ledger, spans_from, quarantined_of}
use Rattle.ledger.specs.History.{in_object, Written}
use Rattle.ledger.specs.Demand3.{Within}
use Rattle.ledger.proofs.Agreement.{Agrees}
use Rattle.ledger.proofs.Places.{objects_cases, objects_lie}

-- a byte lies in none of some objects exactly if it lies in no member
pub outside_exactly : (i : ℕ) (os : List Handle) → (in_object i os ≡ false) ↔ ((o : Handle) → Memᴰ o os → Within i o → ⊥)
unfolding in_object
outside_exactly i os =
    let none = none_exactly (λ o. leb o.base i && ltb i (o.base + o.length)) os in (
      λ e o m w. none.0 e o m (and_both _ _ (le-leb o.base i w.0) (lt-ltb i (o.base + o.length) w.1)),
      λ f. none.1 (λ o m t. f o m (leb-true o.base i (and_left _ _ t), ltb-true i (o.base + o.length) (and_right (leb o.base i) _ t))),
    )

-- s is as long as the bytes of these blocks, which start at a place, and is the same outside their objects
record Kept (at back : ℕ) (bs : List Block) (s : List ℕ) : Type 0 where
  extent : length s ≡ length (render_from back bs)
  outside : (i j : ℕ) → j ≡ at + i → in_object j (objects_from at bs) ≡ false → get_or s i 0 ≡ get_or (render_from back bs) i 0

-- so s is the bytes of blocks that are the same but for the bytes of their bodies
record Rewritten (at back : ℕ) (bs : List Block) (s : List ℕ) : Type 0 where
  blocks : List Block
  again : render_from back blocks ≡ s
  writable : AllWritable blocks
  objects : objects_from at blocks ≡ objects_from at bs
  long : all long_enough blocks ≡ all long_enough bs
  starts : starts_free blocks ≡ starts_free bs
  apart : free_apart blocks ≡ free_apart bs
  kinds : (kind : ℕ) → all (in_kind kind) blocks ≡ all (in_kind kind) bs
  spans : spans_from at blocks ≡ spans_from at bs
  unwritten : (b : Block) → live b ≡ false → Memᴰ b blocks → Memᴰ b bs

module _ (at back : ℕ) (b : Block) (bs : List Block) (s : List ℕ) (k : Kept at back (b ∷ bs) s) where
  -- s is the first block and as much as the others take
  kept_length : length s ≡ size b + length (render_from (units b) bs)
  unfolding render_from
  kept_length = k.extent ∙ written_length back b (render_from (units b) bs)

  -- the first header stands as it did
  kept_header : take 8 s ≡ header_bytes (header_of back b)
  unfolding render_from
  kept_header =
      let h = header_bytes (header_of back b) in
      let e : length h ≡ 8 = header_length (header_of back b) in
      let n : length (take 8 s) ≡ 8 = (let l = kept_length in simp length-take (omega arith)) in
      ext_get_or 0 (take 8 s) h (n ∙ sym e) (λ i p.
      (let out = (outside_exactly (at + i) (objects_from at (b ∷ bs))).1 (λ o m w. omega (arith, (objects_lie at (b ∷ bs) o m).low)) in
      get_or-take 8 s i 0 (omega arith)
      ∙ k.outside i (at + i) refl out
      ∙ get_or-append h (b.body ++ render_from (units b) bs) 0 i (omega arith)))

  -- what stands behind the first block is the same outside the other objects
  kept_behind : Kept (at + size b) (units b) bs (drop (size b) s)
  unfolding render_from
  kept_behind =
      record {
        extent = let l = kept_length in rw length-drop (omega arith);
        outside = λ i j e f.
            (let out = (outside_exactly j (objects_from at (b ∷ bs))).1 (λ o m w. behind i j e f o w (objects_cases at b bs o m)) in
            rw get_or-drop (k.outside (size b + i) j (omega arith) out
            ∙ sym (get_or-drop (size b) (render_from back (b ∷ bs)) i 0)
            ∙ rw (written_behind back b (render_from (units b) bs))));
      }
    where
      behind : (i j : ℕ) → j ≡ at + size b + i → in_object j (objects_from (at + size b) bs) ≡ false → (o : Handle) → Within j o
          → (o ≡ object at b) ⊎ Memᴰ o (objects_from (at + size b) bs) → ⊥
      behind i j e f o w (inl q) =
          let x : o.base + o.length ≡ at + 8 + length b.body = rw q in
          omega arith
      behind i j e f o w (inr m) = (outside_exactly j (objects_from (at + size b) bs)).0 f o m w

  -- a block that is not live has its body as it did
  kept_body : live b ≡ false → take (length b.body) (drop 8 s) ≡ b.body
  unfolding render_from
  kept_body f =
      let h = header_bytes (header_of back b) in
      let e : length h ≡ 8 = header_length (header_of back b) in
      let l = kept_length in
      let n : length (take (length b.body) (drop 8 s)) ≡ length b.body = simp (length-take, length-drop) (omega arith) in
      ext_get_or 0 (take (length b.body) (drop 8 s)) b.body n (λ i p.
      (let out =
      (outside_exactly (at + (8 + i)) (objects_from at (b ∷ bs))).1
      (λ o m w. omega (arith, (objects_lie (at + size b) bs o (rw (objects_free at b bs f) at m)).low)) in
      get_or-take (length b.body) (drop 8 s) i 0 (omega arith)
      ∙ get_or-drop 8 s i 0
      ∙ k.outside (8 + i) (at + (8 + i)) refl out
      ∙ ap (λ (x : ℕ). get_or (h ++ (b.body ++ render_from (units b) bs)) (x + i) 0) (sym e)
      ∙ get_or-append-add h (b.body ++ render_from (units b) bs) i 0
      ∙ get_or-append b.body (render_from (units b) bs) 0 i (omega arith)))

  -- the first block has its body out of s
  rewritten_cons : Writable b → Rewritten (at + size b) (units b) bs (drop (size b) s) → Rewritten at back (b ∷ bs) s
  unfolding render_from objects_from spans_from all long_enough starts_free free_apart in_kind
  rewritten_cons w r =
      let body = take (length b.body) (drop 8 s) in
      let l = kept_length in
      let n : length (take (length b.body) (drop 8 s)) ≡ length b.body = simp (length-take, length-drop) (omega arith) in
      record {
        blocks = record { serial = b.serial; body = body } ∷ r.blocks;
        again = rw (n, r.again, ← kept_header, ← drop-drop (length b.body) 8 s, take-append-drop, take-append-drop);
        writable = (record { whole = rw n w.whole; small = rw n w.small; narrow = w.narrow }, r.writable);
        objects = rw (n, r.objects);
        long = rw (n, r.long);
        starts = refl;
        apart = rw (r.starts, r.apart);
        kinds = λ kind. ap (λ (t : Bool). in_kind kind b && t) (r.kinds kind);
        spans = rw (n, r.spans);
        unwritten = λ c f m. ⊎_elim (λ e. Memᴰ.head (same c f e)) (λ x. Memᴰ.tail (r.unwritten c f x)) (Memᴰ.cases_cons m);
      }
    where
      same : (c : Block) → live c ≡ false → c ≡ record { serial = b.serial; body = take (length b.body) (drop 8 s) } → c ≡ b
      same c f e = e ∙ ap (λ (l : List ℕ). record { serial = b.serial; body = l }) (kept_body (rw e at f))

-- and so block after block
rewritten : (at back : ℕ) (bs : List Block) (s : List ℕ) → AllWritable bs → Kept at back bs s → Rewritten at back bs s
unfolding render_from all
rewritten at back [] [] w k =
    record {
      blocks = [];
      again = refl;
      writable = tt;
      objects = refl;
      long = refl;
      starts = refl;
      apart = refl;
      kinds = λ kind. refl;
      spans = refl;
      unwritten = λ b f m. m;
    }
rewritten at back [] (x ∷ s) w k = let e = k.extent in absurd (omega arith)
rewritten at back (b ∷ bs) s w k =
    rewritten_cons at back b bs s k w.0 (rewritten (at + size b) (units b) bs (drop (size b) s) w.1 (kept_behind at back b bs s k))

module _ (s s' : List ℕ) (k : Accounts) (o : Octets s) (c : accounted s k ≡ true) (w : Written s s') where
  -- the blocks after the write
  written_blocks : Rewritten 0 0 (blocks_of s) s'
  unfolding render objects_of objects
  written_blocks =
      let cut = (parse_is s (blocks_of s) o).0 (accounted_cut s k c).0 in
      let same : render_from 0 (blocks_of s) ≡ s = cut.0 in
      rewritten 0 0 (blocks_of s) s' cut.1
      (record { extent = w.same_length ∙ ap length (sym same); outside = λ i j e f. rw same (w.inside i (rw (e, zero-add) at f)) })

  -- are read from the written bytes
  written_parsed : parse s' ≡ Some written_blocks.blocks
  unfolding render
  written_parsed = (parse_is s' written_blocks.blocks w.octets).1 (written_blocks.again, written_blocks.writable)

  -- the objects are the same
  pub written_objects : objects_of s' ≡ objects_of s
  unfolding objects_of objects
  written_objects = rw (blocks_parsed s' written_blocks.blocks written_parsed) written_blocks.objects

  -- and so are the blocks that are not live
  pub written_others : (b : Block) → live b ≡ false → Memᴰ b (blocks_of s') → Memᴰ b (blocks_of s)
  written_others b f m = written_blocks.unwritten b f (rw (blocks_parsed s' written_blocks.blocks written_parsed) at m)

  -- heap and accounts stay consistent
  pub written_accounted : accounted s' k ≡ true
  unfolding accounted_blocks well_cut objects
  written_accounted =
      let r = written_blocks in
      (accounted_exactly s' k).1 (r.blocks, written_parsed, rw (r.long, r.apart, r.objects) (accounted_cut s k c).1)

  -- and quarantined blocks stand where they stood
  written_kinds : (kind : ℕ) → all (in_kind kind) (blocks_of s') ≡ all (in_kind kind) (blocks_of s)
  written_kinds kind = ap (all (in_kind kind)) (blocks_parsed s' written_blocks.blocks written_parsed) ∙ written_blocks.kinds kind

  written_spans : quarantined_of s' ≡ quarantined_of s
  unfolding quarantined_of
  written_spans = ap (spans_from 0) (blocks_parsed s' written_blocks.blocks written_parsed) ∙ written_blocks.spans

-- so ledger, heap and accounts agree after the write
pub written_agrees : (l : Ledger) (s s' : List ℕ) (k : Accounts) → Agrees l s k → Written s s' → Agrees l s' k
written_agrees l s s' k a w =
    record {
      extent = rw w.same_length a.extent;
      octets = w.octets;
      passes = written_accounted s s' k a.octets a.passes w;
      quotas = a.quotas;
      narrow = a.narrow;
      kinded = (written_kinds s s' k a.octets a.passes w k.kind ∙ a.kinded.0, a.kinded.1);
      kind = a.kind;
      grants = a.grants;
      matches = rw (written_objects s s' k a.octets a.passes w) a.matches;
      waits = rw (written_spans s s' k a.octets a.passes w) a.waits;
    }
