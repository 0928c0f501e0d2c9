-- Occupied blocks that become free and join, on bytes: only such blocks, headers of free blocks beside them, and the back size of the block behind
-- such a run change. Settling is the case of the blocks that no record holds.
-- The law goes along the blocks and says two things at once. Where the block in front of them is as it was, the bytes of the blocks left are
-- the old ones but for those named. Where a free block in front of them has changed, the blocks left join it: its body stays, and what
-- stands behind that body is again the old bytes but for those named, now that the run is a changed one. A block that joins a block in front keeps
-- its body, a live one that stays keeps all but its back size, and behind it nothing has changed.
use mathlib.Core.Path.{◌≡◌, refl, sym, ◌∙◌}
use Prim.Native.Nat.{ℕ, ◌+◌, ◌-◌, ◌≤◌, ◌<◌}
use native.Mathlib.Omega.{arith}
use mathlib.Core.List.{List, [], ◌∷◌, ◌++◌, append_assoc}
use mathlib.Core.Bool.{Bool, true, false, not, cond, ◌&&◌, ◌||◌, or-false, or-true}
use lib.ListN.{length, get_or, replicate, length-replicate}
use borrow.Author.Tests.{lt-ltb, le-ltb, not-true, not-false}
use Rattle.accounts.specs.declared.Hold.{Hold}
use Rattle.layout.specs.Blocks.{Block, size, units, live, header_of, header_bytes, render_from, render, occupied}
use Rattle.layout.proofs.Fields.{header_length}
use Rattle.layout.proofs.Render.{render_cons}
use Rattle.lists.specs.Lists.{total}
use Rattle.model.specs.Consistent.{starts_free, free_apart, held}
use Rattle.model.specs.Space.{join_front, join_free, vacates, vacate, changed, reclaim, settle}
use Rattle.model.proofs.Touched.{within, starts_changed, reclaim_touches, settle_touches}
use Rattle.model.proofs.Rows
use Rattle.lists.proofs.Bools.{and_left}
use Rattle.model.proofs.Blocks.{apart_head, apart_tail, live_occupied}
use Rattle.model.proofs.Join.{joined, join_apart, join_assoc}
use Rattle.model.proofs.Same.{Same, same_refl, same_wider, same_any, same_append, header_backs}

module _ (p : Block → Bool) (f : Block → Block) (was : (b : Block) → p b ≡ true → occupied b ≡ true)
    (long : (b : Block) → length (f b).body ≡ length b.body) (freed : (b : Block) → occupied (f b) ≡ false) where
  -- what becomes of the first block: one that is vacated joins those behind it, and so does one that stays, unless it is live
  reclaim_gone : (b : Block) (bs : List Block) → p b ≡ true → reclaim p f (b ∷ bs) ≡ join_front (f b) (reclaim p f bs)
  unfolding reclaim join_free changed
  reclaim_gone b bs e = rw e

  reclaim_stays : (b : Block) (bs : List Block) → p b ≡ false → reclaim p f (b ∷ bs) ≡ join_front b (reclaim p f bs)
  unfolding reclaim join_free changed
  reclaim_stays b bs e = rw e

  reclaim_live : (b : Block) (bs : List Block) → p b ≡ false → occupied b ≡ true → reclaim p f (b ∷ bs) ≡ b ∷ reclaim p f bs
  reclaim_live b bs e eb = reclaim_stays b bs e ∙ join_apart b (reclaim p f bs) (rw eb)

  -- where the first block is live and stays, what is left starts with it
  reclaim_starts : (bs : List Block) → starts_changed p bs ≡ false → starts_free bs ≡ false → starts_free (reclaim p f bs) ≡ false
  unfolding starts_changed starts_free reclaim join_free changed
  reclaim_starts [] e h = refl
  reclaim_starts (b ∷ bs) e h = let eb = not-false (occupied b) h in rw (reclaim_live b bs e eb) h

  module _ (run : Bool) (b : Block) (bs : List Block) where
    -- which bytes of the first block's header, of its body and of what stands behind it settling touches
    touched_header : (i : ℕ) → i < 8 → reclaim_touches p run (b ∷ bs) i
        ≡ (p b || cond (occupied b) (run && within 2 4 i) (run || starts_changed p bs))
    unfolding reclaim_touches
    touched_header i h = rw (lt-ltb i (size b) (omega arith), lt-ltb i 8 h)

    touched_body : (i : ℕ) → i < length b.body → reclaim_touches p run (b ∷ bs) (8 + i) ≡ p b
    unfolding reclaim_touches
    touched_body i h = rw (lt-ltb (8 + i) (size b) (omega arith), le-ltb (8 + i) 8 (omega arith)) (or-false (p b))

    touched_behind : (i : ℕ) → reclaim_touches p run (b ∷ bs) (size b + i) ≡ reclaim_touches p (cond (occupied b) (p b) run) bs i
    unfolding reclaim_touches
    touched_behind i =
        let e : size b + i - size b ≡ i = omega arith in
        rw (le-ltb (size b + i) (size b) (omega arith), e)

    -- the first block's header, its body and what stands behind it, put together
    block_same : (run' : Bool) (h h' d d' : List ℕ) {q q' : List ℕ} → cond (occupied b) (p b) run ≡ run' → length h ≡ 8 → length d ≡ length b.body
        → Same (λ i. p b || cond (occupied b) (run && within 2 4 i) (run || starts_changed p bs)) h h' → Same (λ i. p b) d d'
        → Same (reclaim_touches p run' bs) q q' → Same (reclaim_touches p run (b ∷ bs)) (h ++ (d ++ q)) (h' ++ (d' ++ q'))
    block_same run' h h' d d' {q} {q'} e lh ld x y z =
        same_append (same_wider (λ i l f. sym (touched_header i (omega arith)) ∙ f) x)
        (same_append (same_wider (λ i l f. sym (touched_body i (omega arith)) ∙ (rw lh at f)) y) (same_wider later z))
      where
        later : (i : ℕ) → i < length q → reclaim_touches p run (b ∷ bs) (length h + (length d + i)) ≡ false → reclaim_touches p run' bs i ≡ false
        later i l f =
            let k : length h + (length d + i) ≡ size b + i = omega arith in
            sym (rw e at (touched_behind i)) ∙ (rw k at f)

  -- where the first block is vacated, the run that it is in is a changed one whatever stands in front
  run_either : (bs : List Block) → starts_changed p bs ≡ true → (i : ℕ) → reclaim_touches p false bs i ≡ reclaim_touches p true bs i
  unfolding starts_changed reclaim_touches
  run_either [] e i = refl
  run_either (b ∷ bs) e i = let eb = was b e in rw (e, eb)

  -- the bytes behind the body of a free block v that has changed, once the blocks bs behind it are settled and have joined it
  record Behind (v : Block) (u w : ℕ) (bs : List Block) : Type 0 where
    header : List ℕ
    tail : List ℕ
    eight : length header ≡ 8
    now : render_from u (join_front v (reclaim p f bs)) ≡ header ++ (v.body ++ tail)
    same : Same (reclaim_touches p true bs) tail (render_from w bs)

  -- both laws: behind a block that is as it was, and behind a free block that has changed
  record Both (bs : List Block) : Type 0 where
    stays : (u : ℕ) → Same (reclaim_touches p false bs) (render_from u (reclaim p f bs)) (render_from u bs)
    joins : (v : Block) (u w : ℕ) → occupied v ≡ false → Behind v u w bs

  module _ (b : Block) (bs : List Block) (ih : Both bs) where
    -- a block that becomes the free block d and joins the changed block v in front of it
    joins_free : (d v : Block) (u w : ℕ) → reclaim p f (b ∷ bs) ≡ join_front d (reclaim p f bs) → occupied d ≡ false → occupied v ≡ false
        → length d.body
        ≡ length b.body
        → cond (occupied b) (p b) true ≡ true → ((i : ℕ) → (p b || cond (occupied b) (within 2 4 i) true) ≡ true)
        → Same (λ i. p b) d.body b.body → Behind v u w (b ∷ bs)
    joins_free d v u w e ed ev l run flags same =
        let r = ih.joins (joined v d) u (units b) refl in
        record {
          header = r.header;
          tail = replicate 8 0 ++ (d.body ++ r.tail);
          eight = r.eight;
          now = rw (e, ← join_assoc v d (reclaim p f bs) ev ed, r.now) (simp append_assoc);
          same =
              rw (render_cons w b bs)
              (block_same true b bs true (replicate 8 0) (header_bytes (header_of w b)) d.body b.body run refl l
              (same_any flags (sym (header_length (header_of w b)))) same r.same);
        }

    -- a live block that stays behind the changed block v
    joins_live : (v : Block) (u w : ℕ) → p b ≡ false → occupied b ≡ true → occupied v ≡ false → Behind v u w (b ∷ bs)
    unfolding starts_free
    joins_live v u w e eb ev =
        let apart : (occupied v || not (starts_free (b ∷ reclaim p f bs))) ≡ true = rw (ev, eb) in
        record {
          header = header_bytes (header_of u v);
          tail = render_from (units v) (b ∷ reclaim p f bs);
          eight = header_length (header_of u v);
          now = rw (reclaim_live b bs e eb, join_apart v (b ∷ reclaim p f bs) apart) (render_cons u v (b ∷ reclaim p f bs));
          same =
              rw (render_cons w b bs, render_cons (units v) b (reclaim p f bs))
              (block_same true b bs false (header_bytes (header_of (units v) b)) (header_bytes (header_of w b)) b.body b.body (rw (e, eb))
              (header_length (header_of (units v) b)) refl
              (same_wider (λ i l f. rw (e, eb) at f) (header_backs (units b) (units v) w b.serial)) (same_refl (λ i. p b) b.body)
              (ih.stays (units b)));
        }

    -- a block that becomes d, behind a block that is as it was, where what stands behind it is settled so
    stays_put : (u : ℕ) (run : Bool) (d : Block) (h t : List ℕ) → render_from u (reclaim p f (b ∷ bs)) ≡ h ++ (d.body ++ t) → length h ≡ 8
        → length d.body ≡ length b.body → cond (occupied b) (p b) false ≡ run
        → Same (λ i. p b || cond (occupied b) false (starts_changed p bs)) h (header_bytes (header_of u b)) → Same (λ i. p b) d.body b.body
        → Same (reclaim_touches p run bs) t (render_from (units b) bs)
        → Same (reclaim_touches p false (b ∷ bs)) (render_from u (reclaim p f (b ∷ bs))) (render_from u (b ∷ bs))
    stays_put u run d h t e eight l r x y z =
        rw (e, render_cons u b bs) (block_same false b bs run h (header_bytes (header_of u b)) d.body b.body r eight l x y z)

    -- a vacated block
    stays_vacated : (u : ℕ) → p b ≡ true → Same (reclaim_touches p false (b ∷ bs)) (render_from u (reclaim p f (b ∷ bs))) (render_from u (b ∷ bs))
    stays_vacated u e =
        let r = ih.joins (f b) u (units b) (freed b) in
        let eb = was b e in
        let l : length (f b).body ≡ length b.body = long b in
        stays_put u true (f b) r.header r.tail (rw (reclaim_gone b bs e) r.now) r.eight l (rw (e, eb))
        (same_any (λ i. rw e) (r.eight ∙ sym (header_length (header_of u b)))) (same_any (λ i. e) l) r.same

    -- a block that is left as it is
    stays_same : (u : ℕ) → reclaim p f (b ∷ bs) ≡ b ∷ reclaim p f bs → cond (occupied b) (p b) false ≡ false
        → Same (reclaim_touches p false (b ∷ bs)) (render_from u (reclaim p f (b ∷ bs))) (render_from u (b ∷ bs))
    stays_same u e r =
        stays_put u false b (header_bytes (header_of u b)) (render_from (units b) (reclaim p f bs)) (rw e (render_cons u b (reclaim p f bs)))
        (header_length (header_of u b)) refl r
        (same_refl _ (header_bytes (header_of u b))) (same_refl _ b.body) (ih.stays (units b))

    -- a free block, whether or not a vacated one stands behind it
    stays_free : (u : ℕ) → p b ≡ false → occupied b ≡ false → starts_free bs ≡ false → (x : Bool) → starts_changed p bs ≡ x
        → Same (reclaim_touches p false (b ∷ bs)) (render_from u (reclaim p f (b ∷ bs))) (render_from u (b ∷ bs))
    stays_free u out eb apart true e =
        let r = ih.joins b u (units b) eb in
        stays_put u false b r.header r.tail (rw (reclaim_stays b bs out) r.now) r.eight refl (rw eb)
        (same_any (λ i. rw (out, eb, e)) (r.eight ∙ sym (header_length (header_of u b)))) (same_refl _ b.body)
        (same_wider (λ i l f. sym (run_either bs e i) ∙ f) r.same)
    stays_free u out eb apart false e =
        stays_same u (reclaim_stays b bs out ∙ join_apart b (reclaim p f bs) (rw (reclaim_starts bs e apart) (or-true (occupied b)))) (rw eb)

    -- both laws for a block more
    both_cons : free_apart (b ∷ bs) ≡ true → (x y : Bool) → p b ≡ x → occupied b ≡ y → Both (b ∷ bs)
    both_cons apart true y e eb =
        let l : length (f b).body ≡ length b.body = long b in
        let el = was b e in
        record {
          stays = λ u. stays_vacated u e;
          joins = λ v u w ev. joins_free (f b) v u w (reclaim_gone b bs e) (freed b) ev l (rw (e, el)) (λ i. rw e) (same_any (λ i. e) l);
        }
    both_cons apart false true e eb = record {
      stays = λ u. stays_same u (reclaim_live b bs e eb) (rw (e, eb));
      joins =
          λ v u w ev. joins_live v u w e eb ev;
    }
    both_cons apart false false e eb =
        record {
          stays = λ u. stays_free u e eb (not-true (starts_free bs) (rw eb at (apart_head b bs apart))) (starts_changed p bs) refl;
          joins = λ v u w ev. joins_free b v u w (reclaim_stays b bs e) eb ev refl (rw eb) (λ i. rw (e, eb)) (same_refl _ b.body);
        }

  -- and so for all blocks
  both : (bs : List Block) → free_apart bs ≡ true → Both bs
  unfolding reclaim join_free changed join_front render_from
  both [] a =
      record {
        stays = λ u. same_refl (reclaim_touches p false []) [];
        joins =
            λ v u w ev.
            record {
              header = header_bytes (header_of u v);
              tail = [];
              eight = header_length (header_of u v);
              now = refl;
              same = same_refl
                  (reclaim_touches p true []) [];
            };
      }
  both (b ∷ bs) a = both_cons b bs (both bs (apart_tail b bs a)) a (p b) (occupied b) refl refl

  -- every byte that settling does not touch stays
  pub reclaim_frame : (bs : List Block) → free_apart bs ≡ true → Same (reclaim_touches p false bs) (render (reclaim p f bs)) (render bs)
  unfolding render
  reclaim_frame bs a = (both bs a).stays 0

  -- settling touches no byte of the body of a block that stays
  body_untouched : (run : Bool) (xs : List Block) (b : Block) (ys : List Block) (i : ℕ) → p b ≡ false → 8 ≤ i → i < size b
      → reclaim_touches p run (xs ++ (b ∷ ys)) (total size xs + i) ≡ false
  unfolding total
  body_untouched run [] b ys i e l h =
      let k : 0 + i ≡ 8 + (i - 8) = omega arith in
      rw k (touched_body run b ys (i - 8) (omega arith) ∙ e)
  body_untouched run (x ∷ xs) b ys i e l h =
      let k : size x + total size xs + i ≡ size x + (total size xs + i) = omega arith in
      rw k (touched_behind run x (xs ++ (b ∷ ys)) (total size xs + i) ∙ body_untouched (cond (occupied x) (p x) run) xs b ys i e l h)

  -- so a byte of the body of a block that stays, free or held, never changes
  pub body_stays : (bs xs : List Block) (b : Block) (ys : List Block) → bs ≡ xs ++ (b ∷ ys) → free_apart bs ≡ true → p b ≡ false → (i : ℕ) → 8 ≤ i
      → i < size b
      → get_or (render (reclaim p f bs)) (total size xs + i) 0 ≡ get_or (render bs) (total size xs + i) 0
  body_stays bs xs b ys e a s i l h = (reclaim_frame bs a).same (total size xs + i) (rw e (body_untouched false xs b ys i s l h))

-- so with settling a plain heap
module _ (hs : List Hold) where
  pub settle_frame : (bs : List Block) → free_apart bs ≡ true → Same (settle_touches hs bs) (render (settle 0 hs bs)) (render bs)
  unfolding settle vacate
  settle_frame bs a =
      reclaim_frame (vacates hs) (vacate 0) (λ b e. live_occupied b (and_left (live b) (not (held hs b.serial)) e))
      (λ b. length-replicate (length b.body) 0) (λ b. refl) bs a
