-- The index as it is built, from place 0 up: a record without a serial needs no place in it; a used one is alone in its
-- slot, or hung into the tree of the record that was there.
use Rattle.std.proofs.Common.{◌≡◌, ℕ, ◌+◌, ◌-◌, ◌%◌, ◌<◌, ◌≤◌, List, length, get_or, set, replicate, sym, ap, ◌∙◌, subst, inl, inr, ⊎_elim, arith, length-set}
use Rattle.std.proofs.Common.{get_or-set_other, get_or-set_same}
use lib.ListN.{get_or-replicate, length-replicate}
use Rattle.lists.proofs.Bools.{by_eq}
use Rattle.accounts.specs.Accounts.{HOLDS}
use Rattle.words.specs.Words.{serial_in}
use Rattle.survey.specs.Index.{SLOTS, LINKS, END, FORKED, slot, bits_of, fork, Leads, here, head_of, Head, Reached, Growing, Built}
use Rattle.survey.specs.Clauses.{Hung}
use Rattle.survey.proofs.Paths.{fork_inside, fork_place, leads_kept}

pub built_none : (words : List ℕ) → Built words 0 (replicate SLOTS END) (replicate LINKS END)
built_none words =
    record {
      inside = omega arith;
      heads_long = length-replicate {A = ℕ} SLOTS END;
      growing = record {
        long = length-replicate {A = ℕ} LINKS END;
        flat = λ x l. omega (arith, get_or-replicate LINKS x END 0 l);
        rising = λ x l h. absurd (omega (arith, get_or-replicate LINKS x END 0 l));
      };
      headed = λ x l. inl (get_or-replicate SLOTS x END 0 l);
      reached = λ p l. absurd (omega arith);
    }

head_more : {i h : ℕ} → Head i h → Head (i + 1) h
head_more (inl e) = inl e
head_more (inr (inl l)) = inr (inl (omega arith))
head_more (inr (inr w)) = inr (inr (w.0, omega (arith, w.1)))

below_more : (P : ℕ → Type 0) (i : ℕ) → ((p : ℕ) → p < i → P p) → P i → (p : ℕ) → p < i + 1 → P p
below_more P i f one p l = by_eq i p (λ e. subst P e one) (λ e. f p (omega (arith, e)))

module _ {words heads links : List ℕ} {i : ℕ} (g : Built words i heads links) (l : i < HOLDS) where
  growing_more : Growing (i + 1) links
  growing_more =
      record {
        long = g.growing.long;
        flat = g.growing.flat;
        rising = λ x a b. (let r = g.growing.rising x a b in (r.0, omega (arith, r.1)));
      }

  -- a record without a serial
  pub built_skip : serial_in words i ≡ 0 → Built words (i + 1) heads links
  built_skip z =
      record {
        inside = omega arith;
        heads_long = g.heads_long;
        growing = growing_more;
        headed = λ x a. head_more (g.headed x a);
        reached = below_more (λ p. (serial_in words p ≡ 0 → ⊥) → Reached words heads links p) i g.reached (λ n. absurd (n z));
      }

  -- a used one, by what is in its slot
  module _ {k : ℕ} (at : k ≡ slot (serial_in words i)) (small : k < SLOTS) where
    -- another head leaves the other slots
    others : (v p : ℕ) → (slot (serial_in words p) ≡ k → ⊥) → head_of words (set heads k v) p ≡ head_of words heads p
    others v p n = get_or-set_other heads k (slot (serial_in words p)) v 0 n

    own : (v p : ℕ) → slot (serial_in words p) ≡ k → head_of words (set heads k v) p ≡ v
    own v p e = ap (λ (x : ℕ). get_or (set heads k v) x 0) e ∙ get_or-set_same heads k v 0 (omega (arith, g.heads_long))

    same_slot : (p : ℕ) → slot (serial_in words p) ≡ k → head_of words heads p ≡ get_or heads k 0
    same_slot p e = ap (λ (x : ℕ). get_or heads x 0) e

    heads_more : (v : ℕ) → Head (i + 1) v → (x : ℕ) → x < SLOTS → Head (i + 1) (get_or (set heads k v) x 0)
    heads_more v h x a =
        by_eq x k
        (λ e. subst (Head (i + 1)) (sym (ap (λ (y : ℕ). get_or (set heads k v) y 0) e ∙ get_or-set_same heads k v 0 (omega (arith, g.heads_long)))) h)
        (λ e. subst (Head (i + 1)) (sym (get_or-set_other heads k x v 0 e)) (head_more (g.headed x a)))

    -- no record is in an empty slot
    module _ (empty : get_or heads k 0 ≡ END) where
      nobody : (p : ℕ) → p < i → (serial_in words p ≡ 0 → ⊥) → slot (serial_in words p) ≡ k → ⊥
      nobody p a n e =
          let h = same_slot p e ∙ empty in
          ⊎_elim (λ q. omega arith) (λ w. omega (arith, w.0)) (g.reached p a n)

      pub built_alone : Built words (i + 1) (set heads k i) links
      built_alone =
          record {
            inside = omega arith;
            heads_long = length-set heads k i ∙ g.heads_long;
            growing = growing_more;
            headed = heads_more i (inr (inl (omega arith)));
            reached = below_more (λ p. (serial_in words p ≡ 0 → ⊥) → Reached words (set heads k i) links p) i
                (λ p a n. go p a n (g.reached p a n))
                (λ n. inl (own i i (sym at)));
          }
        where
          go : (p : ℕ) → p < i → (serial_in words p ≡ 0 → ⊥) → Reached words heads links p → Reached words (set heads k i) links p
          go p a n =
              let h = others i p (nobody p a n) in
              ⊎_elim
              (λ q. inl (h ∙ q))
              (λ w. inr (omega (arith, h, w.0), subst (λ (y : ℕ). Leads links (bits_of (serial_in words p)) (y - FORKED) p) (sym h) w.1))

    -- a record is hung below the one that is there
    module _ {root : ℕ} {links' : List ℕ} (h : Hung (bits_of (serial_in words i)) root i links links') where
      abbrev spot : ℕ
      spot = h.place + fork h.way

      spot_inside : spot < LINKS
      spot_inside = fork_inside h.place h.way (omega (arith, h.inside))

      growing_hung : Growing (i + 1) links'
      growing_hung =
          record {
            long = ap length h.put ∙ length-set links spot i ∙ g.growing.long;
            flat = λ x a. by_eq x spot (λ e. omega (arith, new x e)) (λ e. omega (arith, old x e, g.growing.flat x a));
            rising = λ x a b.
                by_eq x spot
                (λ e. (
                  omega (arith, new x e, ap (λ (y : ℕ). y % HOLDS) e, fork_place h.place h.way (omega (arith, h.inside)), h.inside),
                  omega (arith, new x e),
                ))
                (λ e.
                let r = g.growing.rising x a (omega (arith, old x e)) in
                (omega (arith, old x e, r.0), omega (arith, old x e, r.1)));
          }
        where
          new : (x : ℕ) → x ≡ spot → get_or links' x 0 ≡ i
          new x e =
              ap (λ (y : ℕ). get_or links' y 0) e ∙ ap (λ (t : List ℕ). get_or t spot 0) h.put
              ∙ get_or-set_same links spot i 0 (omega (arith, spot_inside, g.growing.long))

          old : (x : ℕ) → (x ≡ spot → ⊥) → get_or links' x 0 ≡ get_or links x 0
          old x e = ap (λ (t : List ℕ). get_or t x 0) h.put ∙ get_or-set_other links spot x i 0 e

      -- the paths of the records that are there
      paths : {b n p : ℕ} → p < HOLDS → Leads links b n p → Leads links' b n p
      paths {b} {n} {p} a r = subst (λ (t : List ℕ). Leads t b n p) (sym h.put) (leads_kept links spot i h.empty a r)

      -- below a record that was alone
      pub built_fork : root ≡ get_or heads k 0 → root < HOLDS → Built words (i + 1) (set heads k (FORKED + root)) links'
      built_fork e few =
          record {
            inside = omega arith;
            heads_long = length-set heads k (FORKED + root) ∙ g.heads_long;
            growing = growing_hung;
            headed = heads_more (FORKED + root) (inr (inr (omega arith, omega (arith, lone))));
            reached = below_more (λ p. (serial_in words p ≡ 0 → ⊥) → Reached words (set heads k (FORKED + root)) links' p) i
                (λ p a n. by_eq (slot (serial_in words p)) k (mine p a n) (theirs p a n))
                (λ n. let o = own (FORKED + root) i (sym at) in
                inr (omega (arith, o), subst (λ (y : ℕ). Leads links' (bits_of (serial_in words i)) y i) (omega (arith, o)) h.leads));
          }
        where
          lone : root < i
          lone = ⊎_elim (λ q. absurd (omega arith)) (⊎_elim (λ q. omega arith) (λ w. absurd (omega (arith, w.0)))) (g.headed k small)

          mine : (p : ℕ) → p < i → (serial_in words p ≡ 0 → ⊥) → slot (serial_in words p) ≡ k → Reached words (set heads k (FORKED + root)) links' p
          mine p a n q =
              let o = own (FORKED + root) p q in
              let same = same_slot p q in
              let z : root ≡ p = ⊎_elim (λ w. omega arith) (λ w. absurd (omega (arith, w.0))) (g.reached p a n) in
              inr (omega (arith, o), subst (λ (y : ℕ). Leads links' (bits_of (serial_in words p)) y p) (omega (arith, o, z)) here)

          theirs : (p : ℕ) → p < i → (serial_in words p ≡ 0 → ⊥) → (slot (serial_in words p) ≡ k → ⊥) → Reached words (set heads k (FORKED + root)) links' p
          theirs p a n q =
              let o = others (FORKED + root) p q in
              ⊎_elim
              (λ w. inl (o ∙ w))
              (λ w. inr (
                omega (arith, o, w.0),
                subst (λ (y : ℕ). Leads links' (bits_of (serial_in words p)) (y - FORKED) p) (sym o)
                    (paths (omega arith) w.1),
              ))
              (g.reached p a n)

      -- in a tree
      pub built_hung : root ≡ get_or heads k 0 - FORKED → FORKED ≤ get_or heads k 0 → Built words (i + 1) heads links'
      built_hung e big =
          record {
            inside = omega arith;
            heads_long = g.heads_long;
            growing = growing_hung;
            headed = λ x a. head_more (g.headed x a);
            reached = below_more (λ p. (serial_in words p ≡ 0 → ⊥) → Reached words heads links' p) i
                (λ p a n. ⊎_elim inl (λ w. inr (w.0, paths (omega arith) w.1)) (g.reached p a n))
                (λ n. let s = same_slot i (sym at) in
                inr (omega (arith, s, big), subst (λ (y : ℕ). Leads links' (bits_of (serial_in words i)) y i) (omega (arith, s, e)) h.leads));
          }
