-- The keys of the open records: a record is closed by its slot where it is alone, or by the flag in its first link, and
-- its key is struck then.
use Rattle.std.proofs.Common.{◌≡◌, ℕ, suc, ◌+◌, ◌-◌, ◌<◌, ◌≤◌, true, false, cond, ◌&&◌, eqb, ltb, leb, List, length, get_or, set, sym, refl, ap, ◌∙◌, subst}
use Rattle.std.proofs.Common.{true≢false, arith, length-set, get_or-set_other, get_or-set_same, ext_get_or, le-ltb, lt-ltb, eq-eqb, ne_eqb, eqb-true, le-leb}
use borrow.Author.Tests.{lt-leb}
use Rattle.lists.proofs.Bools.{by_test, by_eq}
use Rattle.accounts.specs.Accounts.{QUOTAS, HOLDS, zero_hold}
use Rattle.lists.specs.Lists.{all}
use Rattle.audit.specs.Keys.{well_formed, key_of, quota_of, for_serial}
use Rattle.audit.proofs.Tables.{all_at}
use Rattle.audit.proofs.Records.{key_serial, key_quota, well_quota}
use Rattle.audit.proofs.Striking.{zero_not}
use Rattle.words.specs.Words.{serial_in, quota_in, hold_in, holds_of}
use Rattle.words.proofs.Words.{holds_long, holds_at, get_or_table, length_table}
use Rattle.survey.specs.Index.{SLOTS, END, FORKED, CLOSED, slot, bits_of, plain, Leads, Ascends, head_of, open_in}
use Rattle.survey.specs.Index.{key_left, keys_left, waiting}
use Rattle.survey.specs.Clauses.{Ready}
use Rattle.survey.proofs.Waiting.{waiting_struck}
use Rattle.survey.proofs.Plain.{plain_closed}

module _ (words heads links : List ℕ) where
  pub left_long : length (keys_left words heads links) ≡ HOLDS
  unfolding keys_left
  left_long = length_table HOLDS (key_left words heads links) 0

  left_at : (p : ℕ) → p < HOLDS → get_or (keys_left words heads links) p 0 ≡ key_left words heads links p
  unfolding keys_left
  left_at p l = get_or_table HOLDS (key_left words heads links) p 0 l

  pub open_key : (p : ℕ) → p < HOLDS → open_in words heads links p ≡ true → get_or (keys_left words heads links) p 0 ≡ key_of (hold_in words p)
  unfolding key_left
  open_key p l e = left_at p l ∙ rw e

  pub closed_key : (p : ℕ) → p < HOLDS → open_in words heads links p ≡ false → get_or (keys_left words heads links) p 0 ≡ 0
  unfolding key_left
  closed_key p l e = left_at p l ∙ rw e

  -- open by the slot, or by the flag
  pub open_alone : (p : ℕ) → head_of words heads p < HOLDS → open_in words heads links p ≡ eqb (head_of words heads p) p
  unfolding open_in
  open_alone p l = rw (lt-ltb (head_of words heads p) HOLDS l)

  pub open_forked : (p : ℕ) → FORKED ≤ head_of words heads p → open_in words heads links p ≡ ltb (get_or links p 0) CLOSED
  unfolding open_in
  open_forked p l = rw (le-ltb (head_of words heads p) HOLDS (omega arith), le-leb FORKED (head_of words heads p) l)

  pub open_nowhere : (p : ℕ) → HOLDS ≤ head_of words heads p → head_of words heads p < FORKED → open_in words heads links p ≡ false
  unfolding open_in
  open_nowhere p l h = rw (le-ltb (head_of words heads p) HOLDS l, lt-leb FORKED (head_of words heads p) h)

  module _ (well : all well_formed (holds_of words) ≡ true) where
    pub well_at : (p : ℕ) → p < HOLDS → well_formed (hold_in words p) ≡ true
    well_at p l = ap well_formed (sym (holds_at words p l)) ∙ all_at well_formed zero_hold (holds_of words) well p (omega (arith, holds_long words))

    pub quota_small : (p : ℕ) → p < HOLDS → quota_in words p < QUOTAS
    quota_small p l = well_quota (hold_in words p) (well_at p l)

    -- the serial and the quota of an open record's key
    pub open_for : (s p : ℕ) → p < HOLDS → open_in words heads links p ≡ true
        → for_serial s (get_or (keys_left words heads links) p 0) ≡ eqb (serial_in words p) s
    open_for s p l e = ap (for_serial s) (open_key p l e) ∙ ap (λ (x : ℕ). eqb x s) (key_serial (serial_in words p) (quota_in words p) (quota_small p l))

    pub closed_for : (s p : ℕ) → (s ≡ 0 → ⊥) → p < HOLDS → open_in words heads links p ≡ false → for_serial s (get_or (keys_left words heads links) p 0) ≡ false
    closed_for s p live l e = ap (for_serial s) (closed_key p l e) ∙ zero_not s live

    pub open_quota : (p : ℕ) → p < HOLDS → open_in words heads links p ≡ true → quota_of (get_or (keys_left words heads links) p 0) ≡ quota_in words p
    open_quota p l e = ap quota_of (open_key p l e) ∙ key_quota (serial_in words p) (quota_in words p) (quota_small p l)

    -- a key that is there is an open record's
    pub key_open : (s p : ℕ) → (s ≡ 0 → ⊥) → p < HOLDS → for_serial s (get_or (keys_left words heads links) p 0) ≡ true → (open_in words heads links p ≡ true)
        × (serial_in words p ≡ s)
    key_open s p live l e =
        by_test (open_in words heads links p)
        (λ t. (t, eqb-true (serial_in words p) s (sym (open_for s p l t) ∙ e)))
        (λ t. absurd (true≢false (sym e ∙ closed_for s p live l t)))

    -- in a tree, the record says it
    pub tree_for : (s p : ℕ) → (s ≡ 0 → ⊥) → p < HOLDS → FORKED ≤ get_or heads (slot s) 0
        → for_serial s (get_or (keys_left words heads links) p 0) ≡ (eqb (serial_in words p) s && ltb (get_or links p 0) CLOSED)
    tree_for s p live l h =
        by_eq (serial_in words p) s
        (λ e.
        let f : FORKED ≤ head_of words heads p = subst (λ (x : ℕ). FORKED ≤ get_or heads (slot x) 0) (sym e) h in
        let o = open_forked p f in
        rw (eq-eqb (serial_in words p) s e)
        (by_test (ltb (get_or links p 0) CLOSED)
        (λ t. open_for s p l (o ∙ t) ∙ eq-eqb (serial_in words p) s e ∙ sym t)
        (λ t. closed_for s p live l (o ∙ t) ∙ sym t)))
        (λ n.
        rw (ne_eqb (serial_in words p) s n)
        (by_test (open_in words heads links p) (λ t. open_for s p l t ∙ ne_eqb (serial_in words p) s n) (λ t. closed_for s p live l t)))

    -- where the slot has one record, only that; where it has none, none
    pub alone_for : (s p : ℕ) → (s ≡ 0 → ⊥) → p < HOLDS → get_or heads (slot s) 0 < HOLDS → (p ≡ get_or heads (slot s) 0 → ⊥)
        → for_serial s (get_or (keys_left words heads links) p 0) ≡ false
    alone_for s p live l h n =
        by_test (for_serial s (get_or (keys_left words heads links) p 0))
        (λ t.
        let w = key_open s p live l t in
        let f : head_of words heads p ≡ get_or heads (slot s) 0 = ap (λ (x : ℕ). get_or heads (slot x) 0) w.1 in
        absurd (n (sym (eqb-true (head_of words heads p) p (sym (open_alone p (omega arith)) ∙ w.0)) ∙ f)))
        (λ t. t)

-- the same keys, but for one that is struck
struck_keys : (words heads links heads' links' : List ℕ) (at : ℕ) → at < HOLDS → open_in words heads' links' at ≡ false
    → ((p : ℕ) → p < HOLDS → (p ≡ at → ⊥) → get_or (keys_left words heads' links') p 0 ≡ get_or (keys_left words heads links) p 0)
    → keys_left words heads' links' ≡ set (keys_left words heads links) at 0
struck_keys words heads links heads' links' at l closed same =
    let k = keys_left words heads links in
    let k' = keys_left words heads' links' in
    let long = left_long words heads links in
    let long' = left_long words heads' links' in
    ext_get_or 0 k' (set k at 0) (long' ∙ sym long ∙ sym (length-set k at 0))
    (λ p h.
    by_eq p at
    (λ e. ap (λ (x : ℕ). get_or k' x 0) e ∙ closed_key words heads' links' at l closed
    ∙ sym (ap (λ (x : ℕ). get_or (set k at 0) x 0) e ∙ get_or-set_same k at 0 0 (omega arith)))
    (λ e. same p (omega arith) e ∙ sym (get_or-set_other k at p 0 0 e)))

same_key : (words heads links heads' links' : List ℕ) (p : ℕ) → p < HOLDS → open_in words heads' links' p ≡ open_in words heads links p
    → get_or (keys_left words heads' links') p 0 ≡ get_or (keys_left words heads links) p 0
same_key words heads links heads' links' p l e =
    by_test (open_in words heads links p)
    (λ t. open_key words heads' links' p l (e ∙ t) ∙ sym (open_key words heads links p l t))
    (λ t. closed_key words heads' links' p l (e ∙ t) ∙ sym (closed_key words heads links p l t))

open_same : (words heads links heads' links' : List ℕ) (p : ℕ) → head_of words heads' p ≡ head_of words heads p → get_or links' p 0 ≡ get_or links p 0
    → open_in words heads' links' p ≡ open_in words heads links p
unfolding open_in
open_same words heads links heads' links' p a b = λ i. cond (ltb (a i) HOLDS) (eqb (a i) p) (leb FORKED (a i) && ltb (b i) CLOSED)

-- a key that is left was there
left_there : (keys : List ℕ) (at p : ℕ) → at < length keys → (get_or (set keys at 0) p 0 ≡ 0 → ⊥) → (get_or keys p 0 ≡ 0 → ⊥)
left_there keys at p l n e =
    by_eq p at
    (λ q. n (ap (λ (x : ℕ). get_or (set keys at 0) x 0) q ∙ get_or-set_same keys at 0 0 l))
    (λ q. n (get_or-set_other keys at p 0 0 q ∙ e))

module _ {words heads links owed : List ℕ} {left : ℕ} (g : Ready words heads links owed left) where
  abbrev keys : List ℕ
  keys = keys_left words heads links

  fewer : (at : ℕ) → at < HOLDS → (get_or keys at 0 ≡ 0 → ⊥) → left ≡ suc (waiting HOLDS (set keys at 0))
  fewer at l n = g.waits ∙ waiting_struck keys at (omega (arith, left_long words heads links)) n HOLDS l

  pub some_left : (at : ℕ) → at < HOLDS → (get_or keys at 0 ≡ 0 → ⊥) → 1 ≤ left
  some_left at l n = omega (arith, fewer at l n)

  -- a record of a tree is closed
  module _ {at : ℕ} (l : at < HOLDS) (forked : FORKED ≤ head_of words heads at) (some : get_or keys at 0 ≡ 0 → ⊥) where
    abbrev flagged : List ℕ
    flagged = set links at (get_or links at 0 + CLOSED)

    pub path_keys : keys_left words heads flagged ≡ set keys at 0
    path_keys =
        struck_keys words heads links heads flagged at l
        (open_forked words heads flagged at forked
        ∙ le-ltb (get_or flagged at 0) CLOSED (omega (arith, get_or-set_same links at (get_or links at 0 + CLOSED) 0 (omega (arith, g.links_long)))))
        (λ p h n. same_key words heads links heads flagged p h
        (open_same words heads links heads flagged p refl (get_or-set_other links at p (get_or links at 0 + CLOSED) 0 n)))

    pub path_closed : {owed' : List ℕ} → length owed' ≡ QUOTAS → Ready words heads flagged owed' (left - 1)
    path_closed few =
        let same = plain_closed links at (omega (arith, g.links_long)) in
        record {
          well = g.well;
          heads_long = g.heads_long;
          links_long = length-set links at (get_or links at 0 + CLOSED) ∙ g.links_long;
          owed_long = few;
          up = subst Ascends (sym same) g.up;
          linked = λ p h n f.
              subst (λ (t : List ℕ). Leads t (bits_of (serial_in words p)) (head_of words heads p - FORKED) p) (sym same)
              (g.linked p h (left_there keys at p (omega (arith, left_long words heads links)) (λ z. n (ap (λ (t : List ℕ). get_or t p 0) path_keys ∙ z))) f);
          heads_inside = g.heads_inside;
          waits = omega (arith, fewer at l some, ap (waiting HOLDS) path_keys);
        }

  -- a record that is alone in its slot
  module _ {k h : ℕ} (small : k < SLOTS) (at : h ≡ get_or heads k 0) (l : h < HOLDS) (own : slot (serial_in words h) ≡ k) (some : get_or keys h 0 ≡ 0 → ⊥) where
    abbrev emptied : List ℕ
    emptied = set heads k END

    mine : (p : ℕ) → slot (serial_in words p) ≡ k → head_of words emptied p ≡ END
    mine p e = ap (λ (x : ℕ). get_or emptied x 0) e ∙ get_or-set_same heads k END 0 (omega (arith, g.heads_long))

    theirs : (p : ℕ) → (slot (serial_in words p) ≡ k → ⊥) → head_of words emptied p ≡ head_of words heads p
    theirs p n = get_or-set_other heads k (slot (serial_in words p)) END 0 n

    gone : (p : ℕ) → slot (serial_in words p) ≡ k → open_in words emptied links p ≡ false
    gone p e = open_nowhere words emptied links p (omega (arith, mine p e)) (omega (arith, mine p e))

    pub alone_keys : keys_left words emptied links ≡ set keys h 0
    alone_keys =
        struck_keys words heads links emptied links h l (gone h own)
        (λ p b n.
        by_eq (slot (serial_in words p)) k
        (λ e.
        let f : head_of words heads p ≡ h = ap (λ (x : ℕ). get_or heads x 0) e ∙ sym at in
        closed_key words emptied links p b (gone p e)
        ∙ sym (closed_key words heads links p b (open_alone words heads links p (omega arith) ∙ ne_eqb (head_of words heads p) p (λ q. n (sym q ∙ f)))))
        (λ e. same_key words heads links emptied links p b (open_same words heads links emptied links p (theirs p e) refl)))

    pub alone_closed : {owed' : List ℕ} → length owed' ≡ QUOTAS → Ready words emptied links owed' (left - 1)
    alone_closed few =
        record {
          well = g.well;
          heads_long = length-set heads k END ∙ g.heads_long;
          links_long = g.links_long;
          owed_long = few;
          up = g.up;
          linked = λ p b n f.
              by_eq (slot (serial_in words p)) k
              (λ e. absurd (omega (arith, mine p e)))
              (λ e.
              let same = theirs p e in
              subst (λ (x : ℕ). Leads (plain links) (bits_of (serial_in words p)) (x - FORKED) p) (sym same)
              (g.linked p b (left_there keys h p (omega (arith, left_long words heads links))
              (λ z. n (ap (λ (t : List ℕ). get_or t p 0) alone_keys ∙ z))) (omega (arith, same))));
          heads_inside = λ x b.
              by_eq x k
              (λ e. let z = ap (λ (y : ℕ). get_or emptied y 0) e ∙ get_or-set_same heads k END 0 (omega (arith, g.heads_long)) in omega arith)
              (λ e. omega (arith, g.heads_inside x b, get_or-set_other heads k x END 0 e));
          waits = omega (arith, fewer h l some, ap (waiting HOLDS) alone_keys);
        }
