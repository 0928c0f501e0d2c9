-- The settlement of a serial whose records are in a tree, step by step along its path.
use Rattle.std.proofs.Common.{◌≡◌, ℕ, ◌+◌, ◌-◌, ◌/◌, ◌<◌, ◌≤◌, Bool, true, false, ◌&&◌, eqb, ltb, List, length, get_or, set, replicate, sym, refl, ap, ◌∙◌}
use Rattle.std.proofs.Common.{subst, inl, inr, true≢false, arith, length-set, ltb-false, ltb-true, eq-eqb, eqb-true}
use mathlib.Core.Bool.{false≢true}
use Rattle.accounts.specs.Accounts.{QUOTAS, HOLDS}
use Rattle.lists.proofs.Bools.{and_left, and_right, by_test, by_eq}
use Rattle.audit.specs.Keys.{quota_of, for_serial, struck, unpaid}
use Rattle.audit.specs.Clauses.{Settled}
use Rattle.audit.proofs.Striking.{zero_not}
use Rattle.words.specs.Words.{serial_in, quota_in}
use Rattle.survey.specs.Index.{SLOTS, END, FORKED, CLOSED, slot, bits_of, inner, plain, step, Leads, Findable, head_of, open_in, keys_left}
use Rattle.survey.specs.Clauses.{Ready, Done}
use Rattle.survey.proofs.Paths.{slot_small}
use Rattle.survey.proofs.Plain.{inner_place, inner_end, plain_closed}
use Rattle.survey.proofs.Closing.{left_long, open_nowhere, open_alone, open_for, alone_for, alone_keys, alone_closed, key_open, tree_for, open_quota}
use Rattle.survey.proofs.Closing.{path_keys, path_closed, some_left}
use Rattle.survey.proofs.Settlement.{Settling, settling_start, settling_none, settling_end, settling_skip, struck_less, settling_paid, settling_short}
use Rattle.survey.proofs.Settlement.{settling_more, settled_none, one_short, one_paid}

-- a key of a serial that is not 0 is not 0
some_key : (s : ℕ) (keys : List ℕ) (p : ℕ) → (s ≡ 0 → ⊥) → for_serial s (get_or keys p 0) ≡ true → get_or keys p 0 ≡ 0 → ⊥
some_key s keys p live t z = true≢false (sym t ∙ ap (for_serial s) z ∙ zero_not s live)

module _ {words heads links owed : List ℕ} {left s : ℕ} (g : Ready words heads links owed left) (live : s ≡ 0 → ⊥) where
  -- the path leads to each open record of the serial
  pub findable : HOLDS ≤ get_or heads (slot s) 0 → {from : ℕ} → from ≤ HOLDS → (FORKED ≤ get_or heads (slot s) 0 → from ≡ get_or heads (slot s) 0 - FORKED)
      → Findable (keys_left words heads links) (plain links) (bits_of s) from s
  findable h {from} i e =
      record {
        inside = i;
        long = left_long words heads links;
        up = g.up;
        covers = λ p l t. (let w = key_open words heads links g.well s p live l t in go p l t w.0 w.1);
      }
    where
      go : (p : ℕ) → p < HOLDS → for_serial s (get_or (keys_left words heads links) p 0) ≡ true → open_in words heads links p ≡ true
          → serial_in words p ≡ s → Leads (plain links) (bits_of s) from p
      go p l t o q =
          let same : head_of words heads p ≡ get_or heads (slot s) 0 = ap (λ (x : ℕ). get_or heads (slot x) 0) q in
          by_test (ltb (head_of words heads p) FORKED)
          (λ b. absurd (true≢false (sym o ∙ open_nowhere words heads links p (omega arith) (ltb-true (head_of words heads p) FORKED b))))
          (λ b.
          let big = ltb-false (head_of words heads p) FORKED b in
          let r = g.linked p l (some_key s (keys_left words heads links) p live t) big in
          subst (λ (x : ℕ). Leads (plain links) (bits_of x) from p) q
          (subst (λ (x : ℕ). Leads (plain links) (bits_of (serial_in words p)) x p) (ap (λ (x : ℕ). x - FORKED) same ∙ sym (e (omega (arith, same, big)))) r))

pub record Going (words heads links₀ owed₀ : List ℕ) (s c : ℕ) (links owed : List ℕ) (left : ℕ) (seen : List ℕ) (found : Bool) (at bits : ℕ) : Type 0 where
  pub ready : Ready words heads links owed left
  pub settling : Settling s c (plain links₀) (keys_left words heads links₀) (unpaid owed₀) (keys_left words heads links) owed seen bits at
  pub same : plain links ≡ plain links₀
  pub tree : at < HOLDS → FORKED ≤ get_or heads (slot s) 0
  pub none_yet : found ≡ false → struck s (keys_left words heads links) ≡ struck s (keys_left words heads links₀)
  pub some_met : found ≡ true → struck s (keys_left words heads links) < struck s (keys_left words heads links₀)

fewer : {words heads links₀ owed₀ : List ℕ} {s c : ℕ} {links owed : List ℕ} {left : ℕ} {seen : List ℕ} {found : Bool} {at bits : ℕ}
    → Going words heads links₀ owed₀ s c links owed left seen found at bits → struck s (keys_left words heads links) ≤ struck s (keys_left words heads links₀)
fewer {found = found} g = by_test found (λ e. omega (arith, g.some_met e)) (λ e. omega (arith, g.none_yet e))

-- a place behind the table stands for the path's end
pub record Goes (words heads links₀ owed₀ : List ℕ) (s c : ℕ) (links owed : List ℕ) (left : ℕ) (seen : List ℕ) (found : Bool) (at bits : ℕ) : Type 0 where
  pub on : at < HOLDS → Going words heads links₀ owed₀ s c links owed left seen found at bits
  pub end : HOLDS ≤ at → Going words heads links₀ owed₀ s c links owed left seen found HOLDS bits

pub goes : {words heads links₀ owed₀ : List ℕ} {s c : ℕ} {links owed : List ℕ} {left : ℕ} {seen : List ℕ} {found : Bool} {at bits : ℕ}
    → Going words heads links₀ owed₀ s c links owed left seen found (inner at) bits → Goes words heads links₀ owed₀ s c links owed left seen found at bits
goes {words} {heads} {links₀} {owed₀} {s} {c} {links} {owed} {left} {seen} {found} {at} {bits} g =
    record {
      on = λ l. subst (λ (x : ℕ). Going words heads links₀ owed₀ s c links owed left seen found x bits) (inner_place at l) g;
      end = λ h. subst (λ (x : ℕ). Going words heads links₀ owed₀ s c links owed left seen found x bits) (inner_end at h) g;
    }

-- the next place is further up
pub inner_less : (at n : ℕ) → at < HOLDS → at < inner n → HOLDS - n < HOLDS - at
inner_less at n l h =
    by_test (ltb n HOLDS)
    (λ t. omega (arith, l, h, inner_place n (ltb-true n HOLDS t), ltb-true n HOLDS t))
    (λ t. omega (arith, l, ltb-false n HOLDS t))

module _ {words heads links owed : List ℕ} {left s c bits : ℕ} (g : Ready words heads links owed left) (live : s ≡ 0 → ⊥) (h : HOLDS ≤ get_or heads (slot s) 0)
    (b : bits ≡ bits_of s) where
  begun : {at : ℕ} → at ≤ HOLDS → (FORKED ≤ get_or heads (slot s) 0 → at ≡ get_or heads (slot s) 0 - FORKED) → (at < HOLDS → FORKED ≤ get_or heads (slot s) 0)
      → Going words heads links owed s c links owed left (replicate QUOTAS 0) false at bits
  begun {at} i e f =
      record {
        ready = g;
        settling = subst (λ (x : ℕ). Settling s c (plain links) (keys_left words heads links) (unpaid owed) (keys_left words heads links) owed
            (replicate QUOTAS 0) x at) (sym b)
            (settling_start live (findable g live h i e));
        same = refl;
        tree = f;
        none_yet = λ q. refl;
        some_met = λ q. absurd (false≢true q);
      }

  pub going_start : {at : ℕ} → (FORKED ≤ get_or heads (slot s) 0 → at ≡ get_or heads (slot s) 0 - FORKED) → (get_or heads (slot s) 0 < FORKED → HOLDS ≤ at)
      → Goes words heads links owed s c links owed left (replicate QUOTAS 0) false at bits
  going_start {at} e n =
      by_test (ltb (get_or heads (slot s) 0) FORKED)
      (λ t.
      let u = ltb-true (get_or heads (slot s) 0) FORKED t in
      record { on = λ l. absurd (omega (arith, n u, l)); end = λ l. begun (omega arith) (λ f. absurd (omega (arith, f, u))) (λ f. absurd (omega (arith, f))) })
      (λ t.
      let u = ltb-false (get_or heads (slot s) 0) FORKED t in
      let few : at < HOLDS = omega (arith, e u, g.heads_inside (slot s) (slot_small s)) in
      record { on = λ l. begun (omega arith) e (λ f. u); end = λ l. absurd (omega (arith, few, l)) })

module _ {words heads links₀ owed₀ : List ℕ} {s c : ℕ} {links owed : List ℕ} {left : ℕ} {seen : List ℕ} {found : Bool} {at bits : ℕ}
    (g : Going words heads links₀ owed₀ s c links owed left seen found at bits) (live : s ≡ 0 → ⊥) where
  -- at the end of the path
  pub going_end : HOLDS ≤ at → Done s c words heads links₀ owed₀ found heads links owed left
  going_end h = (by found refl, λ e. g.ready)
    where
      by : (t : Bool) → found ≡ t → Settled s c (keys_left words heads links₀) owed₀ found (keys_left words heads links) owed
      by true e =
          subst (λ (t : Bool). Settled s c (keys_left words heads links₀) owed₀ t (keys_left words heads links) owed) (sym e)
          ((λ z. omega (arith, g.some_met e)), settling_end live g.settling h g.ready.owed_long)
      by false e =
          subst (λ (t : Bool). Settled s c (keys_left words heads links₀) owed₀ t (keys_left words heads links) owed) (sym e)
          (inl (sym (g.none_yet e) ∙ (settling_none live g.settling h).1))

  module _ (l : at < HOLDS) {r : Bool} (tested : r ≡ (eqb (serial_in words at) s && ltb (get_or links at 0) CLOSED)) where
    pub is_for : for_serial s (get_or (keys_left words heads links) at 0) ≡ r
    is_for = tree_for words heads links g.ready.well s at live l (g.tree l) ∙ sym tested

    pub going_skip : r ≡ false → {y : ℕ} → y ≡ step (plain links) bits at → Going words heads links₀ owed₀ s c links owed left seen found y (bits / 2)
    going_skip e n =
        record {
          ready = g.ready;
          settling = rw (n ∙ ap (λ (t : List ℕ). step t bits at) g.same) (settling_skip live g.settling l (is_for ∙ e));
          same = g.same;
          tree = λ b. g.tree l;
          none_yet = g.none_yet;
          some_met = g.some_met;
        }

    module _ (e : r ≡ true) where
      both : (eqb (serial_in words at) s && ltb (get_or links at 0) CLOSED) ≡ true
      both = sym tested ∙ e

      own : serial_in words at ≡ s
      own = eqb-true (serial_in words at) s (and_left (eqb (serial_in words at) s) (ltb (get_or links at 0) CLOSED) both)

      pub unflagged : get_or links at 0 < CLOSED
      unflagged = ltb-true (get_or links at 0) CLOSED (and_right (eqb (serial_in words at) s) (ltb (get_or links at 0) CLOSED) both)

      forked : FORKED ≤ head_of words heads at
      forked = subst (λ (x : ℕ). FORKED ≤ get_or heads (slot x) 0) (sym own) (g.tree l)

      there : get_or (keys_left words heads links) at 0 ≡ 0 → ⊥
      there = some_key s (keys_left words heads links) at live (is_for ∙ e)

      pub one_left : 1 ≤ left
      one_left = some_left g.ready at l there

      pub its_quota : {q : ℕ} → q ≡ quota_in words at → q ≡ quota_of (get_or (keys_left words heads links) at 0)
      its_quota z =
          let o = key_open words heads links g.ready.well s at live l (is_for ∙ e) in
          z ∙ sym (open_quota words heads links g.ready.well at l o.0)

      pub going_paid : (links' owed' : List ℕ) (left' : ℕ) {q : ℕ} → q ≡ quota_in words at → (get_or seen q 0 ≡ 0 → ⊥)
          → Done s c words heads links₀ owed₀ false heads links' owed' left'
      going_paid links' owed' left' z n = (inr (settling_paid live g.settling l (is_for ∙ e) (its_quota z) n), λ x. absurd (false≢true x))

      pub going_short : (links' owed' : List ℕ) (left' : ℕ) {q : ℕ} → q ≡ quota_in words at → get_or owed q 0 < c
          → Done s c words heads links₀ owed₀ false heads links' owed' left'
      going_short links' owed' left' z n = (inr (settling_short live g.settling l (is_for ∙ e) (its_quota z) n), λ x. absurd (false≢true x))

      pub going_more : {q : ℕ} → q ≡ quota_in words at → get_or seen q 0 ≡ 0 → c ≤ get_or owed q 0 → {owed' : List ℕ} → owed' ≡ set owed q (get_or owed q 0 - c)
          → {links' : List ℕ} → links' ≡ set links at (get_or links at 0 + CLOSED) → {y : ℕ} → y ≡ step (plain links') bits at
          → Going words heads links₀ owed₀ s c links' owed' (left - 1) (set seen q 1) true y (bits / 2)
      going_more {q} z first enough {owed'} o {links'} k {y} n =
          let few : length owed' ≡ QUOTAS = ap length o ∙ length-set owed q (get_or owed q 0 - c) ∙ g.ready.owed_long in
          let plains : plain links' ≡ plain links = ap plain k ∙ plain_closed links at (omega (arith, g.ready.links_long)) in
          let keys' : keys_left words heads links' ≡ set (keys_left words heads links) at 0 =
          ap (keys_left words heads) k ∙ path_keys g.ready l forked there in
          let less = struck_less live g.settling l (is_for ∙ e) in
          let fall : struck s (keys_left words heads links') < struck s (keys_left words heads links₀) = omega (arith, ap (struck s) keys', fewer g) in
          record {
            ready = subst (λ (t : List ℕ). Ready words heads t owed' (left - 1)) (sym k) (path_closed g.ready l forked there few);
            settling = settling_more live g.settling l (is_for ∙ e) (its_quota z) first enough
                (n ∙ ap (λ (t : List ℕ). step t bits at) (plains ∙ g.same)) keys' o;
            same = plains ∙ g.same;
            tree = λ b. g.tree l;
            none_yet = λ x. absurd (true≢false x);
            some_met = λ x. fall;
          }

-- a serial whose slot has one record
module _ {words heads links owed : List ℕ} {left s : ℕ} (g : Ready words heads links owed left) (live : s ≡ 0 → ⊥) {k h : ℕ} (slots : k ≡ slot s)
    (small : k < SLOTS)
    (at : h ≡ get_or heads k 0) (l : h < HOLDS) where
  abbrev keys : List ℕ
  keys = keys_left words heads links

  here : get_or heads (slot s) 0 ≡ h
  here = ap (λ (x : ℕ). get_or heads x 0) (sym slots) ∙ sym at

  others : (x : ℕ) → x < HOLDS → (x ≡ h → ⊥) → for_serial s (get_or keys x 0) ≡ false
  others x b n = alone_for words heads links g.well s x live b (omega (arith, here)) (λ e. n (e ∙ here))

  -- of another serial
  pub alone_other : (c : ℕ) (heads' links' owed' : List ℕ) (left' : ℕ) → (serial_in words h ≡ s → ⊥)
      → Done s c words heads links owed false heads' links' owed' left'
  alone_other c heads' links' owed' left' n =
      (settled_none s c keys owed live (left_long words heads links) (keys_left words heads' links') owed' none, λ e. absurd (false≢true e))
    where
      none : (x : ℕ) → x < HOLDS → for_serial s (get_or keys x 0) ≡ false
      none x b =
          by_test (for_serial s (get_or keys x 0))
          (λ t.
          let w = key_open words heads links g.well s x live b t in
          by_eq x h (λ e. absurd (n (ap (serial_in words) (sym e) ∙ w.1))) (λ e. others x b e))
          (λ t. t)

  module _ (own : serial_in words h ≡ s) where
    head : head_of words heads h ≡ h
    head = ap (λ (x : ℕ). get_or heads (slot x) 0) own ∙ here

    opens : open_in words heads links h ≡ true
    opens = open_alone words heads links h (omega (arith, head)) ∙ eq-eqb (head_of words heads h) h head

    hit : for_serial s (get_or keys h 0) ≡ true
    hit = open_for words heads links g.well s h l opens ∙ eq-eqb (serial_in words h) s own

    has_key : get_or keys h 0 ≡ 0 → ⊥
    has_key = some_key s keys h live hit

    pub alone_left : 1 ≤ left
    alone_left = some_left g h l has_key

    quota_is : {q : ℕ} → q ≡ quota_in words h → q ≡ quota_of (get_or keys h 0)
    quota_is z = z ∙ sym (open_quota words heads links g.well h l opens)

    pub alone_short : (c : ℕ) (heads' links' owed' : List ℕ) (left' : ℕ) {q : ℕ} → q ≡ quota_in words h → get_or owed q 0 < c
        → Done s c words heads links owed false heads' links' owed' left'
    alone_short c heads' links' owed' left' {q} z b = (
      one_short s c keys owed live (left_long words heads links) h l hit others (keys_left words heads' links') owed' q (quota_is z) b,
      λ e.
          absurd (false≢true e),
    )

    pub alone_paid : (c : ℕ) {q : ℕ} → q ≡ quota_in words h → q < QUOTAS → c ≤ get_or owed q 0 → {owed' : List ℕ} → owed' ≡ set owed q (get_or owed q 0 - c)
        → Done s c words heads links owed true (set heads k END) links owed' (left - 1)
    alone_paid c {q} z few enough {owed'} o =
        let mine : slot (serial_in words h) ≡ k = ap slot own ∙ sym slots in (
          one_paid s c keys owed live (left_long words heads links) h l hit others (keys_left words (set heads k END) links) owed' q (quota_is z) few enough
              g.owed_long
              (alone_keys g small at l mine has_key) o,
          λ e. alone_closed g small at l mine has_key (ap length o ∙ length-set owed q (get_or owed q 0 - c) ∙ g.owed_long),
        )
