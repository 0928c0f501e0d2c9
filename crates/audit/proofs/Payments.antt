-- The payment for one object, over records: it succeeds exactly if no quota has two records of the serial and each quota that has one owes the
-- charge at least; and then each of these owes so much less. By induction on the records.
use Rattle.std.specs.Prelude.{Some, None}
use Prim.Native.Nat.{ℕ, ◌+◌, ◌-◌, ◌<◌, ◌≤◌}
use mathlib.Core.Path.{◌≡◌, refl, ap, sym, subst, ◌∙◌}
use mathlib.Core.Bool.{Bool, true, false, not, cond, ◌&&◌, ◌||◌, true≢false, false≢true}
use mathlib.Core.List.{List, [], ◌∷◌}
use native.Mathlib.Omega.{arith}
use borrow.Author.Tests.{eq-eqb, ne_eqb, not-true}
use lib.Dec.{eqb}
use lib.ListN.{length, get_or, length-set}
use lib.Seq.{get_or-set_same, get_or-set_other}
use Rattle.std.proofs.lemmas.Option.{none-some}
use Rattle.accounts.specs.declared.Hold.{Hold}
use Rattle.accounts.specs.Accounts.{QUOTAS, is_for}
use Rattle.lists.specs.Lists.{all, any}
use Rattle.model.specs.Consistent.{is_of, has_record}
use Rattle.lists.proofs.Bools.{and_left, and_right, by_test, by_eq}
use Rattle.audit.specs.Keys.{well_formed, key_of, keys_of, quota_of, Payment, cannot_pay, pays, pay_one, pay}
use Rattle.audit.proofs.Records.{key_is_of, key_quota, well_quota}
use Rattle.audit.proofs.Striking.{pay_none, can_pay, pay_cannot}
use Rattle.audit.proofs.Struck.{once_for}

-- both tables have a number for each quota
abbrev Long : Payment → Type 0
Long p = (length p.seen ≡ QUOTAS) × (length p.owed ≡ QUOTAS)

-- what a payment says
pub record Settles (s c : ℕ) (hs : List Hold) (p p' : Payment) : Type 0 where
  pub once : once_for s hs ≡ true
  pub sum : (q : ℕ) → q < QUOTAS → get_or p.owed q 0 ≡ get_or p'.owed q 0 + cond (has_record hs q s) c 0
  pub unseen : (q : ℕ) → q < QUOTAS → has_record hs q s ≡ true → get_or p.seen q 0 ≡ 0
  pub long : length p'.owed ≡ QUOTAS

-- what it asks
abbrev pub Can : ℕ → ℕ → List Hold → Payment → Type 0
Can s c hs p = (q : ℕ) → q < QUOTAS → has_record hs q s ≡ true → (get_or p.seen q 0 ≡ 0) × (c ≤ get_or p.owed q 0)

has_more : (h : Hold) (hs : List Hold) (q s : ℕ) → has_record (h ∷ hs) q s ≡ ((is_of s h && eqb h.quota q) || has_record hs q s)
unfolding has_record any is_for is_of
has_more h hs q s = refl

module _ (s c : ℕ) (live : s ≡ 0 → ⊥) where
  -- one record
  module _ (h : Hold) (hs : List Hold) (w : well_formed h ≡ true) (p : Payment) where
    pay_other : is_of s h ≡ false → pay s c (keys_of (h ∷ hs)) (Some p) ≡ pay s c (keys_of hs) (Some p)
    unfolding pay
    pay_other e = ap (λ (t : Bool). pay s c (keys_of hs) (cond t (pay_one c (quota_of (key_of h)) (Some p)) (Some p))) (key_is_of h w s live ∙ e)

    pay_own : is_of s h ≡ true → pay s c (keys_of (h ∷ hs)) (Some p) ≡ pay s c (keys_of hs) (cond (cannot_pay c h.quota p) None (Some (pays c h.quota p)))
    unfolding pay pay_one
    pay_own e =
        ap (λ (t : Bool). pay s c (keys_of hs) (cond t (pay_one c (quota_of (key_of h)) (Some p)) (Some p))) (key_is_of h w s live ∙ e)
        ∙ ap (λ (x : ℕ). pay s c (keys_of hs) (pay_one c x (Some p))) (key_quota h.serial h.quota (well_quota h w))

    settles_other : (p' : Payment) → is_of s h ≡ false → Settles s c hs p p' → Settles s c (h ∷ hs) p p'
    unfolding once_for
    settles_other p' e f =
        record {
          once = rw e f.once;
          sum = λ q l. rw (has_more h hs q s, e) (f.sum q l);
          unseen = λ q l t. f.unseen q l (rw (has_more h hs q s, e) at t);
          long = f.long;
        }

    settles_own : (p' : Payment) → Long p → is_of s h ≡ true → cannot_pay c h.quota p ≡ false → Settles s c hs (pays c h.quota p) p'
        → Settles s c (h ∷ hs) p p'
    unfolding once_for
    settles_own p' long e can f =
        let below : h.quota < QUOTAS = well_quota h w in
        let ask = pay_cannot c h.quota p can in
        let alone : has_record hs h.quota s ≡ false =
        by_test (has_record hs h.quota s)
        (λ t. let u = f.unseen h.quota below t in let v = get_or-set_same p.seen h.quota 1 0 (omega (arith, long.0)) in absurd (omega arith))
        (λ t. t) in
        record {
          once = rw (e, alone) f.once;
          sum = λ q l.
              rw (has_more h hs q s, e)
              (by_eq h.quota q
              (λ x.
              let a : get_or (pays c h.quota p).owed q 0 ≡ get_or p'.owed q 0 + 0 = rw (subst (λ (y : ℕ). has_record hs y s ≡ false) x alone) at
              (f.sum q l) in
              let b = subst (λ (y : ℕ). get_or (pays c h.quota p).owed y 0 ≡ get_or p.owed h.quota 0 - c) x
              (get_or-set_same p.owed h.quota (get_or p.owed h.quota 0 - c) 0 (omega (arith, long.1))) in
              let o : get_or p.owed h.quota 0 ≡ get_or p.owed q 0 = ap (λ (y : ℕ). get_or p.owed y 0) x in
              rw (eq-eqb h.quota q x) (omega (arith, ask.1)))
              (λ n. rw (ne_eqb h.quota q n)
              (sym (get_or-set_other p.owed h.quota q (get_or p.owed h.quota 0 - c) 0 (λ x. n (sym x))) ∙ f.sum q l)));
          unseen = λ q l t.
              by_eq h.quota q
              (λ x. subst (λ (y : ℕ). get_or p.seen y 0 ≡ 0) x ask.0)
              (λ n. sym (get_or-set_other p.seen h.quota q 1 0 (λ x. n (sym x))) ∙ f.unseen q l (rw (has_more h hs q s, e, ne_eqb h.quota q n) at t));
          long = f.long;
        }

    pays_long : Long p → Long (pays c h.quota p)
    pays_long l = (simp length-set l.0, simp length-set l.1)

  -- what a payment that succeeds says
  pub pay_settles : (hs : List Hold) → all well_formed hs ≡ true → (p p' : Payment) → Long p → pay s c (keys_of hs) (Some p) ≡ Some p' → Settles s c hs p p'
  unfolding pay once_for all has_record any
  pay_settles [] w p p' long e =
      let x : p ≡ p' = cc in
      record {
        once = refl;
        sum = λ q l. (let y = ap (λ (z : Payment). get_or z.owed q 0) x in omega arith);
        unseen = λ q l t. absurd (false≢true t);
        long = ap (λ (z : Payment). length z.owed) (sym x) ∙ long.1;
      }
  pay_settles (h ∷ hs) w p p' long e =
      let v = and_left (well_formed h) (all well_formed hs) w in
      let vs = and_right (well_formed h) (all well_formed hs) w in
      by_test (is_of s h)
      (λ t.
      by_test (cannot_pay c h.quota p)
      (λ u. absurd (none-some p' (sym (pay_none s c (keys_of hs)) ∙ (rw u at (sym (pay_own h hs v p t) ∙ e)))))
      (λ u. settles_own h hs v p p' long t u (pay_settles hs vs (pays c h.quota p) p' (pays_long h hs v p long) (rw u at (sym (pay_own h hs v p t) ∙ e)))))
      (λ t. settles_other h hs v p p' t (pay_settles hs vs p p' long (sym (pay_other h hs v p t) ∙ e)))

  -- and a payment that can succeed does
  pub can_settle : (hs : List Hold) → all well_formed hs ≡ true → (p : Payment) → once_for s hs ≡ true → Can s c hs p
      → (p' : Payment) × (pay s c (keys_of hs) (Some p) ≡ Some p')
  unfolding pay once_for all
  can_settle [] w p o f = (p, refl)
  can_settle (h ∷ hs) w p o f =
      let v = and_left (well_formed h) (all well_formed hs) w in
      let vs = and_right (well_formed h) (all well_formed hs) w in
      let o' = and_right (not (is_of s h) || not (has_record hs h.quota s)) (once_for s hs) o in
      by_test (is_of s h)
      (λ t.
      let alone : has_record hs h.quota s ≡ false =
      not-true (has_record hs h.quota s) (and_left (not (has_record hs h.quota s)) (once_for s hs) (rw t at o)) in
      let here = f h.quota (well_quota h v) (rw (has_more h hs h.quota s, t, eq-eqb h.quota h.quota refl)) in
      let r =
      can_settle hs vs (pays c h.quota p) o'
      (λ q l e.
      by_eq h.quota q
      (λ x. absurd (true≢false (sym e ∙ subst (λ (y : ℕ). has_record hs y s ≡ false) x alone)))
      (λ n.
      let g = f q l (rw (has_more h hs q s, t, ne_eqb h.quota q n) e) in (
        get_or-set_other p.seen h.quota q 1 0 (λ x. n (sym x)) ∙ g.0,
        subst (λ (y : ℕ). c ≤ y) (sym (get_or-set_other p.owed h.quota q (get_or p.owed h.quota 0 - c) 0 (λ x. n (sym x)))) g.1,
      ))) in
      (r.0, pay_own h hs v p t ∙ rw (can_pay c h.quota p here.0 here.1) r.1))
      (λ t.
      let r = can_settle hs vs p o' (λ q l e. f q l (rw (has_more h hs q s, t) e)) in
      (r.0, pay_other h hs v p t ∙ r.1))
