-- The settlement of one serial. Along its path: at each open record of the serial the key is struck and its quota pays;
-- what a link leaps over is of other serials. So at the path's end all keys of the serial are struck and paid for.
-- Where the serial's slot has one record, that one is all.
use Rattle.std.specs.Prelude.{Option, Some, None}
use Rattle.std.proofs.Common.{◌≡◌, ℕ, suc, ◌-◌, ◌/◌, ◌<◌, ◌≤◌, true, false, List, length, get_or, drop, set, sym, refl, ap, ◌∙◌, subst, inl, inr, arith}
use Rattle.std.proofs.Common.{length-set, get_or-set_other, get_or-set_same, drop-set-lt}
use lib.ListN.{get_or-replicate}
use Rattle.lists.proofs.Bools.{by_eq}
use Rattle.accounts.specs.Accounts.{QUOTAS, HOLDS}
use Rattle.audit.specs.Keys.{quota_of, for_serial, strike, struck, Payment, cannot_pay, pays, pay, unpaid}
use Rattle.audit.specs.Audit.{settled}
use Rattle.audit.specs.Clauses.{Paid, Settled}
use Rattle.audit.proofs.Striking.{zero_not, paid_cannot, short_cannot, can_pay, pay_skip, pay_end, pay_fails, pay_hit, strike_set, struck_set, strike_none}
use Rattle.survey.specs.Index.{step, Findable}
use Rattle.survey.proofs.Paths.{before_path, find_on, find_struck}

-- on the way: what is left to strike and to pay is what the keys from `at` on come to
pub record Settling (s c : ℕ) (trail keys₀ : List ℕ) (p₀ : Payment) (keys owed seen : List ℕ) (bits at : ℕ) : Type 0 where
  pub path : Findable keys trail bits at s
  pub paid : pay s c keys₀ (Some p₀) ≡ pay s c (drop at keys) (Some (record { seen = seen; owed = owed }))
  pub gone : strike s keys₀ ≡ strike s keys

-- the keys before the path are of other serials
from_path : {s bits at : ℕ} {keys trail : List ℕ} → Findable keys trail bits at s → (c : ℕ) (p : Option Payment) → pay s c keys p ≡ pay s c (drop at keys) p
from_path {s} {at = at} {keys} f c p =
    let i = f.inside in
    let l = f.long in
    pay_skip s c keys p at 0 at (omega arith) (omega arith) (λ x a b. before_path f x (omega arith) b)

module _ {s c : ℕ} {trail keys₀ : List ℕ} {p₀ : Payment} (live : s ≡ 0 → ⊥) where
  pub settling_start : {bits from : ℕ} → Findable keys₀ trail bits from s → Settling s c trail keys₀ p₀ keys₀ p₀.owed p₀.seen bits from
  settling_start f = record { path = f; paid = from_path f c (Some p₀); gone = refl }

  module _ {keys owed seen : List ℕ} {bits at : ℕ} (g : Settling s c trail keys₀ p₀ keys owed seen bits at) where
    -- at the end of the path no key is left, and all are paid for
    pub settling_none : HOLDS ≤ at → (strike s keys ≡ keys) × (struck s keys ≡ 0)
    settling_none h = let long = g.path.long in strike_none s live keys (λ x l. before_path g.path x (omega arith) (omega arith))

    pub settling_end : HOLDS ≤ at → length owed ≡ QUOTAS → Paid s c keys₀ p₀ true keys owed
    unfolding settled
    settling_end h few =
        let w = (settling_none h).0 in
        let e = g.paid ∙ pay_end s c keys (Some (record { seen = seen; owed = owed })) at (omega (arith, g.path.long)) in
        record { struck_all = sym (g.gone ∙ w); rest = rw (e, g.gone, w); owed_long = few }

    module _ (l : at < HOLDS) where
      -- a record of another serial, or a closed one
      pub settling_skip : for_serial s (get_or keys at 0) ≡ false → Settling s c trail keys₀ p₀ keys owed seen (bits / 2) (step trail bits at)
      settling_skip miss =
          let f = find_on g.path l miss in
          let u = g.path.up bits at l in
          let long = g.path.long in
          record {
            path = f;
            paid = g.paid ∙ pay_skip s c keys (Some (record { seen = seen; owed = owed })) (step trail bits at - at) at (step trail bits at) (omega arith)
                (omega arith)
                (λ x a b. before_path f x (omega arith) b);
            gone = g.gone;
          }

      module _ (hit : for_serial s (get_or keys at 0) ≡ true) where
        pub struck_less : struck s keys ≡ suc (struck s (set keys at 0))
        struck_less = struck_set s live keys at (omega (arith, g.path.long)) hit

        -- a quota that cannot pay: it has paid already, or it owes too little
        fails : cannot_pay c (quota_of (get_or keys at 0)) (record { seen = seen; owed = owed }) ≡ true → pay s c keys₀ (Some p₀) ≡ None
        fails t = g.paid ∙ pay_fails s c keys (record { seen = seen; owed = owed }) at (omega (arith, g.path.long)) hit t

        pub settling_paid : {q : ℕ} → q ≡ quota_of (get_or keys at 0) → (get_or seen q 0 ≡ 0 → ⊥) → pay s c keys₀ (Some p₀) ≡ None
        settling_paid e n = fails (paid_cannot c (quota_of (get_or keys at 0)) (record { seen = seen; owed = owed })
            (subst (λ (x : ℕ). get_or seen x 0 ≡ 0 → ⊥) e n))

        pub settling_short : {q : ℕ} → q ≡ quota_of (get_or keys at 0) → get_or owed q 0 < c → pay s c keys₀ (Some p₀) ≡ None
        settling_short e b =
            fails (short_cannot c (quota_of (get_or keys at 0)) (record { seen = seen; owed = owed }) (subst (λ (x : ℕ). get_or owed x 0 < c) e b))

        -- one that pays
        module _ (first : get_or seen (quota_of (get_or keys at 0)) 0 ≡ 0) (enough : c ≤ get_or owed (quota_of (get_or keys at 0)) 0) where
          unfoldable paid_up : Payment
          paid_up = pays c (quota_of (get_or keys at 0)) (record { seen = seen; owed = owed })

          settling_next : Settling s c trail keys₀ p₀ (set keys at 0) paid_up.owed paid_up.seen (bits / 2) (step trail bits at)
          unfolding paid_up
          settling_next =
              let f = find_struck g.path l (zero_not s live) in
              let u = g.path.up bits at l in
              let long = g.path.long in
              let long' = f.long in
              record {
                path = f;
                paid = g.paid
                    ∙ pay_hit s c keys (record { seen = seen; owed = owed }) at (omega arith) hit
                    (can_pay c (quota_of (get_or keys at 0)) (record { seen = seen; owed = owed }) first enough)
                    ∙ ap (λ (t : List ℕ). pay s c t (Some paid_up)) (sym (drop-set-lt (suc at) keys at 0 (omega arith)))
                    ∙ pay_skip s c (set keys at 0) (Some paid_up) (step trail bits at - suc at) (suc at) (step trail bits at) (omega arith) (omega arith)
                    (λ x a b. before_path f x (omega arith) b);
                gone = g.gone ∙ sym (strike_set s live keys at hit);
              }

        pub settling_more : {q : ℕ} → q ≡ quota_of (get_or keys at 0) → get_or seen q 0 ≡ 0 → c ≤ get_or owed q 0 → {y : ℕ} → y ≡ step trail bits at
            → {keys' owed' : List ℕ} → keys' ≡ set keys at 0 → owed' ≡ set owed q (get_or owed q 0 - c)
            → Settling s c trail keys₀ p₀ keys' owed' (set seen q 1) (bits / 2) y
        unfolding paid_up
        settling_more e first enough n k o = rw (n, k, o, e) (settling_next (subst (λ (x : ℕ). get_or seen x 0 ≡ 0) e first)
            (subst (λ (x : ℕ). c ≤ get_or owed x 0) e enough))

-- one key of the serial
module _ (s c : ℕ) (keys owed : List ℕ) (live : s ≡ 0 → ⊥) (long : length keys ≡ HOLDS) where
  -- none
  pub settled_none : (keys' owed' : List ℕ) → ((x : ℕ) → x < HOLDS → for_serial s (get_or keys x 0) ≡ false) → Settled s c keys owed false keys' owed'
  settled_none keys' owed' f = inl (strike_none s live keys (λ x l. f x (omega arith))).1

  module _ (h : ℕ) (l : h < HOLDS) (hit : for_serial s (get_or keys h 0) ≡ true)
      (others : (x : ℕ) → x < HOLDS → (x ≡ h → ⊥) → for_serial s (get_or keys x 0) ≡ false) where
    to_key : (p : Option Payment) → pay s c keys p ≡ pay s c (drop h keys) p
    to_key p = pay_skip s c keys p h 0 h (omega arith) (omega arith) (λ x a b. others x (omega arith) (λ e. omega arith))

    pub one_short : (keys' owed' : List ℕ) (q : ℕ) → q ≡ quota_of (get_or keys h 0) → get_or owed q 0 < c → Settled s c keys owed false keys' owed'
    one_short keys' owed' q e b =
        inr (to_key (Some (unpaid owed))
        ∙ pay_fails s c keys (unpaid owed) h (omega arith) hit
        (short_cannot c (quota_of (get_or keys h 0)) (unpaid owed) (subst (λ (x : ℕ). get_or owed x 0 < c) e b)))

    struck_alone : (strike s (set keys h 0) ≡ set keys h 0) × (struck s (set keys h 0) ≡ 0)
    struck_alone =
        strike_none s live (set keys h 0)
        (λ x b.
        by_eq x h
        (λ e. ap (λ (y : ℕ). for_serial s (get_or (set keys h 0) y 0)) e ∙ ap (for_serial s) (get_or-set_same keys h 0 0 (omega arith)) ∙ zero_not s live)
        (λ e. ap (for_serial s) (get_or-set_other keys h x 0 0 e) ∙ others x (omega (arith, length-set keys h 0)) e))

    paid_one : c ≤ get_or owed (quota_of (get_or keys h 0)) 0 → quota_of (get_or keys h 0) < QUOTAS
        → pay s c keys (Some (unpaid owed)) ≡ Some (pays c (quota_of (get_or keys h 0)) (unpaid owed))
    paid_one enough few =
        to_key (Some (unpaid owed))
        ∙ pay_hit s c keys (unpaid owed) h (omega arith) hit
        (can_pay c (quota_of (get_or keys h 0)) (unpaid owed) (get_or-replicate QUOTAS (quota_of (get_or keys h 0)) 0 0 few) enough)
        ∙ pay_skip s c keys (Some (pays c (quota_of (get_or keys h 0)) (unpaid owed))) (HOLDS - suc h) (suc h) HOLDS (omega arith) (omega arith)
        (λ x a b. others x b (λ e. omega arith))
        ∙ pay_end s c keys (Some (pays c (quota_of (get_or keys h 0)) (unpaid owed))) HOLDS (omega arith)

    pub one_paid : (keys' owed' : List ℕ) (q : ℕ) → q ≡ quota_of (get_or keys h 0) → q < QUOTAS → c ≤ get_or owed q 0 → length owed ≡ QUOTAS
        → keys' ≡ set keys h 0 → owed' ≡ set owed q (get_or owed q 0 - c) → Settled s c keys owed true keys' owed'
    unfolding settled
    one_paid keys' owed' q e few enough many k o =
        let w = struck_alone in
        let gone : strike s keys ≡ set keys h 0 = sym (strike_set s live keys h hit) ∙ w.0 in
        let p = paid_one (subst (λ (x : ℕ). c ≤ get_or owed x 0) e enough) (subst (λ (x : ℕ). x < QUOTAS) e few) in (
          λ z. omega (arith, struck_set s live keys h (omega arith) hit),
          record {
            struck_all = k ∙ sym gone;
            rest = rw (k, o, e, p, gone);
            owed_long = rw o (length-set owed q (get_or owed q 0 - c) ∙ many);
          },
        )
