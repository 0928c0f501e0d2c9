-- The records of a quota become unused one after the other.
use Prim.Native.Nat.{ℕ, ◌+◌, ◌≤◌, ◌<◌}
use mathlib.Core.Path.{◌≡◌, refl, ap, sym, ◌∙◌}
use mathlib.Core.List.{List}
use mathlib.Core.Bool.{Bool, true, false, cond}
use native.Mathlib.Omega.{arith}
use lib.ListN.{length, get_or, set, length-set}
use lib.Seq.{get_or-set_other, set-get_or}
use Rattle.accounts.specs.declared.Accounts.{Accounts}
use Rattle.accounts.specs.declared.Hold.{Hold}
use Rattle.accounts.specs.Accounts.{zero_hold, with_holds, used, record_of, dropped, drop_records, hold_at, put_hold, drop_hold}
use Rattle.accounts.proofs.Laws.{mapped_more, mapped_all}
use Rattle.words.specs.Emptying.{drop_at}

-- a record is dropped or stored as it is
drop_at_is : (i q : ℕ) (k : Accounts) → drop_at i q k ≡ with_holds (set k.holds i (dropped q (hold_at i k))) k
unfolding drop_at hold_at drop_hold put_hold
drop_at_is i q k = go (record_of q (hold_at i k))
  where
    stored : with_holds (set k.holds i (hold_at i k)) k ≡ k
    stored = ap (λ (hs : List Hold). with_holds hs k) (set-get_or k.holds i zero_hold)

    go : (t : Bool) → cond t (drop_hold i k) k ≡ with_holds (set k.holds i (cond t zero_hold (hold_at i k))) k
    go true = refl
    go false = sym stored

-- r is k with the quota's records before place i dropped
pub record Dropping (q i : ℕ) (k r : Accounts) : Type 0 where
  pub same_quotas : r.quotas ≡ k.quotas
  pub same_last : r.last_serial ≡ k.last_serial
  pub same_kind : r.kind ≡ k.kind
  pub same_edition : r.edition ≡ k.edition
  pub long : length r.holds ≡ length k.holds
  pub done : (j : ℕ) → j < i → get_or r.holds j zero_hold ≡ dropped q (get_or k.holds j zero_hold)
  pub todo : (j : ℕ) → i ≤ j → get_or r.holds j zero_hold ≡ get_or k.holds j zero_hold

zero_dropped : (q : ℕ) → dropped q zero_hold ≡ zero_hold
unfolding used
zero_dropped q = refl

module _ (q : ℕ) (k : Accounts) where
  pub drops_none : Dropping q 0 k k
  drops_none =
      record {
        same_quotas = refl;
        same_last = refl;
        same_kind = refl;
        same_edition = refl;
        long = refl;
        done = λ j l. absurd
            (omega arith);
        todo = λ j l. refl;
      }

  module _ (i : ℕ) (r : Accounts) (d : Dropping q i k r) where
    pub drops_more : i < length k.holds → (t : Accounts) → t ≡ drop_at i q r → Dropping q (i + 1) k t
    unfolding hold_at
    drops_more l t e =
        let y = dropped q (get_or r.holds i zero_hold) in
        let w : t ≡ with_holds (set r.holds i y) r = e ∙ drop_at_is i q r in
        let hs : t.holds ≡ set r.holds i y = ap (λ (a : Accounts). a.holds) w in
        let here = ap (dropped q) (d.todo i (omega arith)) in
        record {
          same_quotas = ap (λ (a : Accounts). a.quotas) w ∙ d.same_quotas;
          same_last = ap (λ (a : Accounts). a.last_serial) w ∙ d.same_last;
          same_kind = ap (λ (a : Accounts). a.kind) w ∙ d.same_kind;
          same_edition = ap (λ (a : Accounts). a.edition) w ∙ d.same_edition;
          long = ap length hs ∙ length-set r.holds i y ∙ d.long;
          done = λ j b. ap (λ (x : List Hold). get_or x j zero_hold) hs
              ∙ mapped_more (dropped q) zero_hold zero_hold (zero_dropped q) k.holds r.holds i d.done (omega (arith, d.long)) y here j b;
          todo = λ j b. ap (λ (x : List Hold). get_or x j zero_hold) hs ∙ get_or-set_other r.holds i j y zero_hold (λ z. omega arith) ∙ d.todo j (omega arith);
        }

    pub drops_all : length k.holds ≤ i → r ≡ with_holds (drop_records q k.holds) k
    unfolding drop_records
    drops_all l =
        let hs = mapped_all (dropped q) zero_hold zero_hold (zero_dropped q) k.holds r.holds i d.done d.long (omega (arith, d.long)) in
        λ j. record { quotas = d.same_quotas j; last_serial = d.same_last j; holds = hs j; kind = d.same_kind j; edition = d.same_edition j }

-- the ways of one record
module _ (i q : ℕ) (k : Accounts) (h : Hold) (is : h ≡ hold_at i k) where
  pub drops_here : record_of q h ≡ true → drop_hold i k ≡ drop_at i q k
  unfolding drop_at
  drops_here e = rw (sym is, e)

  pub drops_not : record_of q h ≡ false → k ≡ drop_at i q k
  unfolding drop_at
  drops_not e = rw (sym is, e)
