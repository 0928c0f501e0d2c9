-- The three ends of a release: one hold of several, the last one of a quota, and the last one of all.
use Rattle.std.specs.Prelude.{Ok}
use Prim.Native.Nat.{ℕ, ◌+◌, ◌-◌, ◌≤◌, ◌<◌}
use mathlib.Core.Path.{◌≡◌, ap, sym, ◌∙◌}
use mathlib.Core.List.{List}
use mathlib.Core.Bool.{Bool, true, false}
use lib.ListN.{length}
use Rattle.accounts.specs.declared.Accounts.{Accounts}
use Rattle.accounts.specs.declared.Hold.{Hold}
use Rattle.accounts.specs.Accounts.{hold_at, put_hold, drop_hold, refund}
use Rattle.accounts.proofs.Laws.{refund_kept}
use Rattle.layout.specs.Bytes.{Octets}
use Rattle.lookup.specs.declared.Met.{Met}
use Rattle.lookup.specs.Walk.{object_met}
use Rattle.model.specs.Consistent.{held}
use Rattle.model.specs.Holds.{with_count}
use Rattle.writer.specs.Freeing.{Inside, vacate_in}
use Rattle.writer.proofs.Guards.{inside_test, vacates}
use Rattle.results.specs.Results.{AmountResult}
use Rattle.results.specs.Results.{amount_outcome}
use Rattle.results.proofs.Amounts.{gives}
use Rattle.holding.proofs.Cleared.{allowed_long}
use Rattle.allocation.specs.Asked.{Droppable}
use Rattle.allocation.specs.Releasing.{claim_dropped}
use Rattle.allocation.proofs.Released.{inside, fewer_claims, left_holds, still_held, no_longer_held}
use Rattle.allocation.proofs.Sharing.{held_otherwise}

-- the quota's record for the object of the block m stands at place i, and it is known whether another quota has one
module _ (s : List ℕ) (k : Accounts) (o : Octets s) (q : ℕ) (m : Met) (i : ℕ) (shared : Bool) (y : Droppable s k q m i shared) where
  pub drop_inside : Inside m s
  drop_inside =
      let h = y.holding in
      inside s k o h.checked.accounted h.handle m h.named (allowed_long (length s) h.checked.extent).1

  pub few_dropped : 1 < (hold_at i k).count → (k' : Accounts) → k' ≡ put_hold i (with_count ((hold_at i k).count - 1) (hold_at i k)) k → (r : AmountResult)
      → r ≡ record { accounts = k'; answer = Ok 0 } → amount_outcome s r ≡ claim_dropped s k q (object_met m)
  few_dropped l k' ke r re =
      let h = y.holding in
      gives s k' 0 r re ∙ (rw ke (fewer_claims s k o h.checked.accounted h.handle m h.named q i h.place l))

  module _ (l : (hold_at i k).count ≤ 1) (k₁ k₂ : Accounts) (e₁ : k₁ ≡ refund q (m.size - 8 + 8) k) (e₂ : k₂ ≡ drop_hold i k₁)
      (r : AmountResult) (re : r ≡ record { accounts = k₂; answer = Ok (m.size - 8 + 8) }) where
    left : k₂ ≡ drop_hold i (refund q (m.size - 8 + 8) k)
    left = e₂ ∙ ap (drop_hold i) e₁

    same_kind : k₂.kind ≡ k.kind
    unfolding drop_hold put_hold
    same_kind = ap (λ (a : Accounts). a.kind) left ∙ (refund_kept q (m.size - 8 + 8) k).same_kind

    held_is : held (drop_hold i (refund q (m.size - 8 + 8) k)).holds m.serial ≡ shared
    held_is =
        let h = y.holding in
        ap (λ (hs : List Hold). held hs m.serial) (left_holds s k o h.checked.accounted h.handle m h.named q i h.place (m.size - 8 + 8))
        ∙ held_otherwise s k h.checked.accounted m.serial q i h.place
        ∙ sym y.others

    pub held_dropped : shared ≡ true → amount_outcome s r ≡ claim_dropped s k q (object_met m)
    held_dropped e =
        let h = y.holding in
        gives s k₂ (m.size - 8 + 8) r re
        ∙ (rw left (still_held s k o h.checked.accounted h.handle m h.named q i h.place l (held_is ∙ e)))

    pub freed_dropped : shared ≡ false → (kind : ℕ) → kind ≡ k₂.kind → (s' : List ℕ) → s' ≡ vacate_in kind m s
        → amount_outcome s' r ≡ claim_dropped s k q (object_met m)
    freed_dropped e kind ke s' si =
        let h = y.holding in
        let se = si ∙ ap (λ (x : ℕ). vacate_in x m s) (ke ∙ same_kind) ∙ sym (vacates k.kind m s (inside_test m s drop_inside)).0 in
        gives s' k₂ (m.size - 8 + 8) r re
        ∙ (rw (se, left) (no_longer_held s k o h.checked.accounted h.handle m h.named q i h.place l (held_is ∙ e)))
