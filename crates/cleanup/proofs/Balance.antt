-- A good state is known by its blocks, its records, its last serial, its kind, and its quotas but for what remains of them.
-- What remains of a quota is its grant less its charges, and the charges follow from records and objects. So no sum of refunds has to be compared.
use mathlib.Core.Path.{◌≡◌, refl, ap, sym, ◌∙◌}
use Prim.Native.Nat.{ℕ, ◌<◌}
use native.Mathlib.Omega.{arith}
use mathlib.Core.List.{List, map}
use lib.ListN.{length, get_or, get_or-map}
use lib.Seq.{ext_get_or}
use Rattle.accounts.specs.declared.Quota.{Quota}
use Rattle.accounts.specs.declared.Accounts.{Accounts}
use Rattle.accounts.specs.Accounts.{zero_quota, with_remainder}
use Rattle.accounts.proofs.Laws.{same_quota, same_accounts, refund_but, refund_kept}
use Rattle.model.specs.Objects.{objects}
use Rattle.model.specs.Consistent.{charges}
use Rattle.model.specs.Space.{settle}
use Rattle.model.specs.Holds.{lower_count}
use Rattle.model.specs.Calls.{State, given_back, released}
use Rattle.model.specs.declared.Handle.{Handle}
use Rattle.model.proofs.Consistent.{balance_exactly}
use Rattle.invariant.proofs.Good.{Good}

-- the quotas without what remains of them
abbrev pub but_remainders : Accounts → List Quota
but_remainders k = map (with_remainder 0) k.quotas

-- two good states that have them, the records and the blocks in common
module _ (t u : State) (g : Good t) (h : Good u) (e : but_remainders t.accounts ≡ but_remainders u.accounts)
    (r : t.accounts.holds ≡ u.accounts.holds) (b : t.blocks ≡ u.blocks) where
  quota_of : (k : Accounts) (j : ℕ) → get_or (but_remainders k) j zero_quota ≡ with_remainder 0 (get_or k.quotas j zero_quota)
  quota_of k j = get_or-map (with_remainder 0) k.quotas j zero_quota

  same_but : (j : ℕ) → with_remainder 0 (get_or t.accounts.quotas j zero_quota) ≡ with_remainder 0 (get_or u.accounts.quotas j zero_quota)
  same_but j = sym (quota_of t.accounts j) ∙ ap (λ (l : List Quota). get_or l j zero_quota) e ∙ quota_of u.accounts j

  same_charges : (j : ℕ) → charges t.accounts.holds j (objects t.blocks) ≡ charges u.accounts.holds j (objects u.blocks)
  same_charges j = rw (r, b)

  same_remainder : (j : ℕ) → j < length t.accounts.quotas
      → (get_or t.accounts.quotas j zero_quota).remainder ≡ (get_or u.accounts.quotas j zero_quota).remainder
  same_remainder j l =
      omega (
        arith,
        (balance_exactly (objects t.blocks) t.accounts.holds t.accounts.quotas).0 g.tests.balance j l,
        (balance_exactly (objects u.blocks) u.accounts.holds u.accounts.quotas).0 h.tests.balance j (omega (arith, g.quotas, h.quotas)),
        ap (λ (x : Quota). x.grant) (same_but j),
        same_charges j,
      )

  same_quotas : t.accounts.quotas ≡ u.accounts.quotas
  same_quotas =
      ext_get_or zero_quota t.accounts.quotas u.accounts.quotas (g.quotas ∙ sym h.quotas)
      (λ j l. same_quota (get_or t.accounts.quotas j zero_quota) (get_or u.accounts.quotas j zero_quota) (same_but j) (same_remainder j l))

  -- are the same state, if they have the last serial, the kind and the edition in common too
  pub same_state : t.accounts.last_serial ≡ u.accounts.last_serial → t.accounts.kind ≡ u.accounts.kind
      → t.accounts.edition ≡ u.accounts.edition → t ≡ u
  same_state l n e = let a = same_accounts t.accounts u.accounts same_quotas l r n e in λ i. record { blocks = b i; accounts = a i }

-- what a release leaves: the records, the blocks, the quotas but for what remains, the last serial, the kind and the edition
module _ (q : ℕ) (o : Handle) (t : State) where
  pub released_holds : (released q o t).accounts.holds ≡ lower_count o.serial q t.accounts.holds
  unfolding released
  released_holds = refl

  pub released_blocks : (released q o t).blocks ≡ settle t.accounts.kind (lower_count o.serial q t.accounts.holds) t.blocks
  unfolding released
  released_blocks = refl

  pub released_but : but_remainders (released q o t).accounts ≡ but_remainders t.accounts
  unfolding released
  released_but = refund_but q (given_back q o t.accounts) t.accounts

  pub released_last : (released q o t).accounts.last_serial ≡ t.accounts.last_serial
  unfolding released
  released_last = (refund_kept q (given_back q o t.accounts) t.accounts).same_last

  pub released_kind : (released q o t).accounts.kind ≡ t.accounts.kind
  unfolding released
  released_kind = (refund_kept q (given_back q o t.accounts) t.accounts).same_kind

  pub released_edition : (released q o t).accounts.edition ≡ t.accounts.edition
  unfolding released
  released_edition = (refund_kept q (given_back q o t.accounts) t.accounts).same_edition
