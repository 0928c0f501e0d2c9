-- What a consistent state says of each quota: it has no more left than was granted (rule 5.8), and its permissions are such (rule 15.2).
use mathlib.Core.Path.{◌≡◌}
use mathlib.Core.List.{List, [], ◌∷◌, map}
use mathlib.Core.Bool.{Bool, true}
use Prim.Native.Nat.{ℕ, suc, ◌+◌, ◌≤◌}
use native.Mathlib.Omega.{arith}
use lib.Dec.{eqb}
use borrow.Author.Tests.{eqb-true}
use Rattle.rounding.specs.Rounding.{table}
use Rattle.accounts.specs.declared.Quota.{Quota}
use Rattle.accounts.specs.declared.Hold.{Hold}
use Rattle.accounts.specs.declared.Accounts.{Accounts}
use Rattle.accounts.specs.Accounts.{permissible}
use Rattle.model.specs.declared.Handle.{Handle}
use Rattle.lists.specs.Lists.{all}
use Rattle.model.specs.Objects.{blocks_of, objects}
use Rattle.model.specs.Consistent.{charges, balanced_from}
use Rattle.lists.proofs.Bools.{and_left, and_right}
use Rattle.model.proofs.Consistent.{balance_exactly, accounted_facts, consistent_accounted, consistent_permissible}
use Rattle.image_model.specs.Images.{own_consistent}
use Rattle.image_model.proofs.Items.{All, all_two}
use Rattle.image_model.proofs.Places.{QuotaConsistent}

solvent : (os : List Handle) (hs : List Hold) (q : ℕ) (qs : List Quota) → balanced_from os hs q qs ≡ true → All (λ (x : Quota). x.remainder ≤ x.grant) qs
unfolding balanced_from
solvent os hs q [] e = tt
solvent os hs q (x ∷ xs) e =
    let g = eqb-true x.grant (x.remainder + charges hs q os) (and_left (eqb x.grant (x.remainder + charges hs q os)) _ e) in
    (omega arith, solvent os hs (suc q) xs (and_right (eqb x.grant (x.remainder + charges hs q os)) _ e))

mapped_all : {A B : Type 0} (p : B → Bool) (g : A → B) (xs : List A) → all p (map g xs) ≡ true → All (λ (x : A). p (g x) ≡ true) xs
unfolding all
mapped_all p g [] e = tt
mapped_all p g (x ∷ xs) e = (and_left (p (g x)) (all p (map g xs)) e, mapped_all p g xs (and_right (p (g x)) (all p (map g xs)) e))

pub quotas_consistent : (s : List ℕ) (k : Accounts) → own_consistent s k ≡ true → All QuotaConsistent k.quotas
quotas_consistent s k e =
    let os = objects (blocks_of s) in
    let b = (balance_exactly os k.holds k.quotas).1 (accounted_facts s k (consistent_accounted (table k.edition) s k e)).balance in
    all_two (λ (q : Quota). q.remainder ≤ q.grant) (λ (q : Quota). permissible q.permissions ≡ true) k.quotas
    (solvent os k.holds 0 k.quotas b)
    (mapped_all permissible (λ (q : Quota). q.permissions) k.quotas (consistent_permissible (table k.edition) s k e))
