-- Answers in another order add up to the same.
use native.Mathlib.Omega.{arith}
use mathlib.Core.Path.{◌≡◌, refl, ap, ◌∙◌}
use mathlib.Core.List.{List, Permᴰ}
use Rattle.lists.specs.Lists.{total}
use Rattle.cleanup.specs.Releases.{Answered}
use Rattle.cleanup.specs.FreeAll.{sum_of}
use Rattle.cleanup.proofs.Rows

pub permuted_sum : {xs ys : List Answered} → Permᴰ xs ys → sum_of xs ≡ sum_of ys
unfolding sum_of total
permuted_sum Permᴰ.nil = refl
permuted_sum (Permᴰ.cons e p) = omega (arith, ap (λ (a : Answered). a.values.amount) e, permuted_sum p)
permuted_sum (Permᴰ.swap e f) = omega (arith, ap (λ (a : Answered). a.values.amount) e, ap (λ (a : Answered). a.values.amount) f)
permuted_sum (Permᴰ.trans p q) = permuted_sum p ∙ permuted_sum q
