-- Free-all and releases (rules 19.7 and 19.8): a quota that releases one by one until it holds nothing leaves what free_all leaves.
use Rattle.std.specs.Prelude.{ℕ, ◌≡◌, Bool, true, false, replicate, eqb}
use mathlib.Core.List.{List, [], ◌∷◌, ◌++◌, Permᴰ}
use Rattle.accounts.specs.declared.Hold.{Hold}
use Rattle.accounts.specs.declared.Accounts.{Accounts}
use Rattle.accounts.specs.Accounts.{record_of}
use Rattle.rounding.specs.Rounding.{table}
use Rattle.lists.specs.Lists.{all, any, total}
use Rattle.model.specs.Objects.{objects_of}
use Rattle.model.specs.Holds.{count_of}
use Rattle.model.specs.Calls.{Outcome, free_all}
use Rattle.model.specs.declared.Handle.{Handle}
use Rattle.cleanup.specs.Releases.{Run, Drop, Answered, cleaned, accepted_throughout, Fits}

-- every release of the list is made for one quota
unfoldable pub all_for : ℕ → List Drop → Bool
all_for q ds = all (λ d. eqb d.quota q) ds

-- what the answers of a list add up to
unfoldable pub sum_of : List Answered → ℕ
sum_of answers = total (λ a. a.values.amount) answers

-- whatever performs a free_all on a heap and its accounts, for a quota
abbrev pub Freeing : Type 0
Freeing = List ℕ → Accounts → ℕ → Outcome

-- rules 19.7 and 23.4: free_all by the table of the edition in the accounts, as releases go
abbrev pub free_all_by : (ℕ → ℕ → ℕ) → Freeing
free_all_by tables s k q = free_all (tables k.edition) s k q

abbrev pub own_free_all : Freeing
own_free_all = free_all_by table

-- the list leaves what free_all leaves, and its answers add up to what free_all answers
pub record AsFreeAll (run : Run) (freeing : Freeing) (q : ℕ) (ds : List Drop) (s : List ℕ) (k : Accounts) : Type 0 where
  pub heap : (cleaned run ds s k).heap ≡ (freeing s k q).heap
  pub accounts : (cleaned run ds s k).accounts ≡ (freeing s k q).accounts
  pub amount : sum_of (cleaned run ds s k).answers ≡ (freeing s k q).values.amount

-- where free_all is accepted, so does every list of the quota's releases that is accepted throughout and leaves the quota no record
pub record FreeAllByReleases (run : Run) (freeing : Freeing) : Type 0 where
  pub always : (q : ℕ) (ds : List Drop) (s : List ℕ) (k : Accounts) → Fits s k → (freeing s k q).values.refusal ≡ 0 → all_for q ds ≡ true
      → accepted_throughout (cleaned run ds s k).answers ≡ true → any (record_of q) (cleaned run ds s k).accounts.holds ≡ false
      → AsFreeAll run freeing q ds s k

-- all releases of a quota: of each object, as many as it has holds on it
unfoldable pub releases_of : ℕ → List Hold → List Handle → List Drop
releases_of q hs [] = []
releases_of q hs (o ∷ os) = replicate (count_of o.serial q hs) (record { quota = q; handle = o }) ++ releases_of q hs os

-- where free_all is accepted these are accepted throughout, in every order, and leave what free_all leaves
pub record AllReleased (run : Run) (freeing : Freeing) : Type 0 where
  pub always : (q : ℕ) (s : List ℕ) (k : Accounts) → Fits s k → (freeing s k q).values.refusal ≡ 0
      → (es : List Drop) → Permᴰ (releases_of q k.holds (objects_of s)) es
      → (accepted_throughout (cleaned run es s k).answers ≡ true) × AsFreeAll run freeing q es s k
