-- Clean-up in any order: the theorems, of releases and free-alls that each go by the table of the accounts that they
-- are made on, as the functions do. A release keeps the edition, so a list of them goes by one table throughout, of
-- which the inner laws speak.
use mathlib.Core.Path.{◌≡◌, refl, ap, ◌∙◌}
use Prim.Native.Nat.{ℕ}
use mathlib.Core.List.{List, [], ◌∷◌}
use Rattle.accounts.specs.declared.Accounts.{Accounts}
use Rattle.rounding.specs.Rounding.{table}
use Rattle.model.specs.Calls.{release}
use Rattle.model.specs.Step.{step}
use Rattle.model.specs.declared.Call.TheVariants.{Release}
use Rattle.model.proofs.StepFrame.{step_keeps}
use Rattle.cleanup.specs.Releases.{release_by, own_release, Drop, Cleaned, cleaned, AnyOrder}
use Rattle.cleanup.specs.FreeAll.{free_all_by, own_free_all, FreeAllByReleases, AllReleased}
use Rattle.cleanup.proofs.Accepting.{behind}
use Rattle.cleanup.proofs.Permuted.{any_order_by}
use Rattle.cleanup.proofs.Drained.{freed_by}
use Rattle.cleanup.proofs.AllReleased.{all_released_by}

module _ (tables : ℕ → ℕ → ℕ) where
  -- the first release of a list by a table, and what the others leave and answer
  first_by : ℕ → (Accounts → List ℕ → Cleaned) → Drop → List ℕ → Accounts → Cleaned
  first_by e rest d s k =
      let t = release (tables e) s k d.quota d.handle in
      behind (record { quota = d.quota; values = t.values }) (rest t.accounts t.heap)

  -- a list leaves and answers what it does where each release goes by the table of the first
  by_one : (e : ℕ) (ds : List Drop) (s : List ℕ) (k : Accounts) → k.edition ≡ e
      → cleaned (release_by tables) ds s k ≡ cleaned (release (tables e)) ds s k
  unfolding cleaned step first_by
  by_one e [] s k p = refl
  by_one e (d ∷ ds) s k p =
      let n = k.edition in
      let t = release (tables n) s k d.quota d.handle in
      let kept = (step_keeps (tables n) (Release d.quota d.handle) s k).same_edition in
      ap (behind (record { quota = d.quota; values = t.values })) (by_one e ds t.heap t.accounts (kept ∙ p))
      ∙ ap (λ (m : ℕ). first_by m (λ a h. cleaned (release (tables e)) ds h a) d s k) p

  -- THE THEOREM, for every family of tables, one for each edition
  pub any_order_of : AnyOrder (release_by tables)
  any_order_of =
      record {
        always =
            λ ds es p s k f a.
            (let x = by_one k.edition ds s k refl in
            let y = by_one k.edition es s k refl in
            let r = (any_order_by (tables k.edition)).always ds es p s k f (rw x at a) in
            record {
              accepted = rw y r.accepted;
              heap = rw (x, y) r.heap;
              accounts = rw (x, y) r.accounts;
              answers = rw (x, y) r.answers;
            });
      }

  -- and the laws of free-all
  pub free_all_by_releases_of : FreeAllByReleases (release_by tables) (free_all_by tables)
  free_all_by_releases_of =
      record {
        always =
            λ q ds s k f e all a none.
            (let x = by_one k.edition ds s k refl in
            let r = (freed_by (tables k.edition)).always q ds s k f e all (rw x at a) (rw x at none) in
            record { heap = rw x r.heap; accounts = rw x r.accounts; amount = rw x r.amount });
      }

  pub all_released_of : AllReleased (release_by tables) (free_all_by tables)
  all_released_of =
      record {
        always =
            λ q s k f e es p.
            (let x = by_one k.edition es s k refl in
            let r = (all_released_by (tables k.edition)).always q s k f e es p in (
              rw x r.0,
              record { heap = rw x r.1.heap; accounts = rw x r.1.accounts; amount = rw x r.1.amount },
            ));
      }

-- so of the release and the free-all that the contracts name
pub any_order : AnyOrder own_release
any_order = any_order_of table

pub free_all_by_releases : FreeAllByReleases own_release own_free_all
free_all_by_releases = free_all_by_releases_of table

pub all_released : AllReleased own_release own_free_all
all_released = all_released_of table
