-- What a quota holds, and what of it another quota holds too (rules 25.9 and 25.10).
use Rattle.std.specs.Prelude.{ℕ, Bool, cond, ◌&&◌, List, ◌==◌}
use Rattle.accounts.specs.declared.Hold.{Hold}
use Rattle.accounts.specs.Accounts.{used}
use Rattle.lists.specs.Lists.{all, any, total}
use Rattle.audit.specs.Keys.{well_formed}
use Rattle.survey.specs.declared.sharing.Holdings.{Holdings}
use Rattle.survey.specs.Survey.{shares}

-- 1 where a test holds
abbrev pub one_if : Bool → ℕ
one_if t = cond t 1 0

-- of how many elements a test holds
unfoldable pub how_many : {A : Type 0} → (A → Bool) → List A → ℕ
how_many p xs = total (λ x. one_if (p x)) xs

-- h is a record of the quota
unfoldable pub is_own : ℕ → Hold → Bool
is_own q h = used h && h.quota == q

-- and another quota has a record with the same serial
unfoldable pub is_shared : List Hold → ℕ → Hold → Bool
is_shared hs q h = is_own q h && any (shares h.serial q) hs

abbrev pub nothing_held : Holdings
nothing_held = record { objects = 0; shared = 0 }

-- how many records a quota has, and how many of them are of objects that another quota holds too; none where a record
-- is not well-formed
unfoldable pub holdings : ℕ → List Hold → Holdings
holdings q hs = cond (all well_formed hs) (record { objects = how_many (is_own q) hs; shared = how_many (is_shared hs q) hs }) nothing_held
