-- `accounts::Accounts::spent` meets its contract: past the table the definition gives zeros, and a difference below 0 is 0.
use native.Mathlib.Omega.{arith}
use mathlib.Core.Path.{◌≡◌, refl, sym}
use lib.ListN.{length}
use Rattle.accounts.specs.Accounts.{QUOTAS, remaining, spent}
use Rattle.accounts.proofs.Laws.{spent_out}
use Rattle.accounts.proofs.Accounts.spent.Goals as goal

pub returns-then-q-ge-QUOTAS : goal.returns-then-q-ge-QUOTAS
returns-then-q-ge-QUOTAS c =
    let k = c.args.self in
    let long : length k.quotas ≡ QUOTAS = c.well_formed.0.1.1.0.1.0.1 in
    sym (spent_out c.args.quota k (omega arith))

pub returns-then-entry : goal.returns-then-entry
unfolding spent remaining
returns-then-entry c = omega arith

pub returns : goal.returns
unfolding spent remaining
returns c = refl
