-- What a charge makes of a quota: its remainder is the checked difference, or as it was where there is none (`less_checked`).
use Prim.Native.Nat.{ℕ}
use mathlib.Core.Path.{ap, ◌∙◌}
use Rattle.accounts.specs.Accounts.{with_remainder}
use Rattle.accounts.proofs.Laws.{less_checked}
use Rattle.accounts.proofs.fn.Accounts.charge.change_quota.Goals as goal

pub returns : goal.returns
returns c =
    let entry = c.args.entry in
    c.with_remainder.ensures
    ∙ ap (λ (r : ℕ). with_remainder r entry) (c.unwrap_or.ensures ∙ less_checked c.captures.amount entry.remainder c.checked_sub.result c.checked_sub.ensures)
