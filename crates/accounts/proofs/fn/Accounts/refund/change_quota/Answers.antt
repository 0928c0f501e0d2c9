-- What a refund makes of a quota: its remainder is the checked sum, or as it was where there is none (`back_checked`).
use Prim.Native.Nat.{ℕ}
use mathlib.Core.Path.{ap, ◌∙◌}
use Rattle.accounts.specs.Accounts.{with_remainder}
use Rattle.accounts.proofs.Laws.{back_checked}
use Rattle.accounts.proofs.fn.Accounts.refund.change_quota.Goals as goal

pub returns : goal.returns
returns c =
    let entry = c.args.entry in
    c.with_remainder.ensures
    ∙ ap (λ (r : ℕ). with_remainder r entry) (c.unwrap_or.ensures ∙ back_checked c.captures.amount entry.remainder c.checked_add.result c.checked_add.ensures)
