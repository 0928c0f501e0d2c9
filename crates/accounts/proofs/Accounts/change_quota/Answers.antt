-- `accounts::Accounts::change_quota` meets its contract: a quota that is there changes by itself, and no other does.
use borrow.Author.Rules.{rules}
use mathlib.Core.Path.{◌∙◌, ap, sym}
use Rattle.accounts.specs.declared.Quota.{Quota}
use Rattle.accounts.specs.Accounts.{quota_at, put_quota}
use Rattle.accounts.proofs.Laws.{change_there, change_no_quota}
use Rattle.accounts.proofs.Accounts.change_quota.Goals as goal

pub returns-then-q-ge-QUOTAS : goal.returns-then-q-ge-QUOTAS
returns-then-q-ge-QUOTAS g c f made =
    let a = c.args in
    sym (change_no_quota a.quota f a.self (search rules))

pub returns : goal.returns
returns g c f made =
    let a = c.args in
    ap (λ (x : Quota). put_quota a.quota x a.self) (made (quota_at a.quota a.self) c.change.result c.change.ensures)
    ∙ sym (change_there a.quota f a.self (search rules))
