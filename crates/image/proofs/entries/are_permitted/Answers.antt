use native.Mathlib.Omega.{arith}
use borrow.Author.Tests.{ne_eqb}
use mathlib.Core.Path.{ap, sym, ◌∙◌}
use Rattle.accounts.specs.Accounts.{zero_quota}
use Rattle.words.specs.Words.{quotas_of}
use Rattle.words.proofs.Words.{quotas_long}
use Rattle.audit.proofs.Tables.{all_places, all_fails}
use Rattle.image_model.specs.Stream.{all_permitted}
use Rattle.image.proofs.entries.are_permitted.Goals as goal

pub returns-then-quota-ne-ALL_PERMISSIONS : goal.returns-then-quota-ne-ALL_PERMISSIONS
returns-then-quota-ne-ALL_PERMISSIONS c =
    let q = c in
    let l = q in
    let words = l.args.words.now in
    sym (all_fails all_permitted zero_quota (quotas_of words) l.loop-i.i (omega (arith, quotas_long words))
    (ap all_permitted (sym q.quota_at-quota.ensures) ∙ ne_eqb _ _ c.if-quota-ne-ALL_PERMISSIONS.true))

pub returns : goal.returns
returns c =
    let l = c in
    let words = l.args.words.now in
    sym (all_places all_permitted zero_quota (quotas_of words) (λ j h. l.loop-i.invariant j (omega (arith, quotas_long words))))
