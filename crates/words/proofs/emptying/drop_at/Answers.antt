-- `words::drop_at` meets its contract: the tests are those of a record of the quota.
use mathlib.Core.Path.{◌≡◌, sym, ◌∙◌}
use mathlib.Core.Bool.{true, false, and-false}
use lib.Dec.{eqb}
use borrow.Author.Tests.{eq-eqb, ne_eqb, not-true, not-false}
use Rattle.accounts.specs.Accounts.{used}
use Rattle.words.specs.Words.{accounts_of}
use Rattle.words.proofs.Dropping.{drops_here, drops_not}
use Rattle.words.proofs.Padding.{padded_same}
use Rattle.words.proofs.emptying.drop_at.Goals as goal

pub returns-then-hold-quota : goal.returns-then-hold-quota
returns-then-hold-quota c =
    let h = c in
    let a = h.args in
    let x = h.hold_at-hold.result in
    record {
      holds = drops_not a.at a.quota (accounts_of a.words.now) x h.hold_at-hold.ensures
          (rw (ne_eqb x.quota a.quota c.if-hold-quota.true) (and-false (used x)));
      pads = padded_same a.words.now;
    }

pub returns-then-not-is_used : goal.returns-then-not-is_used
returns-then-not-is_used c =
    let u = c in
    let h = u in
    let a = h.args in
    let x = h.hold_at-hold.result in
    let no : used x ≡ false = sym u.is_used.ensures ∙ not-true _ c.if-not-is_used.true-raw in
    record {
      holds = drops_not a.at a.quota (accounts_of a.words.now) x h.hold_at-hold.ensures (rw no);
      pads = padded_same a.words.now;
    }

pub returns : goal.returns
returns c =
    let e = c in
    let u = e in
    let h = u in
    let a = h.args in
    let x = h.hold_at-hold.result in
    let yes : used x ≡ true = sym u.is_used.ensures ∙ not-false _ e.if-not-is_used.false-raw in
    let own : eqb x.quota a.quota ≡ true = eq-eqb x.quota a.quota u.if-hold-quota.false in
    record {
      holds = c.drop_hold.ensures.holds ∙ drops_here a.at a.quota (accounts_of a.words.now) x h.hold_at-hold.ensures (rw (yes, own));
      pads = c.drop_hold.ensures.pads;
    }
