-- The four refusals in their order, and the entry written where none of them holds.
use native.Mathlib.Omega.{arith}
use borrow.Author.Rules.{rules}
use mathlib.Core.Path.{◌≡◌, ap, sym, ◌∙◌}
use mathlib.Core.List.{List}
use Prim.Native.Nat.{◌+◌}
use lib.ListN.{length}
use Rattle.std.specs.Prelude.{Ok, Err, Some}
use Rattle.settings.specs.declared.Entry.{Entry}
use Rattle.settings.specs.Entries.{newest, stored, last_of}
use Rattle.settings.specs.Add.{added_to, add_told}
use Rattle.settings.proofs.Values.{stored_is}
use Rattle.settings.proofs.Puts.{last_known, last_unknown, add_malformed, add_long, add_falls, add_full, add_done}
use Rattle.settings.proofs.adding.add.Goals as goal
use Rattle.settings.proofs.adding.add.Goals.{In_ok-last}

pub returns-in_err-used_bytes : goal.returns-in_err-used_bytes
returns-in_err-used_bytes c =
    let a = c.args in
    let k = c.in_err-used_bytes.ensures in
    let e : c.from_residual.result ≡ Err c.in_err-used_bytes.field-0.0 = search rules in
    ap (added_to a.store.now) (e ∙ ap Err k.0) ∙ ap add_told (add_malformed a.name a.version a.value.now a.store.now a.used k.1)

pub returns-in_err-last : goal.returns-in_err-last
returns-in_err-last c =
    let a = c.args in
    let u = last_unknown (stored a.store.now a.used) _
    (sym c.in_err-last.was ∙ c.last_version.ensures ∙ ap last_of (sym c.in_ok-used_bytes.ensures)) in
    let e : c.from_residual-in_err-last.result ≡ Err c.in_err-last.field-0.0 = search rules in
    ap (added_to a.store.now) (e ∙ ap Err u.1) ∙ ap add_told (add_malformed a.name a.version a.value.now a.store.now a.used u.0)

-- the entries of a store whose last version was found
known : (c : In_ok-last)
    → let a = c.args in
    (es : List Entry) × ((stored a.store.now a.used ≡ Some es) × (c.in_ok-last.last ≡ newest 0 es))
known c =
    let l = c in
    let a = l.args in
    last_known (stored a.store.now a.used) c.in_ok-last.last
    (sym c.in_ok-last.was ∙ l.last_version.ensures ∙ ap last_of (sym c.in_ok-used_bytes.ensures))

pub returns-then-value-gt-GREATEST_VALUE : goal.returns-then-value-gt-GREATEST_VALUE
returns-then-value-gt-GREATEST_VALUE c =
    let l = c in
    let a = l.args in
    let k = known (goal.at.returns-then-value-gt-GREATEST_VALUE c).In_ok-last in
    ap add_told
    (add_long a.name a.version a.value.now a.store.now a.used k.0 k.1.0 (omega arith))

pub returns-then-version-last : goal.returns-then-version-last
returns-then-version-last c =
    let l = c in
    let a = l.args in
    let k = known (goal.at.returns-then-version-last c).In_ok-last in
    let n = k.1.1 in
    ap add_told
    (add_falls a.name a.version a.value.now a.store.now a.used k.0 k.1.0 (omega arith)
    (omega arith))

pub overflow_sub-store : goal.overflow_sub-store
overflow_sub-store c =
    let l = c in
    let a = l.args in
    let k = known (goal.at.overflow_sub-store c).In_ok-last in
    (stored_is a.store.now a.used k.0 k.1.0).0

pub returns-then-store-used : goal.returns-then-store-used
returns-then-store-used c =
    let l = c in
    let a = l.args in
    let k = known (goal.at.returns-then-store-used c).In_ok-last in
    let n = k.1.1 in
    ap add_told
    (add_full a.name a.version a.value.now a.store.now a.used k.0 k.1.0 (omega arith)
    (omega arith) (omega arith))

pub returns : goal.returns
returns c =
    let p = c in
    let l = p in
    let a = l.args in
    let k = known (goal.at.returns c).In_ok-last in
    let n = k.1.1 in
    let e : a.used + 4 + length a.value.now ≡ a.used + (4 + length a.value.now) = omega arith in
    (λ i. added_to (p.put_entry.ensures i) (Ok (e i)))
    ∙ ap add_told
    (add_done a.name a.version a.value.now a.store.now a.used k.0 k.1.0 (omega arith)
    (omega arith) (omega arith))
