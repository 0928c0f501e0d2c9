-- The four tests in their order (`cut_short`, `too_long`, `falls`, `beyond`), and none of them (`whole`).
use native.Mathlib.Omega.{arith}
use Rattle.settings.proofs.Reading.{cut_short, too_long, falls, beyond, whole}
use Rattle.settings.proofs.entries.read_entry.Goals as goal

pub returns-then-left-lt-ENTRY_FRONT : goal.returns-then-left-lt-ENTRY_FRONT
returns-then-left-lt-ENTRY_FRONT c = let a = c.args in cut_short a.last a.at a.store.now (omega arith)

pub returns-then-at-entry : goal.returns-then-at-entry
returns-then-at-entry c =
    let r = c in
    let a = r.args in
    too_long a.last a.at a.store.now r.entry_at-entry.result r.entry_at-entry.ensures (omega arith) (omega arith)

pub returns-then-entry-last : goal.returns-then-entry-last
returns-then-entry-last c =
    let r = c in
    let a = r.args in
    falls a.last a.at a.store.now r.entry_at-entry.result r.entry_at-entry.ensures (omega arith) (omega arith) c.if-entry-last.true

pub returns-then-store-entry : goal.returns-then-store-entry
returns-then-store-entry c =
    let r = c in
    let a = r.args in
    beyond a.last a.at a.store.now r.entry_at-entry.result r.entry_at-entry.ensures (omega arith) (omega arith) (omega arith) (omega arith)

pub returns : goal.returns
returns c =
    let r = c in
    let a = r.args in
    whole a.last a.at a.store.now r.entry_at-entry.result r.entry_at-entry.ensures (omega arith) (omega arith) (omega arith) (omega arith)
