-- Grant and remainder are written side by side, and in a full form the permissions behind them (`entry_written`, `full_entry_written`).
use native.Mathlib.Omega.{arith}
use borrow.Author.Rules.{rules}
use Prim.Native.Nat.{◌+◌, ◌≤◌}
use lib.ListN.{length}
use Rattle.image_model.specs.Stream.{tail_width}
use Rattle.image.proofs.Heads.{entry_written, full_entry_written}
use Rattle.image.proofs.entries.write_entry.Goals as goal

pub write_permissions-requires : goal.write_permissions-requires
unfolding tail_width
write_permissions-requires c =
    let t = c in
    let w₂ = t in
    let w₁ = w₂ in
    let start = w₁ in
    let l : start.args.at + 12 ≤ length start.args.head.now = rw t.if-form.true at start.requires in
    search rules

pub returns-then-form : goal.returns-then-form
unfolding tail_width
returns-then-form c =
    let w₃ = c in
    let t = w₃ in
    let w₂ = t in
    let w₁ = w₂ in
    let start = w₁ in
    let a = start.args in
    let l : a.at + 12 ≤ length a.head.now = rw t.if-form.true at start.requires in
    full_entry_written a.at a.head.now w₁.write_u32.new.bytes w₂.write_u32-2.new.bytes (omega (arith, l)) a.form a.quota
    w₁.write_u32.ensures w₂.write_u32-2.ensures w₃.write_permissions.new.head t.if-form.true l w₃.write_permissions.ensures

pub returns-else-form : goal.returns-else-form
unfolding tail_width
returns-else-form c =
    let w₂ = c in
    let w₁ = w₂ in
    let start = w₁ in
    let a = start.args in
    entry_written a.at a.head.now w₁.write_u32.new.bytes w₂.write_u32-2.new.bytes (omega (arith, start.requires)) a.form a.quota
    w₁.write_u32.ensures w₂.write_u32-2.ensures c.if-form.false
