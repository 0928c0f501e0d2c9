-- Version, name, length and value are written side by side (`entry_put`).
use native.Mathlib.Omega.{arith}
use Prim.Native.Nat.{◌+◌}
use lib.ListN.{length, set}
use Rattle.settings.proofs.Puts.{entry_put, put_length, part_put}
use Rattle.settings.proofs.adding.put_entry.Goals as goal

pub returns : goal.returns
returns c =
    let a = c.args in
    let t = c.write_u16.new.bytes in
    let w = rw c.from.ensures at c.write_u16.ensures in
    let l = put_length a.at a.version a.store.now t a.name (length a.value.now) w in
    entry_put a.at a.name a.version a.value.now a.store.now t _ c.requires.0 w
    (part_put (a.at + 4) a.value.now _ (set (set t (a.at + 2) a.name) (a.at + 3) (length a.value.now)) (omega arith) c.copy_from_slice.ensures.after)
