-- When two ledgers say the same (rule 13.16). Entries and spans may stand in another order.
use Rattle.std.specs.Prelude.{ℕ, ◌≡◌, ◌↔◌}
use mathlib.Core.List.{Memᴰ}
use Rattle.model.specs.declared.Handle.{Handle}
use Rattle.ledger.specs.Ledger.{Entry, Span, Ledger, holds_of}
use Rattle.ledger.specs.Demand3.{objects_in}

-- kind, edition, grants, objects, each quota's holds on each object, and quarantined blocks
pub record Same (l m : Ledger) : Type 0 where
  pub kind : l.kind ≡ m.kind
  pub edition : l.edition ≡ m.edition
  pub grants : l.grants ≡ m.grants
  pub objects : (o : Handle) → Memᴰ o (objects_in l) ↔ Memᴰ o (objects_in m)
  pub holds : (x y : Entry) → Memᴰ x l.entries → Memᴰ y m.entries
      → x.object.serial ≡ y.object.serial → (q : ℕ) → holds_of q x ≡ holds_of q y
  pub quarantined : (x : Span) → Memᴰ x l.quarantined ↔ Memᴰ x m.quarantined
