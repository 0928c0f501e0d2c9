-- A handle that was made narrower (rules 4.7 and 4.8): it names the object that the wider one names, and claim, release and can release do through it what they
-- do through the whole handle. Lines and changes of these calls read the handle through the lookup alone.
use Rattle.std.specs.Prelude.{Some}
use mathlib.Core.Path.{◌≡◌, sym, ◌∙◌}
use Prim.Native.Nat.{ℕ}
use native.Mathlib.Omega.{arith}
use mathlib.Core.List.{List, Memᴰ}
use mathlib.Core.Bool.{true}
use Rattle.accounts.specs.declared.Accounts.{Accounts}
use Rattle.model.specs.Objects.{objects_of, lookup}
use Rattle.model.specs.Consistent.{accounted}
use Rattle.model.specs.Refusals.{row_lines}
use Rattle.model.specs.Calls.{claim, release, can_release}
use Rattle.model.specs.declared.Handle.{Handle}
use Rattle.model.proofs.Lookup.{Narrowed, names_exactly, whole_names, lookup_named, lookup_exactly, accounted_differ, accounted_byte}

-- a range inside a range that lies in an object lies in it too
pub narrower : (h g o : Handle) → Narrowed h g → Narrowed g o → Narrowed h o
narrower h g o m n =
    let m₁ = m.low in
    let m₂ = m.high in
    let n₁ = n.low in
    let n₂ = n.high in
    record { serial = m.serial ∙ n.serial; some_byte = m.some_byte; low = omega arith; high = omega arith }

module _ (s : List ℕ) (k : Accounts) (c : accounted s k ≡ true) where
  -- a live object is found from its own handle and from each that is narrower
  pub object_found : (h o : Handle) → Narrowed h o → Memᴰ o (objects_of s) → lookup h s ≡ Some o
  object_found h o n m = (lookup_exactly h s o (accounted_differ s k c)).1 ((names_exactly h o).1 n, m)

  pub own_found : (o : Handle) → Memᴰ o (objects_of s) → lookup o s ≡ Some o
  own_found o m = (lookup_exactly o s o (accounted_differ s k c)).1 (whole_names o (accounted_byte s k c o m), m)

  -- the object that a handle names is named by each handle that is narrower
  pub narrowed_found : (h g o : Handle) → Narrowed h g → lookup g s ≡ Some o → lookup h s ≡ Some o
  narrowed_found h g o n e =
      let r = lookup_named g s o e in
      object_found h o (narrower h g o n ((names_exactly g o).0 r.0)) r.1

  module _ (h o : Handle) (e : lookup h s ≡ Some o) where
    -- the object's own handle is looked up with the same result
    same_found : lookup h s ≡ lookup o s
    same_found = e ∙ sym (own_found o (lookup_named h s o e).1)

    -- so these calls answer and leave the same
    module _ (unit : ℕ → ℕ) (q : ℕ) where
      pub claim_whole : claim unit s k q h ≡ claim unit s k q o
      unfolding claim row_lines
      claim_whole = rw same_found

      pub release_whole : release unit s k q h ≡ release unit s k q o
      unfolding release row_lines
      release_whole = rw same_found

      pub can_release_whole : can_release unit s k q h ≡ can_release unit s k q o
      unfolding can_release row_lines
      can_release_whole = rw same_found
