-- Writing an entry: its parts side by side are its bytes; and each answer of adding.
use mathlib.Core.Path.{◌≡◌, refl, ap, sym, ◌∙◌}
use mathlib.Core.List.{List, [], ◌∷◌, ◌++◌}
use Prim.Native.Nat.{ℕ, ◌+◌, ◌-◌, ◌≤◌, ◌<◌}
use native.Mathlib.Omega.{arith}
use lib.ListN.{length, set, length-set}
use lib.Seq.{drop-drop}
use borrow.Author.Tests.{lt-ltb, le-ltb}
use Rattle.std.specs.Prelude.{Ok, Err, Option, Some, None}
use borrow.Rule.Slice.PartMut.{put_mid}
use Rattle.layout.specs.Bytes.{bytes, overwrite, write_number}
use Rattle.settings.proofs.Rows
use Rattle.layout.proofs.Overwrite.{length_overwrite, overwrite_two, overwrite_more, overwrite_fits}
use Rattle.settings.specs.declared.Entry.{Entry}
use Rattle.settings.specs.declared.SettingsRefusal.{SettingsRefusal}
use Rattle.settings.specs.declared.SettingsRefusal.TheVariants.{Malformed, ValueLength, VersionFalls, Full}
use Rattle.settings.specs.Entries.{newest, stored, last_of}
use Rattle.settings.specs.Add.{entry_bytes, refused, added, add_behind, add_of}

-- bytes copied to a part of s that they fill
pub part_put : (at : ℕ) (v new s : List ℕ) → at + length v ≤ length s → new ≡ v → put_mid at (at + length v - at) s new ≡ overwrite at v s
part_put at v new s h e =
    let k : at + length v - at ≡ length v = omega arith in
    rw (k, e, drop-drop (length v) at s) (sym (overwrite_fits at v s h))

-- version, name, length and value, one behind the other
pub entry_put : (at name version : ℕ) (v s t w : List ℕ) → at + (4 + length v) ≤ length s
    → t ≡ write_number 2 at version s
    → w ≡ overwrite (at + 4) v (set (set t (at + 2) name) (at + 3) (length v))
    → w ≡ overwrite at (entry_bytes version name v) s
unfolding write_number entry_bytes bytes
entry_put at name version v s t w h e f =
    let p = bytes 2 version in
    let named : set t (at + 2) name ≡ overwrite at (p ++ (name ∷ [])) s =
    ap (λ (x : List ℕ). set x (at + 2) name) e ∙ overwrite_more at p s 2 name refl (omega arith) in
    let measured : set (set t (at + 2) name) (at + 3) (length v) ≡ overwrite at (p ++ (name ∷ length v ∷ [])) s =
    ap (λ (x : List ℕ). set x (at + 3) (length v)) named ∙ overwrite_more at (p ++ (name ∷ [])) s 3 (length v) refl (omega arith) in
    f ∙ ap (overwrite (at + 4) v) measured ∙ overwrite_two at (p ++ (name ∷ length v ∷ [])) v s (omega arith)

-- the length stays
pub put_length : (at version : ℕ) (s t : List ℕ) (name n : ℕ) → t ≡ write_number 2 at version s → length (set (set t (at + 2) name) (at + 3) n) ≡ length s
unfolding write_number
put_length at version s t name n e =
    length-set (set t (at + 2) name) (at + 3) n ∙ length-set t (at + 2) name ∙ ap length e ∙ length_overwrite at (bytes 2 version) s

-- the entries of a store of which the last version is known
pub last_known : (o : Option (List Entry)) (last : ℕ) → Ok last ≡ last_of o → (es : List Entry) × ((o ≡ Some es) × (last ≡ newest 0 es))
unfolding last_of
last_known None last e = let z : ◌≡◌ {A = ℕ} 0 1 = cc in absurd (omega arith)
last_known (Some es) last e = (es, (refl, cc))

pub last_unknown : (o : Option (List Entry)) (r : SettingsRefusal) → Err r ≡ last_of o → (o ≡ None) × (r ≡ Malformed)
unfolding last_of
last_unknown None r e = (refl, cc)
last_unknown (Some es) r e = let z : ◌≡◌ {A = ℕ} 0 1 = cc in absurd (omega arith)

-- the four refusals in their order, and none
module _ (name version : ℕ) (v s : List ℕ) (used : ℕ) where
  pub add_malformed : stored s used ≡ None → refused s Malformed ≡ add_of name version v s used
  unfolding add_of add_behind
  add_malformed e = rw e

  module _ (es : List Entry) (e : stored s used ≡ Some es) where
    pub add_long : 64 < length v → refused s ValueLength ≡ add_of name version v s used
    unfolding add_of add_behind
    add_long h = rw (e, lt-ltb 64 (length v) h)

    module _ (n : length v ≤ 64) where
      pub add_falls : version < newest 0 es → refused s VersionFalls ≡ add_of name version v s used
      unfolding add_of add_behind
      add_falls h = rw (e, le-ltb 64 (length v) n, lt-ltb version (newest 0 es) h)

      module _ (r : newest 0 es ≤ version) where
        pub add_full : length s - used < 4 + length v → refused s Full ≡ add_of name version v s used
        unfolding add_of add_behind
        add_full h = rw (e, le-ltb 64 (length v) n, le-ltb version (newest 0 es) r, lt-ltb (length s - used) (4 + length v) h)

        pub add_done : 4 + length v ≤ length s - used → added name version v s used ≡ add_of name version v s used
        unfolding add_of add_behind
        add_done h = rw (e, le-ltb 64 (length v) n, le-ltb version (newest 0 es) r, le-ltb (length s - used) (4 + length v) h)
