-- A loop that reads one entry after the other: the entries so far, and that those from its place on are the others.
use Rattle.std.specs.Prelude.{Option, Some, None}
use mathlib.Core.Path.{◌≡◌, refl, ap, sym, ◌∙◌}
use mathlib.Core.List.{List, [], ◌∷◌, ◌++◌, append_assoc}
use mathlib.Core.Bool.{Bool, true, false, cond}
use Prim.Native.Nat.{ℕ, zero, suc, ◌+◌, ◌≤◌, ◌<◌}
use native.Mathlib.Omega.{arith}
use lib.ListN.{length}
use lib.Dec.{leb}
use borrow.Author.Tests.{le-leb, lt-leb, leb-true, leb-false}
use Rattle.settings.specs.declared.Entry.{Entry}
use Rattle.settings.specs.Entries.{entry_at, entry_fits, in_front, entries_from, entries, newest}
use Rattle.settings.proofs.Reading.{Known, known_at}

unfoldable pub behind : List Entry → Option (List Entry) → Option (List Entry)
behind es None = None
behind es (Some fs) = Some (es ++ fs)

behind_none : (o : Option (List Entry)) → o ≡ behind [] o
unfolding behind
behind_none None = refl
behind_none (Some fs) = refl

behind_one : (es : List Entry) (e : Entry) (o : Option (List Entry)) → behind es (in_front e o) ≡ behind (es ++ (e ∷ [])) o
unfolding behind in_front
behind_one es e None = refl
behind_one es e (Some fs) = ap Some (sym (append_assoc es (e ∷ []) fs))

-- the last of entries is the newest
pub newest_snoc : (last : ℕ) (es : List Entry) (e : Entry) → newest last (es ++ (e ∷ [])) ≡ e.version
unfolding newest
newest_snoc last [] e = refl
newest_snoc last (x ∷ es) e = newest_snoc x.version es e

-- the entries from a place on: at the end, at one that does not fit, at one that fits
module _ (s : List ℕ) where
  pub from_end : (fuel last at : ℕ) → length s ≤ at → entries_from fuel last at s ≡ Some []
  unfolding entries_from
  from_end zero last at h = rw (le-leb (length s) at h)
  from_end (suc fuel) last at h = rw (le-leb (length s) at h)

  pub from_bad : (fuel last at : ℕ) → at < length s → entry_fits last at s ≡ false → entries_from fuel last at s ≡ None
  unfolding entries_from
  from_bad zero last at h e = rw (lt-leb (length s) at h)
  from_bad (suc fuel) last at h e = rw (lt-leb (length s) at h, e)

  pub from_more : (fuel last at : ℕ) → at < length s → entry_fits last at s ≡ true
      → entries_from (suc fuel) last at s ≡ in_front (entry_at at s) (entries_from fuel (entry_at at s).version (entry_at at s).end s)
  unfolding entries_from
  from_more fuel last at h e = rw (lt-leb (length s) at h, e)

  -- where a loop stands that has read these entries
  pub record Walked (read : List Entry) (last at : ℕ) : Type 0 where
    pub fuel : ℕ
    pub reaches : length s ≤ at + fuel
    pub leads : entries s ≡ behind read (entries_from fuel last at s)
    pub newest_is : last ≡ newest 0 read

  pub walk_begin : Walked [] 0 0
  unfolding entries newest
  walk_begin = record { fuel = length s; reaches = omega arith; leads = behind_none (entries_from (length s) 0 0 s); newest_is = refl }

  pub walk_end : (read : List Entry) (last at : ℕ) → Walked read last at → length s ≤ at → entries s ≡ Some read
  unfolding behind
  walk_end read last at w h = w.leads ∙ ap (behind read) (from_end w.fuel last at h) ∙ ap Some (append_nil read)
    where
      append_nil : (es : List Entry) → es ++ [] ≡ es
      append_nil [] = refl
      append_nil (e ∷ es) = ap (◌∷◌ e) (append_nil es)

  pub walk_bad : (read : List Entry) (last at : ℕ) → Walked read last at → at < length s → entry_fits last at s ≡ false → entries s ≡ None
  unfolding behind
  walk_bad read last at w h e = w.leads ∙ ap (behind read) (from_bad w.fuel last at h e)

  pub walk_more : (read : List Entry) (last at : ℕ) → Walked read last at → at < length s → (e : Entry) → Known last at s e
      → Walked (read ++ (e ∷ [])) e.version e.end
  walk_more read last at w h e k = go w.fuel w.reaches w.leads
    where
      go : (n : ℕ) → length s ≤ at + n → entries s ≡ behind read (entries_from n last at s) → Walked (read ++ (e ∷ [])) e.version e.end
      go zero r l = absurd (omega arith)
      go (suc n) r l =
          let m = k.moves in
          let next : entries_from (suc n) last at s ≡ in_front e (entries_from n e.version e.end s) = rw k.is (from_more n last at h k.fits) in
          record {
            fuel = n;
            reaches = omega arith;
            leads = l ∙ ap (behind read) next ∙ behind_one read e (entries_from n e.version e.end s);
            newest_is = sym (newest_snoc 0 read e);
          }

  -- what holds of no entries at the end, and of an entry with those behind it, holds of all entries that are read
  pub by_entries : (P : ℕ → ℕ → List Entry → Type 0)
      → ((last at : ℕ) → length s ≤ at → P last at [])
      → ((last at : ℕ) (fs : List Entry) → at < length s → Known last at s (entry_at at s)
      → P (entry_at at s).version (entry_at at s).end fs → P last at (entry_at at s ∷ fs))
      → (fuel last at : ℕ) (es : List Entry) → entries_from fuel last at s ≡ Some es → P last at es
  unfolding entries_from in_front
  by_entries P nil cons zero last at es e = stop (leb (length s) at) refl e
    where
      stop : (b : Bool) → leb (length s) at ≡ b → cond b (Some []) None ≡ Some es → P last at es
      stop true t e = let is : ◌≡◌ {A = List Entry} [] es = cc in rw (sym is) (nil last at (leb-true (length s) at t))
      stop false t e = let z : ◌≡◌ {A = ℕ} 0 1 = cc in absurd (omega arith)
  by_entries P nil cons (suc n) last at es e =
      go (leb (length s) at) refl (entry_fits last at s) refl (entries_from n x.version x.end s)
      (by_entries P nil cons n x.version x.end) e
    where
      x : Entry
      x = entry_at at s

      go : (b : Bool) → leb (length s) at ≡ b → (f : Bool) → entry_fits last at s ≡ f → (o : Option (List Entry))
          → ((fs : List Entry) → o ≡ Some fs → P (entry_at at s).version (entry_at at s).end fs)
          → cond b (Some []) (cond f (in_front (entry_at at s) o) None) ≡ Some es → P last at es
      go true t f u o r e = let is : ◌≡◌ {A = List Entry} [] es = cc in rw (sym is) (nil last at (leb-true (length s) at t))
      go false t false u o r e = let z : ◌≡◌ {A = ℕ} 0 1 = cc in absurd (omega arith)
      go false t true u None r e = let z : ◌≡◌ {A = ℕ} 0 1 = cc in absurd (omega arith)
      go false t true u (Some fs) r e =
          let is : entry_at at s ∷ fs ≡ es = cc in
          rw (sym is) (cons last at fs (leb-false (length s) at t) (known_at last at s u) (r fs refl))
