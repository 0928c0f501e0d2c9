-- What reading an entry tells: each way not to fit, and what is known of one that fits.
use mathlib.Core.Path.{◌≡◌, refl}
use mathlib.Core.List.{List}
use mathlib.Core.Bool.{Bool, true, false, cond}
use Prim.Native.Nat.{ℕ, ◌+◌, ◌≤◌, ◌<◌}
use native.Mathlib.Omega.{arith}
use lib.ListN.{length}
use lib.Dec.{leb}
use borrow.Author.Tests.{le-leb, lt-leb, leb-true}
use Rattle.std.specs.Prelude.{Some, None}
use Rattle.lists.proofs.Bools.{and_parts}
use Rattle.settings.proofs.Rows
use Rattle.settings.specs.declared.Entry.{Entry}
use Rattle.settings.specs.Entries.{entry_at, entry_fits, read_entry}

module _ (last at : ℕ) (s : List ℕ) where
  pub cut_short : length s < at + 4 → None ≡ read_entry last at s
  unfolding read_entry entry_fits
  cut_short h = rw (lt-leb (at + 4) (length s) h)

  module _ (e : Entry) (is : e ≡ entry_at at s) (h : at + 4 ≤ length s) where
    pub too_long : at + 68 < e.end → None ≡ read_entry last at s
    unfolding read_entry entry_fits
    too_long l = rw (le-leb (at + 4) (length s) h, lt-leb (entry_at at s).end (at + 68) (rw is at l))

    pub falls : e.end ≤ at + 68 → e.version < last → None ≡ read_entry last at s
    unfolding read_entry entry_fits
    falls l v =
        rw (le-leb (at + 4) (length s) h, le-leb (entry_at at s).end (at + 68) (rw is at l), lt-leb last (entry_at at s).version (rw is at v))

    pub beyond : e.end ≤ at + 68 → last ≤ e.version → length s < e.end → None ≡ read_entry last at s
    unfolding read_entry entry_fits
    beyond l v b =
        rw (le-leb (at + 4) (length s) h, le-leb (entry_at at s).end (at + 68) (rw is at l), le-leb last (entry_at at s).version (rw is at v))
        (rw (lt-leb (entry_at at s).end (length s) (rw is at b)))

    pub fits : e.end ≤ at + 68 → last ≤ e.version → e.end ≤ length s → entry_fits last at s ≡ true
    unfolding entry_fits
    fits l v b =
        rw (le-leb (at + 4) (length s) h, le-leb (entry_at at s).end (at + 68) (rw is at l), le-leb last (entry_at at s).version (rw is at v))
        (le-leb (entry_at at s).end (length s) (rw is at b))

    pub whole : e.end ≤ at + 68 → last ≤ e.version → e.end ≤ length s → Some e ≡ read_entry last at s
    unfolding read_entry
    whole l v b = rw (fits l v b, is)

-- what is known of an entry that fits
pub record Known (last at : ℕ) (s : List ℕ) (e : Entry) : Type 0 where
  pub fits : entry_fits last at s ≡ true
  pub is : e ≡ entry_at at s
  pub moves : at + 4 ≤ e.end
  pub starts : e.start ≤ e.end
  pub short : e.end ≤ at + 68
  pub rises : last ≤ e.version
  pub inside : e.end ≤ length s

pub known_at : (last at : ℕ) (s : List ℕ) → entry_fits last at s ≡ true → Known last at s (entry_at at s)
unfolding entry_fits
known_at last at s t =
    let e = entry_at at s in
    let a = and_parts (leb (at + 4) (length s)) _ t in
    let b = and_parts (leb e.end (at + 68)) _ a.1 in
    let c = and_parts (leb last e.version) _ b.1 in
    record {
      fits = t;
      is = refl;
      moves = omega arith;
      starts = omega arith;
      short = leb-true e.end (at + 68) b.0;
      rises = leb-true last e.version c.0;
      inside = leb-true e.end (length s) c.1;
    }

pub known : (last at : ℕ) (s : List ℕ) (e : Entry) → Some e ≡ read_entry last at s → Known last at s e
unfolding read_entry
known last at s e p = go (entry_fits last at s) refl p
  where
    go : (t : Bool) → entry_fits last at s ≡ t → Some e ≡ cond t (Some (entry_at at s)) None → Known last at s e
    go true t q = let is : e ≡ entry_at at s = cc in rw is (known_at last at s t)
    go false t q = let w : ◌≡◌ {A = ℕ} 0 1 = cc in absurd (omega arith)

pub unread : (last at : ℕ) (s : List ℕ) → None ≡ read_entry last at s → entry_fits last at s ≡ false
unfolding read_entry
unread last at s p = go (entry_fits last at s) refl p
  where
    go : (t : Bool) → entry_fits last at s ≡ t → None ≡ cond t (Some (entry_at at s)) None → entry_fits last at s ≡ false
    go true t q = let w : ◌≡◌ {A = ℕ} 0 1 = cc in absurd (omega arith)
    go false t q = t
