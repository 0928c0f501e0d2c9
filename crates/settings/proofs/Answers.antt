-- After an accepted add (rule 20.9): the store is well formed, with the new entry last; no answer at a lower version has changed, nor one for another
-- name; at its version and above the new value is found.
use mathlib.Core.Path.{◌≡◌, refl, ap, sym, ◌∙◌}
use mathlib.Core.List.{List, [], ◌∷◌, ◌++◌, append_assoc}
use mathlib.Core.Bool.{Bool, true, false, cond, ◌&&◌}
use Prim.Native.Nat.{ℕ, ◌+◌, ◌-◌, ◌≤◌, ◌<◌}
use native.Mathlib.Omega.{arith}
use lib.ListN.{length, take, drop, length-append}
use lib.Seq.{length-take-le, take_at, drop_at, take-add}
use lib.Dec.{ltb, eqb}
use borrow.Author.Tests.{le-leb, lt-leb, eq-eqb, ltb-false}
use Rattle.std.specs.Prelude.{Result, Ok, Err, Some, Option, None}
use Rattle.layout.specs.Bytes.{bytes, overwrite}
use Rattle.layout.proofs.Overwrite.{overwrite_fits, length_overwrite, take_overwrite}
use Rattle.settings.specs.declared.Span.{Span}
use Rattle.settings.specs.declared.Entry.{Entry}
use Rattle.settings.specs.declared.Place.{Place}
use Rattle.settings.specs.declared.Place.TheVariants.{Board, Default}
use Rattle.settings.specs.Entries.{entries, stored, newest}
use Rattle.settings.specs.Find.{answers, value_of, later, value_in, found_in, chosen, find, part, bytes_of, PlacedIn}
use Rattle.settings.specs.declared.SettingsRefusal.TheVariants.{ValueLength, VersionFalls, Full}
use Rattle.settings.specs.declared.SettingsRefusal.{SettingsRefusal}
use Rattle.settings.specs.Add.{Stored, entry_bytes, refused, added, add_behind, add_of}
use Rattle.settings.proofs.Values.{value_snoc, stored_is, find_used_inside}
use Rattle.settings.proofs.Stores.{stored_within}
use Rattle.settings.proofs.Puts.{add_done}
use Rattle.settings.proofs.Added.{entry_of, length_entry, entries_grown}

-- what is known of an add that answers a new used length
pub record Accepted (name version : ℕ) (v s : List ℕ) (used to : ℕ) : Type 0 where
  pub read : List Entry
  pub were : stored s used ≡ Some read
  pub short : length v ≤ 64
  pub rises : newest 0 read ≤ version
  pub room : used + (4 + length v) ≤ length s
  pub reaches : to ≡ used + (4 + length v)
  pub written : (add_of name version v s used).store ≡ overwrite used (entry_bytes version name v) s

-- the three tests behind a store that is well formed
tested : (name version : ℕ) (v s : List ℕ) (used to : ℕ) (es : List Entry) → stored s used ≡ Some es
    → (add_behind name version v s used (Some es)).answer ≡ Ok to → Accepted name version v s used to
unfolding add_behind
tested name version v s used to es e a =
    go (ltb 64 (length v)) refl (ltb version (newest 0 es)) refl (ltb (length s - used) (4 + length v)) refl a
  where
    go : (p : Bool) → ltb 64 (length v) ≡ p → (q : Bool) → ltb version (newest 0 es) ≡ q → (r : Bool) → ltb (length s - used) (4 + length v) ≡ r
        → (cond p (refused s ValueLength) (cond q (refused s VersionFalls) (cond r (refused s Full) (added name version v s used)))).answer ≡ Ok to
        → Accepted name version v s used to
    go true x q y r z w = let no : ◌≡◌ {A = ℕ} 0 1 = cc in absurd (omega arith)
    go false x true y r z w = let no : ◌≡◌ {A = ℕ} 0 1 = cc in absurd (omega arith)
    go false x false y true z w = let no : ◌≡◌ {A = ℕ} 0 1 = cc in absurd (omega arith)
    go false x false y false z w =
        let n = ltb-false 64 (length v) x in
        let u = ltb-false version (newest 0 es) y in
        let l = ltb-false (length s - used) (4 + length v) z in
        let is : used + (4 + length v) ≡ to = cc in
        let h = (stored_is s used es e).0 in
        record {
          read = es;
          were = e;
          short = n;
          rises = u;
          room = omega arith;
          reaches = sym is;
          written = sym (ap (λ (o : Stored). o.store) (add_done name version v s used es e n u l));
        }

pub accepted : (name version : ℕ) (v s : List ℕ) (used to : ℕ) → (add_of name version v s used).answer ≡ Ok to → Accepted name version v s used to
unfolding add_of add_behind
accepted name version v s used to a = go (stored s used) refl a
  where
    go : (o : Option (List Entry)) → stored s used ≡ o → (add_behind name version v s used o).answer ≡ Ok to → Accepted name version v s used to
    go None e a = let no : ◌≡◌ {A = ℕ} 0 1 = cc in absurd (omega arith)
    go (Some es) e a = tested name version v s used to es e a

-- a value in front of a place does not change with the bytes from there on
part_is : (x : Span) (s : List ℕ) → x.start ≤ x.end → x.end ≤ length s → part x s ≡ drop x.start (take x.end s)
unfolding part
part_is x s o h =
    let k = x.end - x.start in
    let e : x.end ≡ x.start + k = omega arith in
    let l = length-take-le x.start s (omega arith) in
    sym
    (ap (λ (n : ℕ). drop x.start (take n s)) e
    ∙ ap (drop x.start) (take-add x.start k s)
    ∙ drop_at (take x.start s) (take k (drop x.start s)) x.start l)

part_stays : (x : Span) (at : ℕ) (new s : List ℕ) → x.start ≤ x.end → x.end ≤ at → at ≤ length s → part x (overwrite at new s) ≡ part x s
part_stays x at new s o h l =
    let n = length_overwrite at new s in
    part_is x (overwrite at new s) o (omega arith)
    ∙ ap (drop x.start) (take_overwrite at new s x.end h)
    ∙ sym (part_is x s o (omega arith))

module _ (name version : ℕ) (v s : List ℕ) (used to : ℕ) (w : version < 65536) (a : (add_of name version v s used).answer ≡ Ok to) where
  abbrev after : List ℕ
  after = (add_of name version v s used).store

  facts : Accepted name version v s used to
  facts = accepted name version v s used to a

  -- the used bytes are then the old ones and the entry
  used_after : take to after ≡ take used s ++ entry_bytes version name v
  used_after =
      let f = facts in
      let new = entry_bytes version name v in
      let n = length_entry version name v in
      let room = f.room in
      let l = length-take-le used s (omega arith) in
      let r = f.reaches in
      let e : length (take used s ++ new) ≡ to = length-append (take used s) new ∙ omega arith in
      ap (take to) (f.written ∙ overwrite_fits used new s (omega arith) ∙ sym (append_assoc (take used s) new (drop (used + length new) s)))
      ∙ take_at (take used s ++ new) (drop (used + length new) s) to e

  -- the store is well formed again: the old entries, and the new one behind them
  pub well_formed : (es : List Entry) → stored s used ≡ Some es → stored after to ≡ Some (es ++ (entry_of version name used (length v) ∷ []))
  well_formed es e =
      let f = facts in
      let p = stored_is s used es e in
      let l = length-take-le used s p.0 in
      let same : f.read ≡ es = some_one f.read es (sym f.were ∙ e) in
      let rises : newest 0 es ≤ version = rw same at f.rises in
      let room = f.room in
      let r = f.reaches in
      let n : length after ≡ length s = ap length f.written ∙ length_overwrite used (entry_bytes version name v) s in
      stored_within after to (omega arith)
      ∙ ap entries used_after
      ∙ entries_grown (take used s) version name v w f.short es p.1 rises
      ∙ ap (λ (k : ℕ). Some (es ++ (entry_of version name k (length v) ∷ []))) l
    where
      some_one : (x y : List Entry) → Some x ≡ Some y → x ≡ y
      some_one x y q = cc

  -- what the store has is what it had, unless the new entry answers
  had : (n x : ℕ) → found_in n x (stored after to) ≡ Ok (later n x (value_in n x facts.read) (entry_of version name used (length v)))
  unfolding found_in
  had n x =
      let f = facts in
      ap (found_in n x) (well_formed f.read f.were) ∙ ap Ok (value_snoc n x f.read (entry_of version name used (length v)))

  has : (n x : ℕ) → found_in n x (stored s used) ≡ Ok (value_in n x facts.read)
  unfolding found_in
  has n x = ap (found_in n x) facts.were

  -- at lower versions
  pub lower_same : (n x : ℕ) → x < version → found_in n x (stored after to) ≡ found_in n x (stored s used)
  unfolding later answers
  lower_same n x h =
      had n x
      ∙ ap Ok (rw (lt-leb version x h) (and_false (eqb name n) (value_of (entry_of version name used (length v))) (value_in n x facts.read)))
      ∙ sym (has n x)
    where
      and_false : (b : Bool) (y : Span) (f : Option Span) → cond (b && false) (Some y) f ≡ f
      and_false true y f = refl
      and_false false y f = refl

  -- for other names, at every version
  pub others_same : (n x : ℕ) → eqb name n ≡ false → found_in n x (stored after to) ≡ found_in n x (stored s used)
  unfolding later answers
  others_same n x h = had n x ∙ ap Ok (rw h) ∙ sym (has n x)

  -- at its own version and above
  pub new_found : (x : ℕ) → version ≤ x → found_in name x (stored after to) ≡ Ok (Some (record { start = used + 4; end = to }))
  unfolding later answers
  new_found x h =
      let r : used + 4 + length v ≡ to = omega (arith, facts.reaches) in
      had name x ∙ ap Ok (rw (eq-eqb name name refl, le-leb version x h)) ∙ ap (λ (k : ℕ). Ok (Some (record { start = used + 4; end = k }))) r

  pub new_bytes : part (record { start = used + 4; end = to }) after ≡ v
  unfolding entry_bytes bytes
  new_bytes =
      let f = facts in
      let room = f.room in
      let r = f.reaches in
      let n : length after ≡ length s = ap length f.written ∙ length_overwrite used (entry_bytes version name v) s in
      let l = length-take-le used s (omega arith) in
      let front = bytes 2 version ++ (name ∷ length v ∷ []) in
      let e : length (take used s ++ front) ≡ used + 4 = length-append (take used s) front ∙ ap (λ (k : ℕ). k + 4) l in
      part_is (record { start = used + 4; end = to }) after (omega arith) (omega arith)
      ∙ ap (drop (used + 4)) (used_after ∙ sym (append_assoc (take used s) front v))
      ∙ drop_at (take used s ++ front) v (used + 4) e

  -- the bytes of a value that was there before
  stays : (x : Span) → x.start ≤ x.end → x.end ≤ used → part x after ≡ part x s
  stays x o h =
      let f = facts in
      let room = f.room in
      ap (part x) f.written ∙ part_stays x used (entry_bytes version name v) s o h (omega arith)

  board_bytes : (p : Result Place SettingsRefusal) (d : List ℕ) (n : ℕ) → PlacedIn used n p → bytes_of p after d ≡ bytes_of p s d
  unfolding bytes_of
  board_bytes (Ok (Board x)) d n i = stays x i.ordered i.within
  board_bytes (Ok (Default x)) d n i = refl
  board_bytes (Err r) d n i = refl

  default_bytes : (p : Result Place SettingsRefusal) (b : List ℕ) (n : ℕ) → PlacedIn n used p → bytes_of p b after ≡ bytes_of p b s
  unfolding bytes_of
  default_bytes (Ok (Board x)) b n i = refl
  default_bytes (Ok (Default x)) b n i = stays x i.ordered i.within
  default_bytes (Err r) b n i = refl

  -- below the new entry's version every name keeps its value, by place and by bytes: where the store is the board's ..
  pub board_silent : (n x : ℕ) (d : List ℕ) (du : ℕ) → x < version
      → (find n x after to d du ≡ find n x s used d du) × (bytes_of (find n x after to d du) after d ≡ bytes_of (find n x s used d du) s d)
  unfolding find
  board_silent n x d du h =
      let e = ap (λ (f : Result (Option Span) SettingsRefusal). chosen f (found_in n x (stored d du))) (lower_same n x h) in
      (e, ap (λ (p : Result Place SettingsRefusal). bytes_of p after d) e ∙ board_bytes (find n x s used d du) d du (find_used_inside n x s used d du))

  -- .. and where it is the defaults
  pub default_silent : (n x : ℕ) (b : List ℕ) (bu : ℕ) → x < version
      → (find n x b bu after to ≡ find n x b bu s used) × (bytes_of (find n x b bu after to) b after ≡ bytes_of (find n x b bu s used) b s)
  unfolding find
  default_silent n x b bu h =
      let e = ap (λ (f : Result (Option Span) SettingsRefusal). chosen (found_in n x (stored b bu)) f) (lower_same n x h) in
      (e, ap (λ (p : Result Place SettingsRefusal). bytes_of p b after) e ∙ default_bytes (find n x b bu s used) b bu (find_used_inside n x b bu s used))
