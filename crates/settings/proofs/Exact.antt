-- Which entry answers: exactly the last one that does (rules 20.5 and 20.6). Which stores are well formed: exactly the runs of entries (rule 20.3).
use mathlib.Core.Path.{◌≡◌, refl, ap, sym, ◌∙◌}
use mathlib.Core.List.{List, [], ◌∷◌, ◌++◌, append_assoc}
use mathlib.Core.Bool.{Bool, true, false, cond}
use mathlib.Core.Logic.{◌⊎◌, inl, inr}
use Prim.Native.Nat.{ℕ, zero, suc, ◌+◌, ◌*◌, ◌/◌, ◌%◌, ◌≤◌, ◌<◌}
use native.Mathlib.Omega.{arith}
use native.Mathlib.Nat.{add-zero}
use lib.Arith.{digits_div, digits_mod}
use lib.ListN.{length, take, drop, get_or, length-append, length-drop, take-append-drop}
use lib.Seq.{get_or-append-add, drop-cons, drop-drop, length-take-le}
use Rattle.std.specs.Prelude.{Ok, Err, Some, None, Option}
use Rattle.layout.specs.Bytes.{bytes, Octets}
use Rattle.layout.proofs.Numbers.{octets_take}
use Rattle.settings.specs.declared.Span.{Span}
use Rattle.settings.specs.declared.Entry.{Entry}
use Rattle.settings.specs.declared.SettingsRefusal.TheVariants.{Malformed, Missing}
use Rattle.settings.specs.Entries.{entry_at, in_front, entries_from, entries, stored}
use Rattle.settings.specs.Find.{answers, value_of, later, or_else, value_in, found_in, chosen, find}
use Rattle.settings.specs.Add.{entry_bytes}
use Rattle.settings.specs.Exact.{Setting, run, entry_of, placed, Rising, IsRun, NoneAnswers, LastAnswers, Missed}
use Rattle.settings.proofs.Reading.{Known, fits}
use Rattle.settings.proofs.Walks.{from_end, from_more, by_entries}
use Rattle.settings.proofs.Values.{stored_is}
use Rattle.settings.proofs.Stores.{stored_within}
use Rattle.settings.proofs.Added.{same_version, length_entry}

-- nothing is found exactly if no entry answers
pub value_none : (name version : ℕ) (es : List Entry) → value_in name version es ≡ None → NoneAnswers name version es
unfolding value_in or_else later
value_none name version [] e = tt
value_none name version (x ∷ es) e = go (value_in name version es) refl (answers name version x) refl e (value_none name version es)
  where
    go : (f : Option Span) → value_in name version es ≡ f → (b : Bool) → answers name version x ≡ b
        → or_else f (cond b (Some (value_of x)) None) ≡ None → (value_in name version es ≡ None → NoneAnswers name version es)
        → NoneAnswers name version (x ∷ es)
    go (Some y) p b q r more = let no : ◌≡◌ {A = ℕ} 0 1 = cc in absurd (omega arith)
    go None p true q r more = let no : ◌≡◌ {A = ℕ} 0 1 = cc in absurd (omega arith)
    go None p false q r more = (q, more p)

pub none_value : (name version : ℕ) (es : List Entry) → NoneAnswers name version es → value_in name version es ≡ None
unfolding value_in or_else later
none_value name version [] n = refl
none_value name version (x ∷ es) n = rw (none_value name version es n.1, n.0)

-- what is found is the value of the last entry that answers, and of that alone
pub value_last : (name version : ℕ) (es : List Entry) (x : Span) → value_in name version es ≡ Some x → LastAnswers name version es x
unfolding value_in or_else later
value_last name version [] x e = let no : ◌≡◌ {A = ℕ} 0 1 = cc in absurd (omega arith)
value_last name version (y ∷ es) x e = go (value_in name version es) refl (answers name version y) refl e (value_last name version es x)
  where
    go : (f : Option Span) → value_in name version es ≡ f → (b : Bool) → answers name version y ≡ b
        → or_else f (cond b (Some (value_of y)) None) ≡ Some x → (value_in name version es ≡ Some x → LastAnswers name version es x)
        → LastAnswers name version (y ∷ es) x
    go (Some z) p b q r more =
        let l = more (p ∙ r) in
        record {
          front = y ∷ l.front;
          last = l.last;
          behind = l.behind;
          split = ap (◌∷◌ y) l.split;
          answering = l.answering;
          silent = l.silent;
          value = l.value;
        }
    go None p true q r more =
        let is : value_of y ≡ x = cc in
        record { front = []; last = y; behind = es; split = refl; answering = q; silent = value_none name version es p; value = sym is }
    go None p false q r more = let no : ◌≡◌ {A = ℕ} 0 1 = cc in absurd (omega arith)

last_found : (name version : ℕ) (front : List Entry) (e : Entry) (behind : List Entry) → answers name version e ≡ true → NoneAnswers name version behind
    → value_in name version (front ++ (e ∷ behind)) ≡ Some (value_of e)
unfolding value_in or_else later
last_found name version [] e behind a n = rw (none_value name version behind n, a)
last_found name version (y ∷ front) e behind a n = rw (last_found name version front e behind a n)

pub last_value : (name version : ℕ) (es : List Entry) (x : Span) → LastAnswers name version es x → value_in name version es ≡ Some x
last_value name version es x l =
    ap (value_in name version) l.split
    ∙ last_found name version l.front l.last l.behind l.answering l.silent
    ∙ ap Some (sym l.value)

-- a run of settings is read as their entries
entry_read : (p : List ℕ) (w : Setting) (q : List ℕ) → w.version < 65536
    → entry_at (length p) (p ++ (entry_bytes w.version w.name w.value ++ q)) ≡ entry_of w (length p)
unfolding entry_bytes bytes
entry_read p w q h =
    let b = entry_bytes w.version w.name w.value ++ q in
    let zeroth : get_or (p ++ b) (length p) 0 ≡ w.version % 256 = ap (λ (k : ℕ). get_or (p ++ b) k 0) (sym (add-zero (length p))) ∙ get_or-append-add p b 0 0 in
    let first : get_or (p ++ b) (length p + 1) 0 ≡ w.version / 256 % 256 = get_or-append-add p b 1 0 in
    let second : get_or (p ++ b) (length p + 2) 0 ≡ w.name = get_or-append-add p b 2 0 in
    let third : get_or (p ++ b) (length p + 3) 0 ≡ length w.value = get_or-append-add p b 3 0 in
    let whole : get_or (p ++ b) (length p) 0 + 256 * get_or (p ++ b) (length p + 1) 0 ≡ w.version =
    (λ i. zeroth i + 256 * first i) ∙ same_version w.version h in
    λ i. record { version = whole i; name = second i; start = length p + 4; end = length p + 4 + third i }

run_from : (ws : List Setting) (p : List ℕ) (m last : ℕ) → Rising last ws → length (p ++ run ws) ≤ length p + m
    → entries_from m last (length p) (p ++ run ws) ≡ Some (placed (length p) ws)
unfolding run placed in_front
run_from [] p m last r l = from_end (p ++ []) m last (length p) (omega (arith, length-append p []))
run_from (w ∷ ws) p zero last r l =
    let b = entry_bytes w.version w.name w.value in
    absurd (omega (arith, length-append p (b ++ run ws), length-append b (run ws), length_entry w.version w.name w.value))
run_from (w ∷ ws) p (suc m) last r l =
    let b = entry_bytes w.version w.name w.value in
    let s = p ++ (b ++ run ws) in
    let nb = length_entry w.version w.name w.value in
    let ns = length-append p (b ++ run ws) in
    let nr = length-append b (run ws) in
    let np = length-append p b in
    let is = entry_read p w (run ws) r.1.0 in
    let f = fits last (length p) s (entry_of w (length p)) (sym is) (omega arith) (omega (arith, r.1.1.0)) r.0 (omega arith) in
    let to : length (p ++ b) ≡ length p + 4 + length w.value = omega arith in
    let same : (p ++ b) ++ run ws ≡ s = append_assoc p b (run ws) in
    from_more s m last (length p) (omega arith) f
    ∙ ap (λ (x : Entry). in_front x (entries_from m x.version x.end s)) is
    ∙ ap (in_front (entry_of w (length p)))
    ((λ i. entries_from m w.version (sym to i) (sym same i))
    ∙ run_from ws (p ++ b) m w.version r.1.1.1 (omega (arith, ap length same))
    ∙ ap (λ (k : ℕ). Some (placed k ws)) to)

pub run_read : (ws : List Setting) → Rising 0 ws → entries (run ws) ≡ Some (placed 0 ws)
unfolding entries
run_read ws r = run_from ws [] (length (run ws)) 0 r (omega arith)

-- bytes that are read as entries are a run of settings
module _ (s : List ℕ) (o : Octets s) where
  drop_end : (n : ℕ) (t : List ℕ) → length t ≤ n → drop n t ≡ []
  drop_end zero [] h = refl
  drop_end zero (x ∷ t) h = absurd (omega arith)
  drop_end (suc n) [] h = refl
  drop_end (suc n) (x ∷ t) h = drop_end n t (omega arith)

  next : (j k : ℕ) → j < length s → k ≡ suc j → drop j s ≡ get_or s j 0 ∷ drop k s
  next j k h e = drop-cons s j 0 h ∙ ap (λ (n : ℕ). get_or s j 0 ∷ drop n s) (sym e)

  four : (at : ℕ) → at + 4 ≤ length s → drop at s ≡ get_or s at 0 ∷ get_or s (at + 1) 0 ∷ get_or s (at + 2) 0 ∷ get_or s (at + 3) 0 ∷ drop (at + 4) s
  four at h =
      next at (at + 1) (omega arith) (omega arith)
      ∙ ap (◌∷◌ (get_or s at 0))
      (next (at + 1) (at + 2) (omega arith) (omega arith)
      ∙ ap (◌∷◌ (get_or s (at + 1) 0))
      (next (at + 2) (at + 3) (omega arith) (omega arith) ∙ ap (◌∷◌ (get_or s (at + 2) 0)) (next (at + 3) (at + 4) (omega arith) (omega arith))))

  low : (a b : ℕ) → a < 256 → (a + 256 * b) % 256 ≡ a
  low a b h = let e : a + 256 * b ≡ b * 256 + a = omega arith in ap (λ (n : ℕ). n % 256) e ∙ digits_mod b h

  high : (a b : ℕ) → a < 256 → b < 256 → (a + 256 * b) / 256 % 256 ≡ b
  high a b h l =
      let e : a + 256 * b ≡ b * 256 + a = omega arith in
      ap (λ (n : ℕ). n / 256 % 256) e ∙ ap (λ (n : ℕ). n % 256) (digits_div b h) ∙ omega arith

  one_more : (last at : ℕ) → Known last at s (entry_at at s) → IsRun (entry_at at s).version (drop (entry_at at s).end s) → IsRun last (drop at s)
  unfolding run entry_bytes bytes
  one_more last at k r =
      let n = get_or s (at + 3) 0 in
      let v = take n (drop (at + 4) s) in
      let w : Setting = record { version = (entry_at at s).version; name = get_or s (at + 2) 0; value = v } in
      let inside = k.inside in
      let short = k.short in
      let d = length-drop (at + 4) s in
      let l : length v ≡ n = length-take-le n (drop (at + 4) s) (omega arith) in
      let a = o at in
      let b = o (at + 1) in
      let tail : drop (at + 4) s ≡ v ++ run r.settings =
      sym (take-append-drop n (drop (at + 4) s)) ∙ ap (◌++◌ v) (drop-drop n (at + 4) s ∙ r.is) in
      record {
        settings = w ∷ r.settings;
        rising = (k.rises, (omega arith, (omega arith, r.rising)));
        is = four at (omega arith)
            ∙ (λ i. sym (low (get_or s at 0) (get_or s (at + 1) 0) a) i
            ∷ sym (high (get_or s at 0) (get_or s (at + 1) 0) a b) i
            ∷ get_or s (at + 2) 0 ∷ sym l i ∷ tail i);
      }

  pub read_run : (es : List Entry) → entries s ≡ Some es → IsRun 0 s
  unfolding entries run
  read_run es e =
      by_entries s (λ last at es. IsRun last (drop at s))
      (λ last at h. record { settings = []; rising = tt; is = drop_end at s h })
      (λ last at fs h k r. one_more last at k r)
      (length s) 0 0 es e

-- a store is well formed exactly if its used bytes are there and are a run of settings
pub stored_run : (s : List ℕ) (used : ℕ) (es : List Entry) → Octets s → stored s used ≡ Some es → (used ≤ length s) × IsRun 0 (take used s)
stored_run s used es o e =
    let p = stored_is s used es e in
    (p.0, read_run (take used s) (octets_take used s o) es p.1)

pub run_stored : (s : List ℕ) (used : ℕ) → used ≤ length s → (r : IsRun 0 (take used s)) → stored s used ≡ Some (placed 0 r.settings)
run_stored s used h r = stored_within s used h ∙ ap entries r.is ∙ run_read r.settings r.rising

-- 42 is given exactly if both stores are well formed and no entry of either answers; 41 exactly if one is malformed
module _ (name version : ℕ) (b : List ℕ) (bu : ℕ) (d : List ℕ) (du : ℕ) where
  pub missed : find name version b bu d du ≡ Err Missing → Missed name version b bu d du
  unfolding find found_in chosen
  missed e = go (stored b bu) refl (stored d du) refl e
    where
      both : (es fs : List Entry) → stored b bu ≡ Some es → stored d du ≡ Some fs
          → (x y : Option Span) → value_in name version es ≡ x → value_in name version fs ≡ y
          → chosen (Ok x) (Ok y) ≡ Err Missing → Missed name version b bu d du
      both es fs p q (Some x) y u v e = let no : ◌≡◌ {A = ℕ} 0 1 = cc in absurd (omega arith)
      both es fs p q None (Some y) u v e = let no : ◌≡◌ {A = ℕ} 0 1 = cc in absurd (omega arith)
      both es fs p q None None u v e =
          record {
            own = es;
            others = fs;
            own_stored = p;
            others_stored = q;
            own_silent = value_none name version es u;
            others_silent = value_none name version fs v;
          }

      go : (x : Option (List Entry)) → stored b bu ≡ x → (y : Option (List Entry)) → stored d du ≡ y
          → chosen (found_in name version x) (found_in name version y) ≡ Err Missing → Missed name version b bu d du
      go None p y q e = let no : ◌≡◌ {A = ℕ} 0 1 = cc in absurd (omega arith)
      go (Some es) p None q e = let no : ◌≡◌ {A = ℕ} 0 1 = cc in absurd (omega arith)
      go (Some es) p (Some fs) q e = both es fs p q (value_in name version es) (value_in name version fs) refl refl e

  pub missing : Missed name version b bu d du → find name version b bu d du ≡ Err Missing
  unfolding find found_in chosen
  missing m =
      rw (m.own_stored, m.others_stored, none_value name version m.own m.own_silent, none_value name version m.others m.others_silent)

  pub own_malformed : stored b bu ≡ None → find name version b bu d du ≡ Err Malformed
  unfolding find found_in chosen
  own_malformed e = rw e

  pub other_malformed : stored d du ≡ None → find name version b bu d du ≡ Err Malformed
  unfolding find found_in chosen
  other_malformed e = rw e (go (stored b bu))
    where
      go : (o : Option (List Entry)) → chosen (found_in name version o) (found_in name version None) ≡ Err Malformed
      go None = refl
      go (Some es) = refl

  pub malformed_exactly : find name version b bu d du ≡ Err Malformed → (stored b bu ≡ None) ⊎ (stored d du ≡ None)
  unfolding find found_in chosen
  malformed_exactly e = go (stored b bu) refl (stored d du) refl e
    where
      both : (x y : Option Span) → chosen (Ok x) (Ok y) ≡ Err Malformed → ⊥
      both (Some x) y e = let no : ◌≡◌ {A = ℕ} 0 1 = cc in absurd (omega arith)
      both None (Some y) e = let no : ◌≡◌ {A = ℕ} 0 1 = cc in absurd (omega arith)
      both None None e = let no : ◌≡◌ {A = ℕ} 0 1 = cc in absurd (omega arith)

      go : (x : Option (List Entry)) → stored b bu ≡ x → (y : Option (List Entry)) → stored d du ≡ y
          → chosen (found_in name version x) (found_in name version y) ≡ Err Malformed → (stored b bu ≡ None) ⊎ (stored d du ≡ None)
      go None p y q e = inl p
      go (Some es) p None q e = inr q
      go (Some es) p (Some fs) q e = absurd (both (value_in name version es) (value_in name version fs) e)
