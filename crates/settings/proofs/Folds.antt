-- What a walk over entries comes to: the last version, what they have for a name at a version, and the n-th.
use Prim.Native.Nat.{ℕ, zero, suc, ◌+◌, ◌<◌}
use native.Mathlib.Omega.{arith}
use mathlib.Core.Path.{◌≡◌, refl, ap, sym, ◌∙◌}
use mathlib.Core.List.{List, [], ◌∷◌, ◌++◌}
use mathlib.Core.Bool.{Bool, true, false, cond}
use lib.ListN.{length}
use borrow.Author.Tests.{eq-eqb, ne_eqb}
use Rattle.std.specs.Prelude.{Result, Ok, Err, Some, None, Option, fold, slice_get}
use Rattle.std.specs.Option.{option_or, option_map, unwrap_or, MatchOption, IsSomeAnd}
use Rattle.settings.specs.declared.Span.{Span}
use Rattle.settings.specs.declared.Entry.{Entry}
use Rattle.settings.specs.declared.SettingsRefusal.{SettingsRefusal}
use Rattle.settings.specs.declared.SettingsRefusal.TheVariants.{Malformed}
use Rattle.settings.specs.Entries.{stored, newest, last_of, entry_told, nth_of}
use Rattle.settings.specs.Find.{answers, value_of, later, or_else, value_in, found_in, chosen, find}
use Rattle.settings.specs.Walks.{walked, last_given, given_in, turn, told_at_end, picked, answered}
use Rattle.settings.proofs.Rows

pub or_none : {T : Type 0} (f : Option T) → option_or f None ≡ f
or_none (Some x) = refl
or_none None = refl

or_again : {T : Type 0} (f g h : Option T) → option_or f (option_or g h) ≡ option_or (option_or f g) h
or_again (Some x) g h = refl
or_again None g h = refl

given_more : {T : Type 0} (g : ℕ → Entry → Option T) (n : ℕ) (es : List Entry) (e : Entry)
    → last_given g n (es ++ (e ∷ [])) ≡ option_or (g (n + length es) e) (last_given g n es)
given_more g n [] e =
    let z : n ≡ n + 0 = omega arith in
    sym (or_none (g n e)) ∙ ap (λ (k : ℕ). option_or (g k e) None) z
given_more g n (x ∷ es) e =
    let z : suc n + length es ≡ n + length (x ∷ es) = omega arith in
    ap (λ f. option_or f (g n x)) (given_more g (suc n) es e)
    ∙ sym (or_again (g (suc n + length es) e) (last_given g (suc n) es) (g n x))
    ∙ ap (λ (k : ℕ). option_or (g k e) (last_given g n (x ∷ es))) z

-- one entry more, behind these
pub given_next : {T : Type 0} (g : ℕ → Entry → Option T) (es : List Entry) (e : Entry)
    → last_given g 0 (es ++ (e ∷ [])) ≡ option_or (g (length es) e) (last_given g 0 es)
given_next g es e =
    let z : 0 + length es ≡ length es = omega arith in
    given_more g 0 es e ∙ ap (λ (k : ℕ). option_or (g k e) (last_given g 0 es)) z

-- what a walk gives is what its turns have told in the end
turns_given : {T : Type 0} (g : ℕ → Entry → Option T) (n : ℕ) (f : Option T) (es : List Entry)
    → (fold (turn g) (n, f) es).1 ≡ option_or (last_given g n es) f
turns_given g n f [] = refl
turns_given g n f (e ∷ es) = turns_given g (suc n) (option_or (g n e) f) es ∙ or_again (last_given g (suc n) es) (g n e) f

pub given_turns : {T : Type 0} (g : ℕ → Entry → Option T) (o : Option (List Entry))
    → given_in g o ≡ told_at_end (walked (turn g) (0, None) o)
given_turns g None = refl
given_turns g (Some es) = ap Ok (sym (turns_given g 0 None es ∙ or_none (last_given g 0 es)))

pub newest_fold : (last : ℕ) (es : List Entry) → fold (λ v e. e.version) last es ≡ newest last es
unfolding newest
newest_fold last [] = refl
newest_fold last (e ∷ es) = newest_fold e.version es

-- the last version, by the versions alone
pub last_walked : (o : Option (List Entry)) → walked (λ v e. e.version) 0 o ≡ last_of o
unfolding last_of
last_walked None = refl
last_walked (Some es) = ap Ok (newest_fold 0 es)

newest_given : (v n : ℕ) (es : List Entry) → unwrap_or (last_given (λ k e. Some e.version) n es) v ≡ newest v es
unfolding newest
newest_given v n [] = refl
newest_given v n (e ∷ es) =
    or_version (last_given (λ k x. Some x.version) (suc n) es) ∙ newest_given e.version (suc n) es
  where
    or_version : (f : Option ℕ) → unwrap_or (option_or f (Some e.version)) v ≡ unwrap_or f e.version
    or_version (Some x) = refl
    or_version None = refl

-- the version of the last entry, as the answer
module _ (o : Option (List Entry)) where
  pub last_refused : (r : SettingsRefusal) → given_in (λ k e. Some e.version) o ≡ Err r → Err r ≡ last_of o
  unfolding last_of
  last_refused r = go o
    where
      go : (p : Option (List Entry)) → given_in (λ k e. Some e.version) p ≡ Err r → Err r ≡ last_of p
      go None h = let is : Malformed ≡ r = cc in ap Err (sym is)
      go (Some es) h = let z : ◌≡◌ {A = ℕ} 0 1 = cc in absurd (omega arith)

  pub last_told : (v : Option ℕ) → given_in (λ k e. Some e.version) o ≡ Ok v → Ok (unwrap_or v 0) ≡ last_of o
  unfolding last_of
  last_told v = go o
    where
      go : (p : Option (List Entry)) → given_in (λ k e. Some e.version) p ≡ Ok v → Ok (unwrap_or v 0) ≡ last_of p
      go None h = let z : ◌≡◌ {A = ℕ} 0 1 = cc in absurd (omega arith)
      go (Some es) h =
          let is : last_given (λ k e. Some e.version) 0 es ≡ v = cc in
          ap Ok (sym (ap (λ f. unwrap_or f 0) is) ∙ newest_given 0 0 es)

exchange : (name version : ℕ) (f g : Option Span) (e : Entry)
    → or_else g (later name version f e) ≡ or_else (or_else g (later name version None e)) f
unfolding or_else later
exchange name version f (Some x) e = refl
exchange name version f None e = go (answers name version e)
  where
    go : (b : Bool) → cond b (Some (value_of e)) f ≡ or_else (cond b (Some (value_of e)) None) f
    go true = refl
    go false = refl

-- entries on top of what was found before them
pub value_fold : (name version : ℕ) (f : Option Span) (es : List Entry)
    → fold (later name version) f es ≡ or_else (value_in name version es) f
unfolding value_in or_else
value_fold name version f [] = refl
value_fold name version f (e ∷ es) =
    value_fold name version (later name version f e) es ∙ exchange name version f (value_in name version es) e

or_nothing : (f : Option Span) → or_else f None ≡ f
unfolding or_else
or_nothing (Some x) = refl
or_nothing None = refl

pub found_walked : (name version : ℕ) (o : Option (List Entry))
    → walked (later name version) None o ≡ found_in name version o
unfolding found_in
found_walked name version None = refl
found_walked name version (Some es) = ap Ok (value_fold name version None es ∙ or_nothing (value_in name version es))

value_given : (name version n : ℕ) (es : List Entry)
    → option_map value_of (last_given (λ k e. answered name version e) n es) ≡ value_in name version es
unfolding value_in or_else later
value_given name version n [] = refl
value_given name version n (e ∷ es) =
    over (last_given (λ k x. answered name version x) (suc n) es) (answers name version e)
    ∙ ap (λ f. or_else f (cond (answers name version e) (Some (value_of e)) None)) (value_given name version (suc n) es)
  where
    over : (f : Option Entry) (b : Bool) → option_map value_of (option_or f (cond b (Some e) None))
        ≡ or_else (option_map value_of f) (cond b (Some (value_of e)) None)
    over (Some x) b = refl
    over None true = refl
    over None false = refl

-- an entry that was found, as where its value lies
pub valued : (v : Option Entry) (m : Option Span) (P : Entry → Span → Type 0)
    → ((x : Entry) (y : Span) → P x y → y ≡ value_of x)
    → MatchOption v (m ≡ None) (λ x. IsSomeAnd m (P x)) → m ≡ option_map value_of v
valued None m P p w = w
valued (Some x) None P p w = absurd w
valued (Some x) (Some y) P p w = ap Some (p x y w)

-- what a name has at a version, as the answer
module _ (name version : ℕ) (o : Option (List Entry)) where
  pub found_refused : (r : SettingsRefusal) → given_in (λ k e. answered name version e) o ≡ Err r
      → Err r ≡ found_in name version o
  unfolding found_in
  found_refused r = go o
    where
      go : (p : Option (List Entry)) → given_in (λ k e. answered name version e) p ≡ Err r
          → Err r ≡ found_in name version p
      go None h = let is : Malformed ≡ r = cc in ap Err (sym is)
      go (Some es) h = let z : ◌≡◌ {A = ℕ} 0 1 = cc in absurd (omega arith)

  pub found_told : (v : Option Entry) → given_in (λ k e. answered name version e) o ≡ Ok v
      → Ok (option_map value_of v) ≡ found_in name version o
  unfolding found_in
  found_told v = go o
    where
      go : (p : Option (List Entry)) → given_in (λ k e. answered name version e) p ≡ Ok v
          → Ok (option_map value_of v) ≡ found_in name version p
      go None h = let z : ◌≡◌ {A = ℕ} 0 1 = cc in absurd (omega arith)
      go (Some es) h =
          let is : last_given (λ k e. answered name version e) 0 es ≡ v = cc in
          ap Ok (sym (ap (option_map value_of) is) ∙ value_given name version 0 es)

-- behind the number that is asked for, and from it on
pub past : (n k : ℕ) (es : List Entry) → n < k → last_given (picked n) k es ≡ None
past n k [] h = refl
past n k (e ∷ es) h = rw (past n (suc k) es (omega arith), ne_eqb k n (λ (q : k ≡ n). omega (arith, q, h))) refl

pub nth_given : (n k m : ℕ) (es : List Entry) → n ≡ k + m → last_given (picked n) k es ≡ slice_get es m
nth_given n k m [] h = refl
nth_given n k zero (e ∷ es) h = rw (past n (suc k) es (omega (arith, h)), eq-eqb k n (omega (arith, h))) refl
nth_given n k (suc m) (e ∷ es) h =
    rw (nth_given n (suc k) m es (omega (arith, h)), ne_eqb k n (λ (q : k ≡ n). omega (arith, q, h))) (or_none (slice_get es m))

-- the n-th entry, as the answer
pub nth_told : (n : ℕ) (o : Option (List Entry)) → entry_told (given_in (picked n) o) ≡ nth_of n o
unfolding nth_of entry_told
nth_told n None = refl
nth_told n (Some es) = told (last_given (picked n) 0 es) (nth_given n 0 n es (omega arith))
  where
    told : (g : Option Entry) → g ≡ slice_get es n → entry_told (Ok g) ≡ record { refusal = 0; found = slice_get es n }
    told (Some x) q = λ i. record { refusal = 0; found = q i }
    told None q = λ i. record { refusal = 0; found = q i }

-- a store that is refused, the board's or the other
module _ (name version : ℕ) (b : List ℕ) (bu : ℕ) (d : List ℕ) (du : ℕ) where
  pub unread_in : (o : Option (List Entry)) → o ≡ None → (r : SettingsRefusal) → r ≡ Malformed → Err r ≡ found_in name version o
  unfolding found_in
  unread_in o e r f = rw (e, f)

  pub board_refused : (r : SettingsRefusal) → Err r ≡ found_in name version (stored b bu) → Err r ≡ find name version b bu d du
  unfolding find chosen
  board_refused r e = ap (λ (x : Result (Option Span) SettingsRefusal). chosen x (found_in name version (stored d du))) e

  pub default_refused : (o : Option Span) (r : SettingsRefusal) → Ok o ≡ found_in name version (stored b bu)
      → Err r ≡ found_in name version (stored d du) → Err r ≡ find name version b bu d du
  unfolding find chosen
  default_refused o r e f = λ i. chosen (e i) (f i)
