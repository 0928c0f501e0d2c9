-- What a line asks for, by its name and the numbers behind it.
use Rattle.std.specs.Prelude.{Option, Some, None}
use mathlib.Core.Path.{◌≡◌, refl, ap, sym, ◌∙◌}
use mathlib.Core.List.{List, [], ◌∷◌}
use mathlib.Core.Logic.{◌⊎◌, inl, inr}
use mathlib.Core.Bool.{Bool, true, false}
use Prim.Native.Nat.{ℕ, ◌+◌}
use native.Mathlib.Omega.{arith}
use lib.Dec.{eqb}
use borrow.Author.Tests.{eq-eqb, ne_eqb, eqb-true, eqb-false}
use lib.ListN.{length, get_or}
use Rattle.accounts.specs.Accounts.{QUOTAS}
use Rattle.model.specs.declared.Call.{Call}
use Rattle.model.specs.declared.Call.TheVariants.{Allocate, AllocateArray, Claim, Release, FreeAll, Reallocate}
use Rattle.replay_model.specs.Text.{SPACE, read_number}
use Rattle.replay_model.specs.Lines.{split, words, numbers, join_number}
use Rattle.replay_model.specs.Commands.{handle_in, word_of, taking, call_of, opening_of, named, phrase_of, phrase_call, phrase_opening, line_call, line_opening}
use Rattle.replay_text.specs.Clauses.{Cut, exactly}
use Rattle.replay_model.specs.declared.Word.{Word}
use Rattle.replay_model.specs.declared.Word.TheVariants.{Open, Alloc, Array, Claim as ClaimWord, Free, All, Realloc, Unknown}

-- a name alone
call_alone : (x : Word) → call_of x [] ≡ None
unfolding call_of taking
call_alone Open = refl
call_alone Alloc = refl
call_alone Array = refl
call_alone ClaimWord = refl
call_alone Free = refl
call_alone All = refl
call_alone Realloc = refl
call_alone Unknown = refl

opening_alone : (x : Word) → opening_of x [] ≡ None
unfolding opening_of
opening_alone Open = refl
opening_alone Alloc = refl
opening_alone Array = refl
opening_alone ClaimWord = refl
opening_alone Free = refl
opening_alone All = refl
opening_alone Realloc = refl
opening_alone Unknown = refl

pub line_alone_call : (l : List ℕ) → split SPACE l ≡ l ∷ [] → None ≡ line_call l
unfolding line_call phrase_of named numbers phrase_call
line_alone_call l e = sym (rw e (call_alone (word_of l)))

pub line_alone_opening : (l : List ℕ) → split SPACE l ≡ l ∷ [] → None ≡ line_opening l
unfolding line_opening phrase_of named numbers phrase_opening
line_alone_opening l e = sym (rw e (opening_alone (word_of l)))

-- a name x, and the numbers of what stands behind it
module _ (l name rest : List ℕ) (m : Cut SPACE l name rest) (x : Word) (e : x ≡ word_of name) where
  pub line_call_is : phrase_call (named x (numbers (words rest))) ≡ line_call l
  unfolding line_call phrase_of
  line_call_is = ap (λ (y : Word). phrase_call (named y (numbers (words rest)))) e ∙ sym (ap (λ ws. phrase_call (phrase_of ws)) m.parts)

  pub line_opening_is : phrase_opening (named x (numbers (words rest))) ≡ line_opening l
  unfolding line_opening phrase_of
  line_opening_is = ap (λ (y : Word). phrase_opening (named y (numbers (words rest)))) e ∙ sym (ap (λ ws. phrase_opening (phrase_of ws)) m.parts)

-- a name, how many numbers its call takes, and the call of so many
pub record Takes (x : Word) : Type 0 where
  pub count : ℕ
  pub call : List ℕ → Call
  pub is : (ns : List ℕ) → call_of x ns ≡ taking count ns (call ns)

unfoldable pub takes_alloc : Takes Alloc
unfolding call_of
takes_alloc = record { count = 2; call = λ ns. Allocate (get_or ns 0 0) (get_or ns 1 0); is = λ ns. refl }

unfoldable pub takes_array : Takes Array
unfolding call_of
takes_array = record { count = 3; call = λ ns. AllocateArray (get_or ns 0 0) (get_or ns 1 0) (get_or ns 2 0); is = λ ns. refl }

unfoldable pub takes_claim : Takes ClaimWord
unfolding call_of
takes_claim = record { count = 4; call = λ ns. Claim (get_or ns 0 0) (handle_in ns); is = λ ns. refl }

unfoldable pub takes_free : Takes Free
unfolding call_of
takes_free = record { count = 4; call = λ ns. Release (get_or ns 0 0) (handle_in ns); is = λ ns. refl }

unfoldable pub takes_all : Takes All
unfolding call_of
takes_all = record { count = 1; call = λ ns. FreeAll (get_or ns 0 0); is = λ ns. refl }

unfoldable pub takes_realloc : Takes Realloc
unfolding call_of
takes_realloc = record { count = 5; call = λ ns. Reallocate (get_or ns 0 0) (handle_in ns) (get_or ns 4 0); is = λ ns. refl }

module _ (x : Word) (t : Takes x) where
  pub asks_none : (o : Option (List ℕ)) → None ≡ exactly t.count o → None ≡ phrase_call (named x o)
  unfolding exactly taking phrase_call named
  asks_none None e = refl
  asks_none (Some ns) e = go (eqb (length ns) t.count) refl
    where
      go : (b : Bool) → eqb (length ns) t.count ≡ b → None ≡ call_of x ns
      go true q =
          let w : None ≡ Some ns = e ∙ rw q in
          let z : ◌≡◌ {A = ℕ} 0 1 = cc in
          absurd (omega arith)
      go false q = sym (t.is ns ∙ rw q)

  pub asks_some : (o : Option (List ℕ)) (vs : List ℕ) → Some vs ≡ exactly t.count o → Some (t.call vs) ≡ phrase_call (named x o)
  unfolding exactly taking phrase_call named
  asks_some None vs e =
      let z : ◌≡◌ {A = ℕ} 0 1 = cc in
      absurd (omega arith)
  asks_some (Some ns) vs e = go (eqb (length ns) t.count) refl
    where
      go : (b : Bool) → eqb (length ns) t.count ≡ b → Some (t.call vs) ≡ call_of x ns
      go true q =
          let w : Some vs ≡ Some ns = e ∙ rw q in
          let v : vs ≡ ns = cc in
          ap (λ ms. Some (t.call ms)) v ∙ sym (t.is ns ∙ rw q)
      go false q =
          let w : Some vs ≡ None = e ∙ rw q in
          let z : ◌≡◌ {A = ℕ} 0 1 = cc in
          absurd (omega arith)

-- a name that no call has
open_asks_nothing : (o : Option (List ℕ)) → None ≡ phrase_call (named Open o)
unfolding phrase_call named call_of
open_asks_nothing None = refl
open_asks_nothing (Some ns) = refl

unknown_asks_nothing : (o : Option (List ℕ)) → None ≡ phrase_call (named Unknown o)
unfolding phrase_call named call_of
unknown_asks_nothing None = refl
unknown_asks_nothing (Some ns) = refl

pub asks_nothing : (x : Word) (o : Option (List ℕ)) → (x ≡ Open) ⊎ (x ≡ Unknown) → None ≡ phrase_call (named x o)
asks_nothing x o (inl e) = open_asks_nothing o ∙ ap (λ (y : Word). phrase_call (named y o)) (sym e)
asks_nothing x o (inr e) = unknown_asks_nothing o ∙ ap (λ (y : Word). phrase_call (named y o)) (sym e)

-- an opening: its name, the heap's length and as many grants as there are quotas
pub opens_no_heap : (h : Option ℕ) (o : Option (List ℕ)) → None ≡ h → None ≡ phrase_opening (named Open (join_number h o))
unfolding phrase_opening named join_number
opens_no_heap h o e = ap (λ x. phrase_opening (named Open (join_number x o))) e

pub opens_no_grants : (h : Option ℕ) (o : Option (List ℕ)) → None ≡ exactly QUOTAS o → None ≡ phrase_opening (named Open (join_number h o))
unfolding phrase_opening named join_number exactly opening_of
opens_no_grants None o e = refl
opens_no_grants (Some n) None e = refl
opens_no_grants (Some n) (Some ns) e = go (eqb (length ns) QUOTAS) refl
  where
    go : (b : Bool) → eqb (length ns) QUOTAS ≡ b → None ≡ opening_of Open (n ∷ ns)
    go true q =
        let w : None ≡ Some ns = e ∙ rw q in
        let z : ◌≡◌ {A = ℕ} 0 1 = cc in
        absurd (omega arith)
    go false q = sym (rw (ne_eqb (length (n ∷ ns)) (QUOTAS + 1) (λ l. omega (arith, l, eqb-false (length ns) QUOTAS q))))

pub opens_with : (h : Option ℕ) (o : Option (List ℕ)) (n : ℕ) (vs : List ℕ) → Some n ≡ h → Some vs ≡ exactly QUOTAS o
    → Some (record { heap = n; grants = vs }) ≡ phrase_opening (named Open (join_number h o))
unfolding phrase_opening named join_number exactly opening_of
opens_with None o n vs e f = let z : ◌≡◌ {A = ℕ} 0 1 = cc in absurd (omega arith)
opens_with (Some m) None n vs e f = let z : ◌≡◌ {A = ℕ} 0 1 = cc in absurd (omega arith)
opens_with (Some m) (Some ns) n vs e f = go (eqb (length ns) QUOTAS) refl
  where
    go : (b : Bool) → eqb (length ns) QUOTAS ≡ b → Some (record { heap = n; grants = vs }) ≡ opening_of Open (m ∷ ns)
    go true q =
        let w : Some vs ≡ Some ns = f ∙ rw q in
        let v : vs ≡ ns = cc in
        let u : n ≡ m = cc in
        (λ i. Some (record { heap = u i; grants = v i })) ∙ sym (rw (eq-eqb (length (m ∷ ns)) (QUOTAS + 1) (omega (arith, eqb-true (length ns) QUOTAS q))))
    go false q =
        let w : Some vs ≡ None = f ∙ rw q in
        let z : ◌≡◌ {A = ℕ} 0 1 = cc in
        absurd (omega arith)

-- another name, and no grants at all
pub opens_nothing : (x : Word) (o : Option (List ℕ)) → (x ≡ Open → ⊥) → None ≡ phrase_opening (named x o)
unfolding phrase_opening named opening_of
opens_nothing x None e = refl
opens_nothing Open (Some ns) e = absurd (e refl)
opens_nothing Alloc (Some ns) e = refl
opens_nothing Array (Some ns) e = refl
opens_nothing ClaimWord (Some ns) e = refl
opens_nothing Free (Some ns) e = refl
opens_nothing All (Some ns) e = refl
opens_nothing Realloc (Some ns) e = refl
opens_nothing Unknown (Some ns) e = refl

opens_alone : (h : Option ℕ) → None ≡ phrase_opening (named Open (join_number h (Some [])))
unfolding phrase_opening named join_number opening_of
opens_alone None = refl
opens_alone (Some n) = refl

-- an opening's name, and what stands behind it: one word, or the heap's length and the grants
module _ (l name rest : List ℕ) (m : Cut SPACE l name rest) (e : Open ≡ word_of name) where
  pub opening_one : split SPACE rest ≡ rest ∷ [] → None ≡ line_opening l
  unfolding numbers
  opening_one q = opens_alone (read_number rest) ∙ sym (ap (λ ws. phrase_opening (named Open (numbers ws))) q) ∙ line_opening_is l name rest m Open e

  pub opening_two : (heap grants : List ℕ) → Cut SPACE rest heap grants
      → phrase_opening (named Open (join_number (read_number heap) (numbers (words grants)))) ≡ line_opening l
  unfolding numbers
  opening_two heap grants q = sym (ap (λ ws. phrase_opening (named Open (numbers ws))) q.parts) ∙ line_opening_is l name rest m Open e
