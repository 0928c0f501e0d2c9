-- Openings of a line: it has a grant for each quota, of 32 bits; and an opening that is accepted begins a history.
use Rattle.std.specs.Prelude.{Option, Some, None}
use mathlib.Core.Path.{◌≡◌, refl, ap, sym, subst}
use mathlib.Core.List.{List, [], ◌∷◌}
use mathlib.Core.Bool.{Bool, true, false, cond, ◌&&◌}
use Prim.Native.Nat.{ℕ, zero, suc, ◌+◌, ◌*◌, ◌-◌, ◌≤◌}
use native.Mathlib.Omega.{arith}
use lib.Dec.{leb, eqb}
use borrow.Author.Tests.{leb-true, eqb-true}
use lib.ListN.{length, drop, get_or, length-drop}
use lib.Seq.{get_or-drop}
use Rattle.rounding.specs.Rounding.{table}
use Rattle.accounts.specs.declared.Accounts.{Accounts}
use Rattle.accounts.specs.Accounts.{QUOTAS, zero_accounts, plain}
use Rattle.model.specs.Answers.{Values, accepted}
use Rattle.model.specs.Refusals.{first_refusal, open_lines}
use Rattle.model.specs.Calls.{Outcome, unless, leaves, fresh, open_heap}
use Rattle.lists.proofs.Bools.{and_right}
use Rattle.ledger.specs.Ledger.{empty}
use Rattle.ledger.specs.History.{Begins, Opening as Begun}
use Rattle.replay_model.specs.Text.{is_digit, read_on, read_number, greatest_number}
use Rattle.replay_model.specs.Lines.{join_number, numbers, words}
use Rattle.replay_model.specs.Commands.{Opening, opening_of, named, phrase_of, phrase_opening, line_opening, word_of}
use Rattle.replay_model.specs.Events.{Reached, Granted}
use Rattle.replay_model.specs.declared.Word.{Word}
use Rattle.replay_model.specs.declared.Word.TheVariants.{Open, Alloc, Array, Claim, Free, All, Realloc, Unknown}

-- a number that was read is not too large
read_small : (n : ℕ) (w : List ℕ) (m : ℕ) → n ≤ greatest_number → read_on n w ≡ Some m → m ≤ greatest_number
unfolding read_on
read_small n [] m h e = let q : n ≡ m = cc in omega arith
read_small n (b ∷ w) m h e = go (is_digit b && leb (n * 10 + (b - 48)) greatest_number) refl (read_small (n * 10 + (b - 48)) w m) e
  where
    go : (t : Bool) → (is_digit b && leb (n * 10 + (b - 48)) greatest_number) ≡ t
        → (n * 10 + (b - 48) ≤ greatest_number → read_on (n * 10 + (b - 48)) w ≡ Some m → m ≤ greatest_number)
        → cond t (read_on (n * 10 + (b - 48)) w) None ≡ Some m → m ≤ greatest_number
    go true q ih f = ih (leb-true (n * 10 + (b - 48)) greatest_number (and_right (is_digit b) (leb (n * 10 + (b - 48)) greatest_number) q)) f
    go false q ih f = let z : ◌≡◌ {A = ℕ} 0 1 = cc in absurd (omega arith)

number_small : (w : List ℕ) (m : ℕ) → read_number w ≡ Some m → m ≤ greatest_number
unfolding read_number
number_small [] m e = let z : ◌≡◌ {A = ℕ} 0 1 = cc in absurd (omega arith)
number_small (b ∷ []) m e = read_small 0 (b ∷ []) m (omega arith) e
number_small (b ∷ (c ∷ w)) m e = go (eqb b 48) e
  where
    go : (t : Bool) → cond t None (read_on 0 (b ∷ (c ∷ w))) ≡ Some m → m ≤ greatest_number
    go true f = let z : ◌≡◌ {A = ℕ} 0 1 = cc in absurd (omega arith)
    go false f = read_small 0 (b ∷ (c ∷ w)) m (omega arith) f

-- nor is any of a line
abbrev Small : List ℕ → Type 0
Small ns = (i : ℕ) → get_or ns i 0 ≤ greatest_number

small_cons : (n : ℕ) (ns : List ℕ) → n ≤ greatest_number → Small ns → Small (n ∷ ns)
small_cons n ns h s zero = h
small_cons n ns h s (suc i) = s i

numbers_small : (ws : List (List ℕ)) (ns : List ℕ) → numbers ws ≡ Some ns → Small ns
unfolding numbers join_number
numbers_small [] ns e = let q : ns ≡ [] = cc in subst (λ (xs : List ℕ). Small xs) (sym q) (λ i. omega arith)
numbers_small (w ∷ ws) ns e = go (read_number w) refl (numbers ws) (λ ms. numbers_small ws ms) e
  where
    go : (o : Option ℕ) → read_number w ≡ o → (p : Option (List ℕ)) → ((ms : List ℕ) → p ≡ Some ms → Small ms) → join_number o p ≡ Some ns → Small ns
    go None a p ih f = let z : ◌≡◌ {A = ℕ} 0 1 = cc in absurd (omega arith)
    go (Some n) a None ih f = let z : ◌≡◌ {A = ℕ} 0 1 = cc in absurd (omega arith)
    go (Some n) a (Some ms) ih f =
        let q : n ∷ ms ≡ ns = cc in
        subst (λ (xs : List ℕ). Small xs) q (small_cons n ms (number_small w n a) (ih ms refl))

-- an opening's grants
abbrev grants_in : Option Opening → List ℕ
grants_in None = []
grants_in (Some o) = o.grants

grants_of : (ns : List ℕ) (o : Opening) → Small ns → opening_of Open ns ≡ Some o → Granted o.grants
unfolding opening_of
grants_of ns o s e = go (eqb (length ns) (QUOTAS + 1)) refl e
  where
    go : (t : Bool) → eqb (length ns) (QUOTAS + 1) ≡ t → cond t (Some (record { heap = get_or ns 0 0; grants = drop 1 ns })) None ≡ Some o → Granted o.grants
    go true q f =
        let g : drop 1 ns ≡ o.grants = ap (λ (x : Option Opening). grants_in x) f in
        let l = eqb-true (length ns) (QUOTAS + 1) q in
        subst (λ (gs : List ℕ). Granted gs) g
        (record { quotas = rw length-drop (omega arith); narrow = λ i. rw (get_or-drop 1 ns i 0) (omega (arith, s (1 + i))) })
    go false q f = let z : ◌≡◌ {A = ℕ} 0 1 = cc in absurd (omega arith)

granted_by : (x : Word) (ns : List ℕ) (o : Opening) → Small ns → opening_of x ns ≡ Some o → Granted o.grants
unfolding opening_of
granted_by Open ns o s e = grants_of ns o s e
granted_by Alloc ns o s e = let z : ◌≡◌ {A = ℕ} 0 1 = cc in absurd (omega arith)
granted_by Array ns o s e = let z : ◌≡◌ {A = ℕ} 0 1 = cc in absurd (omega arith)
granted_by Claim ns o s e = let z : ◌≡◌ {A = ℕ} 0 1 = cc in absurd (omega arith)
granted_by Free ns o s e = let z : ◌≡◌ {A = ℕ} 0 1 = cc in absurd (omega arith)
granted_by All ns o s e = let z : ◌≡◌ {A = ℕ} 0 1 = cc in absurd (omega arith)
granted_by Realloc ns o s e = let z : ◌≡◌ {A = ℕ} 0 1 = cc in absurd (omega arith)
granted_by Unknown ns o s e = let z : ◌≡◌ {A = ℕ} 0 1 = cc in absurd (omega arith)

granted_words : (ws : List (List ℕ)) (o : Opening) → phrase_opening (phrase_of ws) ≡ Some o → Granted o.grants
unfolding phrase_opening phrase_of named
granted_words [] o e = let z : ◌≡◌ {A = ℕ} 0 1 = cc in absurd (omega arith)
granted_words (w ∷ ws) o e = go (numbers ws) (numbers_small ws) e
  where
    go : (p : Option (List ℕ)) → ((ns : List ℕ) → p ≡ Some ns → Small ns) → phrase_opening (named (word_of w) p) ≡ Some o → Granted o.grants
    go None s f = let z : ◌≡◌ {A = ℕ} 0 1 = cc in absurd (omega arith)
    go (Some ns) s f = granted_by (word_of w) ns o (s ns refl) f

-- a line that opens has a grant for each quota
pub opening_granted : (l : List ℕ) (o : Opening) → line_opening l ≡ Some o → Granted o.grants
unfolding line_opening
opening_granted l o e = granted_words (words l) o e

-- the same of the definition: an opening that is not refused begins a history
unless_accepted : (n : ℕ) (s : List ℕ) (k : Accounts) (done : Outcome) → done.values ≡ accepted → (unless n s k done).values.refusal ≡ 0
    → (unless n s k done).values ≡ accepted
unfolding unless
unless_accepted zero s k done e z = e
unless_accepted (suc n) s k done e z = absurd (omega arith)

pub begins : (s grants : List ℕ) → Granted grants → (open_heap plain s grants).values.refusal ≡ 0
    → Begins table (empty plain grants) (open_heap plain s grants).heap (open_heap plain s grants).accounts
unfolding open_heap
begins s grants g z =
    let o = open_heap plain s grants in
    Begun plain grants refl (record {
      before = s;
      quotas = g.quotas;
      narrow = g.narrow;
      opens =
          ap (λ (x : Values). record { heap = o.heap; accounts = o.accounts; values = x })
          (unless_accepted (first_refusal (open_lines s)) s zero_accounts (leaves (fresh plain (length s) grants) accepted) refl z);
    })

pub opened_by : (s grants : List ℕ) → Granted grants → (open_heap plain s grants).values.refusal ≡ 0
    → Reached (open_heap plain s grants).heap (open_heap plain s grants).accounts
opened_by s grants g z = record { grants = grants; events = []; history = begins s grants g z }
