-- The laws don't hold of the wrong heaps: each is refuted by a short list of calls that is computed.
use Rattle.std.specs.Prelude.{Option, Some, None}
use Prim.Native.Nat.{ℕ, zero, suc, ◌-◌, ◌≤◌, ◌^◌}
use native.Mathlib.Omega.{arith}
use mathlib.Core.Path.{◌≡◌, refl, ap, sym, subst, ◌∙◌}
use mathlib.Core.List.{List, [], ◌∷◌, Memᴰ}
use mathlib.Core.Bool.{Bool, true, false, true≢false, false≢true}
use lib.ListN.{length, replicate, get_or, set}
use lib.Seq.{get_or-set_other}
use lib.Dec.{ltb}
use borrow.Author.Tests.{ltb-true}
use Rattle.accounts.specs.declared.Quota.{Quota}
use Rattle.accounts.specs.Accounts.{QUOTAS, plain, remaining}
use Rattle.rounding.specs.Rounding.{table}
use Rattle.lists.specs.Lists.{all}
use Rattle.model.specs.Answers.{Values}
use Rattle.model.specs.Objects.{objects_of}
use Rattle.model.specs.Calls.{Outcome, open_heap}
use Rattle.model.specs.declared.Handle.{Handle}
use Rattle.model.specs.declared.Call.{Call}
use Rattle.model.specs.declared.Call.TheVariants.{Allocate, Claim, Release, Lend}
use Rattle.lists.proofs.Bools.{and_left, and_right}
use Rattle.model.proofs.Computing.{computing}
use Rattle.ledger.specs.Ledger.{Ledger, Event, Called, Wrote, empty}
use Rattle.ledger.specs.History.{Run, Begins, Opening, in_object, Written, History}
use Rattle.ledger.specs.Contents.{contents}
use Rattle.ledger.specs.Wrong.{at_allocate, at_release}
use Rattle.ledger.proofs.Recording.{recording}
use Rattle.safety.specs.Stale.{lines_before_5, StaleForever}
use Rattle.safety.specs.Left.{clean_block, clean, is_zero, blank, NothingLeft}
use Rattle.safety.specs.Returned.{all_permitted, AllReturned}
use Rattle.safety.specs.Isolated.{Alike, Isolated}
use Rattle.safety.specs.Untouched.{Keeps, Untouched}
use Rattle.safety.specs.Paid.{live_charges, paid_in, PaidFor}
use Rattle.safety.specs.Wrong.{reuses_serials, leaves_the_bytes, keeps_eight, keeps_the_heap, asks_the_next}
use Rattle.safety.specs.Wrong.{charges_the_next, frees_for_the_next, marks_the_heap, charges_nothing}
use Rattle.safety.proofs.Rows

-- quota 0 has 1000 bytes, quota 1 so many, and the others none
grants_with : ℕ → List ℕ
grants_with n = 1000 ∷ n ∷ replicate (QUOTAS - 2) 0

given : List ℕ
given = grants_with 1000

-- what all pass, any place does
each : {A : Type 0} (p : A → Bool) (d : A) → p d ≡ true → (xs : List A) → all p xs ≡ true → (i : ℕ) → p (get_or xs i d) ≡ true
unfolding all
each p d e [] a i = e
each p d e (x ∷ xs) a zero = and_left (p x) (all p xs) a
each p d e (x ∷ xs) a (suc i) = each p d e xs (and_right (p x) (all p xs) a) i

-- a plain heap of 64 bytes
fresh : ℕ → Outcome
fresh n = open_heap plain (replicate 64 0) (grants_with n)

begun : Ledger
begun = empty plain given

opening : Begins table begun (fresh 1000).heap (fresh 1000).accounts
unfolding computing grants_with given fresh begun
opening =
    Opening plain given refl
    (record {
      before = replicate 64 0;
      quotas = refl;
      narrow = λ q. ltb-true (get_or given q 0) (2 ^ 32) (each (λ g. ltb g (2 ^ 32)) 0 refl given refl q);
      opens = refl;
    })

-- an opening and these calls, the newest first
module _ (run : Run) where
  after : List Call → Outcome
  after [] = fresh 1000
  after (c ∷ cs) = run c (after cs).heap (after cs).accounts

  events : List Call → List Event
  events [] = []
  events (c ∷ cs) = Called c (run c (after cs).heap (after cs).accounts).values ∷ events cs

  history : (cs : List Call) → History table run begun (events cs) (after cs).heap (after cs).accounts
  unfolding after events
  history [] = opening
  history (c ∷ cs) = ((after cs).heap, (after cs).accounts, history cs, refl)

-- the first object of 8 bytes
abbrev first : Handle
first = record { base = 8; length = 8; serial = 1 }

-- the handle of an object that was released names the next one
pub refuted_reuses_serials : StaleForever table reuses_serials → ⊥
unfolding computing recording grants_with given fresh begun after events reuses_serials at_release lines_before_5
refuted_reuses_serials l =
    let was = Allocate 0 8 ∷ [] in
    let left = Release 0 first ∷ was in
    let t = after reuses_serials (Allocate 0 8 ∷ left) in
    let middle : List Event = Called (Release 0 first) (after reuses_serials left).values ∷ [] in
    let back : List Event = Called (Allocate 0 8) t.values ∷ [] in
    let n =
    l.always begun (events reuses_serials was) middle back t.heap t.accounts (history reuses_serials (Allocate 0 8 ∷ left)) refl refl first
    (first, mathlib.Core.List.Memᴰ.head refl, refl) (λ r. mathlib.Core.List.Memᴰ.not-nil r.1) in
    let e : ◌≡◌ {A = ℕ} 0 5 = ap (λ (t : Outcome). t.values.refusal) (n.by_5 (Lend first) refl refl) in
    omega arith

-- bytes of a heap that are written at a place of an object
written_at : (s : List ℕ) (i v : ℕ) → length (set s i v) ≡ length s → all (λ b. ltb b 256) (set s i v) ≡ true → in_object i (objects_of s) ≡ true
    → Written s (set s i v)
written_at s i v l o t =
    record {
      same_length = l;
      octets = λ j. ltb-true (get_or (set s i v) j 0) 256 (each (λ b. ltb b 256) 0 refl (set s i v) o j);
      inside = λ j f. get_or-set_other s i j v 0 (λ e. true≢false (subst (λ (x : ℕ). true ≡ in_object x (objects_of s)) (sym e) (sym t) ∙ f));
    }

-- 7 is still in the free block
pub refuted_leaves_the_bytes : NothingLeft table leaves_the_bytes → ⊥
unfolding computing recording grants_with given fresh begun opening after events history leaves_the_bytes at_release in_object clean_block clean blank
refuted_leaves_the_bytes l =
    let made = after leaves_the_bytes (Allocate 0 8 ∷ []) in
    let s = set made.heap 8 7 in
    let t = leaves_the_bytes (Release 0 first) s made.accounts in
    let w : Written made.heap s = written_at made.heap 8 7 refl refl refl in
    let e : ◌≡◌ {A = Bool} false true =
    l.always begun (Called (Release 0 first) t.values ∷ Wrote ∷ events leaves_the_bytes (Allocate 0 8 ∷ [])) t.heap t.accounts
    (s, made.accounts, (made.heap, history leaves_the_bytes (Allocate 0 8 ∷ []), w), refl) tt in
    false≢true e

-- it is the release that left it there
pub refuted_leaves_a_byte : NothingLeft table leaves_the_bytes → ⊥
unfolding computing recording grants_with given fresh begun after events leaves_the_bytes at_release in_object clean_block clean blank
refuted_leaves_a_byte l =
    let made = after leaves_the_bytes (Allocate 0 8 ∷ []) in
    let s = set made.heap 8 7 in
    let w : Written made.heap s = written_at made.heap 8 7 refl refl refl in
    let e : ◌≡◌ {A = Bool} false true =
    l.called begun (Wrote ∷ events leaves_the_bytes (Allocate 0 8 ∷ [])) s made.accounts
    (made.heap, history leaves_the_bytes (Allocate 0 8 ∷ []), w) is_zero refl refl (Release 0 first) in
    false≢true e

-- 992 bytes remain of 1000
pub refuted_keeps_eight : AllReturned table keeps_eight → ⊥
unfolding computing recording grants_with given fresh begun opening after events history keeps_eight at_release all_permitted
refuted_keeps_eight l =
    let cs = Release 0 first ∷ Allocate 0 8 ∷ [] in
    let t = after keeps_eight cs in
    let r = l.opened plain given (events keeps_eight cs) t.heap t.accounts (history keeps_eight cs) tt (refl, refl) in
    let e : ◌≡◌ {A = ℕ} 1000 992 = ap (remaining 0) r.accounts in
    omega arith

-- the header of the first object is still there
pub refuted_keeps_the_heap : AllReturned table keeps_the_heap → ⊥
unfolding computing recording grants_with given fresh begun opening after events history keeps_the_heap at_release
refuted_keeps_the_heap l =
    let cs = Release 0 first ∷ Allocate 0 8 ∷ [] in
    let t = after keeps_the_heap cs in
    let r = l.opened plain given (events keeps_the_heap cs) t.heap t.accounts (history keeps_the_heap cs) tt (refl, refl) in
    let e : ◌≡◌ {A = ℕ} 8 2 = ap (λ (s : List ℕ). get_or s 0 0) r.heap in
    omega arith

same_number : (m n : ℕ) → Some m ≡ Some n → m ≡ n
same_number m n e = ap (λ (o : Option ℕ). number o) e
  where
    number : Option ℕ → ℕ
    number None = 0
    number (Some x) = x

-- quota 0 gets 8 bytes where quota 1 has 1000, and not where it has none
pub refuted_asks_the_next : Isolated table asks_the_next → ⊥
unfolding computing grants_with fresh asks_the_next at_allocate
refuted_asks_the_next l =
    let k = (fresh 1000).accounts in
    let k' = (fresh 0).accounts in
    let a : Alike 0 k k' = record { quota = refl; holds = λ serial. refl; edition = refl; last = refl; record_left = refl } in
    let e : ◌≡◌ {A = ℕ} 0 8 =
    ap (λ (v : Values). v.refusal) (l.always 0 (fresh 1000).heap k k' refl refl a (Allocate 0 8) (λ p e. sym (same_number 0 p e))) in
    omega arith

-- a call of quota 0 is not one of quota 1
other_quota : ◌≡◌ {A = Option ℕ} (Some 0) (Some 1) → ⊥
other_quota e = let z : ◌≡◌ {A = ℕ} 0 1 = same_number 0 1 e in omega arith

-- quota 0 allocates, and quota 1 has 992 left
pub refuted_charges_the_next : Untouched table charges_the_next → ⊥
unfolding computing grants_with given fresh begun after events charges_the_next at_allocate
refuted_charges_the_next l =
    let r = l.always begun [] (fresh 1000).heap (fresh 1000).accounts opening 1 (Allocate 0 8) other_quota in
    let e : ◌≡◌ {A = ℕ} 992 1000 = ap (λ (x : Quota). x.remainder) r.quota in
    omega arith

-- what the law says of quota 1 after these calls, where quota 0 releases the first object
module _ (run : Run) (l : Untouched table run) (cs : List Call) where
  released : Keeps 1 (after run cs).heap (after run cs).accounts (run (Release 0 first) (after run cs).heap (after run cs).accounts)
  released = l.always begun (events run cs) (after run cs).heap (after run cs).accounts (history run cs) 1 (Release 0 first) other_quota

-- quota 1 held the object once, and holds nothing
pub refuted_frees_for_the_next : Untouched table frees_for_the_next → ⊥
unfolding computing grants_with given fresh begun after frees_for_the_next at_release
refuted_frees_for_the_next l =
    let e : ◌≡◌ {A = ℕ} 0 1 = (released frees_for_the_next l (Claim 1 first ∷ Allocate 0 8 ∷ [])).holds 1 in
    omega arith

-- and the object is gone
pub refuted_frees_the_object : Untouched table frees_for_the_next → ⊥
unfolding computing grants_with given fresh begun after frees_for_the_next at_release
refuted_frees_the_object l =
    let r = released frees_for_the_next l (Claim 1 first ∷ Allocate 0 8 ∷ []) in
    let m : Memᴰ first [] = (r.objects first (mathlib.Core.List.Memᴰ.head {xs = []} refl) (omega arith)).0 in
    mathlib.Core.List.Memᴰ.not-nil m

-- quota 1 has the rest of the heap, and its last byte is 1
pub refuted_marks_the_heap : Untouched table marks_the_heap → ⊥
unfolding computing grants_with given fresh begun after marks_the_heap at_release contents
refuted_marks_the_heap l =
    let rest : Handle = record { base = 24; length = 40; serial = 2 } in
    let r = released marks_the_heap l (Allocate 1 40 ∷ Allocate 0 8 ∷ []) in
    let m : Memᴰ rest (first ∷ rest ∷ []) = mathlib.Core.List.Memᴰ.tail (mathlib.Core.List.Memᴰ.head {xs = []} refl) in
    let e : ◌≡◌ {A = ℕ} 1 0 = ap (λ (x : List ℕ). get_or x 39 0) (r.objects rest m (omega arith)).1 in
    omega arith

-- an object of 8 bytes is live, and nobody has paid
pub refuted_charges_nothing : PaidFor table charges_nothing → ⊥
unfolding computing grants_with given fresh begun after events charges_nothing at_allocate live_charges paid_in
refuted_charges_nothing l =
    let cs = Allocate 0 8 ∷ [] in
    let t = after charges_nothing cs in
    let e : 16 ≤ 0 = l.always begun (events charges_nothing cs) t.heap t.accounts (history charges_nothing cs) in
    omega arith
