-- The queue that words hold: its places; with a handle more, and with the oldest less. Words that hold the same queue are the same, so a call that leaves the
-- queue as it was changes no word.
use Prim.Native.Nat.{ℕ, ◌+◌, ◌-◌, ◌*◌, ◌/◌, ◌%◌, ◌≤◌, ◌<◌}
use mathlib.Core.Path.{◌≡◌, refl, ap, sym, subst, ◌∙◌}
use mathlib.Core.List.{List, [], ◌∷◌, ◌++◌}
use mathlib.Core.Bool.{Bool, true, false}
use native.Mathlib.Omega.{arith}
use borrow.Author.Tests.{ltb-true, ltb-false}
use lib.Dec.{ltb}
use lib.ListN.{length, get_or, set, drop, length-set, get_or-eq_default}
use lib.Seq.{get_or-set_same, get_or-set_other, ext_get_or}
use Rattle.lists.proofs.Bools.{by_eq}
use Rattle.words.proofs.Words.{length_table, get_or_table, table_put}
use Rattle.model.specs.Answers.{zero_handle}
use Rattle.model.specs.declared.Handle.{Handle}
use Rattle.queue.specs.declared.Queue.{Queue}
use Rattle.queue.specs.Queue.{PLACES, with_handle, without_oldest}
use Rattle.queue.specs.Places.{SENDER, RECEIVER, COUNT, FIRST, LAST, QUEUE_WORD_COUNT, handle_in, handles_of, queue_of, MovedUp}
use Rattle.queue.proofs.Shifting.{Moved, moved_all}

module _ (words : List ℕ) where
  pub handles_long : length (handles_of words) ≡ PLACES
  unfolding handles_of
  handles_long = length_table PLACES (handle_in words) 0

  pub handles_at : (p : ℕ) → p < PLACES → get_or (handles_of words) p zero_handle ≡ handle_in words p
  unfolding handles_of
  handles_at p l = get_or_table PLACES (handle_in words) p zero_handle l

-- one handle more: three words of a place are written, and the count
module _ (words : List ℕ) (long : length words ≡ QUEUE_WORD_COUNT) (h : Handle) (n : ℕ) (is : n ≡ get_or words COUNT 0) (room : n < PLACES) where
  abbrev at : ℕ
  at = FIRST + 3 * n

  abbrev one : List ℕ
  one = set words at h.base

  abbrev two : List ℕ
  two = set one (at + 1) h.length

  abbrev three : List ℕ
  three = set two (at + 2) h.serial

  abbrev pub longer : List ℕ
  longer = set three COUNT (n + 1)

  one_long : length one ≡ QUEUE_WORD_COUNT
  one_long = length-set words at h.base ∙ long

  two_long : length two ≡ QUEUE_WORD_COUNT
  two_long = length-set one (at + 1) h.length ∙ one_long

  three_long : length three ≡ QUEUE_WORD_COUNT
  three_long = length-set two (at + 2) h.serial ∙ two_long

  longer_other : (j : ℕ) → (j ≡ COUNT → ⊥) → (j ≡ at → ⊥) → (j ≡ at + 1 → ⊥) → (j ≡ at + 2 → ⊥) → get_or longer j 0 ≡ get_or words j 0
  longer_other j a b c d =
      get_or-set_other three COUNT j (n + 1) 0 a
      ∙ get_or-set_other two (at + 2) j h.serial 0 d
      ∙ get_or-set_other one (at + 1) j h.length 0 c
      ∙ get_or-set_other words at j h.base 0 b

  base_here : get_or longer at 0 ≡ h.base
  base_here =
      get_or-set_other three COUNT at (n + 1) 0 (λ e. omega arith)
      ∙ get_or-set_other two (at + 2) at h.serial 0 (λ e. omega arith)
      ∙ get_or-set_other one (at + 1) at h.length 0 (λ e. omega arith)
      ∙ get_or-set_same words at h.base 0 (omega (arith, long))

  length_here : get_or longer (at + 1) 0 ≡ h.length
  length_here =
      get_or-set_other three COUNT (at + 1) (n + 1) 0 (λ e. omega arith)
      ∙ get_or-set_other two (at + 2) (at + 1) h.serial 0 (λ e. omega arith)
      ∙ get_or-set_same one (at + 1) h.length 0 (omega (arith, one_long))

  serial_here : get_or longer (at + 2) 0 ≡ h.serial
  serial_here =
      get_or-set_other three COUNT (at + 2) (n + 1) 0 (λ e. omega arith)
      ∙ get_or-set_same two (at + 2) h.serial 0 (omega (arith, two_long))

  handle_other : (j : ℕ) → (j ≡ n → ⊥) → handle_in longer j ≡ handle_in words j
  handle_other j x =
      let b = longer_other (FIRST + 3 * j) (λ e. omega arith) (λ e. x (omega arith)) (λ e. omega arith) (λ e. omega arith) in
      let l = longer_other (FIRST + 3 * j + 1) (λ e. omega arith) (λ e. omega arith) (λ e. x (omega arith)) (λ e. omega arith) in
      let s = longer_other (FIRST + 3 * j + 2) (λ e. omega arith) (λ e. omega arith) (λ e. omega arith) (λ e. x (omega arith)) in
      λ i. record { base = b i; length = l i; serial = s i }

  pub put_is : queue_of longer ≡ with_handle h (queue_of words)
  unfolding handles_of
  put_is =
      let here : handle_in longer n ≡ h = (λ i. record { base = base_here i; length = length_here i; serial = serial_here i }) in
      let hs : handles_of longer ≡ set (handles_of words) (get_or words COUNT 0) h =
      table_put PLACES (handle_in words) (handle_in longer) n zero_handle room (λ j l x. handle_other j x)
      ∙ ap (set (handles_of words) n) here
      ∙ ap (λ (m : ℕ). set (handles_of words) m h) is in
      let a = longer_other SENDER (λ e. omega arith) (λ e. omega arith) (λ e. omega arith) (λ e. omega arith) in
      let b = longer_other RECEIVER (λ e. omega arith) (λ e. omega arith) (λ e. omega arith) (λ e. omega arith) in
      let c : get_or longer COUNT 0 ≡ get_or words COUNT 0 + 1 = get_or-set_same three COUNT (n + 1) 0 (omega (arith, three_long)) ∙ ap (λ (m : ℕ). m + 1) is in
      λ i. record { sender = a i; receiver = b i; count = c i; handles = hs i }

-- every place moves up by one: all but the last have, and now the last becomes zero
module _ (words left : List ℕ) (long : length words ≡ QUEUE_WORD_COUNT) (as_long : length left ≡ QUEUE_WORD_COUNT)
    (before : (j : ℕ) → j < FIRST → get_or left j 0 ≡ get_or words j 0) (moved : (j : ℕ) → FIRST ≤ j → j < LAST → get_or left j 0 ≡ get_or words (j + 3) 0)
  where
    abbrev first_zero : List ℕ
    first_zero = set left LAST 0

    abbrev two_zero : List ℕ
    two_zero = set first_zero (LAST + 1) 0

    abbrev pub all_zero : List ℕ
    all_zero = set two_zero (LAST + 2) 0

    first_long : length first_zero ≡ QUEUE_WORD_COUNT
    first_long = length-set left LAST 0 ∙ as_long

    both_long : length two_zero ≡ QUEUE_WORD_COUNT
    both_long = length-set first_zero (LAST + 1) 0 ∙ first_long

    zero_other : (j : ℕ) → (j ≡ LAST → ⊥) → (j ≡ LAST + 1 → ⊥) → (j ≡ LAST + 2 → ⊥) → get_or all_zero j 0 ≡ get_or left j 0
    zero_other j a b c = get_or-set_other two_zero (LAST + 2) j 0 0 c ∙ get_or-set_other first_zero (LAST + 1) j 0 0 b ∙ get_or-set_other left LAST j 0 0 a

    -- a word of the last place: there is none three words behind it
    zero_at : (j k : ℕ) → LAST ≤ k → j ≡ k → get_or all_zero k 0 ≡ 0 → get_or all_zero j 0 ≡ get_or words (j + 3) 0
    zero_at j k l e z = ap (λ (x : ℕ). get_or all_zero x 0) e ∙ z ∙ sym (get_or-eq_default words 0 (omega (arith, long)))

    pub last_zero : MovedUp words all_zero
    last_zero = (
      length-set two_zero (LAST + 2) 0 ∙ both_long,
      λ j l. zero_other j (λ e. omega arith) (λ e. omega arith) (λ e. omega arith) ∙ before j l,
      λ j f l.
          by_eq j (LAST + 2)
          (λ e. zero_at j (LAST + 2) (omega arith) e (get_or-set_same two_zero (LAST + 2) 0 0 (omega (arith, both_long))))
          (λ x. by_eq j (LAST + 1)
          (λ e. zero_at j (LAST + 1) (omega arith) e
          (get_or-set_other two_zero (LAST + 2) (LAST + 1) 0 0 (λ z. omega arith) ∙ get_or-set_same first_zero (LAST + 1) 0 0 (omega (arith, first_long))))
          (λ y. by_eq j LAST
          (λ e. zero_at j LAST (omega arith) e
          (get_or-set_other two_zero (LAST + 2) LAST 0 0 (λ z. omega arith) ∙ get_or-set_other first_zero (LAST + 1) LAST 0 0 (λ z. omega arith)
          ∙ get_or-set_same left LAST 0 0 (omega (arith, as_long))))
          (λ z. zero_other j z y x ∙ moved j f (omega arith)))),
    )

-- the oldest less: every place moves up by one, and the count is written
module _ (words words' : List ℕ) (long : length words ≡ QUEUE_WORD_COUNT) (m : MovedUp words words') (v : ℕ) where
  abbrev pub shorter : List ℕ
  shorter = set words' COUNT v

  word_behind : (j k : ℕ) → FIRST ≤ j → j < QUEUE_WORD_COUNT → j + 3 ≡ k → get_or shorter j 0 ≡ get_or words k 0
  word_behind j k f l e = get_or-set_other words' COUNT j v 0 (λ z. omega arith) ∙ m.2 j f l ∙ ap (λ (x : ℕ). get_or words x 0) e

  handle_behind : (p : ℕ) → p < PLACES → handle_in shorter p ≡ handle_in words (p + 1)
  handle_behind p l =
      let a = word_behind (FIRST + 3 * p) (FIRST + 3 * (p + 1)) (omega arith) (omega arith) (omega arith) in
      let b = word_behind (FIRST + 3 * p + 1) (FIRST + 3 * (p + 1) + 1) (omega arith) (omega arith) (omega arith) in
      let c = word_behind (FIRST + 3 * p + 2) (FIRST + 3 * (p + 1) + 2) (omega arith) (omega arith) (omega arith) in
      λ i. record { base = a i; length = b i; serial = c i }

  none_behind : handle_in words PLACES ≡ zero_handle
  none_behind =
      let out : (c : ℕ) → get_or words (QUEUE_WORD_COUNT + c) 0 ≡ 0 = (λ c. get_or-eq_default words 0 (omega (arith, long))) in
      λ i. record { base = out 0 i; length = out 1 i; serial = out 2 i }

  places_up : Moved (handles_of words) (handles_of shorter) PLACES
  places_up =
      record {
        long = handles_long shorter;
        moved = λ j l. handles_at shorter j (omega arith) ∙ handle_behind j (omega arith) ∙ sym (handles_at words (j + 1) l);
        rest = λ j l.
            by_eq j 15
            (λ e.
            ap (λ (x : ℕ). get_or (handles_of shorter) x zero_handle) e ∙ handles_at shorter 15 (omega arith) ∙ handle_behind 15 (omega arith)
            ∙ none_behind)
            (λ x. get_or-eq_default (handles_of shorter) zero_handle (omega (arith, handles_long shorter)));
      }

  pub dropped_is : v ≡ get_or words COUNT 0 - 1 → queue_of shorter ≡ without_oldest (queue_of words)
  unfolding without_oldest
  dropped_is e =
      let hs : handles_of shorter ≡ drop 1 (handles_of words) ++ (zero_handle ∷ []) =
      moved_all (handles_of words) (handles_of shorter) PLACES (omega arith) places_up (handles_long words) (omega arith) (omega arith) in
      let a = get_or-set_other words' COUNT SENDER v 0 (λ z. omega arith) ∙ m.1 SENDER (omega arith) in
      let b = get_or-set_other words' COUNT RECEIVER v 0 (λ z. omega arith) ∙ m.1 RECEIVER (omega arith) in
      let c = get_or-set_same words' COUNT v 0 (omega (arith, m.0)) ∙ e in
      λ i. record { sender = a i; receiver = b i; count = c i; handles = hs i }

-- words that hold the same queue
module _ (words words' : List ℕ) (same : queue_of words' ≡ queue_of words) where
  abbrev Same : ℕ → Type 0
  Same j = get_or words' j 0 ≡ get_or words j 0

  at_place : (p : ℕ) → p < PLACES → handle_in words' p ≡ handle_in words p
  at_place p l = sym (handles_at words' p l) ∙ ap (λ (u : Queue). get_or u.handles p zero_handle) same ∙ handles_at words p l

  by_place : (j : ℕ) → FIRST ≤ j → j < QUEUE_WORD_COUNT → Same j
  by_place j f l =
      let p = (j - FIRST) / 3 in
      let e = at_place p (omega arith) in
      by_eq ((j - FIRST) % 3) 0
      (λ z. subst Same (omega arith) (ap (λ (h : Handle). h.base) e))
      (λ x. by_eq ((j - FIRST) % 3) 1
      (λ z. subst Same (omega arith) (ap (λ (h : Handle). h.length) e))
      (λ y. subst Same (omega arith) (ap (λ (h : Handle). h.serial) e)))

  each : (j : ℕ) → j < QUEUE_WORD_COUNT → Same j
  each j l = go (ltb j FIRST) refl
    where
      go : (t : Bool) → ltb j FIRST ≡ t → Same j
      go false e = by_place j (ltb-false j FIRST e) l
      go true e =
          let b = ltb-true j FIRST e in
          by_eq j SENDER
          (λ z. subst Same (sym z) (ap (λ (u : Queue). u.sender) same))
          (λ x. by_eq j RECEIVER
          (λ z. subst Same (sym z) (ap (λ (u : Queue). u.receiver) same))
          (λ y. let z : COUNT ≡ j = omega arith in subst Same z (ap (λ (u : Queue). u.count) same)))

  pub same_queue : length words ≡ QUEUE_WORD_COUNT → length words' ≡ QUEUE_WORD_COUNT → words' ≡ words
  same_queue a b = ext_get_or 0 words' words (b ∙ sym a) (λ j l. each j (omega arith))
