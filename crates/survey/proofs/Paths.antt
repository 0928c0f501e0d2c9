-- Paths through the index: links go up, and a search along a serial's path finds what a search place by place finds,
-- since the path leads to every place that has the serial. A record that is hung into an empty link is at the end of
-- its path, and every other path stays.
use Rattle.std.proofs.Common.{◌≡◌, ℕ, ◌+◌, ◌*◌, ◌/◌, ◌%◌, ◌<◌, ◌≤◌, true, false, ltb, ◌⊎◌, List, get_or, set, sym, refl, ap, ◌∙◌, subst, inl, inr, true≢false}
use Rattle.std.proofs.Common.{arith, length-set, get_or-set_other, get_or-set_same, ltb-false, ltb-true}
use Rattle.lists.proofs.Bools.{by_test, by_eq}
use Rattle.accounts.specs.Accounts.{HOLDS}
use Rattle.audit.specs.Keys.{for_serial}
use Rattle.survey.specs.Index.{SLOTS, LINKS, slot, fork, step, Leads, here, on, Findable, Growing}
use Rattle.survey.specs.Clauses.{Hung}

pub slot_small : (s : ℕ) → slot s < SLOTS
unfolding slot
slot_small s = omega arith

-- a link's place is that of its record
pub fork_small : (b : ℕ) → fork b ≤ HOLDS
unfolding fork
fork_small b = let z : b / HOLDS % 2 < 2 = omega arith in omega arith

pub fork_place : (n b : ℕ) → n < HOLDS → (n + fork b) % HOLDS ≡ n
unfolding fork
fork_place n b l =
    by_eq (b / HOLDS % 2) 0
    (λ e. ap (λ (x : ℕ). (n + HOLDS * x) % HOLDS) e ∙ omega arith)
    (λ e. let z : b / HOLDS % 2 ≡ 1 = omega (arith, e) in ap (λ (x : ℕ). (n + HOLDS * x) % HOLDS) z ∙ omega arith)

pub fork_inside : (n b : ℕ) → n < HOLDS → n + fork b < LINKS
unfolding fork
fork_inside n b l =
    by_eq (b / HOLDS % 2) 0
    (λ e. let z : HOLDS * (b / HOLDS % 2) ≡ 0 = ap (λ (x : ℕ). HOLDS * x) e in omega arith)
    (λ e. let o : b / HOLDS % 2 ≡ 1 = omega (arith, e) in let z : HOLDS * (b / HOLDS % 2) ≡ HOLDS = ap (λ (x : ℕ). HOLDS * x) o in omega arith)

-- where bits lead
module _ (trail : List ℕ) where
  -- from a place behind the table to no other
  pub leads_end : {b n p : ℕ} → HOLDS ≤ n → Leads trail b n p → n ≡ p
  leads_end h here = refl
  leads_end h (on l r) = absurd (omega arith)

  pub leads_up : ((b p : ℕ) → p < HOLDS → p < step trail b p) → {b n p : ℕ} → Leads trail b n p → n ≤ p
  leads_up a here = omega arith
  leads_up a (on {b} {n} {p} l r) = let h = a b n l in let k = leads_up a r in omega arith

  -- to the place itself, or further
  pub leads_case : {b n p : ℕ} → Leads trail b n p → (n ≡ p) ⊎ ((n < HOLDS) × Leads trail (b / 2) (step trail b n) p)
  leads_case here = inl refl
  leads_case (on l r) = inr (l, r)

-- no place before the path has the serial
pub before_path : {keys trail : List ℕ} {bits from s : ℕ} → Findable keys trail bits from s → (x : ℕ) → x < HOLDS → x < from
    → for_serial s (get_or keys x 0) ≡ false
before_path {keys} {trail} {s = s} f x l b =
    by_test (for_serial s (get_or keys x 0))
    (λ e. let k = leads_up trail (λ b p h. (f.up b p h).0) (f.covers x l e) in absurd (omega arith))
    (λ e. e)

-- one link on, from a place that does not have the serial
module _ {keys trail : List ℕ} {bits n s : ℕ} (f : Findable keys trail bits n s) (l : n < HOLDS) (miss : for_serial s (get_or keys n 0) ≡ false) where
  covers_on : (p : ℕ) → p < HOLDS → for_serial s (get_or keys p 0) ≡ true → Leads trail (bits / 2) (step trail bits n) p
  covers_on p h e = go (leads_case trail (f.covers p h e))
    where
      go : (n ≡ p) ⊎ ((n < HOLDS) × Leads trail (bits / 2) (step trail bits n) p) → Leads trail (bits / 2) (step trail bits n) p
      go (inl q) = absurd (true≢false (sym e ∙ ap (λ (x : ℕ). for_serial s (get_or keys x 0)) (sym q) ∙ miss))
      go (inr w) = w.1

  pub find_on : Findable keys trail (bits / 2) (step trail bits n) s
  find_on = record { inside = (f.up bits n l).1; long = f.long; up = f.up; covers = covers_on }

-- one link on, from a place whose key was struck
module _ {keys trail : List ℕ} {bits n s : ℕ} (f : Findable keys trail bits n s) (l : n < HOLDS) (zero_not : for_serial s 0 ≡ false) where
  struck_on : (p : ℕ) → p < HOLDS → for_serial s (get_or (set keys n 0) p 0) ≡ true → Leads trail (bits / 2) (step trail bits n) p
  struck_on p h e =
      by_eq p n
      (λ w.
      let long = f.long in
      absurd (true≢false (sym e ∙ ap (λ (y : ℕ). for_serial s (get_or (set keys n 0) y 0)) w ∙ ap (for_serial s) (get_or-set_same keys n 0 0 (omega arith))
      ∙ zero_not)))
      (λ w. go w (leads_case trail (f.covers p h (sym (ap (for_serial s) (get_or-set_other keys n p 0 0 w)) ∙ e))))
    where
      go : (p ≡ n → ⊥) → (n ≡ p) ⊎ ((n < HOLDS) × Leads trail (bits / 2) (step trail bits n) p) → Leads trail (bits / 2) (step trail bits n) p
      go w (inl z) = absurd (w (sym z))
      go w (inr z) = z.1

  pub find_struck : Findable (set keys n 0) trail (bits / 2) (step trail bits n) s
  find_struck = record { inside = (f.up bits n l).1; long = length-set keys n 0 ∙ f.long; up = f.up; covers = struck_on }

-- the way to a place of a path: over links that are not empty
pub data Way (links : List ℕ) : ℕ → ℕ → ℕ → ℕ → Type 0 where
  stay : {b n : ℕ} → Way links b n b n
  go : {b n b' n' : ℕ} → n < HOLDS → step links b n < HOLDS → Way links (b / 2) (step links b n) b' n' → Way links b n b' n'

pub way_more : {links : List ℕ} {b n b' n' : ℕ} → Way links b n b' n' → n' < HOLDS → step links b' n' < HOLDS → Way links b n (b' / 2) (step links b' n')
way_more stay l h = go l h stay
way_more (go a e w) l h = go a e (way_more w l h)

-- an empty link is on no way, and leads to no place
module _ (links : List ℕ) (x i : ℕ) (empty : HOLDS ≤ get_or links x 0) where
  kept : (b n : ℕ) → step links b n < HOLDS → step (set links x i) b n ≡ step links b n
  kept b n h = get_or-set_other links x (n + fork b) i 0 (λ e. let z = ap (λ (y : ℕ). get_or links y 0) e in absurd (omega arith))

  pub way_leads : {b n b' n' p : ℕ} → Way links b n b' n' → Leads (set links x i) b' n' p → Leads (set links x i) b n p
  way_leads stay r = r
  way_leads {p = p} (go {b} {n} a e w) r = on a (subst (λ (y : ℕ). Leads (set links x i) (b / 2) y p) (sym (kept b n e)) (way_leads w r))

  pub leads_kept : {b n p : ℕ} → p < HOLDS → Leads links b n p → Leads (set links x i) b n p
  leads_kept l here = here
  leads_kept {p = p} l (on {b} {n} h r) =
      by_eq (n + fork b) x
      (λ e.
      let z : step links b n ≡ get_or links x 0 = ap (λ (y : ℕ). get_or links y 0) e in
      let w = leads_end links (omega (arith, z, empty)) r in absurd (omega (arith, w, z, empty)))
      (λ e. on h (subst (λ (y : ℕ). Leads (set links x i) (b / 2) y p) (sym (get_or-set_other links x (n + fork b) i 0 e)) (leads_kept l r)))

-- the record at the end of the way
pub hangs : {links : List ℕ} {bits root i at way : ℕ} → Growing i links → Way links bits root way at → at < i → i < HOLDS → HOLDS ≤ step links way at
    → Hung bits root i links (set links (at + fork way) i)
hangs {links} {i = i} {at = at} {way = way} g w a l e =
    let x = at + fork way in
    let inside = fork_inside at way (omega arith) in
    let new : step (set links x i) way at ≡ i = get_or-set_same links x i 0 (omega (arith, g.long)) in
    record {
      place = at;
      way = way;
      inside = a;
      empty = e;
      put = refl;
      leads = way_leads links x i e w (on (omega arith) (subst (λ (y : ℕ). Leads (set links x i) (way / 2) y i) (sym new) here));
    }

-- the end of a path: an empty link of a record before place i
pub record End (links : List ℕ) (bits root i link : ℕ) : Type 0 where
  pub place : ℕ
  pub way : ℕ
  pub before : place < i
  pub there : link ≡ place + fork way
  pub path : Way links bits root way place
  pub ends : HOLDS ≤ step links way place

pub link_rises : {links : List ℕ} {i at : ℕ} (bits : ℕ) → Growing i links → at < HOLDS → at < step links bits at
link_rises {links} {at = at} bits g l =
    by_test (ltb (step links bits at) HOLDS)
    (λ t.
    let r = g.rising (at + fork bits) (fork_inside at bits l) (ltb-true (step links bits at) HOLDS t) in
    omega (arith, r.0, fork_place at bits l))
    (λ t. omega (arith, ltb-false (step links bits at) HOLDS t))

pub hangs_at : {links : List ℕ} {bits root i link : ℕ} → Growing i links → i < HOLDS → End links bits root i link → Hung bits root i links (set links link i)
hangs_at {links} {bits} {root} {i} g l e = subst (λ (x : ℕ). Hung bits root i links (set links x i)) (sym e.there)
    (hangs g e.path e.before l e.ends)
