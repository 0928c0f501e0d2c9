-- The list at the end: a state that a history leads to passes the check, so that the listing's call gives its blocks one after the other.
use Rattle.model.specs.declared.Refusal.{Refusal}
use Rattle.std.specs.Prelude.{Some, None, Option, Result, Ok, Err, IfSome}
use Rattle.std.specs.Result.{result_unwrap_or}
use mathlib.Core.Path.{◌≡◌, refl, ap, sym, subst, ◌∙◌}
use mathlib.Core.List.{List, [], ◌∷◌, ◌++◌, append-nil}
use Prim.Native.Nat.{ℕ, ◌+◌, ◌≤◌}
use native.Mathlib.Omega.{arith}
use lib.ListN.{length}
use lib.Seq.{append_snoc}
use Rattle.rounding.specs.Rounding.{table}
use Rattle.accounts.specs.declared.Accounts.{Accounts}
use Rattle.layout.specs.Blocks.{Block, size}
use Rattle.lists.specs.Lists.{total}
use Rattle.model.specs.Answers.{block_values}
use Rattle.model.specs.Objects.{blocks_of}
use Rattle.model.specs.Calls.{Outcome, listing_from, list_block}
use Rattle.model.specs.declared.ListedBlock.{ListedBlock}
use Rattle.lists.proofs.Lists.{total_append}
use Rattle.model.proofs.Listing.{listed_at, block_at, list_block_step, step_at, step_end}
use Rattle.results.specs.Results.{outcome}
use Rattle.queries.proofs.Listed.{given_inside}
use Rattle.replay_model.specs.Replay.{block_line, block_lines}
use Rattle.replay_model.specs.Events.{Reached}
use Rattle.replay_model.proofs.Reaching.{reached_checked}

-- the block that an answer lists
listed_is : (b : Result (Option ListedBlock) Refusal) → result_unwrap_or b None ≡ (block_values b).block
unfolding block_values
listed_is (Ok (Some l)) = refl
listed_is (Ok None) = refl
listed_is (Err r) = refl

-- what the listing's call gives at a place of a state that a history leads to
module _ (s : List ℕ) (k : Accounts) (r : Reached s k) (place : ℕ) (b : Result (Option ListedBlock) Refusal)
    (told : outcome s k (block_values b) ≡ list_block (table k.edition) s k place) where
  given_at : (block_values b).block ≡ block_at (blocks_of s) place
  given_at = ap (λ (o : Outcome). o.values.block) (told ∙ list_block_step (table k.edition) s k place (reached_checked s k r))

  -- and so the block that is there, if there is one
  pub given_is : result_unwrap_or b None ≡ block_at (blocks_of s) place
  given_is = listed_is b ∙ given_at

  pub given_ends : (x : Option ListedBlock) → x ≡ result_unwrap_or b None → IfSome x (λ l. l.offset + l.size ≤ length s)
  given_ends None e = tt
  given_ends (Some l) e =
      given_inside (table k.edition) s k place l (sym (ap (λ (o : Outcome). o.values.block) told) ∙ sym (listed_is b) ∙ sym e)

-- of the blocks bs, the blocks ys are left, and begin at a place
pub record Passing (bs : List Block) (place : ℕ) (ys : List Block) : Type 0 where
  pub front : List Block
  pub whole : bs ≡ front ++ ys
  pub starts : place ≡ total size front

pub passing_start : (bs : List Block) → Passing bs 0 bs
unfolding total
passing_start bs = record { front = []; whole = refl; starts = refl }

pub passing_more : (bs : List Block) (place : ℕ) (y : Block) (ys : List Block) → Passing bs place (y ∷ ys) → Passing bs (place + size y) ys
unfolding total
passing_more bs place y ys p =
    let q = p.starts in
    record { front = p.front ++ (y ∷ []); whole = p.whole ∙ sym (append_snoc p.front y ys); starts = rw total_append (omega arith) }

-- the call gives the first of them, and none where none is left
passing_at : (bs : List Block) (place : ℕ) (y : Block) (ys : List Block) → Passing bs place (y ∷ ys) → block_at bs place ≡ Some (listed_at place y)
passing_at bs place y ys p =
    (λ i. block_at (p.whole i) (p.starts i)) ∙ step_at p.front y ys ∙ ap (λ (n : ℕ). Some (listed_at n y)) (sym p.starts)

passing_end : (bs : List Block) (place : ℕ) → Passing bs place [] → block_at bs place ≡ None
passing_end bs place p =
    let q = p.starts in
    let e : bs ≡ p.front = p.whole ∙ append-nil p.front in
    step_end bs place (rw e (omega arith))

pub passing_none : (bs : List Block) (place : ℕ) (ys : List Block) → Passing bs place ys → block_at bs place ≡ None → ys ≡ []
passing_none bs place [] p e = refl
passing_none bs place (y ∷ ys) p e =
    let q = passing_at bs place y ys p in
    let z : ◌≡◌ {A = ℕ} 0 1 = cc in
    absurd (omega arith)

-- the block that is given, and those behind it
pub record Next (ys : List Block) (place : ℕ) (l : ListedBlock) : Type 0 where
  pub block : Block
  pub behind : List Block
  pub split : ys ≡ block ∷ behind
  pub is : listed_at place block ≡ l

pub passing_some : (bs : List Block) (place : ℕ) (ys : List Block) (l : ListedBlock) → Passing bs place ys → block_at bs place ≡ Some l → Next ys place l
passing_some bs place [] l p e =
    let q = passing_end bs place p in
    let z : ◌≡◌ {A = ℕ} 0 1 = cc in
    absurd (omega arith)
passing_some bs place (y ∷ ys) l p e =
    let q = passing_at bs place y ys p in
    record { block = y; behind = ys; split = refl; is = cc }

-- the lines of the blocks that are left: the line of the first, and of those behind it
module _ (ys : List Block) (place : ℕ) (l : ListedBlock) (n : Next ys place l) where
  pub next_place : l.offset ≡ place
  next_place = sym (ap (λ (b : ListedBlock). b.offset) n.is)

  pub next_size : 8 ≤ l.size
  next_size =
      let q : size n.block ≡ l.size = ap (λ (b : ListedBlock). b.size) n.is in
      omega arith

  next_end : place + size n.block ≡ l.offset + l.size
  next_end i = (n.is i).offset + (n.is i).size

  pub next_lines : block_lines (listing_from place ys) ≡ block_line l ++ block_lines (listing_from (l.offset + l.size) n.behind)
  unfolding listing_from block_lines
  next_lines =
      ap (λ (bs : List Block). block_lines (listing_from place bs)) n.split
      ∙ (λ i. block_line (n.is i) ++ block_lines (listing_from (next_end i) n.behind))

  pub next_passing : (bs : List Block) → Passing bs place ys → Passing bs (l.offset + l.size) n.behind
  next_passing bs p =
      subst (λ (m : ℕ). Passing bs m n.behind) next_end
      (passing_more bs place n.block n.behind (subst (λ (zs : List Block). Passing bs place zs) n.split p))
