-- An object's bytes through a handle: the write of one byte, and the part of the heap that lend gives, after model's `lend`.
use Rattle.model.specs.declared.Refusal.{Refusal}
use Rattle.std.specs.Prelude.{ℕ, ◌+◌, ◌-◌, ◌≤◌, ◌≡◌, List, cond, length, set, take, drop, ltb, Result, Ok}
use Rattle.accounts.specs.declared.Accounts.{Accounts}
use Rattle.model.specs.Answers.{accepted, verdict_values}
use Rattle.model.specs.Refusals.{first_refusal, lend_lines}
use Rattle.model.specs.Calls.{Outcome, unless, unchanged, lend}
use Rattle.model.specs.declared.Handle.{Handle}
use Rattle.model.specs.declared.Range.{Range}

-- the heap with another byte at a place of a handle's range, which counts from its base; a place at or beyond its length writes nothing
unfoldable pub written : List ℕ → Handle → ℕ → ℕ → List ℕ
written s h at byte = cond (ltb at h.length) (set s (h.base + at) byte) s

-- the write of a history: lend's refusals, and else the byte in the range
unfoldable pub write_object : (ℕ → ℕ) → List ℕ → Accounts → Handle → ℕ → ℕ → Outcome
write_object unit s k h at byte =
    let done = unchanged (written s h at byte) k accepted in
    unless (first_refusal (lend_lines unit s k h)) s k done

-- lend's refusal, 0 where there is none; its range, from 0 to 0 where it is refused; and the bytes in that range
abbrev pub lent_refusal : (ℕ → ℕ) → List ℕ → Accounts → Handle → ℕ
lent_refusal unit s k h = (lend unit s k h).values.refusal

abbrev pub lent_range : (ℕ → ℕ) → List ℕ → Accounts → Handle → Range
lent_range unit s k h = (lend unit s k h).values.range

abbrev pub lent_bytes : (ℕ → ℕ) → List ℕ → Accounts → Handle → List ℕ
lent_bytes unit s k h = take ((lent_range unit s k h).end - (lent_range unit s k h).start) (drop (lent_range unit s k h).start s)

-- a verdict on a handle with lend's refusal; where it accepts, the handle's range lies in the heap
abbrev pub IsLent : (ℕ → ℕ) → List ℕ → Accounts → Handle → Result (Unit {0}) Refusal → Type 0
IsLent unit s k h v = (first_refusal (lend_lines unit s k h) ≡ (verdict_values v).refusal) × (v ≡ Ok tt → h.base + h.length ≤ length s)

-- these are what lend gives, and the range lies in the heap
pub record Spans (unit : ℕ → ℕ) (s : List ℕ) (k : Accounts) (h : Handle) (refusal start end : ℕ) : Type 0 where
  pub refuses : refusal ≡ lent_refusal unit s k h
  pub starts : start ≡ (lent_range unit s k h).start
  pub ends : end ≡ (lent_range unit s k h).end
  pub ordered : start ≤ end
  pub inside : end ≤ length s
