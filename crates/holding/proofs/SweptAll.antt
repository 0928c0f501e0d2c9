-- The sweep among blocks: the heap of a consistent state is that of its blocks, so the walk may start on it, and what it leaves and gives is the definition's.
use Rattle.std.specs.Prelude.{Result, Ok, Err}
use Prim.Native.Nat.{ℕ}
use native.Mathlib.Omega.{arith}
use mathlib.Core.Path.{◌≡◌, ap, sym, ◌∙◌}
use mathlib.Core.List.{List, []}
use mathlib.Core.Bool.{true}
use lib.ListN.{length}
use Rattle.accounts.specs.declared.Accounts.{Accounts}
use Rattle.layout.specs.Bytes.{Octets}
use Rattle.layout.proofs.Parse.{parse_is}
use Rattle.model.specs.Answers.{verdict_values, amount_of, amount_values}
use Rattle.model.specs.Objects.{blocks_of}
use Rattle.model.specs.Consistent.{allowed, accounted, consistent}
use Rattle.model.specs.Refusals.{first_refusal, check_lines, row_lines}
use Rattle.model.specs.Calls.{check, sweep}
use Rattle.model.specs.declared.Refusal.{Refusal}
use Rattle.model.proofs.Consistent.{accounted_cut, accounted_apart}
use Rattle.lookup.proofs.Parsed.{total_parsed}
use Rattle.results.specs.Results.{outcome}
use Rattle.results.proofs.Lines.{check_refuses, check_accepts, check_accounted, refused_is, accepted_is}
use Rattle.invariant.proofs.Laid.{allowed_most}
use Rattle.results.specs.Results.{AmountResult}
use Rattle.results.specs.Results.{amount_outcome}
use Rattle.holding.specs.Sweeping.{Sweeping, Sweepable, Swept}
use Rattle.results.proofs.Amounts.{gives}
use Rattle.holding.proofs.Unquarantined.{sweeping_start}

module _ (unit : ℕ → ℕ) (s : List ℕ) (k : Accounts) (v : Result (Unit {0}) Refusal) (told : verdict_values v ≡ (check unit s k).values) where
  -- the check's refusal
  pub sweep_refuses : (r : AmountResult) (x : Refusal) → r ≡ record { accounts = k; answer = Err x } → v ≡ Err x → amount_outcome s r
      ≡ sweep unit s k
  unfolding sweep amount_values row_lines
  sweep_refuses r x e n = ap (amount_outcome s) e ∙ refused_is (first_refusal (check_lines unit s k)) s k _ x (check_refuses unit s k v told [] x n)

-- the walk may start
sweeping_of : (unit : ℕ → ℕ) (s : List ℕ) (k : Accounts) → Octets s → (allowed (length s) ≡ true) × (accounted s k ≡ true) × (consistent unit s k ≡ true)
    → Sweeping (blocks_of s) 0 0 s
sweeping_of unit s k o ok =
    let cut = (accounted_cut s k ok.1).0 in
    let bytes = (parse_is s (blocks_of s) o).0 cut in
    sweeping_start (blocks_of s) s (sym bytes.0) bytes.1 (accounted_apart s k ok.1)
    (omega (arith, total_parsed s (blocks_of s) cut, allowed_most (length s) ok.0))

pub sweepable : (unit : ℕ → ℕ) (s : List ℕ) (k : Accounts) → Octets s → (allowed (length s) ≡ true) × (accounted s k ≡ true) × (consistent unit s k ≡ true)
    → Sweepable s
sweepable unit s k o ok = (blocks_of s, sweeping_of unit s k o ok)

-- and what it leaves is the definition's
pub sweep_gives : (unit : ℕ → ℕ) (s : List ℕ) (k : Accounts) → Octets s → (v : Result (Unit {0}) Refusal)
    → verdict_values v ≡ (check unit s k).values → v ≡ Ok tt
    → (s' : List ℕ) (n : ℕ) → Swept s s' n
    → (r : AmountResult) → r ≡ record { accounts = k; answer = Ok n } → amount_outcome s' r ≡ sweep unit s k
unfolding sweep row_lines first_refusal
sweep_gives unit s k o v told ok s' n w r e =
    let f = w (blocks_of s) (sweeping_of unit s k o (check_accounted unit s k v told ok)) in
    gives s' k n r e ∙ (λ i. outcome (f.0 i) k (amount_of (f.1 i))) ∙ accepted_is (first_refusal (check_lines unit s k)) s k _
    (check_accepts unit s k v told [] ok)
