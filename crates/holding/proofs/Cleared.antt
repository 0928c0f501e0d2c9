-- What open writes is one free block of zeros, and its outcome is the definition's, refused or accepted.
use Rattle.std.specs.Prelude.{Ok, Err}
use mathlib.Core.Path.{◌≡◌, refl, ap, sym, ◌∙◌}
use Prim.Native.Nat.{ℕ, ◌+◌, ◌-◌, ◌/◌, ◌%◌, ◌≤◌}
use native.Mathlib.Omega.{arith}
use mathlib.Core.List.{List, [], ◌∷◌, ◌++◌, append-nil}
use mathlib.Core.Bool.{true, false, not, ◌&&◌}
use lib.Dec.{leb, eqb}
use lib.ListN.{length, replicate, length-replicate, replicate-append-replicate}
use borrow.Author.Tests.{leb-true}
use Rattle.accounts.specs.declared.Accounts.{Accounts}
use Rattle.accounts.specs.declared.settings.Settings.{Settings}
use Rattle.accounts.specs.Accounts.{zero_accounts, opened}
use Rattle.layout.specs.Bytes.{overwrite, zero_part}
use Rattle.layout.specs.Blocks.{header_bytes, write_header, render_from, render}
use Rattle.layout.proofs.Overwrite.{overwrite_at}
use Rattle.layout.proofs.Fields.{header_length}
use Rattle.model.specs.Answers.{accepted, verdict_values}
use Rattle.model.specs.Consistent.{allowed}
use Rattle.model.specs.Refusals.{first_refusal, line_1, open_lines}
use Rattle.model.specs.Calls.{leaves, fresh, open_heap}
use Rattle.model.specs.declared.Refusal.TheVariants.{HeapLength}
use Rattle.lists.proofs.Bools.{and_left, and_right}
use Rattle.results.specs.Results.{outcome}
use Rattle.results.proofs.Lines.{refused_is, accepted_is, line_refuses, line_passes}

-- a heap of an allowed length has room for a header, and at most 32,768 bytes
pub allowed_long : (n : ℕ) → allowed n ≡ true → (8 ≤ n) × (n ≤ 32768)
unfolding allowed
allowed_long n e =
    let f = and_right (eqb (n % 8) 0) (leb 64 n && leb n 32768) e in
    (omega (arith, leb-true 64 n (and_left (leb 64 n) (leb n 32768) f)), leb-true n 32768 (and_right (leb 64 n) (leb n 32768) f))

-- zeros with the header of the whole in front are one free block
pub cleared : (s : List ℕ) → 8 ≤ length s
    → write_header 0 (record { size = length s / 8; back = 0; serial = 0 }) (zero_part 0 (length s) s)
    ≡ render (record { serial = 0; body = replicate (length s - 8) 0 } ∷ [])
unfolding write_header zero_part render render_from
cleared s h =
    let n = length s - 8 in
    let b = header_bytes (record { size = length s / 8; back = 0; serial = 0 }) in
    let k : length s - 0 ≡ length s = omega arith in
    let j : 8 + n ≡ length s = omega arith in
    let z : overwrite 0 (replicate (length s) 0) s ≡ replicate (length s) 0 =
    rw (append-nil, append-nil) at (overwrite_at [] s [] (replicate (length s) 0) 0 refl (length-replicate (length s) 0)) in
    let p : replicate {A = ℕ} (length s) 0 ≡ replicate 8 0 ++ replicate n 0 =
    ap (λ (m : ℕ). replicate {A = ℕ} m 0) (sym j) ∙ sym (replicate-append-replicate 8 n 0) in
    let u : (8 + length (replicate {A = ℕ} n 0)) / 8 ≡ length s / 8 = ap (λ (m : ℕ). m / 8) (ap (λ (m : ℕ). 8 + m) (length-replicate n 0) ∙ j) in
    rw (k, z ∙ p, append-nil, u)
    (overwrite_at [] (replicate 8 0) (replicate n 0) b 0 refl
    (header_length (record { size = length s / 8; back = 0; serial = 0 }) ∙ sym (length-replicate {A = ℕ} 8 0)))

module _ (g : Settings) (s gs : List ℕ) (k : Accounts) where
  pub open_refused : k ≡ zero_accounts → allowed (length s) ≡ false → outcome s k (verdict_values (Err HeapLength)) ≡ open_heap g s gs
  unfolding open_heap open_lines line_1 verdict_values
  open_refused e f =
      rw e (refused_is (first_refusal (open_lines s)) s zero_accounts (leaves (fresh g (length s) gs) accepted) HeapLength
      (line_refuses 1 (not (allowed (length s))) [] (rw f)))

  pub open_accepted : (t : List ℕ) → k ≡ opened g gs → t ≡ write_header 0 (record { size = length s / 8; back = 0; serial = 0 }) (zero_part 0 (length s) s)
      → allowed (length s) ≡ true → outcome t k (verdict_values (Ok tt)) ≡ open_heap g s gs
  unfolding open_heap open_lines line_1 verdict_values fresh first_refusal
  open_accepted t e f a =
      rw (e, f, cleared s (allowed_long (length s) a).0)
      (accepted_is (first_refusal (open_lines s)) s zero_accounts (leaves (fresh g (length s) gs) accepted)
      (line_passes 1 (not (allowed (length s))) [] (rw a)))
