-- The accounts that a stream says, part by part.
use mathlib.Core.Path.{◌≡◌, ap, sym, ◌∙◌}
use mathlib.Core.List.{List, ◌++◌}
use mathlib.Core.Bool.{cond}
use Prim.Native.Nat.{ℕ}
use native.Mathlib.Omega.{arith}
use lib.ListN.{take, drop, get_or}
use Rattle.accounts.specs.declared.Accounts.{Accounts}
use Rattle.layout.specs.Bytes.{number}
use Rattle.image_model.specs.declared.Form.{Form}
use Rattle.image_model.specs.Items.{each}
use Rattle.image_model.specs.Stream.{tail_width, with_marks, entry_width, entries_at, record_width, records_at, blank}
use Rattle.image_model.specs.Reading.{entry_of, record_of, accounts_of}
use Rattle.image.proofs.Marked.{mark_at}

pub accounts_read : (f : Form) (t : List ℕ) (k : Accounts) (at : ℕ) → at ≡ records_at f
    → k.quotas ≡ each (entry_of f) (entry_width f) f.quotas (drop entries_at t) ++ drop f.quotas (blank f).quotas
    → k.last_serial ≡ number (take 4 (drop 8 t))
    → k.holds ≡ each record_of record_width f.records (drop at t) ++ drop f.records (blank f).holds
    → k.kind ≡ cond f.full (get_or t 3 0) 0
    → k.edition ≡ cond f.full (get_or t 2 0) 0
    → k ≡ accounts_of f t
unfolding accounts_of with_marks tail_width
accounts_read f t k at place qs last hs kind edition =
    let there = hs ∙ ap (λ (n : ℕ). each record_of record_width f.records (drop n t) ++ drop f.records (blank f).holds) place in
    let third = kind ∙ ap (λ (b : ℕ). cond f.full b 0) (sym (mark_at t 1 (omega arith))) in
    let second = edition ∙ ap (λ (b : ℕ). cond f.full b 0) (sym (mark_at t 0 (omega arith))) in
    λ i. record { quotas = qs i; last_serial = last i; holds = there i; kind = third i; edition = second i }
