-- `words::accounts_of` meets its contract: each place of the two tables has what the words say.
use native.Mathlib.Omega.{arith}
use borrow.Author.Rules.{rules}
use mathlib.Core.Path.{sym, ◌∙◌}
use lib.Seq.{ext_get_or}
use Rattle.accounts.specs.Accounts.{QUOTAS, HOLDS, zero_quota, zero_hold, hold_at}
use Rattle.words.specs.Words.{entry_in, quotas_of, holds_of, accounts_of}
use Rattle.words.proofs.Words.{quotas_long, quotas_at, holds_long}
use Rattle.words.proofs.Tables.{made}
use Rattle.words.proofs.copying.accounts_of.Goals as goal

pub returns : goal.returns
unfolding hold_at
returns c =
    let w = c.args.words.now in
    let quotas = c.from_fn.ensures.items in
    let holds = c.from_fn-2.ensures.items in
    λ i. record {
      quotas = ext_get_or zero_quota c.from_fn.result (quotas_of w) (quotas.long ∙ sym (quotas_long w))
          (λ j l. made (entry_in w) _ (λ j y q called. search rules) c.from_fn.result zero_quota QUOTAS quotas j (omega (arith, quotas.long))
          ∙ sym (quotas_at w j (omega (arith, quotas.long)))) i;
      last_serial = c.last_serial.ensures i;
      holds = ext_get_or zero_hold c.from_fn-2.result (holds_of w) (holds.long ∙ sym (holds_long w))
          (λ j l. made (λ p. hold_at p (accounts_of w)) _ (λ j y q called. search rules) c.from_fn-2.result zero_hold HOLDS holds j (omega
          (arith, holds.long))) i;
      kind = c.kind.ensures i;
      edition = c.edition.ensures i;
    }
