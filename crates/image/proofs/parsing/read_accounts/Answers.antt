-- The words hold the accounts that the image says.
use mathlib.Core.Path.{◌∙◌}
use Rattle.image.proofs.parsing.read_accounts.Goals as goal

pub returns : goal.returns
returns c = c.accounts_of.ensures ∙ c.put_accounts.ensures.holds
