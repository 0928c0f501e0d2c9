-- A used length beyond the bytes, or the entries of the used bytes.
use Rattle.std.proofs.Common.{arith, tests}
use Rattle.std.proofs.lemmas.Grind.{common_steps}
use Rattle.settings.proofs.Stores.{stored_within, stored_beyond}
use Rattle.settings.proofs.entries.used_bytes.Goals as goal

pub returns : goal.returns
returns c = grind (arith, tests, common_steps, stored_within, stored_beyond)
