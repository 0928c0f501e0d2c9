-- The computed tables. Every law names them, so that a wrong definition is refused at a row before it is at a law.
use Rattle.model.proofs.Marked
use Rattle.model.proofs.Cases
use Rattle.model.proofs.Lines
use Rattle.model.proofs.Inconsistent
use Rattle.model.proofs.Units
use Rattle.model.proofs.Quarantine
use Rattle.model.proofs.Editions
