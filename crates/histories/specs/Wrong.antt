-- Wrong readers (rule 13.16): what each does instead of `read_image`. That `ReadAnywhere` does not hold of them is
-- `proofs/Wrong.antt`.
use Rattle.std.specs.Prelude.{replicate}
use Rattle.accounts.specs.Accounts.{HOLDS, zero_hold, with_holds, with_edition}
use Rattle.image_model.specs.Answers.{RestoredTo}
use Rattle.image_model.specs.Images.{read_image}
use Rattle.histories.specs.Restores.{Reader}

-- it gives back objects and grants, and no hold record
unfoldable pub bare : RestoredTo → RestoredTo
bare r =
    record { heap = r.heap; accounts = with_holds (replicate HOLDS zero_hold) r.accounts; refusal = r.refusal }

unfoldable pub forgets_holds : Reader
forgets_holds i h = bare (read_image i h)

-- it gives back every heap as one of edition 1
unfoldable pub of_edition_1 : RestoredTo → RestoredTo
of_edition_1 r = record { heap = r.heap; accounts = with_edition 0 r.accounts; refusal = r.refusal }

unfoldable pub forgets_edition : Reader
forgets_edition i h = of_edition_1 (read_image i h)
