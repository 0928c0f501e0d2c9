-- The reply is that of what import gives.
use mathlib.Core.Path.{ap, ◌∙◌}
use Rattle.exports.specs.ReportReplies.{import_reply}
use Rattle.exports.proofs.reports.lokhazim_raw_report_import.Goals as goal

pub returns : goal.returns
returns c = c.reply_of_import.ensures ∙ ap import_reply c.import_grants.ensures
