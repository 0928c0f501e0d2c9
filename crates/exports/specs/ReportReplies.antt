-- What the numbers of the report's replies mean.
use Rattle.report.specs.Import.{ImportTold}
use Rattle.report.specs.Export.{ExportTold}
use Rattle.exports.specs.declared.reports.ImportReply.{ImportReply}
use Rattle.exports.specs.declared.reports.ExportReply.{ExportReply}

-- import's: the grants as they are given, with the refusal's number and the bad line's
abbrev pub import_reply : ImportTold → ImportReply
import_reply t = record { grants = record { values = t.grants }; refusal = t.refusal; line = t.line }

-- export's, without the text, which stands where it was lent
abbrev pub export_reply : ExportTold → ExportReply
export_reply t = record { refusal = t.refusal; length = t.length }
