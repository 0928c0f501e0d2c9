-- The reply, with the text at exit, is that of what export leaves and answers.
use mathlib.Core.Path.{ap, ◌∙◌}
use Rattle.report.specs.Export.{Written}
use Rattle.report.proofs.Answers.{export_told_injective}
use Rattle.exports.specs.ReportReplies.{export_reply}
use Rattle.exports.proofs.reports.lokhazim_raw_report_export.Goals as goal

pub returns : goal.returns
returns c =
    let w = c in
    let e = w.export_grants.ensures in
    let q = export_told_injective
    (record { text = w.export_grants.new.text; answer = w.export_grants.result }) _ e in
    record {
      answers = c.reply_of_export.ensures w.export_grants.new.text ∙ ap export_reply e;
      writes = ap (λ (x : Written). x.text) q;
    }
