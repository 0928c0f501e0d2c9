-- The numbers of a store's answers.
use Rattle.std.specs.Prelude.{ℕ, Option, Some, None}
use Rattle.settings.specs.declared.Entry.{Entry}
use Rattle.settings.specs.Entries.{EntryTold}
use Rattle.settings.specs.Find.{Located}
use Rattle.settings.specs.Add.{AddedTo}
use Rattle.exports.specs.declared.stores.FindReply.{FindReply}
use Rattle.exports.specs.declared.stores.AddReply.{AddReply}
use Rattle.exports.specs.declared.stores.EntryReply.{EntryReply}

abbrev pub find_reply : Located → FindReply
find_reply l = record { refusal = l.refusal; store = l.store; start = l.start; end = l.end }

abbrev pub add_reply : AddedTo → AddReply
add_reply a = record { refusal = a.refusal; used = a.used }

-- zeros where there is no entry
abbrev pub entry_with : ℕ → Option Entry → EntryReply
entry_with r None = record { refusal = r; there = 0; version = 0; name = 0; start = 0; end = 0 }
entry_with r (Some e) =
    record { refusal = r; there = 1; version = e.version; name = e.name; start = e.start; end = e.end }

abbrev pub entry_reply : EntryTold → EntryReply
entry_reply t = entry_with t.refusal t.found
