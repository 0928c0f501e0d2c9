-- Every definition that a computed row unfolds, under one name.
use Rattle.layout.specs.Bytes.{bytes, overwrite}
use Rattle.settings.specs.Entries.{entry_fits, read_entry, in_front, entries_from, entries, stored, newest}
use Rattle.settings.specs.Entries.{last_of}
use Rattle.settings.specs.Entries.{entry_told, nth_of}
use Rattle.settings.specs.Find.{answers, later, or_else, value_in, found_in, chosen, find, located, refusal_of}
use Rattle.settings.specs.Find.{part, bytes_of}
use Rattle.settings.specs.Add.{entry_bytes, add_behind, add_of, added_to}

unfoldable pub computing : Unit {0}
unfolding bytes overwrite
    entry_fits read_entry in_front entries_from entries stored newest last_of entry_told nth_of
    answers later or_else value_in found_in chosen find located refusal_of part bytes_of
    entry_bytes add_behind add_of added_to
computing = tt
