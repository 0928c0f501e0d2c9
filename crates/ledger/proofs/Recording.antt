-- The ledger's definitions, unfolded in one word: `unfolding recording` lets a ledger of a few events compute.
use Rattle.lists.specs.Lists.{any, keep}
use Rattle.ledger.specs.Ledger.{block_of, empty, change_holds, at_serial, is_held, left_behind, leave, add_object, add_hold, take_hold, take_all}
use Rattle.ledger.specs.Ledger.{record_accepted, record_call, values_from, spans_from, quarantined_of, read_entry, read_ledger, record_event}
use Rattle.ledger.specs.Ledger.{unrestored, ledger_of, cost_to}

unfoldable pub recording : Unit {0}
unfolding any keep
    block_of empty change_holds at_serial is_held left_behind leave add_object add_hold take_hold take_all record_accepted record_call
    values_from spans_from quarantined_of read_entry read_ledger record_event unrestored ledger_of cost_to
recording = tt
