-- The numbers are those of the call's answer, over the heap and the words that it leaves.
use mathlib.Core.Path.{ap, ◌∙◌}
use Rattle.accounts.specs.declared.settings.Settings.{Settings}
use Rattle.model.specs.Calls.{open_heap}
use Rattle.exports.specs.HeapReplies.{left}
use Rattle.exports.proofs.HeapReplies.{number_says}
use Rattle.exports.proofs.heaps.lokhazim_raw_open.Goals as goal

pub returns : goal.returns
returns c =
    let o = c in
    let g = o in
    let a = g.args in
    record {
      holds = ap (left o.open.new.heap o.open.new.words) (number_says _ _ c.number_of.ensures)
          ∙ o.open.ensures.holds
          ∙ ap (λ (x : Settings). open_heap x a.heap.now a.grants.values) g.settings_by-settings.ensures;
      pads = o.open.ensures.pads;
    }
