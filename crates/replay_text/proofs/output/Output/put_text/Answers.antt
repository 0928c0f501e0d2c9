-- The part that the text fills holds it, and nothing else has changed (`part_put`).
use mathlib.Core.Path.{refl}
use Rattle.replay_text.proofs.Puts.{part_put}
use Rattle.replay_text.proofs.output.Output.put_text.Goals as goal

pub returns : goal.returns
returns c =
    let o = c.args.self.now in
    record {
      bytes = part_put o.written _ c.args.text.now o.bytes.now c.copy_from_slice.new.self c.requires.fits refl c.copy_from_slice.ensures.after;
      next = refl;
      same_reference = refl;
    }
