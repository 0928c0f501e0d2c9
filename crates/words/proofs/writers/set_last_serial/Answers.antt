-- `words::set_last_serial` meets its contract.
use Rattle.words.proofs.Writing.{put_last}
use Rattle.words.proofs.Padding.{padded_last}
use Rattle.words.proofs.writers.set_last_serial.Goals as goal

pub returns : goal.returns
returns c =
    let a = c.args in
    record {
      holds = put_last a.words.now c.told-words a.serial;
      pads = padded_last a.words.now a.serial;
    }
