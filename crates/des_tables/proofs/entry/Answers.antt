use Rattle.des_tables.specs.Bits.{bits}
use Rattle.des_tables.specs.Tables.{sboxes, straight}
use Rattle.des_tables.specs.Boxes.{selected}
use Rattle.des_tables.proofs.Merged.{merged, entry_is}
use Rattle.des_tables.proofs.entry.Goals as goal

pub returns : goal.returns
unfolding merged bits straight sboxes selected
returns c = entry_is c.args.b c.args.v c.requires.0 c.requires.1
