use Rattle.std.proofs.Common.{refl}
use Rattle.compression.specs.Constants.{beginnings}
use Rattle.compression.specs.Compression.{initial}
use Rattle.compression.proofs.Rule.{beginnings_rule}
use Rattle.compression.proofs.tables.initial.Goals as goal

pub returns : goal.returns
unfolding beginnings initial
returns c = record { is = refl; rule = beginnings_rule }
