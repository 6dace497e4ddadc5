use Rattle.std.proofs.Common.{refl}
use Rattle.compression.specs.Constants.{constants}
use Rattle.compression.proofs.Rule.{constants_rule}
use Rattle.compression.proofs.tables.constants.Goals as goal

pub returns : goal.returns
unfolding constants
returns c = record { is = refl; rule = constants_rule }
