use Rattle.std.proofs.Common.{refl}
use Rattle.sha256.specs.Digest.{hashed}
use Rattle.sha256.proofs.state.Sha256.new.Goals as goal

pub returns : goal.returns
unfolding hashed
returns c = record { counted = refl; chained = c.initial.ensures.is; held = refl }
