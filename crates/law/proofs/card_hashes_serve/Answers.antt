use Rattle.law.proofs.Hashes.{keyed_sized}
use Rattle.law.proofs.card_hashes_serve.Goals as goal

pub returns : goal.returns
returns c = keyed_sized
