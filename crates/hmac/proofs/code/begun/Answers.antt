use Rattle.std.proofs.Common.{[], subst}
use Rattle.sha256.specs.Took.{Took}
use Rattle.hmac.proofs.code.begun.Goals as goal

pub returns : goal.returns
returns c = subst (Took c.update.new.self) c.masked.ensures (c.update.ensures [] c.new-digest.ensures)
