use Rattle.secret.proofs.Differences.{decided}
use Rattle.secret.proofs.compare.same.Goals as goal

pub returns-then-a-b : goal.returns-then-a-b
returns-then-a-b c = decided c.args.a.now c.args.b.now c.differences.result c.if-a-b.true c.differences.ensures
