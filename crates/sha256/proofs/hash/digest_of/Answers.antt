use Rattle.std.proofs.Common.{[]}
use Rattle.sha256.proofs.hash.digest_of.Goals as goal

pub returns : goal.returns
returns c = c.finish.ensures c.args.message.now (c.update.ensures [] c.new-hash.ensures)
