use Rattle.std.proofs.Common.{rules}
use Rattle.apdu.specs.View.{command_of}
use Rattle.apdu.proofs.ReadBack.{reads_some}
use Rattle.apdu.proofs.command.Apdu.read.Goals as goal

pub returns-clause-exact : goal.returns-clause-exact
returns-clause-exact c = reads_some c.args.bytes.now (command_of _) (search rules) c.type_inv.bytes
