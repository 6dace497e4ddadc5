use Rattle.std.proofs.Common.{ap}
use Rattle.std.specs.Option.{option_map}
use Rattle.apdu.specs.View.{command_of}
use Rattle.request.proofs.request.Request.read.Goals as goal

pub by_header-requires : goal.by_header-requires
by_header-requires c = (c.read.ensures.exact.sound (command_of c.in-Some.command) (ap (option_map command_of) c.in-Some.is)).0
