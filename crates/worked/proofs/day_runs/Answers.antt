use Rattle.std.proofs.Common.{refl}
use Rattle.byte_lists.specs.Numbers.{octets}
use Rattle.objects.specs.Fields.{taken, left}
use Rattle.worked.proofs.day_runs.Goals as goal

pub returns : goal.returns
unfolding octets taken left
returns c = refl
