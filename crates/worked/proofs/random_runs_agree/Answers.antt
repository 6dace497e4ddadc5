use Rattle.std.proofs.Common.{refl}
use Rattle.byte_lists.specs.Numbers.{octets}
use Rattle.objects.specs.Fields.{taken, left}
use Rattle.worked.proofs.random_runs_agree.Goals as goal

pub returns : goal.returns
unfolding octets taken left
returns c = record { mixed = refl; busy = refl }
