use Rattle.objects.proofs.Beginnings.{prefix_free}
use Rattle.objects.proofs.law.objects_are_prefix_free.Goals as goal

pub returns : goal.returns
returns c = prefix_free
