use Rattle.std.proofs.Common.{refl}
use Rattle.objects.specs.Fields.{taken, left}
use Rattle.worked.proofs.sides_stand.Goals as goal

pub returns : goal.returns
unfolding taken left
returns c = record { masters_zero_loads = refl; masters_empty_unset = refl; masters_above_malformed = refl; fresh_discovery = refl; row_three = refl }
