use Rattle.std.proofs.Common.{refl}
use Rattle.objects.specs.Fields.{taken, left}
use Rattle.objects.proofs.law.examples_stand.Goals as goal

pub returns : goal.returns
unfolding taken left
returns c = record {
  tag_alone = refl;
  other_tag = refl;
  long_form_alone = refl;
  other_form = refl;
  no_value = refl;
  long_form_of_one = refl;
  byte_short = refl;
  byte_over = refl;
  container_9 = refl;
  container_10 = refl;
  reference_21 = refl;
  reference_22 = refl;
  reference_68 = refl;
  reference_69 = refl;
  a_master_ends = refl;
  a_connection_ends = refl;
  byte_behind = refl;
}
