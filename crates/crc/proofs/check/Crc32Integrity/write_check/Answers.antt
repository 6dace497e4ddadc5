use Rattle.std.proofs.Common.{sym, ap, ◌∙◌}
use Rattle.byte_lists.specs.Numbers.{octets}
use Rattle.byte_lists.proofs.Digits.{octets_four}
use Rattle.crc.specs.Crc.{crc}
use Rattle.crc.proofs.check.Crc32Integrity.write_check.Goals as goal

pub returns : goal.returns
unfolding crc
returns c =
    c.copy_from_slice.ensures.after
    ∙ c.to_be_bytes.ensures
    ∙ sym (octets_four c.divide_and_invert.result)
    ∙ ap (octets 4) c.divide_and_invert.ensures
