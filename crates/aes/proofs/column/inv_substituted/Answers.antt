use Rattle.std.proofs.Common.{rules}
use Rattle.sbox.specs.Tables.{inv_sub}
use Rattle.aes.specs.Steps.{inv_sub_bytes}
use Rattle.aes.proofs.column.inv_substituted.Goals as goal

pub returns : goal.returns
unfolding inv_sub_bytes
returns c = c.replaced.ensures inv_sub (λ x y h p. search rules)
