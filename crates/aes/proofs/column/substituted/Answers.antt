use Rattle.std.proofs.Common.{rules}
use Rattle.sbox.specs.Tables.{sub}
use Rattle.aes.specs.Steps.{sub_bytes}
use Rattle.aes.proofs.column.substituted.Goals as goal

pub returns : goal.returns
unfolding sub_bytes
returns c = c.replaced.ensures sub (λ x y h p. search rules)
