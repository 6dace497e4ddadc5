use Rattle.std.proofs.Common.{◌∙◌, rules}
use Rattle.sbox.specs.Field.{scaled}
use Rattle.sbox.specs.Tables.{sub}
use Rattle.aes.specs.Steps.{sub_bytes}
use Rattle.aes.proofs.Lookup.{column_looked_up}
use Rattle.aes.proofs.column.sub_mixed.Goals as goal

pub returns : goal.returns
unfolding sub_bytes
returns c = c.products.ensures (λ x. scaled 2 1 1 3 (sub x)) (λ x y h p. search rules) ∙ column_looked_up 2 3 1 1 _ _ _ _
