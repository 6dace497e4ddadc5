use Rattle.std.proofs.Common.{◌∙◌, rules}
use Rattle.byte_lists.specs.Numbers.{octets}
use Rattle.sbox.specs.Field.{scaled}
use Rattle.aes.proofs.Lookup.{column_looked_up}
use Rattle.aes.proofs.column.inv_mixed.Goals as goal

pub returns : goal.returns
unfolding octets
returns c = c.products.ensures (scaled 14 9 13 11) (λ x y h p. search rules) ∙ column_looked_up 14 11 13 9 _ _ _ _
