use Rattle.std.proofs.Common.{◌<◌, rules}
use Rattle.byte_lists.specs.Numbers.{octets}
use Rattle.sbox.specs.Field.{mul, scaled}
use Rattle.sbox.specs.Tables.{sbox, sub}
use Rattle.sbox.proofs.WordRule.{word_rule}
use Rattle.sbox.proofs.products.sub_mix.Goals as goal

pub returns : goal.returns
unfolding octets mul sbox
returns c = let h : c.args.x < 256 = search rules in word_rule (λ k. scaled 2 1 1 3 (sub k)) tt c.args.x h
