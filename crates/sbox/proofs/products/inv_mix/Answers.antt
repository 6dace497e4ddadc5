use Rattle.std.proofs.Common.{◌<◌, rules}
use Rattle.byte_lists.specs.Numbers.{octets}
use Rattle.sbox.specs.Field.{mul, scaled}
use Rattle.sbox.proofs.WordRule.{word_rule}
use Rattle.sbox.proofs.products.inv_mix.Goals as goal

pub returns : goal.returns
unfolding octets mul
returns c = let h : c.args.x < 256 = search rules in word_rule (scaled 14 9 13 11) tt c.args.x h
