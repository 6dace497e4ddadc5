use Rattle.std.proofs.Common.{◌<◌, refl, rules}
use Rattle.sbox.specs.Tables.{sbox}
use Rattle.sbox.proofs.Rule.{sbox_rule}
use Rattle.sbox.proofs.substitution.sub_byte.Goals as goal

-- With lemmas listed above the function the clause `rule` stays open.
pub returns : goal.returns
unfolding sbox
returns c = let h : c.args.x < 256 = search rules in record { is = refl; rule = sbox_rule c.args.x h }
