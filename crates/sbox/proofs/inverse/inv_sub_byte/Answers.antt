use Rattle.std.proofs.Common.{◌<◌, refl, rules}
use Rattle.sbox.specs.Tables.{inv_sbox}
use Rattle.sbox.proofs.Rule.{sub_inv_sub}
use Rattle.sbox.proofs.inverse.inv_sub_byte.Goals as goal

-- With lemmas listed above the function the clause `undoes` stays open.
pub returns : goal.returns
unfolding inv_sbox
returns c = let h : c.args.x < 256 = search rules in record { is = refl; undoes = sub_inv_sub c.args.x h }
