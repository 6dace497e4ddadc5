use Rattle.std.proofs.Common.{◌≡◌, ◌∙◌, rules, fold}
use lib.Bits.{bit_xor}
use Rattle.crc.specs.Crc.{bits, start}
use Rattle.crc.proofs.Division.{fold_remainder}
use Rattle.crc.proofs.check.divide.Goals as goal

pub returns : goal.returns
returns c =
    let is : c.fold.result ≡ fold (λ x b. bits 8 (bit_xor x b)) start c.args.message.now = search rules in
    is ∙ fold_remainder start c.args.message.now
