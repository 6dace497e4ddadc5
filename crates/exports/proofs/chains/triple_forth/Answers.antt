use Rattle.std.proofs.Common.{ap, ◌∙◌}
use Rattle.cipher.specs.Cbc.{cbc}
use Rattle.exports.proofs.chains.triple_forth.Goals as goal

pub returns : goal.returns
returns c = c.cbc_encrypt.ensures.is ∙ ap (λ f. cbc 8 f c.args.buf.now) c.triple_of.ensures.encrypts
