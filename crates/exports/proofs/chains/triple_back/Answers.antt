use Rattle.std.proofs.Common.{ap, ◌∙◌}
use Rattle.cipher.specs.Cbc.{uncbc}
use Rattle.exports.proofs.chains.triple_back.Goals as goal

pub returns : goal.returns
returns c = c.cbc_decrypt.ensures.is ∙ ap (λ f. uncbc 8 f c.args.buf.now) c.triple_of.ensures.decrypts
