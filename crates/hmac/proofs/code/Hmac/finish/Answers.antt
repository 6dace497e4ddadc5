use Rattle.std.proofs.Common.{◌++◌, ap, ◌∙◌}
use Rattle.sha256.specs.Digest.{digest}
use Rattle.hmac.specs.Hmac.{inner_key, outer_key, hmac}
use Rattle.hmac.proofs.code.Hmac.finish.Goals as goal

pub returns : goal.returns
unfolding hmac
returns c key message k =
    c.finish-2.ensures (outer_key key ++ c.finish.result) (c.update.ensures (outer_key key) k.around)
    ∙ ap (λ d. digest (outer_key key ++ d)) (c.finish.ensures (inner_key key ++ message) k.within)
