use Rattle.std.proofs.Common.{nat_lt, length, sym, ap, ◌∙◌}
use Rattle.std.proofs.lemmas.Bool.{cond-true, cond-false}
use Rattle.sha256.specs.Digest.{digest}
use Rattle.hmac.specs.Hmac.{filled, block_key}
use Rattle.hmac.proofs.keys.block_key_of.Goals as goal

pub returns-then-is_long : goal.returns-then-is_long
unfolding block_key
returns-then-is_long c =
    let key = c.args.key.now in
    c.filled_of.ensures ∙ ap filled (c.digest_of.ensures ∙ sym (cond-true (nat_lt 64 (length key)) (digest key) key (sym c.is_long.ensures ∙ c.if-is_long.true)))

pub returns-else-is_long : goal.returns-else-is_long
unfolding block_key
returns-else-is_long c =
    let key = c.args.key.now in
    c.filled_of-else-is_long.ensures ∙ ap filled (sym (cond-false (nat_lt 64 (length key)) (digest key) key (sym c.is_long.ensures ∙ c.if-is_long.false)))
