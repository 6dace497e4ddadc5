use Rattle.std.proofs.Common.{sym, ap, ◌∙◌, subst}
use Rattle.std.proofs.lemmas.List.{append-nil}
use Rattle.byte_lists.specs.Bytes.{xors}
use Rattle.sha256.specs.Took.{Took}
use Rattle.hmac.specs.Hmac.{ipad, opad, inner_key, outer_key}
use Rattle.hmac.proofs.code.Hmac.new.Goals as goal

pub returns : goal.returns
unfolding inner_key outer_key
returns c =
    let key = c.args.key.now in
    let block = c.block_key_of-block.ensures in
    record {
      within = subst (Took c.begun.result) (ap (xors ipad) block ∙ sym (append-nil (inner_key key))) c.begun.ensures;
      around = subst (Took c.begun-2.result) (ap (xors opad) block) c.begun-2.ensures;
    }
