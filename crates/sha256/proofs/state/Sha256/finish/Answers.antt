use Rattle.std.proofs.Common.{◌≡◌, ◌+◌, ◌/◌, ◌++◌, length, take, ap, ◌∙◌, append_assoc}
use Rattle.sha256.specs.Digest.{digest, written, hashed, padding}
use Rattle.sha256.proofs.Padding.{padding_parts, padding_low}
use Rattle.sha256.proofs.state.Sha256.finish.Goals as goal

pub returns : goal.returns
unfolding digest
returns c bytes t =
    let front = take (1 + c.gap.result) c.stop.result in
    let bits = c.bits.result in
    let u = c.update-2.ensures (bytes ++ front) (c.update.ensures bytes t) in
    let behind : front ++ bits ≡ padding (length bytes) = padding_parts c.stop.result bits c.args.self.count c.gap.result c.stop.ensures c.gap.ensures.is c.bits.ensures ∙ ap padding t.counted ∙ padding_low (length bytes) in
    let all : (bytes ++ front) ++ bits ≡ bytes ++ padding (length bytes) = append_assoc bytes front bits ∙ ap (λ y. bytes ++ y) behind in
    c.bytes_of.ensures ∙ ap written (u.chained ∙ ap (λ y. hashed (length y / 64) y) all)
