use Rattle.std.proofs.Common.{ap, ◌∙◌}
use Rattle.aes.proofs.WordBytes.{octets_made}
use Rattle.aes.proofs.column.replaced.Goals as goal

pub returns : goal.returns
returns g c k h =
    let p = h c.byte_in.result c.put.result c.byte_in.type_inv c.put.ensures ∙ ap k c.byte_in.ensures in
    let q = h c.byte_in-2.result c.put-2.result c.byte_in-2.type_inv c.put-2.ensures ∙ ap k c.byte_in-2.ensures in
    let r = h c.byte_in-3.result c.put-3.result c.byte_in-3.type_inv c.put-3.ensures ∙ ap k c.byte_in-3.ensures in
    let s = h c.byte_in-4.result c.put-4.result c.byte_in-4.type_inv c.put-4.ensures ∙ ap k c.byte_in-4.ensures in
    octets_made c.from_be_bytes.result c.put.result c.put-2.result c.put-3.result c.put-4.result c.from_be_bytes.ensures c.put.type_inv c.put-2.type_inv c.put-3.type_inv c.put-4.type_inv ∙ cc
