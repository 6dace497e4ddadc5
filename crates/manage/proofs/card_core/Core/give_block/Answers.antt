use Rattle.std.proofs.Common.{◌≡◌, Bool, cond, length, sym, ap, ◌∙◌, arith}
use Rattle.std.proofs.lemmas.List.{length-take}
use Rattle.buffer.specs.Held.{held}
use Rattle.replies.specs.Blocks.{seen, block_of}
use Rattle.manage.proofs.Gives.{gives, block_length}
use Rattle.apdu.specs.declared.status.Status.{Status}
use Rattle.apdu.specs.declared.status.Status.TheVariants.{MoreToFetch, Done}
use Rattle.manage.proofs.card_core.Core.give_block.Goals as goal
use Rattle.manage.proofs.card_core.Core.give_block.Goals.{then-block, else-block}

pub overflow_add-given : goal.overflow_add-given
overflow_add-given c =
    let e : seen c.reply_block-block.result ≡ block_of (held c.args.waiting.now.reply) c.args.waiting.now.given c.args.most.wanted = cc in
    let h = (block_length (held c.args.waiting.now.reply) c.args.waiting.now.given c.args.most.wanted (seen c.reply_block-block.result) e).1 (omega (arith, length-take c.args.waiting.now.reply.len c.args.waiting.now.reply.bytes, c.as_slice.ensures.within, ap length c.as_slice.ensures.bytes)) (omega arith) in
    omega (arith, h)

pub block-requires : goal.block-requires
block-requires c =
    let e : seen c.reply_block-block.result ≡ block_of (held c.args.waiting.now.reply) c.args.waiting.now.given c.args.most.wanted = cc in
    let l = (block_length (held c.args.waiting.now.reply) c.args.waiting.now.given c.args.most.wanted (seen c.reply_block-block.result) e).0 in
    omega arith

pub returns : goal.returns
returns c =
    let e : seen c.reply_block-block.result ≡ block_of (held c.args.waiting.now.reply) c.args.waiting.now.given c.args.most.wanted = cc in
    let by : Bool → Status = λ b. cond b MoreToFetch Done in
    let end : c.if-block.end ≡ by c.reply_block-block.result.more =
    elim c.if-block.branch [ then-block w ↦ w.end-is ∙ ap by (sym w.if-block.true) | else-block w ↦ w.end-is ∙ ap by (sym w.if-block.false) ] in
    gives c.args.self.now c.args.waiting.now.kind c.args.waiting.now.reply c.args.waiting.now.given c.args.most.wanted (seen c.reply_block-block.result) c.if-block.end c.block.result c.args.reply.now c.write-told.new.reply c.write-told.result
    e end c.block.ensures c.write-told.ensures.len c.write-told.ensures.written
