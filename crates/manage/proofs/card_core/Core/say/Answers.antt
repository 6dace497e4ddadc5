use Rattle.std.proofs.Common.{refl}
use Rattle.law.specs.Step.{says}
use Rattle.manage.specs.View.{core_of}
use Rattle.manage.proofs.Said.{tells}
use Rattle.manage.proofs.card_core.Core.say.Goals as goal

pub returns : goal.returns
returns c =
    let b = c.args.self.now in
    tells (says (core_of b) c.args.status) b c.args.status c.from.result c.args.reply.now c.write.new.reply c.write.result
    refl c.from.ensures c.write.ensures.len c.write.ensures.written
