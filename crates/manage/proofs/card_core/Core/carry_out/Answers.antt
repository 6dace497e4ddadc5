use Rattle.buffer.specs.Held.{held}
use Rattle.request.specs.View.{kind_of}
use Rattle.law.specs.Request.{asked}
use Rattle.law.specs.Hashes.{keyed}
use Rattle.manage.proofs.Decided.{refused_by, granted_by}
use Rattle.manage.proofs.card_core.Core.carry_out.Goals as goal

pub returns-in-Ok : goal.returns-in-Ok
returns-in-Ok c =
    granted_by keyed c.args.self.now c.grant.new.self c.args.lent.random.now (kind_of c.args.kind) (asked (kind_of c.args.kind) c.args.value.now) c.carry_out.new.tables
    c.in-Ok.ensures.answers (held c.in-Ok.reply) c.grant.result c.in-Ok.ensures.outcome c.grant.ensures.said c.grant.ensures.tables

pub returns-in-Err : goal.returns-in-Err
returns-in-Err c =
    refused_by keyed c.args.self.now c.refuse.new.self c.args.lent.random.now (kind_of c.args.kind) (asked (kind_of c.args.kind) c.args.value.now) c.carry_out.new.tables
    c.in-Err.ensures.answers c.in-Err.status c.refuse.result c.in-Err.ensures.outcome c.refuse.ensures.core c.refuse.ensures.status
