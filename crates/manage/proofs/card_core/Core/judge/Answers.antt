use Rattle.std.proofs.Common.{refl, rules}
use Rattle.objects.specs.Joined.{object}
use Rattle.request.specs.View.{kind_of}
use Rattle.law.specs.Hashes.{keyed}
use Rattle.manage.proofs.Decided.{joined_bad, joined_begun}
use Rattle.manage.proofs.card_core.Core.judge.Goals as goal

pub returns-in-Err-Bad : goal.returns-in-Err-Bad
returns-in-Err-Bad c =
    joined_bad keyed c.args.self.now c.args.lent.random.now (kind_of c.args.kind) c.args.bytes.now (object c.args.bytes.now) c.refuse.new.self c.refuse.result
    (search rules) c.refuse.ensures.core c.refuse.ensures.status

pub returns-in-Err-Incomplete : goal.returns-in-Err-Incomplete
returns-in-Err-Incomplete c =
    joined_begun keyed c.args.self.now c.args.lent.random.now (kind_of c.args.kind) c.args.bytes.now (object c.args.bytes.now)
    (record { kind = c.args.kind; bytes = c.from_slice.result }) (search rules) refl c.from_slice.ensures
