use Rattle.std.proofs.Common.{◌≡◌, false, ap, rules}
use Rattle.buffer.specs.Held.{held}
use Rattle.apdu.specs.View.{shape_of}
use Rattle.apdu.specs.declared.status.Status.TheVariants.{WrongParameters}
use Rattle.request.specs.View.{kind_of}
use Rattle.law.specs.Hashes.{keyed}
use Rattle.law.specs.Request.{same_kind}
use Rattle.law.specs.Step.{continues_as}
use Rattle.manage.specs.View.{core_of}
use Rattle.manage.proofs.Said.{still}
use Rattle.manage.proofs.card_core.Core.join_as.Goals as goal

pub returns-then-not-is_same : goal.returns-then-not-is_same
returns-then-not-is_same c =
    let d = c.args.self.now in
    let by = continues_as keyed (core_of d) c.args.lent.random.now (kind_of c.args.kind) (held c.args.gathered.bytes) (shape_of c.args.body) in
    let same : same_kind (kind_of c.args.gathered.kind) (kind_of c.args.kind) ≡ false = search rules in
    still (by (same_kind (kind_of c.args.gathered.kind) (kind_of c.args.kind))) d WrongParameters (ap by same)
