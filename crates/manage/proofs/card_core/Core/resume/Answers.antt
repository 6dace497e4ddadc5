use Rattle.request.specs.View.{kind_of}
use Rattle.apdu.specs.View.{shape_of}
use Rattle.apdu.specs.declared.status.Status.TheVariants.{NotNow}
use Rattle.law.specs.Hashes.{keyed}
use Rattle.law.specs.Step.{continues}
use Rattle.manage.specs.View.{core_of, pending_of}
use Rattle.manage.proofs.Said.{still, no_object}
use Rattle.manage.proofs.card_core.Core.resume.Goals as goal

pub returns-in_default : goal.returns-in_default
returns-in_default c =
    let d = c.args.self.now in
    still (continues keyed (core_of d) c.args.random.now (kind_of c.args.kind) (shape_of c.args.body) (pending_of d.pending)) d NotNow
    (no_object keyed (core_of d) c.args.random.now (kind_of c.args.kind) (shape_of c.args.body) d.pending c.in_default.not-Object)
