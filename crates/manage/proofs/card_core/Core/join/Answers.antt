use Rattle.std.proofs.Common.{◌++◌, refl, ◌∙◌}
use Rattle.apdu.specs.View.{shape_of}
use Rattle.apdu.specs.declared.status.Status.TheVariants.{WrongLength}
use Rattle.request.specs.View.{kind_of}
use Rattle.law.specs.Hashes.{keyed}
use Rattle.law.specs.Step.{joins}
use Rattle.manage.specs.View.{core_of}
use Rattle.manage.proofs.Said.{still, no_data, with_data}
use Rattle.manage.proofs.card_core.Core.join.Goals as goal

pub returns-in_default : goal.returns-in_default
returns-in_default c =
    let d = c.args.self.now in
    still (joins keyed (core_of d) c.args.lent.random.now (kind_of c.args.kind) c.args.gathered.now (shape_of c.args.body)) d WrongLength
    (no_data keyed (core_of d) c.args.lent.random.now (kind_of c.args.kind) c.args.gathered.now (shape_of c.args.body) c.in_default.ensures)

pub returns : goal.returns
returns c =
    record {
      move =
          with_data keyed (core_of c.args.self.now) c.args.lent.random.now (kind_of c.args.kind) c.args.gathered.now (shape_of c.args.body)
          c.in-Some.part.bytes.now (c.args.gathered.now ++ c.in-Some.part.bytes.now) c.in-Some.ensures refl
          ∙ c.judge_both.ensures.move;
      answers = c.judge_both.ensures.answers;
    }
