use Rattle.std.proofs.Common.{Bool, cond, Some, None, ap, ◌∙◌}
use Rattle.session.proofs.Same.{same_decided}
use Rattle.associate.proofs.Passed.{passed}
use Rattle.associate.proofs.mac.equal.Goals as goal

pub returns : goal.returns
returns c =
    c.then_some.ensures ∙ passed c.same.result (tt {0})
    ∙ ap (λ (b : Bool). cond b (Some (tt {0})) None) (same_decided c.args.code.now c.args.given.now c.same.result c.same.ensures)
