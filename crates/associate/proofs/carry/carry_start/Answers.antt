use Rattle.std.proofs.Common.{sym, ap, ◌∙◌}
use Rattle.law.specs.Hashes.{keyed}
use Rattle.tables.specs.View.{tables_of}
use Rattle.associate.specs.Outcome.{done, outcome}
use Rattle.associate.proofs.Outcomes.{start_is}
use Rattle.associate.proofs.carry.carry_start.Goals as goal

pub returns-clause-outcome : goal.returns-clause-outcome
returns-clause-outcome c =
    let t = c.args.tables.now in
    let q = c.in-Some.request in
    λ random. ap (outcome keyed (tables_of t) random) (sym c.in-Some.ensures.asks)
    ∙ sym (start_is keyed (tables_of t) random q.connection.now q.container q.mac.now)
    ∙ c.start.ensures.steps ∙ ap (done (tables_of c.start.new.tables)) (sym c.with_object.ensures)
