use Rattle.std.proofs.Common.{sym, ap, ◌∙◌}
use Rattle.law.specs.Hashes.{keyed}
use Rattle.tables.specs.View.{tables_of}
use Rattle.associate.specs.Outcome.{done, outcome}
use Rattle.associate.proofs.Outcomes.{master_is}
use Rattle.associate.proofs.carry.carry_master.Goals as goal

pub returns-clause-outcome : goal.returns-clause-outcome
returns-clause-outcome c =
    let t = c.args.tables.now in
    let q = c.in-Some.request in
    ap (outcome keyed (tables_of t) c.args.random.now) (sym c.in-Some.ensures.asks)
    ∙ sym (master_is keyed (tables_of t) c.args.random.now q.reference.now q.mechanisms)
    ∙ c.establish_master.ensures.steps ∙ ap (done (tables_of c.establish_master.new.tables)) (sym c.with_object.ensures)
