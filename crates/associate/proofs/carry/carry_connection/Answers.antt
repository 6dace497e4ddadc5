use Rattle.std.proofs.Common.{sym, ap, ◌∙◌}
use Rattle.law.specs.Hashes.{keyed}
use Rattle.tables.specs.View.{tables_of}
use Rattle.associate.specs.Outcome.{done, outcome}
use Rattle.associate.proofs.Outcomes.{connection_is}
use Rattle.associate.proofs.carry.carry_connection.Goals as goal

pub returns-clause-outcome : goal.returns-clause-outcome
returns-clause-outcome c =
    let t = c.args.tables.now in
    let q = c.in-Some.request in
    ap (outcome keyed (tables_of t) c.args.lent.random.now) (sym c.in-Some.ensures.asks)
    ∙ sym (connection_is keyed (tables_of t) c.args.lent.random.now q.master.now q.nonce.now q.ciphers q.mechanisms)
    ∙ c.establish_connection.ensures.steps ∙ ap (done (tables_of c.establish_connection.new.tables)) (sym c.with_object.ensures)
