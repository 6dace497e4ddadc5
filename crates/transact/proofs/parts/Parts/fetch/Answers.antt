use Rattle.std.proofs.Common.{refl}
use Rattle.apdu.specs.View.{shape_of}
use Rattle.transact.proofs.Told.{lent_started, fetch_unstarted, fetch_refused, fetch_given}
use Rattle.transact.proofs.parts.Parts.fetch.Goals as goal

pub returns-in_default : goal.returns-in_default
returns-in_default g c =
    let p = c.args.self.now in
    fetch_unstarted g.S.Sealer.seals g.A.Application.acts p.core (g.A.Application.contents p.application) c.args.asked.row (shape_of c.args.asked.body)
    c.args.asked.number c.from.result (c.in_default.ensures.none refl) c.from.ensures

pub returns-in-Err : goal.returns-in-Err
returns-in-Err g c =
    let p = c.args.self.now in
    fetch_refused g.S.Sealer.seals g.A.Application.acts p.core (g.A.Application.contents p.application) c.args.asked.row (shape_of c.args.asked.body)
    (record { row = c.args.asked.row; connection = c.in-Some.ensures.some.connection; session = c.in-Some.session.now }) (lent_started p.core c.args.asked.row c.in-Some.session.now c.in-Some.ensures.some) c.args.asked.number c.in-Err.status c.from-in-Err.result c.in-Err.ensures c.from-in-Err.ensures

pub returns : goal.returns
returns g c =
    let p = c.args.self.now in
    fetch_given g.S.Sealer.seals g.A.Application.acts p.core (g.A.Application.contents p.application) c.args.asked.row (shape_of c.args.asked.body)
    (record { row = c.args.asked.row; connection = c.in-Some.ensures.some.connection; session = c.in-Some.session.now }) (lent_started p.core c.args.asked.row c.in-Some.session.now c.in-Some.ensures.some) c.args.asked.number c.in_default-fetch.field-0 c.give.result
    c.in_default-fetch.ensures c.give.ensures
