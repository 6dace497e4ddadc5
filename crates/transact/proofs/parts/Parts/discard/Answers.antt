use Rattle.std.proofs.Common.{refl}
use Rattle.apdu.specs.View.{shape_of}
use Rattle.transact.proofs.Told.{discard_unstarted, discard_refused}
use Rattle.transact.proofs.parts.Parts.discard.Goals as goal

pub returns-in_default-clause-step : goal.returns-in_default-clause-step
returns-in_default-clause-step g c =
    let p = c.args.self.now in
    discard_unstarted g.S.Sealer.seals g.A.Application.acts p.core (g.A.Application.contents p.application) c.args.asked.row (shape_of c.args.asked.body)
    (c.in_default.ensures.none refl)

pub returns-in-Err-clause-step : goal.returns-in-Err-clause-step
returns-in-Err-clause-step g c =
    let p = c.args.self.now in
    discard_refused g.S.Sealer.seals g.A.Application.acts p.core (g.A.Application.contents p.application) c.args.asked.row (shape_of c.args.asked.body)
    c.in-Some.started c.in-Some.ensures.some c.in-Err.status c.in-Err.ensures.heard
