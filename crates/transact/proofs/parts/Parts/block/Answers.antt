use Rattle.std.proofs.Common.{Ok, sym, refl, ap, ◌∙◌}
use Rattle.apdu.specs.View.{shape_of}
use Rattle.transact.specs.View.{ended}
use Rattle.transact.proofs.Told.{block_unstarted, block_refused, block_said, block_joined}
use Rattle.transact.proofs.parts.Parts.block.Goals as goal

pub returns-in_default-clause-step : goal.returns-in_default-clause-step
returns-in_default-clause-step g c =
    let p = c.args.self.now in
    block_unstarted g.S.Sealer.seals g.A.Application.acts p.core (g.A.Application.contents p.application) c.args.asked.row (shape_of c.args.asked.body)
    c.args.asked.p2 (c.in_default.ensures.none refl)

pub returns-in-Err-clause-step : goal.returns-in-Err-clause-step
returns-in-Err-clause-step g c =
    let p = c.args.self.now in
    block_refused g.S.Sealer.seals g.A.Application.acts p.core (g.A.Application.contents p.application) c.args.asked.row (shape_of c.args.asked.body)
    c.in-Some.started c.in-Some.ensures.some c.args.asked.p2 c.in-Err.status c.in-Err.ensures.heard

pub returns-in-Joined-clause-step : goal.returns-in-Joined-clause-step
returns-in-Joined-clause-step g c =
    let p = c.args.self.now in
    block_joined g.S.Sealer.seals g.A.Application.acts p.core (g.A.Application.contents p.application) c.args.asked.row (shape_of c.args.asked.body)
    c.in-Some.started c.in-Some.ensures.some c.block.new.self c.args.asked.p2
    (ended c.join.new.self.core (g.A.Application.contents c.join.new.self.application) c.join.result)
    (ap Ok (sym c.in-Joined.is) ∙ c.in-Ok.ensures.heard) c.in-Ok.ensures.after c.join.ensures.step

pub returns-in_default-heard : goal.returns-in_default-heard
returns-in_default-heard g c =
    let p = c.args.self.now in
    let k = g.A.Application.contents p.application in
    record {
      step = block_said g.S.Sealer.seals g.A.Application.acts p.core k c.args.asked.row (shape_of c.args.asked.body)
          c.in-Some.started c.in-Some.ensures.some c.args.asked.p2 c.in-Ok.heard c.in-Ok.ensures.heard c.in_default-heard.not-Joined
          ∙ ap (ended p.core k) (sym c.said.ensures);
      sealer = refl;
    }
