use Rattle.pair.proofs.Untaken.{untaken, lends_none}
use Rattle.pair.proofs.one.not_taken.Goals as goal

pub returns : goal.returns
returns g c =
    let call = c.args.call.now in
    let d = c.plain.result in
    let e = c.plain.ensures in
    record {
      said = untaken g.S.Sealer.seals g.A.Application.acts g.A.Application.contents c.args.card call d c.requires e.answer;
      memory = λ fill. lends_none fill call d e.answer e.buffer e.work;
    }
